-- Document 02, E5: "Controls 0031H, request 60H, entry, boundary with IF prints exactly" five lines; the shortest and the longest inputs; the
-- stated number; records that can't be read; and the controls for later entries.
use Rattle.std.specs.Prelude.{ℕ, ◌+◌, ◌≡◌, false, List, [], ◌∷◌, ◌++◌, replicate}
use Rattle.recorded.specs.Session.{begin, session_end}
use Rattle.recorded.specs.Replay.{bodies, ends_bad, text_from, replay_text, replayed}
use Rattle.recorded.specs.ProgramText.{program_limit, program_text}

-- records, each with its length: controls with these flags; request; entry; boundary with IF
abbrev controls : ℕ → List ℕ
controls flags = 0 ∷ 39 ∷ 0 ∷ 0 ∷ flags ∷ replicate 36 0

abbrev request : ℕ → List ℕ
request vector = 0 ∷ 2 ∷ 9 ∷ vector ∷ []

abbrev entry : List ℕ
entry = 0 ∷ 1 ∷ 1 ∷ []

abbrev boundary : List ℕ
boundary = 0 ∷ 3 ∷ 8 ∷ 1 ∷ 0 ∷ []

-- the version; controls 0031H; request 60H; entry; boundary with IF
abbrev pub example_trace : List ℕ
example_trace = 1 ∷ (controls 0x31 ++ request 0x60 ++ entry ++ boundary)

-- "1 6 0 0", "2 6 0 0", "3 6 0 0", "4 5 96 0", "done 4", each on its own line
abbrev pub example_text : List ℕ
example_text =
    (0x31 ∷ 0x20 ∷ 0x36 ∷ 0x20 ∷ 0x30 ∷ 0x20 ∷ 0x30 ∷ 0x0a ∷ []) ++
    (0x32 ∷ 0x20 ∷ 0x36 ∷ 0x20 ∷ 0x30 ∷ 0x20 ∷ 0x30 ∷ 0x0a ∷ []) ++
    (0x33 ∷ 0x20 ∷ 0x36 ∷ 0x20 ∷ 0x30 ∷ 0x20 ∷ 0x30 ∷ 0x0a ∷ []) ++
    (0x34 ∷ 0x20 ∷ 0x35 ∷ 0x20 ∷ 0x39 ∷ 0x36 ∷ 0x20 ∷ 0x30 ∷ 0x0a ∷ []) ++
    (0x64 ∷ 0x6f ∷ 0x6e ∷ 0x65 ∷ 0x20 ∷ 0x34 ∷ 0x0a ∷ [])

-- a line of four digits; "done" and "bad" with a digit
abbrev digits : ℕ → ℕ → ℕ → ℕ → List ℕ
digits a b c d = (0x30 + a) ∷ 0x20 ∷ (0x30 + b) ∷ 0x20 ∷ (0x30 + c) ∷ 0x20 ∷ (0x30 + d) ∷ 0x0a ∷ []

abbrev done : ℕ → List ℕ
done count = 0x64 ∷ 0x6f ∷ 0x6e ∷ 0x65 ∷ 0x20 ∷ (0x30 + count) ∷ 0x0a ∷ []

abbrev bad : ℕ → List ℕ
bad number = 0x62 ∷ 0x61 ∷ 0x64 ∷ 0x20 ∷ (0x30 + number) ∷ 0x0a ∷ []

-- the first two lines of the example
abbrev two_lines : List ℕ
two_lines = digits 1 6 0 0 ++ digits 2 6 0 0

-- a request, and a second record that is cut short though its rest is a record
abbrev cut_trace : List ℕ
cut_trace = 1 ∷ (request 0x60 ++ (0 ∷ 3 ∷ 9 ∷ 0x61 ∷ []))

-- ten moves from CR8 in root mode, from register 0: each is refused by 3
abbrev ten_trace : List ℕ
ten_trace =
    1 ∷ (0 ∷ 2 ∷ 5 ∷ 0 ∷ 0 ∷ 2 ∷ 5 ∷ 0 ∷ 0 ∷ 2 ∷ 5 ∷ 0 ∷ 0 ∷ 2 ∷ 5 ∷ 0 ∷ 0 ∷ 2 ∷ 5 ∷ 0 ∷ 0 ∷ 2 ∷ 5 ∷ 0 ∷ 0 ∷ 2 ∷ 5 ∷ 0 ∷ 0 ∷ 2 ∷ 5 ∷ 0 ∷ 0 ∷ 2 ∷ 5 ∷ 0 ∷
    0 ∷ 2 ∷ 5 ∷ 0 ∷ [])

-- nine lines and "10 0 3 0", then "done 10"
abbrev ten_text : List ℕ
ten_text =
    digits 1 0 3 0 ++ digits 2 0 3 0 ++ digits 3 0 3 0 ++ digits 4 0 3 0 ++ digits 5 0 3 0 ++ digits 6 0 3 0 ++ digits 7 0 3 0 ++ digits 8 0 3 0 ++
    digits 9 0 3 0 ++ (0x31 ∷ digits 0 0 3 0) ++ (0x64 ∷ 0x6f ∷ 0x6e ∷ 0x65 ∷ 0x20 ∷ 0x31 ∷ 0x30 ∷ 0x0a ∷ [])

pub record Examples : Type 0 where
  pub example : replay_text example_trace 10000 ≡ example_text
  -- no byte, a lone version byte, another version, a record that can't be read
  pub empty : replay_text [] 10000 ≡ bad 0
  pub lone : replay_text (1 ∷ []) 10000 ≡ done 0
  pub version0 : replay_text (0 ∷ request 0x60) 10000 ≡ bad 0
  pub version2 : replay_text (2 ∷ request 0x60) 10000 ≡ bad 0
  pub unread : replay_text (1 ∷ 0 ∷ []) 10000 ≡ bad 1
  pub cut : replay_text cut_trace 10000 ≡ digits 1 6 0 0 ++ bad 2
  pub third : replay_text (1 ∷ (controls 0x31 ++ request 0x60 ++ (0 ∷ 1 ∷ 10 ∷ []) ++ entry)) 10000 ≡ two_lines ++ bad 3
  -- 61,440 bytes, of which the first record can't be read; a byte more; the version is tested first
  pub longest : replay_text (1 ∷ replicate 61439 0) 10000 ≡ bad 1
  pub longer : replay_text (1 ∷ replicate 61440 0) 10000 ≡ bad 0
  pub longest_none : replay_text (1 ∷ replicate 61439 0) 0 ≡ done 0
  pub longer_none : replay_text (1 ∷ replicate 61440 0) 0 ≡ bad 0
  pub version_first : replay_text (2 ∷ replicate 61439 0) 0 ≡ bad 0
  -- the stated number: none, within the trace, its last record, one more; before a record that can't be read
  pub none : replay_text example_trace 0 ≡ done 0
  pub two : replay_text example_trace 2 ≡ two_lines ++ done 2
  pub four : replay_text example_trace 4 ≡ example_text
  pub five : replay_text example_trace 5 ≡ example_text
  pub before_bad : replay_text cut_trace 1 ≡ digits 1 6 0 0 ++ done 1
  pub at_bad : replay_text cut_trace 2 ≡ digits 1 6 0 0 ++ bad 2
  pub ten : replay_text ten_trace 10 ≡ ten_text
  -- Kind 0 is quiet in guest mode too, and changes nothing of the controls in force.
  pub in_guest : replay_text (1 ∷ (controls 0x31 ++ request 0x60 ++ entry ++ controls 0 ++ boundary)) 10000 ≡ two_lines ++ digits 3 6 0 0 ++ digits 4 6 0 0 ++ (0x35 ∷ 0x20 ∷ 0x35 ∷ 0x20 ∷ 0x39 ∷ 0x36 ∷ 0x20 ∷ 0x30 ∷ 0x0a ∷ []) ++ done 5
  -- Before the first kind 0 all controls are zero: an entry, then RDMSR 808H passes through; an entry in guest mode; a CR8 value out of bounds
  pub before_first : replay_text (1 ∷ (entry ++ (0 ∷ 5 ∷ 6 ∷ 0 ∷ 0 ∷ 0x08 ∷ 0x08 ∷ []) ++ entry ++ (0 ∷ 3 ∷ 4 ∷ 16 ∷ 0 ∷ []))) 10000 ≡ digits 1 6 0 0 ++ digits 2 2 0 0 ++ digits 3 0 3 0 ++ digits 4 0 2 0 ++ done 4
  -- an entry takes the last kind 0 before it: one whose check 1 fails, and after another kind 0 one that enters
  pub last_controls : replay_text (1 ∷ (controls 0x10 ++ entry ++ controls 0x31 ++ entry)) 10000 ≡ digits 1 6 0 0 ++ digits 2 0 4 1 ++ digits 3 6 0 0 ++ digits 4 6 0 0 ++ done 4
  -- both numbers of an exit: "3 4 44 160" for a read at 0A0
  pub exits44 : replay_text (1 ∷ (controls 0x33 ++ entry ++ (0 ∷ 5 ∷ 2 ∷ 0x00 ∷ 0xa0 ∷ 4 ∷ 0 ∷ []))) 10000 ≡ two_lines ++ (0x33 ∷ 0x20 ∷ 0x34 ∷ 0x20 ∷ 0x34 ∷ 0x34 ∷ 0x20 ∷ 0x31 ∷ 0x36 ∷ 0x30 ∷ 0x0a ∷ []) ++ done 3
  -- the program stops after 10,000 records
  pub limit : program_limit ≡ 10000
  pub program : program_text example_trace ≡ example_text
  -- the records whose lines are printed
  pub replayed_two : replayed example_trace 2 ≡ (0 ∷ 0 ∷ 0x31 ∷ replicate 36 0) ∷ (9 ∷ 0x60 ∷ []) ∷ []
  pub replayed_all : replayed (1 ∷ (request 0x60 ++ entry ++ boundary)) 10000 ≡ (9 ∷ 0x60 ∷ []) ∷ (1 ∷ []) ∷ (8 ∷ 1 ∷ 0 ∷ []) ∷ []
  pub replayed_cut : replayed cut_trace 10000 ≡ (9 ∷ 0x60 ∷ []) ∷ []
  pub replayed_none : replayed (2 ∷ request 0x60) 10000 ≡ []
  -- from a place on, after seven lines; behind the trace's end nothing is left that can't be read
  pub from_seven : text_from 5 (1 ∷ []) 1 7 begin ≡ done 7
  pub from_second : text_from 9 (1 ∷ (request 0x60 ++ request 0x61)) 5 1 begin ≡ digits 2 6 0 0 ++ done 2
  pub behind : ends_bad 5 (1 ∷ []) 3 ≡ false
  pub behind_none : bodies 5 (1 ∷ []) 3 ≡ []
  -- the controls for later entries after two of kind 0
  pub held_controls : (session_end begin ((0 ∷ 0 ∷ 0x10 ∷ replicate 36 0) ∷ (0 ∷ 0 ∷ 0x31 ∷ replicate 36 0) ∷ [])).controls.flags ≡ 0x31
