-- Document 02, E5: "Controls 0031H, request 60H, entry, boundary with IF prints exactly" five lines; and the shortest inputs.
use Rattle.std.specs.Prelude.{ℕ, ◌≡◌, List, [], ◌∷◌, ◌++◌, replicate}
use Rattle.text.specs.Lines.{done_line, bad_line}
use Rattle.recorded.specs.Replay.{replay_text}

-- the version; controls 0031H; request 60H; entry; boundary with IF
abbrev pub example_trace : List ℕ
example_trace =
    1 ∷ (0 ∷ 39 ∷ 0 ∷ 0 ∷ 0x31 ∷ replicate 36 0) ++ (0 ∷ 2 ∷ 9 ∷ 0x60 ∷ []) ++ (0 ∷ 1 ∷ 1 ∷ []) ++ (0 ∷ 3 ∷ 8 ∷ 1 ∷ 0 ∷ [])

-- "1 6 0 0", "2 6 0 0", "3 6 0 0", "4 5 96 0", "done 4", each on its own line
abbrev pub example_text : List ℕ
example_text =
    (0x31 ∷ 0x20 ∷ 0x36 ∷ 0x20 ∷ 0x30 ∷ 0x20 ∷ 0x30 ∷ 0x0a ∷ []) ++
    (0x32 ∷ 0x20 ∷ 0x36 ∷ 0x20 ∷ 0x30 ∷ 0x20 ∷ 0x30 ∷ 0x0a ∷ []) ++
    (0x33 ∷ 0x20 ∷ 0x36 ∷ 0x20 ∷ 0x30 ∷ 0x20 ∷ 0x30 ∷ 0x0a ∷ []) ++
    (0x34 ∷ 0x20 ∷ 0x35 ∷ 0x20 ∷ 0x39 ∷ 0x36 ∷ 0x20 ∷ 0x30 ∷ 0x0a ∷ []) ++
    (0x64 ∷ 0x6f ∷ 0x6e ∷ 0x65 ∷ 0x20 ∷ 0x34 ∷ 0x0a ∷ [])

pub record Examples : Type 0 where
  pub example : replay_text example_trace 10000 ≡ example_text
  -- no byte, a lone version byte, another version, a record that can't be read, a limit of 0
  pub empty : replay_text [] 10000 ≡ bad_line 0
  pub lone : replay_text (1 ∷ []) 10000 ≡ done_line 0
  pub wrong : replay_text (2 ∷ []) 10000 ≡ bad_line 0
  pub bad : replay_text (1 ∷ 0 ∷ []) 10000 ≡ bad_line 1
  pub none : replay_text example_trace 0 ≡ done_line 0
