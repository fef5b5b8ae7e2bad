-- Rows: what the document says at one input, worked out by hand. A list of rows is a list of tests, and one claim says that all of them
-- hold.
use Rattle.std.specs.Prelude.{ℕ, ◌+◌, ◌/◌, ◌%◌, Bool, true, false, not, ◌&&◌, List, [], ◌∷◌, eqb, set}
use Rattle.processor.specs.declared.controls.Controls.{Controls}
use Rattle.processor.specs.declared.access.Access.{Access}
use Rattle.processor.specs.declared.access.Access.TheVariants.{Passthrough, Exit, Redirected}

-- every row of the list holds
abbrev pub all_hold : List Bool → Bool
all_hold [] = true
all_hold (row ∷ rows) = row && all_hold rows

-- the test passes at each of the numbers; at none of them
abbrev pub at_each : (ℕ → Bool) → List ℕ → Bool
at_each f [] = true
at_each f (n ∷ ns) = f n && at_each f ns

abbrev pub at_none : (ℕ → Bool) → List ℕ → Bool
at_none f [] = true
at_none f (n ∷ ns) = not (f n) && at_none f ns

-- two slices have the same bytes
abbrev pub same_bytes : List ℕ → List ℕ → Bool
same_bytes [] [] = true
same_bytes [] (b ∷ q) = false
same_bytes (a ∷ p) [] = false
same_bytes (a ∷ p) (b ∷ q) = eqb a b && same_bytes p q

-- nine different bytes
abbrev pub nine : List ℕ
nine = 0x11 ∷ 0x22 ∷ 0x33 ∷ 0x44 ∷ 0x55 ∷ 0x66 ∷ 0x77 ∷ 0x88 ∷ 0x99 ∷ []

-- a word of a page: its offset and its value
pub record Word : Type 0 where
  pub at : ℕ
  pub value : ℕ

abbrev pub word : ℕ → ℕ → Word
word at value = record { at = at; value = value }

-- a page with these words in it, the low byte of each at its offset
abbrev pub with_words : List ℕ → List Word → List ℕ
with_words p [] = p
with_words p (w ∷ ws) =
    with_words (set (set (set (set p
    w.at (w.value % 0x100))
    (w.at + 1) (w.value / 0x100 % 0x100))
    (w.at + 2) (w.value / 0x1_0000 % 0x100))
    (w.at + 3) (w.value / 0x100_0000 % 0x100)) ws

-- controls by their flags, threshold and notification vector, no EOI-exit bit set
abbrev pub notified : ℕ → ℕ → ℕ → Controls
notified notification flags threshold =
    record { flags = flags; threshold = threshold; notification = notification; eoi_exit_0 = 0; eoi_exit_1 = 0; eoi_exit_2 = 0; eoi_exit_3 = 0 }

abbrev pub controls : ℕ → ℕ → Controls
controls flags threshold = notified 0 flags threshold

abbrev pub flagged : ℕ → Controls
flagged flags = controls flags 0

-- controls with these EOI-exit words
abbrev pub exiting : ℕ → ℕ → ℕ → ℕ → ℕ → Controls
exiting flags w₀ w₁ w₂ w₃ =
    record { flags = flags; threshold = 0; notification = 0; eoi_exit_0 = w₀; eoi_exit_1 = w₁; eoi_exit_2 = w₂; eoi_exit_3 = w₃ }

-- the answer that an access comes to: 1 redirected, 2 passthrough, 4 exit
abbrev pub answer_of : Access → ℕ
answer_of Passthrough = 2
answer_of Exit = 4
answer_of Redirected = 1
