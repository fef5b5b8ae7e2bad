-- A list of vectors raised in a register: its highest vector is then the larger of what it was and of each in turn. Assumes nothing.
use Rattle.std.specs.Prelude.{if◌then◌else◌}
use Prim.Native.Nat.{ℕ, ◌<◌}
use mathlib.Core.Path.{◌≡◌, refl, sym, ◌∙◌, ap}
use mathlib.Core.Bool.{Bool, true, false, ◌||◌}
use mathlib.Core.List.{List, [], ◌∷◌}
use lib.Dec.{eqb, ltb}
use Rattle.processor.specs.Logic.{larger, member}
use Rattle.registers.specs.Vectors.{is_set, put, highest}
use Rattle.registers.proofs.Top.{top, top-ext, top-raise, highest-top}
use Rattle.conditions.specs.Moves.{largest, Bytes}

pub top-raises : (f : ℕ → Bool) (vs : List ℕ) → Bytes vs → top (λ w. member w vs || f w) 256 ≡ largest (top f 256) vs
top-raises f [] b = refl
top-raises f (v ∷ vs) b =
    top-ext (λ w. member w (v ∷ vs) || f w) (λ w. member w vs || put f v true w) 256 (λ w l. one-first (eqb v w) (member w vs) (f w))
    ∙ top-raises (put f v true) vs b.1
    ∙ ap (λ t. largest t vs) (top-raise f 256 v b.0)
  where
    one-first : (e m x : Bool) → ((e || m) || x) ≡ (m || (if e then true else x))
    one-first true true x = refl
    one-first true false x = refl
    one-first false m x = refl

pub highest-raises : (p q : List ℕ) (base : ℕ) (vs : List ℕ) → Bytes vs → ((w : ℕ) → w < 256 → is_set q base w ≡ (member w vs || is_set p base w)) → highest q base ≡ largest (highest p base) vs
unfolding highest
highest-raises p q base vs b e =
    highest-top q base 256
    ∙ top-ext (is_set q base) (λ w. member w vs || is_set p base w) 256 e
    ∙ top-raises (is_set p base) vs b
    ∙ ap (λ t. largest t vs) (sym (highest-top p base 256))

-- bytes have a byte as their largest
larger-byte : (m n : ℕ) → m < 256 → n < 256 → larger m n < 256
unfolding larger
larger-byte m n h k = by (ltb m n)
  where
    by : (x : Bool) → (if x then n else m) < 256
    by true = k
    by false = h

pub largest-byte : (m : ℕ) (vs : List ℕ) → m < 256 → Bytes vs → largest m vs < 256
largest-byte m [] h k = h
largest-byte m (v ∷ vs) h k = largest-byte (larger m v) vs (larger-byte m v h k.0) k.1
