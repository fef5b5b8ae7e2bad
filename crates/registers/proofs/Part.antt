-- The part of a page from a base on: a byte changed in it is that byte changed in the page, also where the part is too short to have
-- it, and a register that it starts with is the page's at that base. Assumes nothing.
use Prim.Native.Nat.{ℕ, ◌+◌, ◌-◌, ◌≤◌, ◌<◌}
use native.Mathlib.Nat.{le_refl, zero-add}
use native.Mathlib.Omega.{arith}
use mathlib.Core.Path.{◌≡◌, refl, sym, ◌∙◌, ap}
use mathlib.Core.Bool.{Bool, true, false}
use mathlib.Core.List.{List}
use lib.Dec.{ltb}
use lib.ListN.{length, get_or, set, drop, length-drop}
use lib.Seq.{set_out, take_all, get_or-drop}
use borrow.Author.Tests.{ltb-true, ltb-false}
use borrow.Rule.Slice.PartMut.{mid_of, put_mid, mid_len, put_same, set_mid_at}
use Rattle.page.specs.Page.{byte_at}
use Rattle.registers.specs.Vectors.{is_set, highest_of, highest_set, word_bits}
use Rattle.registers.proofs.Highest.{register-words}
use Rattle.registers.proofs.Top.{found-same}

module _ (p : List ℕ) (base : ℕ) where
  abbrev size : ℕ
  size = length p - base

  abbrev part : List ℕ
  part = mid_of base size p

  -- it has all that the page has from the base on
  part-all : part ≡ drop base p
  part-all = take_all size (drop base p) (rw length-drop (le_refl size))

  part-byte : (j : ℕ) → get_or part j 0 ≡ get_or p (base + j) 0
  part-byte j = rw part-all (get_or-drop base p j 0)

  by_place : (j : ℕ) (f : ℕ → ℕ) (b : Bool) → ltb j size ≡ b → put_mid base size p (set part j (f (get_or part j 0))) ≡ set p (base + j) (f (get_or p (base + j) 0))
  by_place j f true e =
      set_mid_at base size j p (f (get_or part j 0)) (rw (mid_len base (length p) p (le_refl (length p))) (ltb-true j size e))
      ∙ ap (λ x. set p (base + j) (f x)) (part-byte j)
  by_place j f false e =
      ap (λ l. put_mid base size p l) (set_out part j (f (get_or part j 0)) (rw (mid_len base (length p) p (le_refl (length p))) (ltb-false j size e)))
      ∙ put_same base size p
      ∙ sym (set_out p (base + j) (f (get_or p (base + j) 0)) (past (ltb-false j size e)))
    where
      past : size ≤ j → length p ≤ base + j
      past l = omega arith

  pub changed-part : (j : ℕ) (f : ℕ → ℕ) → put_mid base size p (set part j (f (get_or part j 0))) ≡ set p (base + j) (f (get_or p (base + j) 0))
  changed-part j f = by_place j f (ltb j size) refl

  pub found_part : highest_set part 0 ≡ highest_set p base
  unfolding is_set
  found_part = found-same part p 0 base 256 (λ v l. simp (zero-add, part-byte))

  -- word by word too
  pub words-part : ((i : ℕ) → byte_at p i < 256) → highest_of (word_bits part 16) 256 ≡ highest_set p base
  words-part bytes = register-words part (λ i. rw part-byte (bytes (base + i))) ∙ found_part
