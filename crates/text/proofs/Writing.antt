-- Laws of a text written into a buffer. Assumes nothing.
use native.Mathlib.Omega.{arith}
use native.Mathlib.Numerals.{add-one}
use Prim.Native.Nat.{ℕ, suc, ◌+◌, ◌≤◌, ◌<◌}
use mathlib.Core.Path.{◌≡◌, refl, sym, ap, ◌∙◌}
use mathlib.Core.List.{List, [], ◌∷◌, ◌++◌, append_assoc}
use lib.ListN.{length, set, take, drop, length-append, length-set, take-append-drop}
use lib.Seq.{take-suc-set, drop-set-lt}
use Rattle.text.specs.Written.{written, Writes}

-- a text after another begins where that ends
pub written-append : (o : List ℕ) (at : ℕ) (xs ys : List ℕ) → written o at (xs ++ ys) ≡ written (written o at xs) (at + length xs) ys
written-append o at [] ys = ap (λ n. written o n ys) (omega arith)
written-append o at (x ∷ xs) ys = written-append (set o at x) (at + 1) xs ys ∙ ap (λ n. written (written (set o at x) (at + 1) xs) n ys) (omega arith)

-- the buffer keeps its length
pub written-length : (o : List ℕ) (at : ℕ) (xs : List ℕ) → length (written o at xs) ≡ length o
written-length o at [] = refl
written-length o at (x ∷ xs) = written-length (set o at x) (at + 1) xs ∙ length-set o at x

pub writes-append : {o o' o'' : List ℕ} {at m n : ℕ} {xs ys : List ℕ} → Writes o at xs m o' → Writes o' m ys n o'' → Writes o at (xs ++ ys) n o''
writes-append {o} {o'} {o''} {at} {m} {n} {xs} {ys} a b = record {
  place = b.place ∙ (ap (λ k. k + length ys) a.place ∙ simp length-append (omega arith));
  buffer = b.buffer ∙ (ap (λ l. written l m ys) a.buffer ∙ (ap (λ k. written (written o at xs) k ys) a.place ∙ sym (written-append o at xs ys)));
}

-- where the buffer has room, the text stands in it whole, and what is before and after it stays
pub written-whole : (o : List ℕ) (at : ℕ) (xs : List ℕ) → at + length xs ≤ length o → written o at xs ≡ take at o ++ (xs ++ drop (at + length xs) o)
written-whole o at [] h =
    let same : at ≡ at + 0 = omega arith in
    sym (take-append-drop at o) ∙ ap (λ (n : ℕ). take at o ++ drop n o) same
written-whole o at (x ∷ xs) h =
    let room : at < length o = omega arith in
    let same : at + 1 + length xs ≡ at + suc (length xs) = omega arith in
    written-whole (set o at x) (at + 1) xs (simp length-set (omega arith))
    ∙ (ap (λ (n : ℕ). take n (set o at x) ++ (xs ++ drop (at + 1 + length xs) (set o at x))) (add-one at)
    ∙ (ap (λ (l : List ℕ). l ++ (xs ++ drop (at + 1 + length xs) (set o at x))) (take-suc-set o at x room)
    ∙ (append_assoc (take at o) (x ∷ []) (xs ++ drop (at + 1 + length xs) (set o at x))
    ∙ (ap (λ (l : List ℕ). take at o ++ x ∷ (xs ++ l)) (drop-set-lt (at + 1 + length xs) o at x (omega arith))
    ∙ ap (λ (n : ℕ). take at o ++ x ∷ (xs ++ drop n o)) same))))

pub written_start : (o xs : List ℕ) → length xs ≤ length o → written o 0 xs ≡ xs ++ drop (length xs) o
written_start o xs h =
    let same : 0 + length xs ≡ length xs = omega arith in
    written-whole o 0 xs (omega arith) ∙ ap (λ (n : ℕ). xs ++ drop n o) same
