-- A number stands for one kind, or for none: the number of a kind is read back as the kind. A place and an array of bytes are one too.
-- Assumes nothing.
use Rattle.std.specs.Prelude.{ℕ, ◌<◌, ◌≤◌, Option, Some, None, Result, Ok, Err, IfSome, unwrap_or, if◌then◌else◌, ◌+◌, List, MatchOption, length}
use native.Mathlib.Omega.{arith}
use mathlib.Core.Path.{◌≡◌, refl, sym, ◌∙◌, ap}
use mathlib.Core.Bool.{false}
use mathlib.Core.Logic.{inl, inr}
use lib.Dec.{eqb}
use Rattle.std.proofs.Common.{ne_eqb}
use Rattle.events.specs.declared.kind.Kind.{Kind}
use Rattle.events.specs.declared.kind.Kind.TheVariants.{Entry, MemoryRead, MemoryWrite, ToCr8, FromCr8, Rdmsr, Wrmsr, Boundary, Request}
use Rattle.events.specs.declared.kind.UnknownKind.{UnknownKind}
use Rattle.events.specs.Kinds.{number_of, Unknown, Decodes}
use Rattle.trace.specs.declared.kinds.RecordKind.{RecordKind}
use Rattle.trace.specs.declared.kinds.RecordKind.TheVariants.{Controls, Event}
use Rattle.trace.specs.Kinds.{Decodes as DecodesRecord}
use Rattle.page.specs.Page.{AreBytes}
use Rattle.registers.specs.Vectors.{highest_bit}
use Rattle.std.proofs.lemmas.List.{ext_get_or}
use Rattle.determined.specs.Parts.{PartsDetermined}
use Rattle.determined.proofs.Laws.{only}

abbrev no_kind : ℕ → UnknownKind
no_kind n = record { 0 = n }

-- what a number stands for
abbrev kind_at : ℕ → Result Kind UnknownKind
kind_at n =
    if eqb n 1 then Ok Entry
    else if eqb n 2 then Ok MemoryRead
    else if eqb n 3 then Ok MemoryWrite
    else if eqb n 4 then Ok ToCr8
    else if eqb n 5 then Ok FromCr8
    else if eqb n 6 then Ok Rdmsr
    else if eqb n 7 then Ok Wrmsr
    else if eqb n 8 then Ok Boundary
    else if eqb n 9 then Ok Request
    else Err (no_kind n)

read-back : (k : Kind) → kind_at (number_of k) ≡ Ok k
read-back Entry = refl
read-back MemoryRead = refl
read-back MemoryWrite = refl
read-back ToCr8 = refl
read-back FromCr8 = refl
read-back Rdmsr = refl
read-back Wrmsr = refl
read-back Boundary = refl
read-back Request = refl

past : (n m : ℕ) → 9 < n → m ≤ 9 → eqb n m ≡ false
past n m g h = ne_eqb n m (λ e. (omega arith))

none-at : (n : ℕ) → Unknown n → kind_at n ≡ Err (no_kind n)
none-at n (inl z) = simp z refl
none-at n (inr g) = simp (past n 1 g (omega arith), past n 2 g (omega arith), past n 3 g (omega arith), past n 4 g (omega arith), past n 5 g (omega arith), past n 6 g (omega arith), past n 7 g (omega arith), past n 8 g (omega arith), past n 9 g (omega arith)) refl

one-kind : (n : ℕ) (r : Result Kind UnknownKind) → Decodes n r → r ≡ kind_at n
one-kind n (Ok k) c = sym (read-back k) ∙ ap kind_at c
one-kind n (Err e) c = ap (λ (m : ℕ). Err (no_kind m)) c.0 ∙ sym (none-at n c.1)

-- of a record the same, but for the controls at 0
abbrev as_record : Result Kind UnknownKind → Result RecordKind UnknownKind
as_record (Ok k) = Ok (Event k)
as_record (Err e) = Err e

abbrev record_kind_at : ℕ → Result RecordKind UnknownKind
record_kind_at n = if eqb n 0 then Ok Controls else as_record (kind_at n)

above : (n : ℕ) (r : Result Kind UnknownKind) → eqb n 0 ≡ false → r ≡ kind_at n → as_record r ≡ record_kind_at n
above n r z e = simp z (ap as_record e)

positive : (k : Kind) → eqb (number_of k) 0 ≡ false
positive Entry = refl
positive MemoryRead = refl
positive MemoryWrite = refl
positive ToCr8 = refl
positive FromCr8 = refl
positive Rdmsr = refl
positive Wrmsr = refl
positive Boundary = refl
positive Request = refl

one-record-kind : (n : ℕ) (r : Result RecordKind UnknownKind) → DecodesRecord n r → r ≡ record_kind_at n
one-record-kind n (Ok Controls) c = ap record_kind_at c
one-record-kind n (Ok (Event k)) c = above n (Ok k) (ap (λ (m : ℕ). eqb m 0) (sym c) ∙ positive k) (one-kind n (Ok k) c)
one-record-kind n (Err e) c = above n (Err e) (past n 0 c.1 (omega arith)) (one-kind n (Err e) (c.0, inr c.1))

-- none at 0, else the place
abbrev place_at : ℕ → Option ℕ
place_at b = if eqb b 0 then None else Some b

one-place : (b : ℕ) (r : Option ℕ) → unwrap_or r 0 ≡ b → IfSome r (λ p. 0 < p) → r ≡ place_at b
one-place b None c g = ap place_at c
one-place b (Some p) c g = sym (simp (ne_eqb p 0 (λ e. (omega arith))) refl) ∙ ap place_at c

-- two arrays of the same bytes are one, and one that the slice has is not missing
one-array : (p : List ℕ) (at n : ℕ) (r s : Option (List ℕ)) → MatchOption r (length p < at + n) (λ b. (length b ≡ n) × (at + n ≤ length p) × AreBytes p at n b) → MatchOption s (length p < at + n) (λ b. (length b ≡ n) × (at + n ≤ length p) × AreBytes p at n b) → r ≡ s
one-array p at n None None c d = refl
one-array p at n None (Some b) c d = let h = d.1 in absurd (omega arith)
one-array p at n (Some b) None c d = let h = c.1 in absurd (omega arith)
one-array p at n (Some a) (Some b) c d =
    ap (λ (x : List ℕ). Some x) (ext_get_or 0 a b (c.0 ∙ sym d.0) (λ i h. let l = c.0 in c.2 i (omega arith) ∙ sym (d.2 i (omega arith))))

pub parts-determined : PartsDetermined
parts-determined = record {
  kind = λ n. only _ (one-kind n);
  record_kind = λ n. only _ (one-record-kind n);
  place = λ w. only _ (λ r c. one-place (highest_bit w 32) r c.0 c.1);
  bytes = one-array;
}
