-- Bytes stored where the slice has room for all of them. Assumes nothing.
use Rattle.std.proofs.Common.{◌≡◌, ℕ, ◌+◌, ◌≤◌, List, [], ◌∷◌, length, take, drop, set, refl, sym, ap, ◌∙◌, add-one, append_assoc}
use Rattle.std.proofs.lemmas.List.Edits.{sets, sets-eq, paste_all}
use Rattle.std.proofs.lemmas.Slice.{put_mid-paste}
use borrow.Rule.Slice.PartMut.{put_mid}
use Rattle.stores.specs.Stores.{set_bytes}

-- std's word for bytes stored one after another
as-sets : (bs p : List ℕ) (at : ℕ) → set_bytes p at bs ≡ sets p at bs
as-sets [] p at = refl
as-sets (b ∷ bs) p at = as-sets bs (set p at b) (at + 1) ∙ ap (λ n. sets (set p at b) n bs) (add-one at)

-- a part of the slice overwritten
pub overwritten : (p bs ys : List ℕ) (at k : ℕ) → at + length bs ≤ length p → length bs ≡ k → ys ≡ bs → put_mid at k p ys ≡ set_bytes p at bs
overwritten p bs ys at k h n e =
    put_mid-paste at k p ys bs (length bs) e n refl
    ∙ (paste_all p at bs (length bs) refl
    ∙ sym (as-sets bs p at ∙ (sets-eq bs p at h ∙ append_assoc (take at p) bs (drop (at + length bs) p))))
