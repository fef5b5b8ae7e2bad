-- One vector set or cleared in a register of a page: the page stays a page, the other register and VPPR stay. Assumes nothing.
use Prim.Native.Nat.{ℕ, ◌+◌, ◌%◌, ◌≤◌, ◌<◌}
use native.Mathlib.Omega.{arith}
use mathlib.Core.Path.{◌≡◌}
use mathlib.Core.Bool.{Bool}
use mathlib.Core.Logic.{◌⊎◌, inl, inr, ⊎_elim}
use lib.Dec.{lit≤}
use mathlib.Core.List.{List}
use lib.ListN.{length}
use lib.Seq.{get_or-set_other}
use Rattle.processor.specs.Offsets.{vppr, visr, virr}
use Rattle.page.specs.Page.{byte_at, IsPage}
use Rattle.registers.specs.Vectors.{vector_byte, is_set, put_vector, put}
use Rattle.register_laws.proofs.Registers.{put_bit-byte, vector-within, is_set-put, is_set-other}
use Rattle.conditions.proofs.Kept.{page-set}

module _ (q : List ℕ) (v : ℕ) (on : Bool) (g : IsPage q) (h : v < 256) where
  pub page-put : (base : ℕ) → IsPage (put_vector q base v on)
  unfolding put_vector
  page-put base = page-set q (base + vector_byte v) _ g (put_bit-byte (byte_at q (base + vector_byte v)) (v % 8) on (g.bytes (base + vector_byte v)) low)
    where
      low : v % 8 < 8
      low = omega arith

  -- every bit of the register itself
  pub bits_put : (base : ℕ) → base + 0x80 ≤ 4096 → (w : ℕ) → is_set (put_vector q base v on) base w ≡ put (is_set q base) v on w
  bits_put base l w = is_set-put q base (inside g.size) g.bytes v on h w
    where
      inside : length q ≡ 4096 → base + 0x80 ≤ length q
      inside e = omega arith

  -- a bit of one register is no bit of another
  other-register : (a b : ℕ) → (a + 0x80 ≤ b) ⊎ (b + 0x80 ≤ a) → (w : ℕ) → w < 256 → is_set (put_vector q a v on) b w ≡ is_set q b w
  unfolding put_vector
  other-register a b l w hw = is_set-other q b (a + vector_byte v) _ w (λ e. ⊎_elim (λ x. above x e (vector-within v h)) (λ x. below x e (vector-within w hw)) l)
    where
      above : a + 0x80 ≤ b → b + vector_byte w ≡ a + vector_byte v → vector_byte v < 0x80 → ⊥
      above x e y = omega arith

      below : b + 0x80 ≤ a → b + vector_byte w ≡ a + vector_byte v → vector_byte w < 0x80 → ⊥
      below x e y = omega arith

  pub visr-keeps-requests : (w : ℕ) → w < 256 → is_set (put_vector q visr v on) virr w ≡ is_set q virr w
  visr-keeps-requests = other-register visr virr (inl (lit≤ tt))

  pub virr-keeps-services : (w : ℕ) → w < 256 → is_set (put_vector q virr v on) visr w ≡ is_set q visr w
  virr-keeps-services = other-register virr visr (inr (lit≤ tt))

  pub put-keeps-vppr : (base : ℕ) → 0x100 ≤ base → byte_at (put_vector q base v on) vppr ≡ byte_at q vppr
  unfolding put_vector
  put-keeps-vppr base l = get_or-set_other q (base + vector_byte v) vppr _ 0 (λ e. apart e)
    where
      apart : 0x0a0 ≡ base + vector_byte v → ⊥
      apart e = omega arith
