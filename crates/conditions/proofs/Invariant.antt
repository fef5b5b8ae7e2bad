-- What every run keeps: one invariant with named parts, one step, one induction. Assumes nothing.
use Prim.Native.Nat.{ℕ, zero, suc, ◌≤◌, ◌<◌}
use native.Mathlib.Omega.{arith}
use mathlib.Core.Path.{◌≡◌, refl, sym, ◌∙◌, ap, subst}
use mathlib.Core.Bool.{Bool, true, false, not, ◌||◌, false≢true}
use mathlib.Core.List.{List, [], ◌∷◌}
use lib.Dec.{T, ltb, lit<}
use lib.ListN.{get_or, replicate, length-replicate}
use borrow.Author.Tests.{ltb-true}
use Rattle.processor.specs.Logic.{all_below, member}
use Rattle.processor.specs.Controls.{interrupt_window_exiting}
use Rattle.priorities.specs.Priorities.{class}
use Rattle.processor.proofs.Tests.{below, left, right}
use Rattle.processor.specs.Offsets.{vppr, visr, virr}
use Rattle.page.specs.Page.{byte_at, IsPage}
use Rattle.registers.specs.Vectors.{is_set, highest_of, highest, put}
use Rattle.registers.proofs.Top.{highest-top}
use Rattle.register_laws.proofs.Registers.{highest-ext, highest-byte}
use Rattle.meaning.specs.Input.{Input}
use Rattle.meaning.specs.After.{After}
use Rattle.conditions.specs.Moves.{Move, stays, raises, delivers, retires, move_of, largest, Bytes, Moved}
use Rattle.meaning.specs.Widths.{ByteRecord}
use Rattle.conditions.specs.Settled.{Settled}
use Rattle.meaning.specs.Run.{zero_page, Held, start, step_of, held_after, after, answers}
use Rattle.conditions.specs.History.{delivery_on, all_on, served, in_service}
use Rattle.conditions.proofs.Laws.{laws}
use Rattle.conditions.proofs.Good.{Good}
use Rattle.conditions.proofs.Raised.{highest-raises}
use Rattle.conditions.proofs.Ladder.{Ladder, foot, rung, front, ladder-top, pushed, popped, behind}

-- vs are the vectors in service, the latest first
pub record Inv (vs : List ℕ) (h : Held) : Type 0 where
  pub is_page : IsPage h.page
  pub rvi : h.state.rvi ≡ highest h.page virr
  pub svi : h.state.svi ≡ highest h.page visr
  pub settled : Settled h.page h.state
  pub service : (w : ℕ) → w < 256 → is_set h.page visr w ≡ member w vs
  pub ladder : Ladder vs

-- RVI and SVI are bytes
pub byte-record : (vs : List ℕ) (h : Held) → Inv vs h → ByteRecord h.state
byte-record vs h i = record {
  rvi = rw i.rvi (highest-byte h.page virr);
  svi = rw i.svi (highest-byte h.page visr);
}

-- SVI is the latest delivered
pub svi-front : (vs : List ℕ) (h : Held) → Inv vs h → h.state.svi ≡ front vs
unfolding highest
svi-front vs h i = i.svi ∙ highest-top h.page visr 256 ∙ ladder-top (is_set h.page visr) vs i.ladder i.service

-- what is delivered has a class above that of the latest in service
pub above : (vs : List ℕ) (h : Held) → Inv vs h → h.state.guest ≡ true → h.state.recognised ≡ true → class (front vs) < class h.state.rvi
above vs h i t r = over (i.settled.priority t) (ltb-true (class (byte_at h.page vppr)) (class h.state.rvi) exceeds)
  where
    exceeds : ltb (class (byte_at h.page vppr)) (class h.state.rvi) ≡ true
    exceeds = right (not (interrupt_window_exiting h.state.controls)) _ (sym (i.settled.recognised ∙ simp t) ∙ r)

    over : class h.state.svi ≤ class (byte_at h.page vppr) → class (byte_at h.page vppr) < class h.state.rvi → class (front vs) < class h.state.rvi
    over a b = subst (λ x. class x < class h.state.rvi) (svi-front vs h i) (less a b)
      where
        less : class h.state.svi ≤ class (byte_at h.page vppr) → class (byte_at h.page vppr) < class h.state.rvi → class h.state.svi < class h.state.rvi
        less a b = omega arith

-- the registers' highest bits, the service bits and their ladder after a move
module _ (vs : List ℕ) (h : Held) (a : After) (i : Inv vs h) where
  same-highest : (base n : ℕ) → n ≡ highest h.page base → ((w : ℕ) → w < 256 → is_set a.page base w ≡ is_set h.page base w) → n ≡ highest a.page base
  same-highest base n q e = q ∙ sym (highest-ext a.page h.page base e)

  raised : (us : List ℕ) → Bytes us → ((w : ℕ) → w < 256 → is_set a.page virr w ≡ (member w us || is_set h.page virr w)) → largest h.state.rvi us ≡ highest a.page virr
  raised us l e = ap (λ t. largest t us) i.rvi ∙ sym (highest-raises h.page a.page virr us l e)

  latest : (us : List ℕ) → Ladder us → ((w : ℕ) → w < 256 → is_set a.page visr w ≡ member w us) → front us ≡ highest a.page visr
  unfolding highest
  latest us l e = sym (highest-top a.page visr 256 ∙ ladder-top (is_set a.page visr) us l e)

  by_move : (m : Move) → IsPage a.page → Settled a.page a.state → Moved m h.page h.state a → Inv (served m vs) (held_after a)
  by_move stays g s d = record {
    is_page = g;
    rvi = d.rvi ∙ same-highest virr h.state.rvi i.rvi d.request;
    svi = d.svi ∙ same-highest visr h.state.svi i.svi d.service;
    settled = s;
    service = λ w l. d.service w l ∙ i.service w l;
    ladder = i.ladder;
  }
  by_move (raises us) g s d = record {
    is_page = g;
    rvi = d.rvi ∙ raised us d.vector d.request;
    svi = d.svi ∙ same-highest visr h.state.svi i.svi d.service;
    settled = s;
    service = λ w l. d.service w l ∙ i.service w l;
    ladder = i.ladder;
  }
  by_move (delivers v) g s d = record {
    is_page = g;
    rvi = d.rvi;
    svi = d.svi ∙ latest (v ∷ vs) ladder' service';
    settled = s;
    service = service';
    ladder = ladder';
  }
    where
      ladder' : Ladder (v ∷ vs)
      ladder' =
          rung {v = v} {vs = vs} (subst (λ x. x < 256) (sym d.vector.is_rvi) (byte-record vs h i).rvi)
          (subst (λ x. class (front vs) < class x) (sym d.vector.is_rvi) (above vs h i d.vector.guest d.vector.recognised)) i.ladder

      service' : (w : ℕ) → w < 256 → is_set a.page visr w ≡ member w (v ∷ vs)
      service' w l = d.service w l ∙ pushed (is_set h.page visr) v vs w (i.service w l)
  by_move retires g s d = record {
    is_page = g;
    rvi = d.rvi ∙ same-highest virr h.state.rvi i.rvi d.request;
    svi = d.svi;
    settled = s;
    service = λ w l. d.service w l ∙ ap (λ x. put (is_set h.page visr) x false w) (svi-front vs h i) ∙ popped (is_set h.page visr) vs i.ladder w (i.service w l);
    ladder = behind vs i.ladder;
  }

pub inv-step : (vs : List ℕ) (h : Held) (j : Input) → Inv vs h → delivery_on j ≡ true → Inv (served (move_of j (step_of h j).answer) vs) (held_after (step_of h j))
inv-step vs h j i d =
    let good : Good h.page h.state j (step_of h j) = laws h.page h.state j i.is_page (byte-record vs h i) in
    by_move vs h (step_of h j) i (move_of j (step_of h j).answer) good.is_page (good.settled i.rvi i.settled d) good.moved

-- ---- the start
zero-byte : (n i : ℕ) → get_or {A = ℕ} (replicate n 0) i 0 ≡ 0
zero-byte zero i = refl
zero-byte (suc n) zero = refl
zero-byte (suc n) (suc i) = zero-byte n i

no-service : T (all_below 256 (λ w. not (is_set zero_page visr w)))
unfolding is_set
no-service = tt

pub start-inv : Inv [] start
unfolding highest highest_of is_set
start-inv = record {
  is_page = record { size = length-replicate {A = ℕ} 4096 0; bytes = λ i. rw (zero-byte 4096 i) (lit< tt) };
  rvi = refl;
  svi = refl;
  settled = record { on = λ t. absurd (false≢true t); recognised = refl; priority = λ t. absurd (false≢true t) };
  service = λ w l. clear (is_set zero_page visr w) (below 256 (λ w. not (is_set zero_page visr w)) no-service w l);
  ladder = foot;
}
  where
    clear : (b : Bool) → T (not b) → b ≡ false
    clear true t = absurd t
    clear false t = refl

-- ---- every run
pub run-inv : (vs : List ℕ) (h : Held) (js : List Input) → all_on js ≡ true → Inv vs h → Inv (in_service vs js (answers h js)) (after h js)
run-inv vs h [] o i = i
run-inv vs h (j ∷ js) o i =
    run-inv (served (move_of j (step_of h j).answer) vs) (held_after (step_of h j)) js (right (delivery_on j) (all_on js) o)
    (inv-step vs h j i (left (delivery_on j) (all_on js) o))
