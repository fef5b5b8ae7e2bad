-- Condition 3 of the tender: each sentence a theorem over every run from the start whose entries have virtual-interrupt delivery on.
-- Assumes nothing.
use Rattle.std.specs.Prelude.{if◌then◌else◌}
use Prim.Native.Nat.{ℕ, ◌≤◌, ◌<◌}
use native.Mathlib.Omega.{arith}
use mathlib.Core.Path.{◌≡◌, refl, sym, ◌∙◌, ap, subst}
use mathlib.Core.Bool.{Bool, true, false}
use mathlib.Core.List.{List, [], ◌∷◌}
use lib.Dec.{eqb}
use Rattle.processor.specs.Logic.{member}
use Rattle.priorities.specs.Priorities.{class}
use Rattle.meaning.specs.Input.{Input}
use Rattle.processor.specs.Offsets.{visr}
use Rattle.registers.specs.Vectors.{is_set, put}
use Rattle.conditions.specs.Moves.{Move, stays, raises, delivers, retires, move_of, Moved, Deliverable}
use Rattle.meaning.specs.Run.{Held, start, step_of, after}
use Rattle.conditions.specs.History.{all_on, serving}
use Rattle.conditions.specs.Condition3.{Highest, Recognition, Served, Rising, Retires, Keeps, retired, AtMost15, Delivers16}
use Rattle.conditions.proofs.Laws.{moves, answers-deliver}
use Rattle.conditions.proofs.Ladder.{front, rising, ladder-count}
use Rattle.conditions.proofs.Invariant.{Inv, byte-record, svi-front, above, run-inv, start-inv}

module _ (is : List Input) (o : all_on is ≡ true) where
  abbrev held : Held
  held = after start is

  holds : Inv (serving is) held
  holds = run-inv [] start is o start-inv

  -- RVI and SVI are the highest set request and service bits, or zero.
  pub rvi-svi-highest : Highest held
  rvi-svi-highest = record { rvi = holds.rvi; svi = holds.svi }

  -- Inside the guest an interrupt is recognised exactly when interrupt-window exiting is off and RVI's class exceeds VPPR's.
  pub recognised-exactly : Recognition held
  recognised-exactly = record { recognised = holds.settled.recognised }

  -- The vectors in service are those delivered and not yet retired by a virtualised EOI;
  pub in-service-exactly : Served (serving is) held
  in-service-exactly = record { exactly = holds.service }

  -- in order of delivery their classes rise strictly,
  pub classes-rise : Rising (serving is)
  classes-rise = rising (serving is) holds.ladder

  -- each virtualised EOI retires the latest if there is one,
  pub eoi-retires-latest : (i : Input) → Retires (serving is) held i
  eoi-retires-latest i m w h = (subst (λ k. Moved k held.page held.state (step_of held i)) m (moves held.page held.state i holds.is_page (byte-record (serving is) held holds))).service w h ∙ by (serving is) (svi-front (serving is) held holds) (holds.service w h)
    where
      by : (vs : List ℕ) → held.state.svi ≡ front vs → is_set held.page visr w ≡ member w vs → put (is_set held.page visr) held.state.svi false w ≡ retired vs (is_set held.page visr) w
      by [] q s = ap (λ x. put (is_set held.page visr) x false w) q ∙ none (eqb 0 w)
        where
          none : (b : Bool) → (if b then false else is_set held.page visr w) ≡ is_set held.page visr w
          none true = sym s
          none false = refl
      by (v ∷ vs) q s = ap (λ x. put (is_set held.page visr) x false w) q

  -- nothing else retires any,
  pub nothing-else-retires : (i : Input) → Keeps held i
  nothing-else-retires i n w h t = by (move_of i (step_of held i).answer) n (moves held.page held.state i holds.is_page (byte-record (serving is) held holds))
    where
      by : (m : Move) → (m ≡ retires → ⊥) → Moved m held.page held.state (step_of held i) → is_set (step_of held i).page visr w ≡ true
      by stays n d = d.service w h ∙ t
      by (raises us) n d = d.service w h ∙ t
      by (delivers v) n d = d.service w h ∙ on (eqb v w)
        where
          on : (b : Bool) → (if b then true else is_set held.page visr w) ≡ true
          on true = refl
          on false = t
      by retires n d = absurd (n refl)

  -- and there are never more than 15.
  pub at-most-15 : AtMost15 held
  at-most-15 = record { bound = ladder-count (is_set held.page visr) (serving is) holds.ladder holds.service }

  -- No vector below 16 is ever delivered.
  pub none-below-16 : (i : Input) → Delivers16 held i
  none-below-16 i t = by (answers-deliver held.page held.state i holds.is_page (byte-record (serving is) held holds) t) (moves held.page held.state i holds.is_page (byte-record (serving is) held holds))
    where
      by : move_of i (step_of held i).answer ≡ delivers (step_of held i).answer.first → Moved (move_of i (step_of held i).answer) held.page held.state (step_of held i) → 16 ≤ (step_of held i).answer.first
      by q d = high (subst (λ k. Moved k held.page held.state (step_of held i)) q d).vector
        where
          sixteen : (a n : ℕ) → class a < class n → 16 ≤ n
          sixteen a n l = omega arith

          high : Deliverable (step_of held i).answer.first held.state → 16 ≤ (step_of held i).answer.first
          high v = rw v.is_rvi (sixteen (front (serving is)) held.state.rvi (above (serving is) held holds v.guest v.recognised))
