-- Condition 3 of the tender, one definition to a sentence, of what is held after a run. In brackets: what is stated besides.
use Rattle.std.specs.Prelude.{ℕ, zero, suc, ◌+◌, ◌≤◌, ◌<◌, ◌≡◌, Bool, true, false, not, ◌&&◌, List, [], ◌∷◌, ltb, if◌then◌else◌}
use Rattle.processor.specs.Logic.{member}
use Rattle.processor.specs.Controls.{interrupt_window_exiting}
use Rattle.priorities.specs.Priorities.{class}
use Rattle.meaning.specs.Input.{Input}
use Rattle.processor.specs.Offsets.{vppr, visr, virr}
use Rattle.page.specs.Page.{byte_at}
use Rattle.registers.specs.Vectors.{is_set, highest, put}
use Rattle.conditions.specs.Moves.{retires, move_of, is_delivered}
use Rattle.meaning.specs.Run.{Held, step_of}

-- RVI and SVI are the highest set request and service bits, or zero.
pub record Highest (h : Held) : Type 0 where
  pub rvi : h.state.rvi ≡ highest h.page virr
  pub svi : h.state.svi ≡ highest h.page visr

-- Inside the guest an interrupt is recognised exactly when interrupt-window exiting is off and RVI's class exceeds VPPR's (outside,
-- none is).
abbrev pub recognised_now : Held → Bool
recognised_now h =
    if h.state.guest
    then not (interrupt_window_exiting h.state.controls) && ltb (class (byte_at h.page vppr)) (class h.state.rvi)
    else false

pub record Recognition (h : Held) : Type 0 where
  pub recognised : h.state.recognised ≡ recognised_now h

-- The vectors in service are those delivered and not yet retired by a virtualised EOI.
pub record Served (vs : List ℕ) (h : Held) : Type 0 where
  pub exactly : (w : ℕ) → w < 256 → is_set h.page visr w ≡ member w vs

-- In order of delivery their classes rise strictly: from the latest on they fall.
abbrev pub Rising : List ℕ → Type 0
Rising [] = Unit
Rising (v ∷ []) = Unit
Rising (v ∷ u ∷ us) = (class u < class v) × Rising (u ∷ us)

-- Each virtualised EOI retires the latest if there is one (with none in service it changes no service bit); nothing else retires any.
abbrev pub retired : List ℕ → (ℕ → Bool) → ℕ → Bool
retired [] f = f
retired (v ∷ vs) f = put f v false

abbrev pub Retires : List ℕ → Held → Input → Type 0
Retires vs h i =
    move_of i (step_of h i).answer ≡ retires → (w : ℕ) → w < 256 → is_set (step_of h i).page visr w ≡ retired vs (is_set h.page visr) w

abbrev pub Keeps : Held → Input → Type 0
Keeps h i =
    (move_of i (step_of h i).answer ≡ retires → ⊥) → (w : ℕ) → w < 256 → is_set h.page visr w ≡ true → is_set (step_of h i).page visr w ≡ true

-- There are never more than 15: the count of bits in VISR.
abbrev pub one : Bool → ℕ
one true = 1
one false = 0

abbrev pub count : (ℕ → Bool) → ℕ → ℕ
count f zero = 0
count f (suc n) = one (f n) + count f n

abbrev pub depth : Held → ℕ
depth h = count (is_set h.page visr) 256

pub record AtMost15 (h : Held) : Type 0 where
  pub bound : depth h ≤ 15

-- (No vector below 16 is ever delivered.)
abbrev pub Delivers16 : Held → Input → Type 0
Delivers16 h i = is_delivered (step_of h i).answer ≡ true → 16 ≤ (step_of h i).answer.first
