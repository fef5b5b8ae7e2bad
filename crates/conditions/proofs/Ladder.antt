-- Vectors whose classes fall from the front on: the front one is the highest, and there are at most fifteen. Assumes nothing.
use Rattle.std.specs.Prelude.{if◌then◌else◌}
use Prim.Native.Nat.{ℕ, zero, suc, ◌+◌, ◌≤◌, ◌<◌, zero-le}
use native.Mathlib.Nat.{le_refl, le_trans}
use native.Mathlib.Omega.{arith}
use mathlib.Core.Path.{◌≡◌, refl, sym, ◌∙◌, ap, subst}
use mathlib.Core.Bool.{Bool, true, false, ◌||◌, false≢true}
use mathlib.Core.List.{List, [], ◌∷◌}
use lib.Dec.{eqb, ltb}
use lib.ListN.{length}
use borrow.Author.Tests.{eqb-true, eq-eqb, lt-ltb, le-ltb}
use Rattle.processor.specs.Logic.{member}
use Rattle.priorities.specs.Priorities.{class}
use Rattle.registers.proofs.Top.{top, top_unique, top-none}
use Rattle.registers.specs.Vectors.{put}
use Rattle.conditions.specs.History.{rest}
use Rattle.conditions.specs.Condition3.{Rising, one, count}

abbrev pub front : List ℕ → ℕ
front [] = 0
front (v ∷ vs) = v

-- each vector is a byte of a class above that of the one behind it, and the last of a class above 0
pub data Ladder : List ℕ → Type 0 where
  foot : Ladder []
  rung : {v : ℕ} {vs : List ℕ} → v < 256 → class (front vs) < class v → Ladder vs → Ladder (v ∷ vs)

pub rising : (vs : List ℕ) → Ladder vs → Rising vs
rising [] l = tt
rising (v ∷ []) l = tt
rising (v ∷ u ∷ us) (rung h c l) = (c, rising (u ∷ us) l)

-- whatever is behind the front is of a lower class
lower : (vs : List ℕ) → Ladder vs → (w : ℕ) → member w vs ≡ true → class w ≤ class (front vs)
lower [] l w m = absurd (false≢true m)
lower (v ∷ vs) (rung h c l) w m = by (lower vs l w) (eqb v w) refl m
  where
    under : class w ≤ class (front vs) → class w ≤ class v
    under a = omega arith

    by : (member w vs ≡ true → class w ≤ class (front vs)) → (b : Bool) → eqb v w ≡ b → (b || member w vs) ≡ true → class w ≤ class v
    by ih true e q = subst (λ x. class x ≤ class v) (eqb-true v w e) (le_refl (class v))
    by ih false e q = under (ih q)

-- so the front is not behind itself, and nothing behind it is higher
pub not-already : (v : ℕ) (vs : List ℕ) → Ladder (v ∷ vs) → member v vs ≡ false
not-already v vs (rung h c l) = by (member v vs) refl
  where
    by : (b : Bool) → member v vs ≡ b → b ≡ false
    by true e = absurd (clash (lower vs l v e))
      where
        clash : class v ≤ class (front vs) → ⊥
        clash a = omega arith
    by false e = refl

-- a register with exactly these bits has the front as its highest
pub ladder-top : (f : ℕ → Bool) (vs : List ℕ) → Ladder vs → ((w : ℕ) → w < 256 → f w ≡ member w vs) → top f 256 ≡ front vs
ladder-top f [] l s = top-none f 256 s
ladder-top f (v ∷ vs) (rung h c l) s = top_unique f 256 v h (s v h ∙ own) most
  where
    own : (eqb v v || member v vs) ≡ true
    own = ap (λ b. b || member v vs) (eq-eqb v v refl)

    most : (w : ℕ) → w < 256 → f w ≡ true → w ≤ v
    most w hw t = by (eqb v w) refl (sym (s w hw) ∙ t)
      where
        under : class w ≤ class (front vs) → w ≤ v
        under a = omega arith

        by : (b : Bool) → eqb v w ≡ b → (b || member w vs) ≡ true → w ≤ v
        by true e q = subst (λ x. x ≤ v) (eqb-true v w e) (le_refl v)
        by false e q = under (lower vs l w q)

-- the bits after one vector is put in front, and after the front is taken away
pub pushed : (f : ℕ → Bool) (v : ℕ) (vs : List ℕ) (w : ℕ) → f w ≡ member w vs → put f v true w ≡ member w (v ∷ vs)
pushed f v vs w e = by (eqb v w)
  where
    by : (b : Bool) → (if b then true else f w) ≡ (b || member w vs)
    by true = refl
    by false = e

pub popped : (f : ℕ → Bool) (vs : List ℕ) → Ladder vs → (w : ℕ) → f w ≡ member w vs → put f (front vs) false w ≡ member w (rest vs)
popped f [] l w e = by (eqb 0 w)
  where
    by : (b : Bool) → (if b then false else f w) ≡ false
    by true = refl
    by false = e
popped f (v ∷ vs) l w e = by (eqb v w) refl e
  where
    by : (b : Bool) → eqb v w ≡ b → f w ≡ (b || member w vs) → (if b then false else f w) ≡ member w vs
    by true q s = sym (ap (λ x. member x vs) (sym (eqb-true v w q)) ∙ not-already v vs l)
    by false q s = s

pub behind : (vs : List ℕ) → Ladder vs → Ladder (rest vs)
behind [] l = foot
behind (v ∷ vs) (rung h c l) = l

-- ---- how many there can be
count-ext : (f g : ℕ → Bool) (n : ℕ) → ((w : ℕ) → w < n → f w ≡ g w) → count f n ≡ count g n
count-ext f g zero h = refl
count-ext f g (suc n) h = simp (h n (le_refl (suc n)), count-ext f g n (λ w l. h w (omega arith)))

count_none : (n : ℕ) → count (λ w. false) n ≡ 0
count_none zero = refl
count_none (suc n) = simp (count_none n)

-- one vector counts once
count-one : (v n : ℕ) → count (λ w. eqb v w) n ≤ one (ltb v n)
count-one v zero = zero-le
count-one v (suc n) = by (eqb v n) refl (count-one v n)
  where
    by : (b : Bool) → eqb v n ≡ b → count (λ w. eqb v w) n ≤ one (ltb v n) → one b + count (λ w. eqb v w) n ≤ one (ltb v (suc n))
    by true e h = rw (lt-ltb v (suc n) (at (eqb-true v n e))) (add (rw (le-ltb v n (from (eqb-true v n e))) at h))
      where
        at : v ≡ n → v < suc n
        at q = omega arith

        from : v ≡ n → n ≤ v
        from q = omega arith

        add : count (λ w. eqb v w) n ≤ 0 → 1 + count (λ w. eqb v w) n ≤ 1
        add a = omega arith
    by false e h = pick (ltb v n) refl h
      where
        grow : v < n → v < suc n
        grow a = omega arith

        pick : (c : Bool) → ltb v n ≡ c → count (λ w. eqb v w) n ≤ one c → 0 + count (λ w. eqb v w) n ≤ one (ltb v (suc n))
        pick true q a = rw (lt-ltb v (suc n) (grow (borrow.Author.Tests.ltb-true v n q))) (omega arith)
        pick false q a = none (ltb v (suc n))
          where
            none : (d : Bool) → 0 + count (λ w. eqb v w) n ≤ one d
            none true = omega arith
            none false = omega arith

count-either : (f g : ℕ → Bool) (n : ℕ) → count (λ w. f w || g w) n ≤ count f n + count g n
count-either f g zero = zero-le
count-either f g (suc n) = by (f n) (g n) (count-either f g n)
  where
    by : (a b : Bool) → count (λ w. f w || g w) n ≤ count f n + count g n → one (a || b) + count (λ w. f w || g w) n ≤ (one a + count f n) + (one b + count g n)
    by true true h = omega arith
    by true false h = omega arith
    by false true h = omega arith
    by false false h = omega arith

count-members : (vs : List ℕ) (n : ℕ) → count (λ w. member w vs) n ≤ length vs
count-members [] n = rw (count_none n) zero-le
count-members (v ∷ vs) n = join (count-either (λ w. eqb v w) (λ w. member w vs) n) (count-one v n) (count-members vs n) (at_most (ltb v n))
  where
    at_most : (b : Bool) → one b ≤ 1
    at_most true = le_refl 1
    at_most false = zero-le

    join : count (λ w. eqb v w || member w vs) n ≤ count (λ w. eqb v w) n + count (λ w. member w vs) n → count (λ w. eqb v w) n ≤ one (ltb v n) → count (λ w. member w vs) n ≤ length vs → one (ltb v n) ≤ 1 → count (λ w. member w (v ∷ vs)) n ≤ suc (length vs)
    join a c d e = omega arith

-- as many as the front's class, and a byte's class is at most 15
height : (vs : List ℕ) → Ladder vs → length vs ≤ class (front vs)
height [] l = zero-le
height (v ∷ vs) (rung h c l) = up (height vs l)
  where
    up : length vs ≤ class (front vs) → suc (length vs) ≤ class v
    up a = omega arith

front-class : (vs : List ℕ) → Ladder vs → class (front vs) ≤ 15
front-class [] l = zero-le
front-class (v ∷ vs) (rung h c l) = omega arith

pub ladder-count : (f : ℕ → Bool) (vs : List ℕ) → Ladder vs → ((w : ℕ) → w < 256 → f w ≡ member w vs) → count f 256 ≤ 15
ladder-count f vs l s =
    subst (λ n. n ≤ 15) (sym (count-ext f (λ w. member w vs) 256 s)) (le_trans (count-members vs 256) (le_trans (height vs l) (front-class vs l)))
