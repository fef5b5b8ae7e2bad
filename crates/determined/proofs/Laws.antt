-- A claim allows one outcome where every outcome that meets it is one and the same: of an equation, and of a record of equations, this is
-- read off the claim. Assumes nothing.
use mathlib.Core.Path.{◌≡◌, sym, ◌∙◌}
use Rattle.determined.specs.Determines.{Determines}

-- whatever meets the claim is a
pub only : {X : Type 0} {claim : X → Type 0} (a : X) → ((x : X) → claim x → x ≡ a) → Determines claim
only a e x y c d = e x c ∙ sym (e y d)

-- a plain equation with a definition
pub equation : {X : Type 0} (a : X) → Determines (λ x. x ≡ a)
equation a = only a (λ x c. c)

-- an equation of what a function brings back, at every page: one page is enough
pub every : {X Y : Type 0} (y : Y) (a : Y → X) → Determines (λ x. (z : Y) → x ≡ a z)
every y a = only (a y) (λ x c. c y)
