-- What every input but an entry leaves of the controls. Assumes nothing.
use Prim.Native.Nat.{ℕ}
use mathlib.Core.Path.{◌≡◌, sym, ◌∙◌, ap}
use mathlib.Core.Bool.{Bool, true, false, true≢false}
use mathlib.Core.Logic.{⊎_elim}
use mathlib.Core.List.{List}
use Rattle.events.specs.declared.event.Event.TheVariants.{Entry, Request, MemoryRead, MemoryWrite, ToCr8, FromCr8, Rdmsr, Wrmsr, Boundary}
use Rattle.meaning.specs.Input.{Input, given, external, leaves}
use Rattle.meaning.specs.Step.{step}
use Rattle.conditions.proofs.Laws.{controls-after}
use Rattle.layout.specs.RecordBytes.{controls_of, record_of}

-- an entry alone brings controls of its own
abbrev is_entry : Input → Bool
is_entry (given (Entry controls)) = true
is_entry (given (Request vector)) = false
is_entry (given (MemoryRead access)) = false
is_entry (given (MemoryWrite access value)) = false
is_entry (given (ToCr8 value register)) = false
is_entry (given (FromCr8 register)) = false
is_entry (given (Rdmsr index)) = false
is_entry (given (Wrmsr index value)) = false
is_entry (given (Boundary at)) = false
is_entry (external d vector) = false
is_entry leaves = false

-- any other input leaves the controls that the record's bytes hold
pub same_controls : (p b : List ℕ) (i : Input) → is_entry i ≡ false → (step p (record_of b) i).state.controls ≡ controls_of b
unfolding record_of
same_controls p b i n = ⊎_elim (λ q. q) (λ q. absurd (true≢false (sym (ap is_entry q) ∙ n))) (controls-after p (record_of b) i)
