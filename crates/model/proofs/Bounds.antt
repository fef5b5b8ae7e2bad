-- What a request has passed where it is carried out. Assumes nothing.
use Prim.Native.Nat.{ℕ, ◌%◌, ◌<◌}
use native.Mathlib.Omega.{arith}
use mathlib.Core.Path.{◌≡◌}
use mathlib.Core.List.{List}
use lib.Dec.{ltb}
use borrow.Author.Tests.{ltb-true}
use Rattle.processor.specs.Controls.{flags_in_bounds}
use Rattle.processor.specs.declared.controls.Record.{Record}
use Rattle.processor.proofs.Tests.{right}
use Rattle.events.specs.Events.{event_in_bounds}
use Rattle.std.specs.Prelude.{Ok}
use Rattle.events.specs.declared.event.Event.TheVariants.{Request}
use Rattle.meaning.specs.Input.{given}
use Rattle.meaning.specs.Refusals.{refusal_of}
use Rattle.meaning.proofs.Refused.{passed}

-- a requested vector that gets no refusal is a byte
pub byte-vector : (p : List ℕ) (r : Record) (v : ℕ) → refusal_of p r (given (Request v)) ≡ Ok tt → v % 256 ≡ v
unfolding event_in_bounds
byte-vector p r v q = small (ltb-true v 256 (right (flags_in_bounds r.controls) (ltb v 256) (passed p r (given (Request v)) q).fields))
  where
    small : v < 256 → v % 256 ≡ v
    small h = omega arith
