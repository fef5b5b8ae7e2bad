-- Runs that show condition 3 sharp: one with fifteen in service, and one that breaks it with delivery off at its entry.
use Rattle.std.specs.Prelude.{ℕ, zero, suc, ◌+◌, ◌*◌, false, List, [], ◌∷◌}
use Rattle.events.specs.declared.event.Event.{Event}
use Rattle.events.specs.declared.event.Event.TheVariants.{Entry, Request, MemoryWrite}
use Rattle.processor.specs.Access.{access}
use Rattle.processor.specs.Offsets.{vicr_lo}
use Rattle.meaning.specs.Input.{Input}
use Rattle.meaning.specs.Bench.{controls, controls_m, boundary_open, each}

-- from class c on, n classes: a self-IPI of the class's first vector, and an open boundary that delivers it
abbrev pub climb : ℕ → ℕ → List Event
climb c zero = []
climb c (suc n) = MemoryWrite (access vicr_lo 4 false false) (0x40000 + 16 * c) ∷ boundary_open ∷ climb (c + 1) n

-- enter with shadow, APIC accesses, VID and external-interrupt exiting on, then one interrupt of each class
abbrev pub fifteen_deep : List Input
fifteen_deep = each (Entry controls_m ∷ climb 1 15)

-- a request and an entry with the TPR shadow alone
abbrev pub delivery_off : List Input
delivery_off = each (Request 0x60 ∷ Entry (controls 0x01 0) ∷ [])
