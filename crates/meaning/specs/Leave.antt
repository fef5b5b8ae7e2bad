-- The guest leaves for a reason outside the model, as CPUID, HLT exiting or an EPT violation: what document 01 says of every exit, with no
-- reason of its own.
use Rattle.std.specs.Prelude.{ℕ, List}
use Rattle.processor.specs.Controls.{outside}
use Rattle.processor.specs.declared.controls.Record.{Record}
use Rattle.meaning.specs.After.{After, quiet}

-- root mode and recognition off, nothing else; quiet
unfoldable pub left : List ℕ → Record → After
left p r = quiet p (outside r)
