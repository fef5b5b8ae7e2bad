-- What a record is of, and its number: 0 the controls for later entries, 1 to 9 an event's kind.
use Rattle.std.specs.Prelude.{ℕ, ◌≡◌, ◌<◌, Result, MatchResult}
use Rattle.events.specs.declared.kind.UnknownKind.{UnknownKind}
use Rattle.events.specs.Kinds.{number_of}
use Rattle.trace.specs.declared.kinds.RecordKind.{RecordKind}
use Rattle.trace.specs.declared.kinds.RecordKind.TheVariants.{Controls, Event}

-- the number that stands for a record's kind
abbrev pub record_number_of : RecordKind → ℕ
record_number_of Controls = 0
record_number_of (Event kind) = number_of kind

-- The result is the kind that the number stands for, or the number, which stands for none.
abbrev pub Decodes : ℕ → Result RecordKind UnknownKind → Type 0
Decodes number r = MatchResult r (λ kind. record_number_of kind ≡ number) (λ e. (e.0 ≡ number) × (9 < number))
