-- The kinds of events and their numbers, 1 to 9, the same in an event's bytes and in a trace's records.
use Rattle.std.specs.Prelude.{ℕ, ◌≡◌, ◌<◌, ◌⊎◌, Result, MatchResult}
use Rattle.events.specs.declared.kind.Kind.{Kind}
use Rattle.events.specs.declared.kind.Kind.TheVariants.{Entry, MemoryRead, MemoryWrite, ToCr8, FromCr8, Rdmsr, Wrmsr, Boundary, Request}
use Rattle.events.specs.declared.kind.UnknownKind.{UnknownKind}

-- the number that stands for a kind
abbrev pub number_of : Kind → ℕ
number_of Entry = 1
number_of MemoryRead = 2
number_of MemoryWrite = 3
number_of ToCr8 = 4
number_of FromCr8 = 5
number_of Rdmsr = 6
number_of Wrmsr = 7
number_of Boundary = 8
number_of Request = 9

-- A number that is no kind's is 0 or above 9.
abbrev pub Unknown : ℕ → Type 0
Unknown number = (number ≡ 0) ⊎ (9 < number)

-- The result is the kind that the number stands for, or the number, which stands for none.
abbrev pub Decodes : ℕ → Result Kind UnknownKind → Type 0
Decodes number r = MatchResult r (λ kind. number_of kind ≡ number) (λ e. (e.0 ≡ number) × Unknown number)
