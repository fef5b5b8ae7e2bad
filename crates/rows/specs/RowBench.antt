-- A row of one input: where it starts, what is done, and what must come of it; every byte of the page at the end. Then a row of an external
-- interrupt with its descriptor.
use Rattle.std.specs.Prelude.{ℕ, Bool, true, false, ◌&&◌, List, [], ◌∷◌, eqb}
use Rattle.processor.specs.Access.{access}
use Rattle.processor.specs.Rows.{same_bytes, Word, with_words}
use Rattle.processor.specs.declared.controls.Controls.{Controls}
use Rattle.processor.specs.declared.controls.Record.{Record}
use Rattle.events.specs.declared.answer.Numbers.{Numbers}
use Rattle.events.specs.Answers.{numbers}
use Rattle.events.specs.declared.event.Event.{Event}
use Rattle.events.specs.declared.event.Event.TheVariants.{MemoryWrite}
use Rattle.meaning.specs.Input.{external}
use Rattle.meaning.specs.Step.{descriptor_after}
use Rattle.meaning.specs.Run.{Held}
use Rattle.meaning.specs.Bench.{Deed, inputs, End, done, same_answers, same_record}

-- a row: the start; the deed; the answers' numbers; mode, RVI, SVI, recognition and controls at the end; the words of the page that change
pub record Row : Type 0 where
  pub begin : Held
  pub deed : Deed
  pub answers : List Numbers
  pub state : Record
  pub changed : List Word

-- what a deed leaves is what the row says; every other byte of the page is as before
abbrev pub end_holds : End → Row → Bool
end_holds e row =
    same_answers e.answers row.answers && same_record e.held.state row.state && same_bytes e.held.page (with_words row.begin.page row.changed)

-- the row holds of the definitions
unfoldable pub row_holds : Row → Bool
row_holds row = end_holds (done row.begin row.deed) row

abbrev pub rows_hold : List Row → Bool
rows_hold [] = true
rows_hold (row ∷ rows) = row_holds row && rows_hold rows

-- a row of one external interrupt: page, record, descriptor and vector; then answer, record, the page's words and every byte of the
-- descriptor
pub record Interrupt : Type 0 where
  pub begin : Held
  pub descriptor : List ℕ
  pub vector : ℕ
  pub answer : Numbers
  pub state : Record
  pub changed : List Word
  pub left : List ℕ

abbrev as_row : Interrupt → Row
as_row x =
    record { begin = x.begin; deed = inputs (external x.descriptor x.vector ∷ []); answers = x.answer ∷ []; state = x.state; changed = x.changed }

abbrev pub interrupts_hold : List Interrupt → Bool
interrupts_hold [] = true
interrupts_hold (x ∷ xs) =
    row_holds (as_row x) && same_bytes (descriptor_after x.begin.page x.begin.state x.descriptor x.vector) x.left && interrupts_hold xs

-- the numbers are these three
abbrev pub tells : Numbers → ℕ → ℕ → ℕ → Bool
tells n answer first second = eqb n.answer answer && eqb n.first first && eqb n.second second

-- mode, RVI, SVI, recognition and controls
abbrev pub state_of : Bool → ℕ → ℕ → Bool → Controls → Record
state_of guest rvi svi recognised c = record { guest = guest; rvi = rvi; svi = svi; recognised = recognised; controls = c }

abbrev pub quiet : Numbers
quiet = numbers 6 0 0

abbrev pub delivered : ℕ → Numbers
delivered vector = numbers 5 vector 0

abbrev pub exit : ℕ → ℕ → Numbers
exit reason qualification = numbers 4 reason qualification

abbrev pub refused : ℕ → ℕ → Numbers
refused number check = numbers 0 number check

abbrev pub write_eoi : Event
write_eoi = MemoryWrite (access 0x0b0 4 false false) 0
