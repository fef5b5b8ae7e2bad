-- What the rows start from, and how a row of one input is written: the page, the record and the input; then the answer, the record, and the
-- words of the page that change. Every other byte of the page is as before.
use Rattle.std.specs.Prelude.{ℕ, Bool, true, false, List, [], ◌∷◌, ◌++◌, replicate}
use Rattle.processor.specs.Rows.{Word, with_words}
use Rattle.processor.specs.declared.controls.Controls.{Controls}
use Rattle.processor.specs.declared.controls.Record.{Record}
use Rattle.events.specs.declared.answer.Numbers.{Numbers}
use Rattle.events.specs.Answers.{numbers}
use Rattle.events.specs.declared.event.Event.{Event}
use Rattle.meaning.specs.Input.{Input, given}
use Rattle.meaning.specs.Bench.{inputs}
use Rattle.rows.specs.RowBench.{Row, state_of}

-- eight words of 0, sixteen bytes apart, the bytes between them marked A5
abbrev empty_word : List ℕ
empty_word = replicate 4 0x00 ++ replicate 12 0xa5

abbrev empty_register : List ℕ
empty_register = empty_word ++ empty_word ++ empty_word ++ empty_word ++ empty_word ++ empty_word ++ empty_word ++ empty_word

-- a page with every byte marked A5 but for VISR and VIRR, which are empty
abbrev background : List ℕ
background = replicate 0x100 0xa5 ++ empty_register ++ replicate 0x80 0xa5 ++ empty_register ++ replicate 0xd80 0xa5

-- the same with these words
abbrev pub marked : List Word → List ℕ
marked ws = with_words background ws

-- controls with every field different; the EOI-exit bits are those of 00, 04, 41, 45, 82, 86, C3 and C7
abbrev pub busy : ℕ → ℕ → Controls
busy flags threshold =
    record { flags = flags; threshold = threshold; notification = 0x1f2; eoi_exit_0 = 0x11; eoi_exit_1 = 0x22; eoi_exit_2 = 0x44; eoi_exit_3 = 0x88 }

-- in guest mode, in root mode: RVI, SVI, whether an interrupt is recognised, the controls
abbrev pub guest : ℕ → ℕ → Bool → Controls → Record
guest rvi svi recognised c = state_of true rvi svi recognised c

abbrev pub root : ℕ → ℕ → Bool → Controls → Record
root rvi svi recognised c = state_of false rvi svi recognised c

abbrev pub redirected : ℕ → Numbers
redirected value = numbers 1 value 0

abbrev pub passthrough : Numbers
passthrough = numbers 2 0 0

abbrev pub fault : Numbers
fault = numbers 3 0 0

-- a row of one input
abbrev pub of : List ℕ → Record → Input → Numbers → Record → List Word → Row
of p r i a state ws = record { begin = record { page = p; state = r }; deed = inputs (i ∷ []); answers = a ∷ []; state = state; changed = ws }

-- a row of one event
abbrev pub of_event : List ℕ → Record → Event → Numbers → Record → List Word → Row
of_event p r e a state ws = of p r (given e) a state ws

-- a row of one event that changes nothing
abbrev pub keeps : List ℕ → Record → Event → Numbers → Row
keeps p r e a = of_event p r e a r []
