-- Document 01, "What comes back": the number and the values of each answer. Numbers not named are 0.
use Rattle.std.specs.Prelude.{ℕ}
use Rattle.events.specs.declared.answer.Numbers.{Numbers}
use Rattle.events.specs.declared.answer.Refusal.{Refusal}
use Rattle.events.specs.declared.answer.Refusal.TheVariants.{PageLength, DescriptorLength, Bounds, Mode, EntryCheck}
use Rattle.events.specs.declared.answer.Answer.{Answer}
use Rattle.events.specs.declared.answer.Answer.TheVariants.{Refused, Redirected, Passthrough, Fault, Exit, Delivered, Quiet}

-- an answer's number and its two values
abbrev pub numbers : ℕ → ℕ → ℕ → Numbers
numbers a f s = record { answer = a; first = f; second = s }

-- the number of a refusal: 1 page length, 5 descriptor length, 2 bounds, 3 mode, 4 entry check
abbrev pub refusal_number : Refusal → ℕ
refusal_number PageLength = 1
refusal_number DescriptorLength = 5
refusal_number Bounds = 2
refusal_number Mode = 3
refusal_number (EntryCheck check) = 4

-- the check of refusal 4
abbrev pub refusal_check : Refusal → ℕ
refusal_check PageLength = 0
refusal_check DescriptorLength = 0
refusal_check Bounds = 0
refusal_check Mode = 0
refusal_check (EntryCheck check) = check

-- the numbers of a refusal
abbrev pub refusal_numbers : Refusal → Numbers
refusal_numbers refusal = numbers 0 (refusal_number refusal) (refusal_check refusal)

-- 0 refused (number, and for 4 the check); 1 redirected (value read); 2 passthrough; 3 general-protection fault;
-- 4 VM exit (reason, qualification); 5 delivered (vector); 6 quiet, the event was carried out.
abbrev pub numbers_of : Answer → Numbers
numbers_of (Refused number check) = numbers 0 number check
numbers_of (Redirected value) = numbers 1 value 0
numbers_of Passthrough = numbers 2 0 0
numbers_of Fault = numbers 3 0 0
numbers_of (Exit reason qualification) = numbers 4 reason qualification
numbers_of (Delivered vector) = numbers 5 vector 0
numbers_of Quiet = numbers 6 0 0
