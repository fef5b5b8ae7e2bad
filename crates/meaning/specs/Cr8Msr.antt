-- Document 01, "CR8 and MSR".
use Rattle.std.specs.Prelude.{ℕ, ◌*◌, ◌%◌, List, if◌then◌else◌}
use Rattle.priorities.specs.Priorities.{class}
use Rattle.instructions.specs.Instructions.{to_cr8, from_cr8, to_cr8_qualification, from_cr8_qualification, rdmsr_redirected, msr_offset, wrmsr}
use Rattle.processor.specs.declared.controls.Record.{Record}
use Rattle.processor.specs.declared.access.Access.{Access}
use Rattle.processor.specs.declared.access.Access.TheVariants.{Passthrough, Exit, Redirected}
use Rattle.instructions.specs.declared.msr.MsrWrite.{MsrWrite}
use Rattle.instructions.specs.declared.msr.MsrWrite.TheVariants.{Passthrough as MsrPassthrough, Fault, Tpr, Eoi, SelfIpi, ApicWrite}
use Rattle.processor.specs.Offsets.{vtpr}
use Rattle.page.specs.Page.{byte_at, long_at}
use Rattle.stores.specs.Stores.{set_word, set_long}
use Rattle.meaning.specs.After.{After, redirected, passthrough, fault, exit}
use Rattle.meaning.specs.Procedures.{tpr_virtualization, eoi_virtualization, self_ipi_virtualization}

-- To CR8: exit 28; else passthrough; else VTPR's four bytes become 16 × value, TPR virtualization.
unfoldable pub to_cr8_by : Access → List ℕ → Record → ℕ → ℕ → After
to_cr8_by Passthrough p r value register = passthrough p r
to_cr8_by Exit p r value register = exit 28 (to_cr8_qualification register) p r
to_cr8_by Redirected p r value register = tpr_virtualization (set_word p vtpr (16 * value)) r

unfoldable pub mov_to_cr8 : List ℕ → Record → ℕ → ℕ → After
mov_to_cr8 p r value register = to_cr8_by (to_cr8 r.controls) p r value register

-- From CR8: exit 28; passthrough; else redirected VTPR class.
unfoldable pub from_cr8_by : Access → List ℕ → Record → ℕ → After
from_cr8_by Passthrough p r register = passthrough p r
from_cr8_by Exit p r register = exit 28 (from_cr8_qualification register) p r
from_cr8_by Redirected p r register = redirected (class (byte_at p vtpr)) p r

unfoldable pub mov_from_cr8 : List ℕ → Record → ℕ → After
mov_from_cr8 p r register = from_cr8_by (from_cr8 r.controls) p r register

-- RDMSR: redirected eight bytes, or passthrough.
unfoldable pub read_msr : List ℕ → Record → ℕ → After
read_msr p r index =
    if rdmsr_redirected r.controls index then redirected (long_at p (msr_offset index)) p r
    else passthrough p r

-- WRMSR: passthrough; fault; else the eight bytes are stored at the same offset, then: 808H TPR virtualization; 80BH EOI
-- virtualization; 83FH self-IPI virtualization of the low byte, or exit 56 with qualification 3F0H.
unfoldable pub write_msr_by : MsrWrite → List ℕ → Record → ℕ → ℕ → After
write_msr_by MsrPassthrough p r index value = passthrough p r
write_msr_by Fault p r index value = fault p r
write_msr_by Tpr p r index value = tpr_virtualization (set_long p (msr_offset index) value) r
write_msr_by Eoi p r index value = eoi_virtualization (set_long p (msr_offset index) value) r
write_msr_by SelfIpi p r index value = self_ipi_virtualization (set_long p (msr_offset index) value) r (value % 0x100)
write_msr_by ApicWrite p r index value = exit 56 0x3f0 (set_long p (msr_offset index) value) r

unfoldable pub write_msr : List ℕ → Record → ℕ → ℕ → After
write_msr p r index value = write_msr_by (wrmsr r.controls index value) p r index value
