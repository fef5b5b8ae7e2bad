-- Document 01, "Memory accesses".
use Rattle.std.specs.Prelude.{ℕ, ◌+◌, Bool, true, false, List}
use Rattle.accesses.specs.Accesses.{memory_access, read_qualification, write_qualification, write_following}
use Rattle.processor.specs.declared.controls.Record.{Record}
use Rattle.processor.specs.declared.access.Access.{Access}
use Rattle.processor.specs.declared.access.Access.TheVariants.{Passthrough, Exit, Redirected}
use Rattle.accesses.specs.declared.memory.Following.{Following}
use Rattle.accesses.specs.declared.memory.Following.TheVariants.{Tpr, Eoi, SelfIpi, IcrHigh, ApicWrite}
use Rattle.processor.specs.Offsets.{vtpr, veoi, vicr_lo, vicr_hi}
use Rattle.page.specs.Page.{byte_at, word_at}
use Rattle.stores.specs.Stores.{set_byte, set_word}
use Rattle.sizes.specs.Sizes.{read_at, store_at}
use Rattle.meaning.specs.After.{After, redirected, passthrough, exit, quiet}
use Rattle.meaning.specs.Procedures.{tpr_virtualization, eoi_virtualization, self_ipi_virtualization}

-- A redirected read gives the bytes.
unfoldable pub read_by : Access → List ℕ → Record → ℕ → ℕ → Bool → After
read_by Passthrough p r offset size fetch = passthrough p r
read_by Exit p r offset size fetch = exit 44 (read_qualification offset fetch) p r
read_by Redirected p r offset size fetch = redirected (read_at p offset size) p r

unfoldable pub memory_read : List ℕ → Record → ℕ → ℕ → Bool → Bool → After
memory_read p r offset size fetch already = read_by (memory_access r.controls false offset size fetch already) p r offset size fetch

-- three bytes cleared
unfoldable pub clear_three : List ℕ → ℕ → List ℕ
clear_three p at = set_byte (set_byte (set_byte p at 0) (at + 1) 0) (at + 2) 0

-- 080 clears VTPR's bytes 3:1 and does TPR virtualization. 0B0, VID on: clears VEOI, EOI virtualization. 300, VID on: self-IPI
-- virtualization of VICR_LO's low byte. 310 to 313 clears VICR_HI's bytes 2:0, quiet. Everything else: exit 56, qualification the
-- offset.
unfoldable pub follow_by : Following → List ℕ → Record → ℕ → After
follow_by Tpr p r offset = tpr_virtualization (clear_three p (vtpr + 1)) r
follow_by Eoi p r offset = eoi_virtualization (set_word p veoi 0) r
follow_by SelfIpi p r offset = self_ipi_virtualization p r (byte_at p vicr_lo)
follow_by IcrHigh p r offset = quiet (clear_three p vicr_hi) r
follow_by ApicWrite p r offset = exit 56 offset p r

unfoldable pub written : List ℕ → Record → ℕ → After
written p r offset = follow_by (write_following r.controls offset (word_at p vicr_lo)) p r offset

-- A redirected write stores its bytes, then by offset. Only the stated follow-up is skipped when a condition fails; the stored bytes
-- stay.
unfoldable pub write_by : Access → List ℕ → Record → ℕ → ℕ → ℕ → After
write_by Passthrough p r offset size value = passthrough p r
write_by Exit p r offset size value = exit 44 (write_qualification offset) p r
write_by Redirected p r offset size value = written (store_at p offset size value) r offset

unfoldable pub memory_write : List ℕ → Record → ℕ → ℕ → Bool → Bool → ℕ → After
memory_write p r offset size fetch already value =
    write_by (memory_access r.controls true offset size fetch already) p r offset size value
