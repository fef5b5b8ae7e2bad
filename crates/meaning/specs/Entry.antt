-- Document 01, "Entry and request".
use Rattle.std.specs.Prelude.{ℕ, true, false, List, if◌then◌else◌}
use Rattle.processor.specs.Controls.{virtual_delivery, with_guest, with_recognised, with_controls}
use Rattle.rules.specs.EntryChecks.{exits_at_entry}
use Rattle.processor.specs.declared.controls.Controls.{Controls}
use Rattle.processor.specs.declared.controls.Record.{Record}
use Rattle.processor.specs.Offsets.{vtpr}
use Rattle.page.specs.Page.{byte_at}
use Rattle.meaning.specs.After.{After, exit, quiet}
use Rattle.meaning.specs.Procedures.{ppr_virtualization, evaluated_quiet, requested_page, requested_record}

-- if VID is on, PPR virtualization, then evaluation; if off, nothing is recognised. Quiet.
unfoldable pub entered : List ℕ → Record → After
entered p r =
    if virtual_delivery r.controls then evaluated_quiet (ppr_virtualization p r) r
    else quiet p (with_recognised r false)

-- After the checks: with APIC accesses virtualised, a threshold above VTPR's class (shadow on, VID off) gives exit 43 at once; the record
-- takes these controls, page and RVI, SVI stay. Else guest mode with these controls.
unfoldable pub entry : List ℕ → Record → Controls → After
entry p r c =
    if exits_at_entry c (byte_at p vtpr) then exit 43 0 p (with_controls r c)
    else entered p (with_guest (with_controls r c) true)

-- Request: set the VIRR bit, RVI becomes the larger of RVI and the vector. Quiet.
unfoldable pub request : List ℕ → Record → ℕ → After
request p r vector = quiet (requested_page p vector) (requested_record r vector)
