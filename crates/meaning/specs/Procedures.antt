-- Document 01, "The five procedures".
use Rattle.std.specs.Prelude.{ℕ, List, if◌then◌else◌}
use Rattle.processor.specs.Logic.{larger}
use Rattle.processor.specs.Controls.{virtual_delivery, eoi_exit, with_rvi, with_svi, with_recognised}
use Rattle.priorities.specs.Priorities.{ppr, below_threshold, evaluated}
use Rattle.processor.specs.declared.controls.Record.{Record}
use Rattle.processor.specs.Offsets.{vtpr, vppr, visr, virr}
use Rattle.page.specs.Page.{byte_at}
use Rattle.stores.specs.Stores.{set_word}
use Rattle.registers.specs.Vectors.{set_vector, clear_vector, highest}
use Rattle.meaning.specs.After.{After, exit, quiet}

-- PPR virtualization: if VTPR's class ≥ SVI's class, VPPR (32 bits) is VTPR's low byte, else SVI with its low four bits cleared.
unfoldable pub ppr_virtualization : List ℕ → Record → List ℕ
ppr_virtualization p r = set_word p vppr (ppr (byte_at p vtpr) r.svi)

-- Evaluation: recognised exactly if control 6 is off and RVI's class > VPPR's class.
unfoldable pub evaluation : List ℕ → Record → Record
evaluation p r = with_recognised r (evaluated r.controls r.rvi (byte_at p vppr))

-- evaluation, quiet
unfoldable pub evaluated_quiet : List ℕ → Record → After
evaluated_quiet p r = quiet p (evaluation p r)

-- TPR virtualization: VID off, exit 43 if VTPR's class is below threshold bits 3:0, else quiet. VID on: PPR virtualization,
-- evaluation, quiet.
unfoldable pub tpr_virtualization : List ℕ → Record → After
tpr_virtualization p r =
    if virtual_delivery r.controls then evaluated_quiet (ppr_virtualization p r) r
    else if below_threshold r.controls (byte_at p vtpr) then exit 43 0 p r
    else quiet p r

-- EOI virtualization: old = SVI; clear VISR bit old; SVI = highest in VISR;
unfoldable pub retired_page : List ℕ → Record → List ℕ
retired_page p r = clear_vector p visr r.svi

unfoldable pub retired_record : List ℕ → Record → Record
retired_record p r = with_svi r (highest (retired_page p r) visr)

-- PPR virtualization; exit 45 with qualification old if its EOI-exit bit is set, else evaluation, quiet.
unfoldable pub eoi_end : ℕ → List ℕ → Record → After
eoi_end old p r =
    if eoi_exit r.controls old then exit 45 old (ppr_virtualization p r) r
    else evaluated_quiet (ppr_virtualization p r) r

unfoldable pub eoi_virtualization : List ℕ → Record → After
eoi_virtualization p r = eoi_end r.svi (retired_page p r) (retired_record p r)

-- Request: set the VIRR bit, RVI becomes the larger of RVI and the vector.
unfoldable pub requested_page : List ℕ → ℕ → List ℕ
requested_page p vector = set_vector p virr vector

unfoldable pub requested_record : Record → ℕ → Record
requested_record r vector = with_rvi r (larger r.rvi vector)

-- Self-IPI virtualization: as request, then evaluation, quiet.
unfoldable pub self_ipi_virtualization : List ℕ → Record → ℕ → After
self_ipi_virtualization p r vector = evaluated_quiet (requested_page p vector) (requested_record r vector)
