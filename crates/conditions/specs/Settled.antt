-- The law beside the moves: what an input keeps of recognition and of VPPR, where every entry has virtual-interrupt delivery on.
use Rattle.std.specs.Prelude.{ℕ, ◌≤◌, ◌≡◌, true, false, List, if◌then◌else◌}
use Rattle.processor.specs.Controls.{virtual_delivery}
use Rattle.priorities.specs.Priorities.{class, evaluated}
use Rattle.processor.specs.declared.controls.Record.{Record}
use Rattle.processor.specs.Offsets.{vppr}
use Rattle.page.specs.Page.{byte_at}

-- in guest mode virtual-interrupt delivery is on, recognition is what evaluation gives, and VPPR's class is at least SVI's; in root
-- mode nothing is recognised
pub record Settled (p : List ℕ) (r : Record) : Type 0 where
  pub on : r.guest ≡ true → virtual_delivery r.controls ≡ true
  pub recognised : r.recognised ≡ (if r.guest then evaluated r.controls r.rvi (byte_at p vppr) else false)
  pub priority : r.guest ≡ true → class r.svi ≤ class (byte_at p vppr)
