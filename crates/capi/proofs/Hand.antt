-- A reply whose numbers are handed over. Assumes nothing.
use Prim.Native.Nat.{ℕ}
use mathlib.Core.Path.{◌∙◌}
use mathlib.Core.List.{List}
use Rattle.events.specs.declared.answer.Numbers.{Numbers}
use Rattle.replies.specs.Replies.{Reply, Replies}
use Rattle.calls.specs.Calls.{Handed}

-- numbers handed over are those of the reply
pub handed : (a : Reply) (n : Numbers) (r f s : ℕ) (b p : List ℕ) → Handed n r f s → Replies a n.answer n.first n.second b p → Replies a r f s b p
handed a n r f s b p h e =
    record {
      answer = h.answer ∙ e.answer;
      first = h.first ∙ e.first;
      second = h.second ∙ e.second;
      record_bytes = e.record_bytes;
      page = e.page;
    }
