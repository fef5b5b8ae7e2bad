-- The word, then the number after it.
use Rattle.text.proofs.Writing.{writes-append}
use Rattle.text.proofs.lines.last_line.Goals as goal

pub returns : goal.returns
returns c = writes-append c.put_all-next.ensures c.field.ensures
