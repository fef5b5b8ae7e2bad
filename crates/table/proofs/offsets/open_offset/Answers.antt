-- Each setting's marks say what its rule says.
use Rattle.table.specs.Table.{open_offset}
use Rattle.table.proofs.Open.{rule}
use Rattle.table.proofs.offsets.open_offset.Goals as goal

pub returns-then-write : goal.returns-then-write
unfolding open_offset
returns-then-write c =
    simp (← c.has.ensures, c.if-has.true, c.if-write.true, c.marked.ensures)
    (rule c.open_table-table.result c.open_table-table.ensures c.args.offset).write

pub returns-then-has : goal.returns-then-has
unfolding open_offset
returns-then-has c =
    simp (← c.has.ensures, c.if-has.true, c.if-write.false, c.marked-then-has.ensures)
    (rule c.open_table-table.result c.open_table-table.ensures c.args.offset).read

pub returns-then-has-2 : goal.returns-then-has-2
unfolding open_offset
returns-then-has-2 c =
    simp (← c.has.ensures, c.if-has.false, ← c.has-2.ensures, c.if-has-2.true, c.marked-then-has-2.ensures)
    (rule c.open_table-table.result c.open_table-table.ensures c.args.offset).delivery

pub returns : goal.returns
unfolding open_offset
returns c =
    simp (← c.has.ensures, c.if-has.false, ← c.has-2.ensures, c.if-has-2.false, c.marked-2.ensures)
    (rule c.open_table-table.result c.open_table-table.ensures c.args.offset).tpr
