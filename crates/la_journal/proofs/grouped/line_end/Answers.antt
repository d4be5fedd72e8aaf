use Rattle.std.proofs.lemmas.Bool.{ne_eqb}
use Rattle.la_journal.proofs.NextGroup.{no_end_more}
use Rattle.la_journal.proofs.grouped.line_end.Goals as goal

pub loop-n-preserved : goal.loop-n-preserved
loop-n-preserved c =
    no_end_more c.args.bytes.now c.loop-n.n c.loop-n-test.true c.loop-n.invariant
    (ne_eqb _ 10 c.if-bytes-n-eq10.false)
