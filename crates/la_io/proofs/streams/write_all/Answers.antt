use Rattle.la_io.proofs.lemmas.Written.{prefix_all, kept_all}
use Rattle.la_io.proofs.lemmas.Always.{always_err}
use Rattle.la_io.proofs.streams.write_all.Goals as goal

pub returns-clause-err : goal.returns-clause-err
returns-clause-err g c =
    always_err c.flush.result
    (prefix_all _ _ c.args.bytes.now (kept_all _ _ _ c.args.bytes.now c.in_ok-put_bytes.ensures.ok c.flush.ensures))
