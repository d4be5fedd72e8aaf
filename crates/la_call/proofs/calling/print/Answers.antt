use Rattle.std.proofs.Common.{◌∷◌, []}
use Rattle.la_io.proofs.lemmas.Always.{always_err}
use Rattle.la_io.proofs.lemmas.Fronts.{prefix_more}
use Rattle.la_call.proofs.Printed.{prefix_then}
use Rattle.la_call.proofs.calling.print.Goals as goal

pub returns-in_err-put_bytes-clause-err : goal.returns-in_err-put_bytes-clause-err
returns-in_err-put_bytes-clause-err g c =
    always_err c.from_residual.result (prefix_more _ _ c.args.line.now (10 ∷ []) c.in_err-put_bytes.ensures.err)

pub returns-clause-err : goal.returns-clause-err
returns-clause-err g c =
    prefix_then c.write_all.result _ _ _ c.args.line.now (10 ∷ []) c.in_ok-put_bytes.ensures.ok c.write_all.ensures.err
