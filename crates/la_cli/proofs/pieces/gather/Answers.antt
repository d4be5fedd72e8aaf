use Rattle.std.proofs.Common.{◌∙◌, subst}
use Rattle.std.specs.Io.KnownBytes.{Appends}
use Rattle.std.proofs.lemmas.Result.{on_ok_weaker, on_err_weaker}
use Rattle.la_io.specs.Streams.{AppendsPrefix}
use Rattle.la_io.proofs.lemmas.Always.{always_err}
use Rattle.la_io.proofs.lemmas.Fronts.{prefix_more, prefix_behind}
use Rattle.la_cli.proofs.Written.{none_is_held, unchanged}
use Rattle.la_cli.proofs.pieces.gather.Goals as goal

pub returns-in_err-put_held-clause-err : goal.returns-in_err-put_held-clause-err
returns-in_err-put_held-clause-err g c =
    let same = unchanged c.add.result _ _ _ c.if-add.false c.add.ensures.held in
    always_err c.from_residual.result
    (prefix_more _ _ c.args.held.now c.args.bytes.now (subst (AppendsPrefix _ _) same c.in_err-put_held.ensures.err))

pub returns-clause-ok : goal.returns-clause-ok
returns-clause-ok g c =
    let same = unchanged c.add.result _ _ _ c.if-add.false c.add.ensures.held in
    let none = unchanged c.add-2.result _ _ _ c.if-add-2.false c.add-2.ensures.held ∙ c.in_ok-put_held.ensures.none in
    on_ok_weaker c.put_bytes.result
    (none_is_held _ _ _ c.args.held.now c.args.bytes.now (subst (Appends _ _) same c.in_ok-put_held.ensures.ok) _ none)
    c.put_bytes.ensures.ok

pub returns-clause-err : goal.returns-clause-err
returns-clause-err g c =
    let same = unchanged c.add.result _ _ _ c.if-add.false c.add.ensures.held in
    on_err_weaker c.put_bytes.result
    (prefix_behind _ _ _ c.args.held.now c.args.bytes.now (subst (Appends _ _) same c.in_ok-put_held.ensures.ok))
    c.put_bytes.ensures.err
