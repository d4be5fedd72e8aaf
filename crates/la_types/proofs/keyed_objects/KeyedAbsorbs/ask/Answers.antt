use Rattle.std.proofs.Common.{◌≡◌, IfOk, subst, ap, ◌∙◌}
use Rattle.std.specs.FinMap as fin
use Rattle.la_types.proofs.KeptParts.{under_one, under_none}
use Rattle.la_types.proofs.keyed_objects.KeyedAbsorbs.ask.Goals as goal

pub returns-in-Some-clause-ok : goal.returns-in-Some-clause-ok
returns-in-Some-clause-ok g c =
    let m = g.T.Absorbs.meaning in
    let s = c.args.self.now.objects in
    let query = c.args.query.now in
    let there = c.in-Some.ensures ∙ ap (fin.get s) c.as_slice.ensures in
    subst (λ t. IfOk c.ask.result (λ answer. answer ≡ m.reply t query.1))
    (under_one g.T.Absorbs.state m s query.0 c.in-Some.object.now there) c.ask.ensures.ok

pub returns-in-None-clause-ok : goal.returns-in-None-clause-ok
returns-in-None-clause-ok g c =
    let m = g.T.Absorbs.meaning in
    let s = c.args.self.now.objects in
    let query = c.args.query.now in
    let none = c.in-None.ensures ∙ ap (fin.get s) c.as_slice.ensures in
    subst (λ t. IfOk c.ask-in-None.result (λ answer. answer ≡ m.reply t query.1))
    (c.begin.ensures ∙ under_none g.T.Absorbs.state m s query.0 none) c.ask-in-None.ensures.ok
