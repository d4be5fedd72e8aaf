use Rattle.std.proofs.Common.{◌≡◌, Some, Result, Err, ap, sym, ◌∙◌, subst, rules}
use Rattle.std.specs.Prelude.{IfErr}
use Rattle.std.specs.FinMap as fin
use Rattle.la_types.proofs.KeptParts.{lacks, begun, under_none}
use Rattle.la_shelf.proofs.lemmas.Fulls.{if_full}
use Rattle.la_shelf.specs.declared.error.Refusal.{Refusal}
use Rattle.la_shelf.specs.Refusals.{IfFull}
use Rattle.la_types.specs.KeyMaps.{map_values}
use Rattle.la_types.specs.KeyedObjects.{part_full}
use Rattle.la_types.proofs.keyed_objects.Keyed.absorb_under.Goals as goal

pub returns-clause-ok : goal.returns-clause-ok
returns-clause-ok g c =
    let s = c.args.self.now.objects in
    let key = c.args.key.now in
    let w = c.absorb.new.self in
    begun g.T.Absorbs.state s c.insert.new.self key w
    (c.in_ok-insert.ensures.ok ∙ ap (λ k. fin.insert s k w) c.in_ok-from_slice.ensures.items)
    g.T.Absorbs.meaning c.args.update.now
    (lacks (fin.get s key) (sym c.has.ensures ∙ c.if-has.false))
    (c.in_ok-absorb.ensures.ok ∙ ap (λ t. g.T.Absorbs.meaning.after t c.args.update.now) c.begin-object.ensures)

pub returns-in_err-absorb-clause-full : goal.returns-in_err-absorb-clause-full
returns-in_err-absorb-clause-full g c =
    let s = c.args.self.now.objects in
    let key = c.args.key.now in
    let P = part_full g.T.Absorbs.meaning g.T.Absorbs.full (map_values g.T.Absorbs.state s)
    (Some (key, c.args.update.now)) in
    let start = c.begin-object.ensures
    ∙ under_none g.T.Absorbs.state g.T.Absorbs.meaning s key
    (sym (lacks (fin.get s key) (sym c.has.ensures ∙ c.if-has.false))) in
    let same : c.from_residual.result ≡ Err c.in_err-absorb.field-0.0 = search rules in
    subst (λ (r : Result (Unit {0}) Refusal). IfErr r (λ why. IfFull why P)) (sym same)
    (if_full c.in_err-absorb.field-0.0 _ P (subst (λ t. g.T.Absorbs.full t c.args.update.now) start)
    c.in_err-absorb.ensures.full)
