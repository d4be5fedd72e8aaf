use Rattle.std.proofs.Common.{◌≡◌, Some, None, OnOk, ap, sym, ◌∙◌, subst, refl}
use Rattle.std.specs.Option.{IsSome}
use Rattle.std.specs.FinMap as map
use Rattle.la_types.specs.Keyed.{or_later}
use Rattle.la_types.specs.KeyOrder.{key_total, key_tied}
use Rattle.la_types.proofs.lemmas.FiniteMaps.{get-lookup, one_put}
use Rattle.la_types.proofs.keyed.KeyedWrites.take.Goals as goal

pub returns-in-Some-clause-ok : goal.returns-in-Some-clause-ok
returns-in-Some-clause-ok c =
    let es = c.self.inside.of.entries in let key = c.args.key in let kept = c.keep_later.new.last in
    let there : Some c.in-Some.last.now ≡ map.get c.args.self.now key =
    c.in-Some.ensures.value ∙ sym (get-lookup key_total es key) ∙ ap (λ m. map.get m key) c.self.view_is in
    one_put key_total key_tied es (c.get_mut.follows.lender kept).entries key kept
    ((c.get_mut.follows.holds kept).3 (subst IsSome c.in-Some.ensures.value refl)).0
    ∙ (λ i. map.insert (c.self.view_is i) key (c.keep_later.ensures i))
    ∙ ap (λ o. map.insert c.args.self.now key (or_later o c.args.write)) there

pub returns-clause-ok : goal.returns-clause-ok
returns-clause-ok c =
    let es = c.self.inside.of.entries in let key = c.args.key in
    let none : None ≡ map.get c.args.self.now key =
    c.in_default.ensures.value ∙ sym (get-lookup key_total es key) ∙ ap (λ m. map.get m key) c.self.view_is in
    let same : map.from_entries c.get_mut.follows.lender-at-none.entries ≡ c.args.self.now =
    ap (λ m. map.from_entries m.entries) c.get_mut.follows.holds-at-none ∙ c.self.view_is in
    let new = c.insert.new.self in
    subst (λ o. OnOk c.insert.result (new ≡ map.insert c.args.self.now key (or_later o c.args.write))) none
    (subst (λ m. OnOk c.insert.result (new ≡ map.insert m key c.args.write)) same c.insert.ensures.ok)
