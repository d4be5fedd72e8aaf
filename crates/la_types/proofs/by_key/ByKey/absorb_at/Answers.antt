use Rattle.std.proofs.Common.{is_some, refl, ap, sym, ◌∙◌, subst, true≢false}
use Rattle.std.specs.FinMap as fin
use Rattle.std.specs.Vec.{vec_items}
use Rattle.la_types.proofs.KeyEntries.{found_is, one_put}
use Rattle.la_types.proofs.KeptParts.{on_ok, on_err, absorbed, kept, under_one}
use Rattle.la_shelf.proofs.lemmas.Fulls.{err_full}
use Rattle.la_types.proofs.by_key.ByKey.absorb_at.Goals as goal

pub unreachable-requires : goal.unreachable-requires
unreachable-requires g c =
    let key = c.args.key.now in
    true≢false
    (sym c.requires
    ∙ ap is_some
    (sym (c.in-None.ensures.value ∙ found_is vec_items c.self.inside.of.entries key
    ∙ ap (λ m. fin.get m key) c.self.view_is)))

pub returns-clause-ok : goal.returns-clause-ok
returns-clause-ok g c =
    let key = c.args.key.now in
    let es = c.self.inside.of.entries in
    let w = c.absorb.new.self in
    let there = c.in-Some.ensures.value in
    let updates = (c.get_mut.follows.holds w).3 (ap is_some (sym there)) in
    let put = one_put vec_items _ (λ x y. refl) es (c.get_mut.follows.lender w).entries key w updates.3 updates.1
    ∙ ap (λ m. fin.insert m key w) c.self.view_is in
    let at = sym (there ∙ found_is vec_items es key ∙ ap (λ m. fin.get m key) c.self.view_is) in
    on_ok c.absorb.result (absorbed g.T.Absorbs.state c.args.self.now _ key w put g.T.Absorbs.meaning c.args.update.now
    c.in-Some.object.now at) c.absorb.ensures.ok

pub returns-clause-err : goal.returns-clause-err
returns-clause-err g c =
    let key = c.args.key.now in
    let es = c.self.inside.of.entries in
    let w = c.absorb.new.self in
    let there = c.in-Some.ensures.value in
    let updates = (c.get_mut.follows.holds w).3 (ap is_some (sym there)) in
    let put = one_put vec_items _ (λ x y. refl) es (c.get_mut.follows.lender w).entries key w updates.3 updates.1
    ∙ ap (λ m. fin.insert m key w) c.self.view_is in
    let at = sym (there ∙ found_is vec_items es key ∙ ap (λ m. fin.get m key) c.self.view_is) in
    on_err c.absorb.result (kept g.T.Absorbs.state c.args.self.now _ key w put c.in-Some.object.now at)
    c.absorb.ensures.err

pub returns-clause-full : goal.returns-clause-full
returns-clause-full g c =
    let key = c.args.key.now in
    let es = c.self.inside.of.entries in
    let at = c.in-Some.ensures.value ∙ found_is vec_items es key ∙ ap (λ m. fin.get m key) c.self.view_is in
    err_full c.absorb.result _ _
    (subst (λ s. g.T.Absorbs.full s c.args.update.now)
    (under_one g.T.Absorbs.state g.T.Absorbs.meaning c.args.self.now key c.in-Some.object.now at)) c.absorb.ensures.full
