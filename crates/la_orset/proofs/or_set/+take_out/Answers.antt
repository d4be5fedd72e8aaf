use Rattle.std.proofs.Common.{◌≡◌, ◌+◌, drop, sym, ap, ◌∙◌, subst, arith}
use Rattle.std.specs.FinSet as set
use Rattle.std.proofs.lemmas.Option.{slice_get_within}
use Rattle.la_object.specs.OrSet.{with_ids}
use Rattle.la_orset.specs.Index.{IsIndex}
use Rattle.la_orset.specs.Puts.{adds_of, named_of, NamesPut, AreGone}
use Rattle.la_object.proofs.lemmas.IdMaps.{with_ids-nil, with_ids-more, drop_none, drop_some}
use Rattle.la_orset.proofs.Absorbed.{adds_named, names_none, names_more, are_gone_more}
use Rattle.la_orset.proofs.or_set.+take_out.Goals as goal

pub returns-in_default-clause-named : goal.returns-in_default-clause-named
returns-in_default-clause-named t c =
    subst (λ ids. NamesPut c.args.puts.now ids c.args.puts.now)
    (sym (drop_none c.args.ids.now c.args.place (sym c.in_default.ensures))) (names_none c.args.puts.now)

pub returns-in_default-clause-live : goal.returns-in_default-clause-live
returns-in_default-clause-live t c =
    λ gone are ix.
    subst (λ g. IsIndex (adds_of c.args.puts.now) g c.args.live.now)
    (sym (ap (with_ids gone) (drop_none c.args.ids.now c.args.place (sym c.in_default.ensures)) ∙ with_ids-nil gone))
    ix

pub overflow_add-place : goal.overflow_add-place
overflow_add-place t c =
    let within = slice_get_within c.args.ids.now c.args.place c.in-Some.id.now (sym c.in-Some.ensures) in
    omega (arith, within, c.len-few.ensures.tags.within)

pub take_out-requires : goal.take_out-requires
take_out-requires t c =
    let within = slice_get_within c.args.ids.now c.args.place c.in-Some.id.now (sym c.in-Some.ensures) in
    (omega (arith, within), tt)

pub returns-clause-adds : goal.returns-clause-adds
returns-clause-adds t c =
    c.take_out.ensures.adds ∙ ap adds_of c.take_one.ensures.named ∙ adds_named c.args.puts.now c.in-Some.id.now

pub returns-clause-named : goal.returns-clause-named
returns-clause-named t c =
    let puts = c.args.puts.now in let id = c.in-Some.id.now in
    subst (λ ids. NamesPut puts ids c.take_out.new.puts)
    (sym (drop_some c.args.ids.now c.args.place id (sym c.in-Some.ensures)))
    (names_more puts id (drop (c.args.place + 1) c.args.ids.now) c.take_out.new.puts
    (subst (λ p. NamesPut p (drop (c.args.place + 1) c.args.ids.now) c.take_out.new.puts) c.take_one.ensures.named c.take_out.ensures.named))

pub returns-clause-live : goal.returns-clause-live
returns-clause-live t c = λ gone are ix.
    let puts = c.args.puts.now in let id = c.in-Some.id.now in let mid = c.take_one.new.puts in
    let adds : adds_of mid ≡ adds_of puts = ap adds_of c.take_one.ensures.named ∙ adds_named puts id in
    let step =
    subst (λ a. IsIndex a (set.insert gone id) c.take_one.new.live) (sym adds) (c.take_one.ensures.live gone are ix)
    in
    let more =
    subst (λ p. AreGone (named_of p) (set.insert gone id)) (sym c.take_one.ensures.named)
    (are_gone_more puts id gone are) in
    subst (λ g. IsIndex (adds_of puts) g c.take_out.new.live)
    (with_ids-more gone id (drop (c.args.place + 1) c.args.ids.now)
    ∙ ap (with_ids gone) (sym (drop_some c.args.ids.now c.args.place id (sym c.in-Some.ensures))))
    (subst (λ a. IsIndex a (with_ids (set.insert gone id) (drop (c.args.place + 1) c.args.ids.now)) c.take_out.new.live) adds
    (c.take_out.ensures.live (set.insert gone id) more step))
