use Rattle.std.proofs.Common.{◌≡◌, ◌+◌, Bool, true, false, not, drop, refl, sym, ap, ◌∙◌, arith}
use Rattle.std.specs.FinSet as set
use Rattle.std.proofs.lemmas.Option.{slice_get_within}
use Rattle.la_object.specs.OrSet.{with_ids}
use Rattle.la_object.proofs.lemmas.IdMaps.{with_ids-nil, with_ids-more, undone, nothing_new, drop_none, drop_some}
use Rattle.la_object.proofs.ids.Ids.+insert_from.Goals as goal

not_true : (b : Bool) → not b ≡ true → b ≡ false
not_true true h = sym h
not_true false h = refl

not_false : (b : Bool) → not b ≡ false → b ≡ true
not_false true h = refl
not_false false h = sym h

pub returns-in_default-clause-ok : goal.returns-in_default-clause-ok
returns-in_default-clause-ok t c =
    sym
    (ap (with_ids c.args.self.now) (drop_none c.args.ids.now c.args.place (sym c.in_default.ensures))
    ∙ with_ids-nil c.args.self.now)

pub insert_from-requires : goal.insert_from-requires
insert_from-requires t c =
    let within = slice_get_within c.args.ids.now c.args.place c.in-Some.id.now (sym c.in-Some.ensures) in
    (omega (arith, within), tt)

pub overflow_add-place : goal.overflow_add-place
overflow_add-place t c =
    let within = slice_get_within c.args.ids.now c.args.place c.in-Some.id.now (sym c.in-Some.ensures) in
    omega (arith, within, c.len-few.ensures.tags.within)

pub returns-then-new-clause-err : goal.returns-then-new-clause-err
returns-then-new-clause-err t c =
    c.remove.ensures
    ∙ ap (λ s. set.remove s c.in-Some.id.now) (c.in-Err.ensures.err ∙ c.in_ok-new.ensures.ok)
    ∙ undone c.args.self.now c.in-Some.id.now (not_true _ (sym c.in_ok-new.ensures.new ∙ c.if-new.true))

pub returns-else-new-clause-err : goal.returns-else-new-clause-err
returns-else-new-clause-err t c =
    c.in-Err.ensures.err ∙ c.in_ok-new.ensures.ok
    ∙ nothing_new c.args.self.now c.in-Some.id.now (not_false _ (sym c.in_ok-new.ensures.new ∙ c.if-new.false))

pub returns-clause-ok : goal.returns-clause-ok
returns-clause-ok t c =
    c.in_default-insert_from.ensures.ok
    ∙ ap (λ s. with_ids s (drop (c.args.place + 1) c.args.ids.now)) c.in_ok-new.ensures.ok
    ∙ with_ids-more c.args.self.now c.in-Some.id.now (drop (c.args.place + 1) c.args.ids.now)
    ∙ ap (with_ids c.args.self.now)
    (sym (drop_some c.args.ids.now c.args.place c.in-Some.id.now (sym c.in-Some.ensures)))
