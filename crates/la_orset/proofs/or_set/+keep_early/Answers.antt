use Rattle.std.proofs.Common.{◌≡◌, ◌+◌, Bool, true, false, not, drop, refl, sym, ap, ◌∙◌, subst, arith}
use Rattle.std.specs.FinSet as set
use Rattle.std.proofs.lemmas.Option.{slice_get_within}
use Rattle.la_orset.specs.Puts.{KeepsEarly}
use Rattle.la_object.proofs.lemmas.IdMaps.{undone, nothing_new, drop_none, drop_some}
use Rattle.la_orset.proofs.LiveTags.{on_ok}
use Rattle.la_orset.proofs.Absorbed.{keeps_none, keeps_put, keeps_more}
use Rattle.la_orset.proofs.or_set.+keep_early.Goals as goal

not_true : (b : Bool) → not b ≡ true → b ≡ false
not_true true h = sym h
not_true false h = refl

not_false : (b : Bool) → not b ≡ false → b ≡ true
not_false true h = refl
not_false false h = sym h

pub returns-in_default-clause-ok : goal.returns-in_default-clause-ok
returns-in_default-clause-ok t c =
    subst (λ ids. KeepsEarly c.args.early.now c.args.puts.now ids c.args.early.now)
    (sym (drop_none c.args.ids.now c.args.place (sym c.in_default.ensures)))
    (keeps_none c.args.early.now c.args.puts.now)

pub keep_early-requires : goal.keep_early-requires
keep_early-requires t c =
    let within = slice_get_within c.args.ids.now c.args.place c.in-Some.id.now (sym c.in-Some.ensures) in
    (omega (arith, within), tt)

pub overflow_add-place : goal.overflow_add-place
overflow_add-place t c =
    let within = slice_get_within c.args.ids.now c.args.place c.in-Some.id.now (sym c.in-Some.ensures) in
    omega (arith, within, c.len-few.ensures.tags.within)

pub keep_early-requires-2 : goal.keep_early-requires-2
keep_early-requires-2 t c =
    let within = slice_get_within c.args.ids.now c.args.place c.in-Some.id.now (sym c.in-Some.ensures) in
    (omega (arith, within), tt)

pub overflow_add-place-2 : goal.overflow_add-place-2
overflow_add-place-2 t c =
    let within = slice_get_within c.args.ids.now c.args.place c.in-Some.id.now (sym c.in-Some.ensures) in
    omega (arith, within, c.len-few.ensures.tags.within)

pub returns-then-has-clause-ok : goal.returns-then-has-clause-ok
returns-then-has-clause-ok t c =
    let early = c.args.early.now in let puts = c.args.puts.now in let id = c.in-Some.id.now in
    on_ok c.keep_early.result _ _
    (λ rest. subst (λ ids. KeepsEarly early puts ids c.keep_early.new.early) (sym (drop_some c.args.ids.now c.args.place id (sym c.in-Some.ensures)))
    (keeps_put early puts id (drop (c.args.place + 1) c.args.ids.now) c.keep_early.new.early (sym c.has.ensures ∙ c.if-has.true) rest)) c.keep_early.ensures.ok

pub returns-then-new-clause-err : goal.returns-then-new-clause-err
returns-then-new-clause-err t c =
    c.remove.ensures
    ∙ ap (λ s. set.remove s c.in-Some.id.now) (c.in-Err.ensures.err ∙ c.in_ok-new.ensures.ok)
    ∙ undone c.args.early.now c.in-Some.id.now (not_true _ (sym c.in_ok-new.ensures.new ∙ c.if-new.true))

pub returns-else-new-clause-err : goal.returns-else-new-clause-err
returns-else-new-clause-err t c =
    c.in-Err.ensures.err ∙ c.in_ok-new.ensures.ok
    ∙ nothing_new c.args.early.now c.in-Some.id.now (not_false _ (sym c.in_ok-new.ensures.new ∙ c.if-new.false))

pub returns-clause-ok : goal.returns-clause-ok
returns-clause-ok t c =
    let early =
    c.args.early.now in let puts = c.args.puts.now in let id = c.in-Some.id.now in let new = c.keep_early-2.new.early
    in
    let rest = drop (c.args.place + 1) c.args.ids.now in
    subst (λ ids. KeepsEarly early puts ids new)
    (sym (drop_some c.args.ids.now c.args.place id (sym c.in-Some.ensures)))
    (keeps_more early puts id rest new (sym c.has.ensures ∙ c.if-has.false)
    (subst (λ s. KeepsEarly s puts rest new) c.in_ok-new.ensures.ok c.in_default-keep_early.ensures.ok))
