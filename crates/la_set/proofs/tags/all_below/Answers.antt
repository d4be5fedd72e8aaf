use Rattle.std.proofs.Common.{◌-◌, ◌∙◌, length, get_or, sym, subst, inl, inr, arith}
use Rattle.std.proofs.lemmas.Bool.{cases_order}
use Rattle.std.proofs.lemmas.List.{get_or_default}
use Rattle.la_set.specs.declared.update.UpdateId.{UpdateId}
use Rattle.la_set.specs.Ids.{IsBelow}
use Rattle.la_set.proofs.lemmas.IdOrder.{lt-below, below_trans}
use Rattle.la_set.proofs.tags.all_below.Goals as goal

pub returns : goal.returns
returns c = λ t k d lt.
    let ids = c.args.ids.now in let id = c.args.id in let end = length ids - 1 in
    let none : UpdateId = record { replica = 0; number = 0 } in
    let read : IsBelow (get_or ids end none) id = lt-below (get_or ids end none) id (sym c.lt.ensures ∙ t) in
    let last : IsBelow (get_or ids end d) id =
    subst (λ tag. IsBelow tag id) (get_or_default ids end none d (omega (arith, c.if-len-eq0.false))) read in
    elim (cases_order k end) [
      | inl same ↦ subst (λ j. IsBelow (get_or ids j d) id) (sym same) last
      | inr differ ↦ elim differ [
        | inl before ↦ below_trans (get_or ids k d) (get_or ids end d) id (c.requires k end d before (omega (arith, lt))) last
        | inr after ↦ absurd (omega (arith, lt, after))
      ]
    ]
