use Rattle.std.proofs.Common.{◌≡◌, ◌<◌, ◌≤◌, take, length, refl, inl, inr, sym, ap, ◌∙◌, arith}
use Rattle.std.specs.List.{list_any}
use Rattle.std.specs.FinMap as map
use Rattle.std.proofs.lemmas.Bool.{cases_lt, false≢true}
use Rattle.std.proofs.lemmas.List.{take_all, length-take}
use Rattle.std.proofs.lemmas.Result.{err_from_is_err_and}
use Rattle.la_orset.specs.Index.{same_id}
use Rattle.la_orset.proofs.Lists.{length-list, pushed_at, no_more, ascending-list}
use Rattle.la_orset.proofs.tag_list.TagList.tags.Goals as goal

pub returns-then-len-gt-MAX_TAGS-clause-error : goal.returns-then-len-gt-MAX_TAGS-clause-error
returns-then-len-gt-MAX_TAGS-clause-error c =
    let ids = c.self.inside.ids.items in
    let whole : length (map.keys c.args.self.now) ≡ length ids =
    ap (λ s. length (map.keys s)) (sym c.self.view_is) ∙ length-list ids c.self.invariant in
    omega (arith, whole, c.self.inside.ids.ok, c.if-len-gt-MAX_TAGS.true, c.len.ensures)

pub returns-in_err-tags-clause-error : goal.returns-in_err-tags-clause-error
returns-in_err-tags-clause-error c =
    let ids = c.self.inside.ids.items in
    let whole : length (map.keys c.args.self.now) ≡ length ids =
    ap (λ s. length (map.keys s)) (sym c.self.view_is) ∙ length-list ids c.self.invariant in
    let many : 2 < c.len-2.result = elim (cases_lt 2 c.len-2.result) [
      | inl lt ↦ lt
      | inr le ↦ absurd (false≢true (c.in_err-tags.ensures.room le))
    ] in
    let refused = err_from_is_err_and c.from_residual.result c.from_residual.ensures.1 in
    rw (refused.1, refused.2) (
      omega (arith, whole, many, c.len-2.ensures, c.self.inside.ids.ok),
      omega
          (arith, whole, c.if-len-gt-MAX_TAGS.false, c.len.ensures, c.self.inside.ids.ok),
    )

pub returns-in_default-clause-error : goal.returns-in_default-clause-error
returns-in_default-clause-error c =
    let ids = c.self.inside.ids.items in let tags = c.loop-id.tags in let i = c.loop-id.id-index in
    let whole : length (map.keys c.args.self.now) ≡ length ids =
    ap (λ s. length (map.keys s)) (sym c.self.view_is) ∙ length-list ids c.self.invariant in
    let shown = c.as_slice-id-items.ensures.value in
    let few =
    no_more tags (take i c.as_slice-id-items.result.now) c.len-ascending.ensures.tags.ascending c.loop-id.invariant in
    let many : 2 ≤ length tags = elim (cases_lt (length tags) 2) [
      | inl lt ↦ absurd (false≢true (c.in_default.ensures.room lt))
      | inr le ↦ le
    ] in (
      omega
          (arith, whole, many, few, length-take i c.as_slice-id-items.result.now, ap length shown, c.loop-id-test.true),
      omega (arith, whole, c.if-len-gt-MAX_TAGS.false, c.len.ensures),
    )

pub loop-id-preserved : goal.loop-id-preserved
loop-id-preserved c = λ q.
    let ids = c.as_slice-id-items.result.now in let tags = c.loop-id.tags in let i = c.loop-id.id-index in
    pushed_at tags c.push.new.self ids i _ _ c.in-Ok.field-0 c.in-Ok.ensures.ok c.in-Ok.ensures.new refl
    c.loop-id-test.true c.loop-id.invariant q

pub returns-clause-ok : goal.returns-clause-ok
returns-clause-ok c =
    let ids = c.self.inside.ids.items in let shown = c.as_slice-id-items.result.now in let i = c.loop-id.id-index in
    let all : take i shown ≡ shown = take_all i shown (omega (arith, c.loop-id-test.false)) in
    ascending-list c.loop-id.tags ids c.len-ascending-2.ensures.tags.ascending
    (λ q. c.loop-id.invariant q ∙ ap (list_any (same_id q)) (all ∙ c.as_slice-id-items.ensures.value))
    ∙ ap map.keys c.self.view_is
