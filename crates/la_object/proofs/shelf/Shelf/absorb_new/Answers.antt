use Rattle.std.proofs.Common.{◌≡◌, [], length, Ok, sym, ap, ◌∙◌, subst, arith}
use Rattle.std.proofs.lemmas.List.{length-drop}
use Rattle.la_set.specs.Histories.{Histories, updates}
use Rattle.la_set.specs.Join.{HasNoMore}
use Rattle.la_set.specs.Difference.{beyond, lacks}
use Rattle.la_object.specs.Shelves.{ShelfState}
use Rattle.la_shelf.proofs.lemmas.NewUpdates.{length-filter-le, nothing_beyond, nothing_left, nothing_new}
use Rattle.la_shelf.proofs.lemmas.Runs.{more-HasTaken}
use Rattle.la_object.specs.Objects.{meaning}
use Rattle.la_object.proofs.lemmas.Lawful.{lawful}
use Rattle.la_object.proofs.shelf.Shelf.absorb_new.Goals as goal

pub overflow_add-done : goal.overflow_add-done
overflow_add-done g c =
    let old = c.args.self.now in let set = c.args.set.now in
    let more =
    more-HasTaken meaning lawful old c.loop-replica.self c.absorb_run.new.self set c.loop-replica.done c.in-Ok.many
    c.loop-replica.invariant c.in-Ok.ensures.ok in
    omega (
      arith,
      more.few,
      length-filter-le (lacks old.view) (updates set),
      c.len-limited.ensures.len,
      c.len-limited.ensures.limit,
    )

pub loop-replica-preserved : goal.loop-replica-preserved
loop-replica-preserved g c =
    more-HasTaken meaning lawful c.args.self.now c.loop-replica.self c.absorb_run.new.self c.args.set.now
    c.loop-replica.done
    c.in-Ok.many c.loop-replica.invariant c.in-Ok.ensures.ok

pub overflow_add-result : goal.overflow_add-result
overflow_add-result g c =
    let old = c.args.self.now in let set = c.args.set.now in
    let more =
    more-HasTaken meaning lawful old c.loop-replica.self c.absorb_run.new.self set c.loop-replica.done c.in-Err.many
    c.loop-replica.invariant c.in-Err.ensures.err in
    omega (
      arith,
      more.few,
      length-filter-le (lacks old.view) (updates set),
      c.len-limited.ensures.len,
      c.len-limited.ensures.limit,
    )

pub returns-in-Err-clause-error : goal.returns-in-Err-clause-error
returns-in-Err-clause-error g c =
    let old = c.args.self.now in let set = c.args.set.now in let done = c.loop-replica.done in
    let more =
    more-HasTaken meaning lawful old c.loop-replica.self c.absorb_run.new.self set done c.in-Err.many
    c.loop-replica.invariant
    c.in-Err.ensures.err in (
      c.requires,
      (
        omega (
          arith,
          c.in-Err.ensures.fewer,
          ap length c.loop-replica.invariant.left,
          length-drop done
              (beyond set old.view),
        ),
        more.taken,
      ),
    )

pub returns-in-Err-clause-again : goal.returns-in-Err-clause-again
returns-in-Err-clause-again g c =
    let old = c.args.self.now in let set = c.args.set.now in
    λ same.
    absurd
    (omega (
      arith,
      c.in-Err.ensures.fewer,
      ap length c.loop-replica.invariant.left,
      length-drop c.loop-replica.done
          (beyond set old.view),
      nothing_new old.view set same,
    ))

pub share-requires-after_bounds : goal.share-requires-after_bounds
share-requires-after_bounds g c κs within =
    let set = c.args.set.now in let view = c.loop-replica.self.view in
    let none : HasNoMore set view = subst (λ (v : Histories). HasNoMore set v) c.view.ensures c.in_default.ensures in
    sym
    (nothing_left view set c.loop-replica.invariant.within
    (nothing_beyond view set c.loop-replica.invariant.within (λ q lt. none q)))

pub returns-clause-ok : goal.returns-clause-ok
returns-clause-ok g c =
    let old = c.args.self.now in let set = c.args.set.now in let view = c.loop-replica.self.view in
    let none : HasNoMore set view = subst (λ (v : Histories). HasNoMore set v) c.view.ensures c.in_default.ensures in
    let now : view ≡ set =
    nothing_left view set c.loop-replica.invariant.within
    (nothing_beyond view set c.loop-replica.invariant.within (λ q lt. none q)) in
    c.share.ensures ∙ c.loop-replica.invariant.taken
    ∙ ap (λ v. record old { view = v }) (sym (ap (λ (s : ShelfState). s.view) c.loop-replica.invariant.taken) ∙ now)

pub returns-clause-many : goal.returns-clause-many
returns-clause-many g c =
    let old = c.args.self.now in let set = c.args.set.now in let view = c.loop-replica.self.view in
    let none : HasNoMore set view = subst (λ (v : Histories). HasNoMore set v) c.view.ensures c.in_default.ensures in
    let empty : beyond set view ≡ [] = nothing_beyond view set c.loop-replica.invariant.within (λ q lt. none q) in
    omega (
      arith,
      c.loop-replica.invariant.few,
      ap length (sym c.loop-replica.invariant.left ∙ empty),
      length-drop
          c.loop-replica.done (beyond set old.view),
    )

pub returns-clause-again : goal.returns-clause-again
returns-clause-again g c =
    λ same.
    ap (λ n. Ok n) {x = c.loop-replica.done} {y = 0}
    (omega (arith, c.loop-replica.invariant.few, nothing_new c.args.self.now.view c.args.set.now same))
