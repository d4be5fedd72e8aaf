use Rattle.std.proofs.Common.{◌≡◌, ◌≤◌, ◌+◌, nat_eq, suc, is_some, None, [], ◌∷◌, ◌++◌, length, take, sym, ap, ◌∙◌, subst, arith}
use Rattle.std.proofs.lemmas.Bool.{eq-eqb, ne_eqb}
use Rattle.la_set.specs.Histories.{updates}
use Rattle.la_object.specs.Objects.{kind_of, start, steps, after, of_object, HasRoom, meaning}
use Rattle.indexmap.specs.IndexMap.{get}
use Rattle.indexmap.proofs.CallerLemmas.{insert_entry-new}
use Rattle.la_object.specs.Shelves.{ShelfState, kinds, kind_at, IsClosedShelf}
use Rattle.la_shelf.proofs.lemmas.Rows.{taken_own, taken_other, some_at, added-kind, added-agree, push-row-IsShelf, none_from, is_some-kind_at}
use Rattle.la_object.proofs.lemmas.Lawful.{lawful}
use Rattle.la_object.proofs.lemmas.Rows.{rows, rows-push, kinds-push, taken-HasRoom}
use Rattle.la_object.proofs.shelf.Shelf.add.Goals as goal
use Rattle.la_object.proofs.shelf.Shelf.add.Goals.{in-Some+then-update-number+in-Ok, in-Some+else-update-number, in_default}

pub absorb-requires : goal.absorb-requires
absorb-requires g c =
    let view = c.self.inside.view in
    let few : length (updates view) ≤ 8000000 =
    omega (arith, c.len-place-end.ensures.len, c.len-place-end.ensures.limit) in
    subst HasRoom (sym c.loop-place.invariant)
    (taken-HasRoom view (kind_of (g.B.Replicated.state c.args.object)) c.args.number c.loop-place.place
    c.self.invariant.small few)

pub loop-place-preserved : goal.loop-place-preserved
loop-place-preserved g c =
    let f =
    g.B.Replicated.state in let us = updates c.self.inside.view in let s = start (kind_of (f c.args.object)) in let n
    = c.loop-place.place in let k = c.args.number in
    let next : steps s (of_object k (take (suc n) us)) ≡ steps s (of_object k (take (n + 1) us)) =
    ap (λ m. steps s (of_object k (take m us))) {x = suc n} {y = n + 1} (omega arith) in
    elim c.match-at.branch [
      | in-Some+then-update-number+in-Ok w ↦ ap f w.added-is ∙ w.in-Ok.ensures.ok
          ∙ ap (λ t. after t w.in-Some.update.now) c.loop-place.invariant
          ∙ sym
          (taken_own meaning lawful s us k n w.in-Some.update.now (sym w.in-Some.ensures)
          (eq-eqb w.in-Some.update.now.object k w.if-update-number.true)) ∙ next
      | in-Some+else-update-number w ↦ ap f w.added-is ∙ c.loop-place.invariant
          ∙ sym (taken_other meaning lawful s us k n w.in-Some.update.now (sym w.in-Some.ensures)
          (ne_eqb w.in-Some.update.now.object k w.if-update-number.false)) ∙ next
      | in_default w ↦ absurd
          (some_at meaning lawful us n (omega (arith, c.loop-place-test.true, c.len-place-end.ensures.len))
          (sym w.in_default.ensures))
    ]

pub invariant_of-self-2 : goal.invariant_of-self-2
invariant_of-self-2 g c =
    let f =
    g.B.Replicated.state in let m = c.self.inside.objects in let view = c.self.inside.view in let k = c.args.number in
    let t = f c.loop-place.added in
    let none : get nat_eq m k ≡ None =
    none_from meaning lawful _
    (sym c.if-has.false ∙ c.has.ensures
    ∙ ap (λ (s : ShelfState). is_some (kind_at s.objects k)) (sym c.self.view_is)
    ∙ sym (is_some-kind_at meaning lawful f k m.entries)) in
    let full : length (updates view) ≤ c.loop-place.place =
    omega (arith, c.loop-place-test.false, c.len-place-end.ensures.len) in
    subst (IsClosedShelf view)
    (sym
    (ap (rows f) (c.in-Ok-insert.ensures.entries ∙ insert_entry-new nat_eq m k c.loop-place.added none)
    ∙ rows-push f m.entries k c.loop-place.added))
    (record {
      objects =
          push-row-IsShelf meaning lawful view (rows f m.entries) k t c.self.invariant.objects
          (added-agree meaning lawful view t
          (kind_of (f c.args.object)) k c.loop-place.place c.loop-place.invariant full);
      small = c.self.invariant.small;
    })

pub returns-clause-ok : goal.returns-clause-ok
returns-clause-ok g c =
    let f =
    g.B.Replicated.state in let m = c.self.inside.objects in let view = c.self.inside.view in let k = c.args.number in
    let t = f c.loop-place.added in
    let none : get nat_eq m k ≡ None =
    none_from meaning lawful _
    (sym c.if-has.false ∙ c.has.ensures
    ∙ ap (λ (s : ShelfState). is_some (kind_at s.objects k)) (sym c.self.view_is)
    ∙ sym (is_some-kind_at meaning lawful f k m.entries)) in
    let views : view ≡ c.args.self.now.view = ap (λ (s : ShelfState). s.view) c.self.view_is in
    let objects : kinds (rows f c.insert.new.self.entries) ≡ c.args.self.now.objects ++ (k, kind_of (f c.args.object)) ∷
    [] =
    ap (λ es. kinds (rows f es)) (c.in-Ok-insert.ensures.entries ∙ insert_entry-new nat_eq m k c.loop-place.added none)
    ∙ ap kinds (rows-push f m.entries k c.loop-place.added)
    ∙ kinds-push (rows f m.entries) k t
    ∙ ap (λ q. kinds (rows f m.entries) ++ (k, q) ∷ [])
    (added-kind meaning lawful view t (kind_of (f c.args.object)) k c.loop-place.place c.loop-place.invariant)
    ∙ ap (λ (s : ShelfState). s.objects ++ (k, kind_of (f c.args.object)) ∷ []) c.self.view_is in
    λ i. record { view = views i; objects = objects i }
