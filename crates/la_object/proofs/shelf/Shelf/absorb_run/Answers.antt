use Rattle.std.proofs.Common.{◌≡◌, ◌≤◌, ◌+◌, List, map, length, take, drop, sym, ap, ◌∙◌, subst, arith}
use Rattle.std.proofs.lemmas.List.{length-map}
use Rattle.la_set.specs.declared.update.Update.{Update}
use Rattle.la_set.specs.Histories.{count, truncate, updates_of}
use Rattle.la_set.specs.Inclusion.{IsSubset}
use Rattle.la_object.specs.Shelves.{ShelfState, IsFirstMore}
use Rattle.la_object.specs.Objects.{meaning}
use Rattle.la_object.proofs.lemmas.Lawful.{lawful}
use Rattle.la_object.proofs.lemmas.Rows.{rows}
use Rattle.la_shelf.proofs.lemmas.Runs.{run-length, run-count, beyond-length, ends-HasTaken}
use Rattle.la_object.proofs.Runs.{run-HaveRoom, ends-IsShelf}
use Rattle.la_object.proofs.shelf.Shelf.absorb_run.Goals as goal

pub returns-in_default-clause-fewer : goal.returns-in_default-clause-fewer
returns-in_default-clause-fewer g c =
    omega (
      arith,
      beyond-length meaning lawful c.args.self.now.view c.args.set.now c.requires.within c.args.replica
          c.requires.first,
      c.requires.first.more,
    )

pub returns-in_default-run-clause-fewer : goal.returns-in_default-run-clause-fewer
returns-in_default-run-clause-fewer g c =
    omega (
      arith,
      beyond-length meaning lawful c.args.self.now.view c.args.set.now c.requires.within c.args.replica
          c.requires.first,
      c.requires.first.more,
    )

pub absorb_all-many-requires-after_bounds : goal.absorb_all-many-requires-after_bounds
absorb_all-many-requires-after_bounds g c κs within =
    let view = c.self.inside.view in let set = c.args.set.now in let r = c.args.replica in
    let same : view ≡ c.args.self.now.view = ap (λ (s : ShelfState). s.view) c.self.view_is in
    let sub : IsSubset view set = subst (λ v. IsSubset v set) (sym same) c.requires.within in
    let first : IsFirstMore view set r = subst (λ v. IsFirstMore v set r) (sym same) c.requires.first in
    let us : List Update = map (λ u. u.now) c.as_slice-run.result.now in
    let run : us ≡ take 1000 (drop (count view r) (updates_of set r)) =
    ap (map (λ u. u.now)) c.as_slice-run.ensures.value ∙ c.in-Ok-run.ensures
    ∙ ap (λ n. take 1000 (drop n (updates_of set r))) c.count_of-from.ensures.count in
    run-HaveRoom view set sub r first c.counts-limited.ensures.limit us run
    (rows g.B.Replicated.state c.self.inside.objects.entries) c.self.invariant

pub overflow_cast-many : goal.overflow_cast-many
overflow_cast-many g c =
    let view = c.self.inside.view in let set = c.args.set.now in let r = c.args.replica in
    let same : view ≡ c.args.self.now.view = ap (λ (s : ShelfState). s.view) c.self.view_is in
    let sub : IsSubset view set = subst (λ v. IsSubset v set) (sym same) c.requires.within in
    let first : IsFirstMore view set r = subst (λ v. IsFirstMore v set r) (sym same) c.requires.first in
    let us : List Update = map (λ u. u.now) c.as_slice-run.result.now in
    let run : us ≡ take 1000 (drop (count view r) (updates_of set r)) =
    ap (map (λ u. u.now)) c.as_slice-run.ensures.value ∙ c.in-Ok-run.ensures
    ∙ ap (λ n. take 1000 (drop n (updates_of set r))) c.count_of-from.ensures.count in
    let few : c.absorb_all-many.result ≤ length us =
    omega (arith, c.absorb_all-many.ensures.few, length-map c.as_slice-run.result.now (λ u. u.now)) in
    omega (arith, few, run-length meaning lawful view set sub r first c.counts-limited.ensures.limit us run)

pub overflow_add-from : goal.overflow_add-from
overflow_add-from g c =
    let view = c.self.inside.view in let set = c.args.set.now in let r = c.args.replica in
    let same : view ≡ c.args.self.now.view = ap (λ (s : ShelfState). s.view) c.self.view_is in
    let sub : IsSubset view set = subst (λ v. IsSubset v set) (sym same) c.requires.within in
    let first : IsFirstMore view set r = subst (λ v. IsFirstMore v set r) (sym same) c.requires.first in
    let us : List Update = map (λ u. u.now) c.as_slice-run.result.now in
    let run : us ≡ take 1000 (drop (count view r) (updates_of set r)) =
    ap (map (λ u. u.now)) c.as_slice-run.ensures.value ∙ c.in-Ok-run.ensures
    ∙ ap (λ n. take 1000 (drop n (updates_of set r))) c.count_of-from.ensures.count in
    let few : c.absorb_all-many.result ≤ length us =
    omega (arith, c.absorb_all-many.ensures.few, length-map c.as_slice-run.result.now (λ u. u.now)) in
    omega (
      arith,
      c.count_of-from.ensures.count,
      c.counts-limited.ensures.limit r,
      run-count meaning lawful view set sub r first
          c.counts-limited.ensures.limit us run c.absorb_all-many.result few,
    )

pub invariant_of-self : goal.invariant_of-self
invariant_of-self g c =
    let view = c.self.inside.view in let set = c.args.set.now in let r = c.args.replica in
    let same : view ≡ c.args.self.now.view = ap (λ (s : ShelfState). s.view) c.self.view_is in
    let sub : IsSubset view set = subst (λ v. IsSubset v set) (sym same) c.requires.within in
    let first : IsFirstMore view set r = subst (λ v. IsFirstMore v set r) (sym same) c.requires.first in
    let us : List Update = map (λ u. u.now) c.as_slice-run.result.now in
    let run : us ≡ take 1000 (drop (count view r) (updates_of set r)) =
    ap (map (λ u. u.now)) c.as_slice-run.ensures.value ∙ c.in-Ok-run.ensures
    ∙ ap (λ n. take 1000 (drop n (updates_of set r))) c.count_of-from.ensures.count in
    let few : c.absorb_all-many.result ≤ length us =
    omega (arith, c.absorb_all-many.ensures.few, length-map c.as_slice-run.result.now (λ u. u.now)) in
    ends-IsShelf view set sub r first c.counts-limited.ensures.limit us run c.absorb_all-many.result few
    g.B.Replicated.state c.self.inside.objects.entries c.absorb_all-many.new.objects.entries c.in-Ok.ready
    c.first.result
    c.self.invariant c.absorb_all-many.ensures.some c.absorb_all-many.ensures.small c.in-Ok.ensures
    (c.first.ensures ∙ ap (λ n. truncate c.in-Ok.ready r (n + c.absorb_all-many.result)) c.count_of-from.ensures.count)

pub invariant_of-self-2 : goal.invariant_of-self-2
invariant_of-self-2 g c =
    let view = c.self.inside.view in let set = c.args.set.now in let r = c.args.replica in
    let same : view ≡ c.args.self.now.view = ap (λ (s : ShelfState). s.view) c.self.view_is in
    let sub : IsSubset view set = subst (λ v. IsSubset v set) (sym same) c.requires.within in
    let first : IsFirstMore view set r = subst (λ v. IsFirstMore v set r) (sym same) c.requires.first in
    let us : List Update = map (λ u. u.now) c.as_slice-run.result.now in
    let run : us ≡ take 1000 (drop (count view r) (updates_of set r)) =
    ap (map (λ u. u.now)) c.as_slice-run.ensures.value ∙ c.in-Ok-run.ensures
    ∙ ap (λ n. take 1000 (drop n (updates_of set r))) c.count_of-from.ensures.count in
    let few : c.absorb_all-many.result ≤ length us =
    omega (arith, c.absorb_all-many.ensures.few, length-map c.as_slice-run.result.now (λ u. u.now)) in
    ends-IsShelf view set sub r first c.counts-limited.ensures.limit us run c.absorb_all-many.result few
    g.B.Replicated.state c.self.inside.objects.entries c.absorb_all-many.new.objects.entries c.in-Ok.ready
    c.first.result
    c.self.invariant c.absorb_all-many.ensures.some c.absorb_all-many.ensures.small c.in-Ok.ensures
    (c.first.ensures ∙ ap (λ n. truncate c.in-Ok.ready r (n + c.absorb_all-many.result)) c.count_of-from.ensures.count)

pub returns-then-many-run-clause-err : goal.returns-then-many-run-clause-err
returns-then-many-run-clause-err g c =
    let view = c.self.inside.view in let set = c.args.set.now in let r = c.args.replica in
    let same : view ≡ c.args.self.now.view = ap (λ (s : ShelfState). s.view) c.self.view_is in
    let sub : IsSubset view set = subst (λ v. IsSubset v set) (sym same) c.requires.within in
    let first : IsFirstMore view set r = subst (λ v. IsFirstMore v set r) (sym same) c.requires.first in
    let us : List Update = map (λ u. u.now) c.as_slice-run.result.now in
    let run : us ≡ take 1000 (drop (count view r) (updates_of set r)) =
    ap (map (λ u. u.now)) c.as_slice-run.ensures.value ∙ c.in-Ok-run.ensures
    ∙ ap (λ n. take 1000 (drop n (updates_of set r))) c.count_of-from.ensures.count in
    let few : c.absorb_all-many.result ≤ length us =
    omega (arith, c.absorb_all-many.ensures.few, length-map c.as_slice-run.result.now (λ u. u.now)) in
    ends-HasTaken meaning lawful view set sub r first c.counts-limited.ensures.limit us run c.absorb_all-many.result few
    g.B.Replicated.state c.self.inside.objects.entries c.absorb_all-many.new.objects.entries c.in-Ok.ready
    c.first.result
    c.self.invariant.objects c.absorb_all-many.ensures.some c.in-Ok.ensures
    (c.first.ensures ∙ ap (λ n. truncate c.in-Ok.ready r (n + c.absorb_all-many.result)) c.count_of-from.ensures.count)
    c.args.self.now c.self.view_is

pub returns-clause-ok : goal.returns-clause-ok
returns-clause-ok g c =
    let view = c.self.inside.view in let set = c.args.set.now in let r = c.args.replica in
    let same : view ≡ c.args.self.now.view = ap (λ (s : ShelfState). s.view) c.self.view_is in
    let sub : IsSubset view set = subst (λ v. IsSubset v set) (sym same) c.requires.within in
    let first : IsFirstMore view set r = subst (λ v. IsFirstMore v set r) (sym same) c.requires.first in
    let us : List Update = map (λ u. u.now) c.as_slice-run.result.now in
    let run : us ≡ take 1000 (drop (count view r) (updates_of set r)) =
    ap (map (λ u. u.now)) c.as_slice-run.ensures.value ∙ c.in-Ok-run.ensures
    ∙ ap (λ n. take 1000 (drop n (updates_of set r))) c.count_of-from.ensures.count in
    let few : c.absorb_all-many.result ≤ length us =
    omega (arith, c.absorb_all-many.ensures.few, length-map c.as_slice-run.result.now (λ u. u.now)) in
    ends-HasTaken meaning lawful view set sub r first c.counts-limited.ensures.limit us run c.absorb_all-many.result few
    g.B.Replicated.state c.self.inside.objects.entries c.absorb_all-many.new.objects.entries c.in-Ok.ready
    c.first.result
    c.self.invariant.objects c.absorb_all-many.ensures.some c.in-Ok.ensures
    (c.first.ensures ∙ ap (λ n. truncate c.in-Ok.ready r (n + c.absorb_all-many.result)) c.count_of-from.ensures.count)
    c.args.self.now c.self.view_is

pub returns-then-many-run-clause-fewer : goal.returns-then-many-run-clause-fewer
returns-then-many-run-clause-fewer g c =
    let view = c.self.inside.view in let set = c.args.set.now in let r = c.args.replica in
    let same : view ≡ c.args.self.now.view = ap (λ (s : ShelfState). s.view) c.self.view_is in
    let sub : IsSubset view set = subst (λ v. IsSubset v set) (sym same) c.requires.within in
    let first : IsFirstMore view set r = subst (λ v. IsFirstMore v set r) (sym same) c.requires.first in
    let us : List Update = map (λ u. u.now) c.as_slice-run.result.now in
    let run : us ≡ take 1000 (drop (count view r) (updates_of set r)) =
    ap (map (λ u. u.now)) c.as_slice-run.ensures.value ∙ c.in-Ok-run.ensures
    ∙ ap (λ n. take 1000 (drop n (updates_of set r))) c.count_of-from.ensures.count in
    let few : c.absorb_all-many.result ≤ length us =
    omega (arith, c.absorb_all-many.ensures.few, length-map c.as_slice-run.result.now (λ u. u.now)) in
    omega (
      arith,
      few,
      c.if-many-run.true,
      length-map c.as_slice-run.result.now (λ u. u.now),
      run-length meaning lawful view set sub r
          first c.counts-limited.ensures.limit us run,
      beyond-length meaning lawful c.args.self.now.view set c.requires.within r
          c.requires.first,
      ap (λ v. count v r) same,
    )

pub returns-clause-some : goal.returns-clause-some
returns-clause-some g c =
    let view = c.self.inside.view in let set = c.args.set.now in let r = c.args.replica in
    let same : view ≡ c.args.self.now.view = ap (λ (s : ShelfState). s.view) c.self.view_is in
    let sub : IsSubset view set = subst (λ v. IsSubset v set) (sym same) c.requires.within in
    let first : IsFirstMore view set r = subst (λ v. IsFirstMore v set r) (sym same) c.requires.first in
    let us : List Update = map (λ u. u.now) c.as_slice-run.result.now in
    let run : us ≡ take 1000 (drop (count view r) (updates_of set r)) =
    ap (map (λ u. u.now)) c.as_slice-run.ensures.value ∙ c.in-Ok-run.ensures
    ∙ ap (λ n. take 1000 (drop n (updates_of set r))) c.count_of-from.ensures.count in
    let few : c.absorb_all-many.result ≤ length us =
    omega (arith, c.absorb_all-many.ensures.few, length-map c.as_slice-run.result.now (λ u. u.now)) in
    omega (
      arith,
      few,
      first.more,
      c.if-many-run.false,
      length-map c.as_slice-run.result.now (λ u. u.now),
      run-length meaning lawful view
          set sub r first c.counts-limited.ensures.limit us run,
    )
