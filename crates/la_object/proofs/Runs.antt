-- What a shelf keeps where its objects absorb the first so many of a run of one replica's updates: beside what each
-- shelf of objects of one's own keeps, the small numbers, and so room.
use Rattle.std.proofs.Common.{◌≡◌, ℕ, ◌+◌, ◌≤◌, List, [], ◌∷◌, length, take, drop, fold, ap, sym, ◌∙◌, subst, arith}
use Rattle.std.specs.List.{All}
use Rattle.la_set.specs.declared.update.Update.{Update}
use Rattle.la_set.specs.Histories.{Histories, history, count, with_history, truncate, updates, updates_of, push, IsWithinLimit}
use Rattle.la_set.specs.Inclusion.{IsSubset}
use Rattle.la_set.specs.Deltas.{AreNext}
use Rattle.la_set.proofs.lemmas.Places.{count_before-more, count_before_none, updates_count_before}
use Rattle.la_set.proofs.lemmas.SetHistories.{count-push}
use Rattle.la_set.proofs.lemmas.Inclusions.{subset-count}
use Rattle.la_shelf.specs.Shelves.{all_absorbed}
use Rattle.la_shelf.proofs.lemmas.Runs as shelf
use Rattle.la_shelf.proofs.lemmas.Rows.{run-IsShelf}
use Rattle.la_object.specs.declared.state.State.{State}
use Rattle.la_object.specs.Objects.{meaning}
use Rattle.la_object.specs.Shelves.{HaveRoom, IsFirstMore, IsClosedShelf, IsSmall}
use Rattle.la_object.proofs.lemmas.Lawful.{lawful}
use Rattle.la_object.proofs.lemmas.Rows.{rows, shelf-HaveRoom, small-run}

few-updates : (s : Histories) → IsWithinLimit s → length (updates s) ≤ 8000000
few-updates s within = omega (
  arith,
  updates_count_before s,
  count_before_none s,
  count_before-more s 0,
  count_before-more s 1,
  count_before-more s 2,
  count_before-more s 3,
  count_before-more s 4,
  count_before-more s 5,
  count_before-more s 6,
  count_before-more s 7,
  within 0,
  within 1,
  within 2,
  within 3,
  within 4,
  within 5,
  within 6,
  within 7,
)

run-limit : (view : Histories) (us : List Update) → AreNext view us → IsWithinLimit view
    → IsWithinLimit (fold push view us)
run-limit view [] next limit = limit
run-limit view (u ∷ us) next limit = run-limit (push view u) us next.1 (count-push view u next.0 limit)

-- a run of a set's updates of the first replica of which it has more than the view
module _ (view set : Histories) (sub : IsSubset view set) (r : ℕ) (first : IsFirstMore view set r)
    (limit : IsWithinLimit set) (us : List Update) (run : us ≡ take 1000 (drop (count view r) (updates_of set r))) where
  next : (k : ℕ) → AreNext view (take k us)
  next k = shelf.run-next meaning lawful view set sub r first limit us run k

  pub run-HaveRoom : (ss : List (ℕ × State)) → IsClosedShelf view ss → (k : ℕ) → All IsSmall (take k us)
      → HaveRoom (all_absorbed meaning ss (take k us))
  run-HaveRoom ss keeps k small = shelf-HaveRoom (fold push view (take k us)) (all_absorbed meaning ss (take k us))
      (record {
        objects = run-IsShelf meaning lawful view ss (take k us) (next k) keeps.objects;
        small = small-run view (take k us) (next k) small keeps.small;
      })
      (few-updates _ (run-limit view (take k us) (next k) (λ q. omega (arith, limit q, subset-count view set sub q))))

  -- what is a shelf's once the first so many are absorbed: the objects after the run, and the view that was held ready
  module _ (many : ℕ) (few : many ≤ length us) {B : Type 0} (f : B → State) (es es' : List (ℕ × B))
      (ready view' : Histories) (keeps : IsClosedShelf view (rows f es))
      (some : rows f es' ≡ all_absorbed meaning (rows f es) (take many us)) (small : All IsSmall (take many us))
      (held : ready ≡ with_history view r (history set r)) (cut : view' ≡ truncate ready r (count view r + many)) where
    view-is : view' ≡ fold push view (take many us)
    view-is =
        shelf.view-is meaning lawful view set sub r first limit us run many few f es es' ready view' keeps.objects some
        held cut
        ∙ ap (fold push view) (shelf.same_front meaning lawful view set sub r first limit us run many few)

    pub ends-IsShelf : IsClosedShelf view' (rows f es')
    ends-IsShelf = record {
      objects =
          shelf.ends-IsShelf meaning lawful view set sub r first limit us run many few f es es' ready view'
          keeps.objects
          some held cut;
      small =
          subst (λ v. All IsSmall (updates v)) (sym view-is)
          (small-run view (take many us) (next many) small keeps.small);
    }
