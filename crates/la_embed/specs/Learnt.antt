-- What of a view has been handed on, by counts, which update comes next, and all that is handed on so.
use Rattle.std.specs.Prelude.{◌≡◌, ℕ, ◌+◌, ◌<◌, ◌≤◌, ◌==◌, List, [], ◌∷◌, map, filter, Option, Some, None}
use Rattle.std.specs.Prelude.{if◌then◌else◌}
use Rattle.la_set.specs.declared.counts.Counts.{Counts}
use Rattle.la_set.specs.declared.update.Update.{Update}
use Rattle.la_set.specs.declared.update.UpdateId.{UpdateId}
use Rattle.la_set.specs.Counts.{count_in, from_counts, zero_counts}
use Rattle.la_set.specs.Histories.{Histories, count, get, updates_of}
use Rattle.la_set.specs.Inclusion.{IsSubset}

-- of replicas before this one all updates of a view were handed on
abbrev pub AreHanded : (handed : Counts) → (view : Histories) → (before : ℕ) → Type 0
AreHanded handed view before = (q : ℕ) → q < before → count view q ≤ count_in handed q

-- the update comes next: of the first replica of which there are more, the first of these
pub record IsNextOf (handed : Counts) (view : Histories) (id : UpdateId) : Type 0 where
  pub number : id.number ≡ count_in handed id.replica + 1
  pub there : id.number ≤ count view id.replica
  pub first : AreHanded handed view id.replica

-- or there is none more
abbrev pub IsNextId : (handed : Counts) → (view : Histories) → Option UpdateId → Type 0
IsNextId handed view None = (q : ℕ) → count view q ≤ count_in handed q
IsNextId handed view (Some id) = IsNextOf handed view id

-- the update is the one that comes next
abbrev pub IsNextLearnt : (handed : Counts) → (view : Histories) → Option Update → Type 0
IsNextLearnt handed view None = IsNextId handed view None
IsNextLearnt handed view (Some u) = IsNextOf handed view u.id × (get view u.id ≡ Some u)

-- once the update with this id was handed on too
abbrev pub handed_with : (handed : Counts) → UpdateId → Counts
handed_with handed id = from_counts (λ r. if r == id.replica then id.number else count_in handed r)

-- where it is the next one of its replica
abbrev pub handed_noting : (handed : Counts) → UpdateId → Counts
handed_noting handed id =
    if id.number == count_in handed id.replica + 1 then handed_with handed id else handed

-- ## All that is handed on

-- an update that was handed on, and the view then
pub record Handing : Type 0 where
  pub view : Histories
  pub update : Update

-- it came next of its view, and then note was taken of that, whatever the view was by then
pub record IsHandedIn (before : Counts) (handing : Handing) (after : Counts) : Type 0 where
  pub next : IsNextLearnt before handing.view (Some handing.update)
  pub noted : after ≡ handed_noting before handing.update.id

-- These were handed on one after another, until all of a view were. The views before were parts of it.
abbrev pub AreHandedOn : (before : Counts) → List Handing → (view : Histories) → Type 0
AreHandedOn before [] view = IsNextId before view None
AreHandedOn before (handing ∷ handings) view =
    IsSubset handing.view view
    × ((after : Counts) × IsHandedIn before handing after × AreHandedOn after handings view)

-- those of replica r among them
abbrev pub handed_of : (r : ℕ) → List Handing → List Update
handed_of r handings = filter (λ (u : Update). u.id.replica == r) (map (λ (h : Handing). h.update) handings)

-- Where all of a view were handed on from nothing on, they are of each replica its updates in the view, each once, in
-- the order of their numbers.
abbrev pub EachIsHandedOnce : Type 0
EachIsHandedOnce =
    (handings : List Handing) (view : Histories) (r : ℕ) →
    AreHandedOn zero_counts handings view → handed_of r handings ≡ updates_of view r
