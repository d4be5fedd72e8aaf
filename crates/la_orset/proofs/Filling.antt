-- Tags that are answered one after another.
use Rattle.std.proofs.Common.{◌≡◌, Bool, true, false, cond, List, [], ◌∷◌, ◌++◌, filter, Contains, IsTrue, ◌↔◌, if◌then◌else◌, refl, ap, sym, ◌∙◌, inl, inr}
use Rattle.std.specs.List.{AllByRecursion}
use Rattle.std.specs.List.Sorted.{IsStrictlySortedBy}
use Rattle.std.specs.Ordering.{is_eq}
use Rattle.std.specs.Cmp.{tied_itself}
use Rattle.std.specs.declared.cmp.Ordering.TheVariants.{Less}
use Rattle.std.proofs.lemmas.Bool.{cases_Bool, false≢true}
use Rattle.std.proofs.lemmas.List.Elements.{All-contains, All-from_recursion}
use Rattle.la_set.specs.declared.update.UpdateId.{UpdateId}
use Rattle.la_set.specs.Ids.{id_below}
use Rattle.la_set.specs.Tags.{with_tag}
use Rattle.la_set.proofs.lemmas.IdOrder.{cmp-less, below-test, test-below, below_trans, below_irreflexive}
use Rattle.la_object.specs.IdOrder.{id_cmp}
use Rattle.la_object.proofs.lemmas.IdOrder.{id_cmp_total}

abbrev AllUnder : UpdateId → List UpdateId → Type 0
AllUnder id ts = AllByRecursion (λ t. id_cmp t id ≡ Less) ts

-- what stands before an id in strict order is below it
under : (ts : List UpdateId) (id : UpdateId) (rest : List UpdateId) → IsStrictlySortedBy id_cmp (ts ++ id ∷ rest)
    → AllUnder id ts
unfolding IsStrictlySortedBy
under [] id rest h = tt
under (t ∷ ts) id rest h = (later ts h.0, under ts id rest h.1)
  where
    later : (us : List UpdateId) → AllByRecursion (λ y. id_cmp t y ≡ Less) (us ++ id ∷ rest) → id_cmp t id ≡ Less
    later [] all = all.0
    later (u ∷ us) all = later us all.1

not_above : (id t : UpdateId) → id_cmp t id ≡ Less → id_below id t ≡ false
not_above id t less = elim (cases_Bool (id_below id t)) [
  | inl holds ↦ absurd (below_irreflexive t (below_trans t id t (cmp-less t id less) (test-below id t holds)))
  | inr fails ↦ fails
]

all_below : (id : UpdateId) (ts : List UpdateId) → AllUnder id ts → filter (λ t. id_below t id) ts ≡ ts
all_below id [] h = refl
all_below id (t ∷ ts) h =
    ap (λ b. cond b (t ∷ filter (λ u. id_below u id) ts) (filter (λ u. id_below u id) ts))
    (below-test t id (cmp-less t id h.0)) ∙ ap (λ us. t ∷ us) (all_below id ts h.1)

none_above : (id : UpdateId) (ts : List UpdateId) → AllUnder id ts → filter (λ t. id_below id t) ts ≡ []
none_above id [] h = refl
none_above id (t ∷ ts) h =
    ap (λ b. cond b (t ∷ filter (λ u. id_below id u) ts) (filter (λ u. id_below id u) ts)) (not_above id t h.0)
    ∙ none_above id ts h.1

absent : (id : UpdateId) (ts : List UpdateId) → AllUnder id ts → Contains ts id → ⊥
absent id ts h there =
    by (All-contains (λ t. id_cmp t id ≡ Less) ts id (All-from_recursion (λ t. id_cmp t id ≡ Less) ts h) there)
  where
    by : id_cmp id id ≡ Less → ⊥
    by less = false≢true (ap is_eq (sym less ∙ tied_itself id_cmp_total id))

-- a tag above all others is put last
pub last_tag : (ts : List UpdateId) (id : UpdateId) (rest : List UpdateId) (new : Bool)
    → IsStrictlySortedBy id_cmp (ts ++ id ∷ rest) → (IsTrue new ↔ (Contains ts id → ⊥))
    → (if new then with_tag id ts else ts) ≡ ts ++ id ∷ []
last_tag ts id rest true h is = let u = under ts id rest h in λ i. all_below id ts u i ++ id ∷ none_above id ts u i
last_tag ts id rest false h is = absurd (false≢true (is.1 (absent id ts (under ts id rest h))))

-- one alone
pub one_sorted : (id : UpdateId) → IsStrictlySortedBy id_cmp (id ∷ [])
unfolding IsStrictlySortedBy
one_sorted id = (tt, tt)
