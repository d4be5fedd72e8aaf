-- What is kept of one call more.
use Rattle.std.proofs.Common.{◌≡◌, ℕ, Bool, true, false, List, [], ◌∷◌, ◌++◌, Option, Some, map, refl, sym, ◌∙◌, ap}
use Rattle.std.proofs.lemmas.List.{append-nil, map-append}
use Rattle.la_journal.specs.Machine.{goes_on, steps}
use Rattle.la_journal.specs.Staging.{kept_unless}
use Rattle.la_journal.proofs.StepsMore.{from_append}

module _ {S C : Type 0} (step : S → C → Option S) (calls : List C) (call : C) (first state next : S)
    (led : steps step calls first ≡ Some state) (is : step state call ≡ Some next) where
  pub kept_leads : (still : Bool) → (still ≡ true → step state call ≡ Some state)
      → steps step (calls ++ kept_unless still call) first ≡ Some next
  kept_leads true stays =
      ap (λ (cs : List C). steps step cs first) (append-nil calls) ∙ led ∙ sym (stays refl) ∙ is
  kept_leads false stays =
      from_append step calls (call ∷ []) (Some first) ∙ ap (λ (s : Option S). goes_on step s call) led ∙ is

pub kept_texts : {C : Type 0} (text : C → List ℕ) (calls : List C) (call : C) (still : Bool)
    → map text (calls ++ kept_unless still call) ≡ map text calls ++ kept_unless still (text call)
kept_texts text calls call true = map-append text calls []
kept_texts text calls call false = map-append text calls (call ∷ [])
