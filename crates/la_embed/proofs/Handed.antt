-- Each update of a view is handed on once.
use Rattle.std.proofs.Common.{◌≡◌, inl, inr, ℕ, ◌+◌, ◌-◌, ◌<◌, ◌==◌, Bool, cond, List, [], ◌∷◌, Some}
use Rattle.std.proofs.Common.{drop, slice_get, refl, sym, ap, subst, ◌∙◌, arith}
use Rattle.std.proofs.lemmas.Bool.{cases_lt, cases_eq, eq-eqb, ne_eqb}
use Rattle.std.proofs.lemmas.List.{drop_all}
use Rattle.la_set.specs.declared.counts.Counts.{Counts}
use Rattle.la_set.specs.declared.update.Update.{Update}
use Rattle.la_set.specs.declared.update.UpdateId.{UpdateId}
use Rattle.la_set.specs.Counts.{count_in, zero_counts}
use Rattle.la_set.specs.Histories.{Histories, get, history, updates_of}
use Rattle.la_set.proofs.lemmas.Counting.{count_in-from_counts, count_in-past}
use Rattle.la_set.proofs.lemmas.NumberedLists.{length-numbered}
use Rattle.la_set.proofs.lemmas.Places.{numbered-get}
use Rattle.la_set.proofs.lemmas.SetHistories.{known_from_count}
use Rattle.la_object.proofs.lemmas.IdMaps.{drop_some}
use Rattle.la_embed.specs.Learnt.{handed_with}
use Rattle.la_embed.specs.Learnt.{Handing, IsHandedIn, AreHandedOn, handed_of, EachIsHandedOnce}

-- what is noted is the update that came next
noted_so : (before after : Counts) (h : Handing) → IsHandedIn before h after → after ≡ handed_with before h.update.id
noted_so before after h is =
    is.noted
    ∙ ap (λ b. cond b (handed_with before h.update.id) before)
    (eq-eqb h.update.id.number (count_in before h.update.id.replica + 1) is.next.0.number)

-- ## How many were handed on

count_there : (handed : Counts) (id : UpdateId) → id.replica < 8
    → count_in (handed_with handed id) id.replica ≡ id.number
count_there handed id known =
    count_in-from_counts (λ r. cond (r == id.replica) id.number (count_in handed r)) id.replica known
    ∙ ap (λ b. cond b id.number (count_in handed id.replica)) (eq-eqb id.replica id.replica refl)

count_elsewhere : (handed : Counts) (id : UpdateId) (r : ℕ) → (id.replica ≡ r → ⊥)
    → count_in (handed_with handed id) r ≡ count_in handed r
count_elsewhere handed id r ne = elim (cases_lt r 8) [
  | inl lt ↦
      count_in-from_counts (λ q. cond (q == id.replica) id.number (count_in handed q)) r lt
      ∙ ap (λ b. cond b id.number (count_in handed r)) (ne_eqb r id.replica (λ e. ne (sym e)))
  | inr past ↦ count_in-past (handed_with handed id) r past ∙ sym (count_in-past handed r past)
]

-- ## What is handed on from then on

-- of a replica the rest of its updates
abbrev IsRest : (before : Counts) → List Handing → Histories → (r : ℕ) → Type 0
IsRest before handings view r = handed_of r handings ≡ drop (count_in before r) (updates_of view r)

module _ (before after : Counts) (h : Handing) (handings : List Handing) (view : Histories)
    (has : get view h.update.id ≡ Some h.update) (is : IsHandedIn before h after) where
  abbrev id : UpdateId
  id = h.update.id

  abbrev picked : ℕ → Bool → List Update
  picked r b = cond b (h.update ∷ handed_of r handings) (handed_of r handings)

  known : id.replica < 8
  known = known_from_count h.view id.replica (omega (arith, is.next.0.number, is.next.0.there))

  of_its_own : IsRest after handings view id.replica → IsRest before (h ∷ handings) view id.replica
  of_its_own rest =
      let place : id.number - 1 ≡ count_in before id.replica = omega (arith, is.next.0.number) in
      let at : slice_get (updates_of view id.replica) (count_in before id.replica) ≡ Some h.update =
      ap (slice_get (updates_of view id.replica)) (sym place)
      ∙ numbered-get view id (omega (arith, is.next.0.number)) ∙ has in
      let counted : count_in before id.replica + 1 ≡ count_in after id.replica =
      sym is.next.0.number ∙ sym (count_there before id known)
      ∙ ap (λ c. count_in c id.replica) (sym (noted_so before after h is)) in
      ap (picked id.replica) (eq-eqb id.replica id.replica refl)
      ∙ ap (λ us. h.update ∷ us) (rest ∙ sym (ap (λ n. drop n (updates_of view id.replica)) counted))
      ∙ sym (drop_some (updates_of view id.replica) (count_in before id.replica) h.update at)

  of_another : (r : ℕ) → (id.replica ≡ r → ⊥) → IsRest after handings view r → IsRest before (h ∷ handings) view r
  of_another r ne rest =
      ap (picked r) (ne_eqb id.replica r ne) ∙ rest
      ∙ ap (λ n. drop n (updates_of view r))
      (ap (λ c. count_in c r) (noted_so before after h is) ∙ count_elsewhere before id r ne)

  of_each : (r : ℕ) → IsRest after handings view r → IsRest before (h ∷ handings) view r
  of_each r rest = elim (cases_eq id.replica r) [
    | inl same ↦
        subst (IsRest before (h ∷ handings) view) same (of_its_own (subst (IsRest after handings view) (sym same) rest))
    | inr ne ↦ of_another r ne rest
  ]

rest_is : (handings : List Handing) (view : Histories) (r : ℕ) (before : Counts) → AreHandedOn before handings view
    → IsRest before handings view r
rest_is [] view r before none =
    sym (drop_all (count_in before r) (updates_of view r)
    (omega (arith, none r, length-numbered r 1 (history view r))))
rest_is (h ∷ handings) view r before are =
    of_each before are.1.0 h handings view (are.0 h.update are.1.1.next.1) are.1.1 r
    (rest_is handings view r are.1.0 are.1.2)

pub once : EachIsHandedOnce
once handings view r are =
    rest_is handings view r zero_counts are
    ∙ ap (λ n. drop n (updates_of view r)) {x = count_in zero_counts r} {y = 0} (elim (cases_lt r 8) [
      | inl lt ↦ count_in-from_counts (λ q. 0) r lt
      | inr past ↦ count_in-past zero_counts r past
    ])
