-- Sets whose histories agree place by place, and the first place at which they do not.
use Rattle.std.proofs.Common.{◌≡◌, ◌≢◌, ℕ, ◌+◌, ◌-◌, ◌<◌, ◌≤◌, Bool, true, false, not, Some, None, Option, option_map, IsSomeAnd, MatchOption, refl, ap, sym, ◌∙◌, subst, arith, inl, inr}
use Rattle.std.specs.List.{slice_get}
use Rattle.std.specs.Bool.{Decides}
use Rattle.std.specs.Option.{is_some}
use Rattle.std.proofs.lemmas.Option.{none-some, same_Some}
use Rattle.std.proofs.lemmas.Bool.{cases_lt, cases_eq, false≢true, true≢false}
use Rattle.la_set.specs.declared.update.UpdateId.{UpdateId}
use Rattle.la_set.specs.declared.update.Update.{Update}
use Rattle.la_set.specs.Histories.{Histories, history, object_op_number, get, numbered}
use Rattle.la_set.specs.ObjectOps.{ObjectOp, update_of}
use Rattle.la_set.specs.Join.{ClashesAt, IsCompatible, IsLeastClash}
use Rattle.la_set.specs.Agreement.{AgreeBelow, IsFirstDifference}
use Rattle.la_set.proofs.lemmas.SetHistories.{count_past}
use Rattle.la_set.proofs.lemmas.Places.{numbered-get, get_zero, get_past}

-- an id that has an update names a replica of the eight, and a number from 1
got_known : (s : Histories) (id : UpdateId) (u : Update) → get s id ≡ Some u → id.replica < 8
got_known s id u e = elim (cases_lt id.replica 8) [
  | inl lt ↦ lt
  | inr le ↦ elim (cases_eq id.number 0) [
    | inl none ↦ absurd (none-some u (sym (get_zero s id none) ∙ e))
    | inr some ↦ absurd (none-some u (sym (get_past s id (omega (arith, count_past s id.replica le, some))) ∙ e))
  ]
]

got_numbered : (s : Histories) (id : UpdateId) (u : Update) → get s id ≡ Some u → 0 < id.number
got_numbered s id u e = elim (cases_eq id.number 0) [
  | inl none ↦ absurd (none-some u (sym (get_zero s id none) ∙ e))
  | inr some ↦ omega arith
]

-- both updates of a clash
clash_got : (o q : Option Update) → IsSomeAnd o (λ u. IsSomeAnd q (λ v. u ≢ v)) → (G : Type 0)
    → ((u v : Update) → o ≡ Some u → q ≡ Some v → u ≢ v → G) → G
clash_got None q c G then = absurd c
clash_got (Some u) None c G then = absurd c
clash_got (Some u) (Some v) c G then = then u v refl refl c

-- below the place to which one replica's updates agree, an id has one update
agree_at : (a b : Histories) (id : UpdateId) (n : ℕ) (u v : Update)
    → AgreeBelow (numbered id.replica 1 (history a id.replica)) (numbered id.replica 1 (history b id.replica)) n
    → id.number ≤ n → get a id ≡ Some u → get b id ≡ Some v → u ≡ v
agree_at a b id n u v agree le in_a in_b =
    let some = got_numbered a id u in_a in
    agree (id.number - 1) u v (omega arith) (numbered-get a id some ∙ in_a) (numbered-get b id some ∙ in_b)

module _ (a b : Histories) where
  -- the updates of one replica agree throughout
  abbrev pub AgreeAt : ℕ → Type 0
  AgreeAt r = (n : ℕ) → AgreeBelow (numbered r 1 (history a r)) (numbered r 1 (history b r)) n

  pub compatible-from : ((r : ℕ) → r < 8 → AgreeAt r) → IsCompatible a b
  compatible-from agree u v in_a in_b same =
      agree_at a b u.id u.id.number u v (agree u.id.replica (got_known a u.id u in_a) u.id.number) (omega arith) in_a
      (ap (get b) same ∙ in_b)

  clash_at : (id : UpdateId) → 0 < id.number
      → IsSomeAnd (slice_get (numbered id.replica 1 (history a id.replica)) (id.number - 1))
      (λ u. IsSomeAnd (slice_get (numbered id.replica 1 (history b id.replica)) (id.number - 1)) (λ v. u ≢ v))
      → ClashesAt a b id
  clash_at id some differs =
      subst (λ o. IsSomeAnd o (λ u. IsSomeAnd (get b id) (λ v. u ≢ v))) (numbered-get a id some)
      (subst
      (λ o.
      IsSomeAnd (slice_get (numbered id.replica 1 (history a id.replica)) (id.number - 1))
      (λ u. IsSomeAnd o (λ v. u ≢ v))) (numbered-get b id some) differs)

  pub least-from : (r place : ℕ) → ((q : ℕ) → q < r → AgreeAt q) → IsFirstDifference (numbered r 1 (history a r)) (numbered r 1 (history b r)) place → IsLeastClash a b (record { replica = r; number = place + 1 })
  least-from r place agree first =
      let id : UpdateId = record { replica = r; number = place + 1 } in
      record {
        clashes = clash_at id (omega arith)
            (subst
            (λ k.
            IsSomeAnd (slice_get (numbered r 1 (history a r)) k)
            (λ u. IsSomeAnd (slice_get (numbered r 1 (history b r)) k) (λ v. u ≢ v))) {x = place}
            {y = (place + 1) - 1} (omega arith) first.differs);
        none_below = λ lower below clash. clash_got (get a lower) (get b lower) clash ⊥ (λ u v in_a in_b differ. differ (elim below [
          | inl lt ↦ agree_at a b lower lower.number u v (agree lower.replica lt lower.number) (omega arith) in_a in_b
          | inr same ↦ agree_at a b lower place u v
              (subst (λ q. AgreeBelow (numbered q 1 (history a q)) (numbered q 1 (history b q)) place) (sym same.0)
              first.agree)
              (omega (arith, same.1)) in_a in_b
        ]));
      }

got_id : (id : UpdateId) (o : Option ObjectOp) (u : Update) → option_map (update_of id.replica id.number) o ≡ Some u
    → u.id ≡ id
got_id id None u e = absurd (none-some u e)
got_id id (Some d) u e = sym (ap (λ v. v.id) (same_Some (update_of id.replica id.number d) u e))

-- an update that is found under an id has it
get_id : (s : Histories) (id : UpdateId) (u : Update) → get s id ≡ Some u → u.id ≡ id
get_id s id u e = got_id id (object_op_number (history s id.replica) id.number) u e

-- sets with a clash are not compatible
pub clash_compatible : (a b : Histories) (id : UpdateId) → ClashesAt a b id → IsCompatible a b → ⊥
clash_compatible a b id clash one = clash_got (get a id) (get b id) clash ⊥ (λ u v in_a in_b differ.
    let u_id = get_id a id u in_a in let v_id = get_id b id v in_b in
    differ (one u v (ap (get a) u_id ∙ in_a) (ap (get b) v_id ∙ in_b) (u_id ∙ sym v_id)))

-- no clash was found exactly where the sets are compatible
pub none-Decides : (a b : Histories) (o : Option UpdateId) (r : Bool) → is_some o ≡ not r
    → MatchOption o (IsCompatible a b) (λ id. IsLeastClash a b id) → Decides r (IsCompatible a b)
none-Decides a b None true e one = ((λ _. one), λ _. refl)
none-Decides a b None false e one = absurd (false≢true e)
none-Decides a b (Some id) true e least = absurd (true≢false e)
none-Decides a b (Some id) false e least =
    ((λ fails. absurd (false≢true fails)), λ one. absurd (clash_compatible a b id least.clashes one))
