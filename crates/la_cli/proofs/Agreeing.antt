-- Logs that agree with the first one agree.
use Rattle.std.proofs.Common.{◌≡◌, ◌∙◌, inl, inr, ℕ, zero, suc, ◌+◌, ◌<◌, ◌≤◌, List, [], ◌∷◌, length, map, Some, None, ap, sym, subst, arith}
use Rattle.std.specs.List.{slice_get, slice_index_or}
use Rattle.std.proofs.lemmas.Bool.{cases_lt}
use Rattle.std.proofs.lemmas.Option.{slice_get_within, get_or_from_slice_get, slice_get-get_or}
use Rattle.la_runner.specs.Members.{member_view}
use Rattle.la_runner.specs.Runs.{Back}
use Rattle.la_cli.specs.Threads.{LogsAgree}

-- the first was not stopped, and both have one view
abbrev pub AgreesWith : Back → Back → Type 0
AgreesWith b c = (b.stopped ≡ None) × (member_view b.member ≡ member_view c.member)

-- those before a place agree with the first
abbrev pub AgreeTo : List Back → ℕ → Type 0
AgreeTo logs n = (k : ℕ) (b c : Back) → k < n → slice_get logs k ≡ Some b → slice_get logs 0 ≡ Some c → AgreesWith b c

some_is : {X : Type 0} {x y : X} → Some x ≡ Some y → x ≡ y
some_is e = cc

get_map : {A B : Type 0} (f : A → B) (xs : List A) (i : ℕ) (x : A) → slice_get xs i ≡ Some x
    → slice_get (map f xs) i ≡ Some (f x)
get_map f [] i x e = absurd (cc)
get_map f (y ∷ xs) zero x e = let same : y ≡ x = cc in ap (λ z. Some (f z)) same
get_map f (y ∷ xs) (suc i) x e = get_map f xs i x e

-- a log at a place, as it is printed
pub at_place : {X : Type 0} (f : X → Back) (xs : List X) (i : ℕ) (x : X) → i < length xs → x ≡ slice_index_or xs i x
    → slice_get (map f xs) i ≡ Some (f x)
at_place f xs i x lt is = get_map f xs i x (slice_get-get_or xs i x lt ∙ ap Some (sym is))

pub one_agrees : (logs : List Back) (n : ℕ) (x y : Back) → slice_get logs n ≡ Some x → slice_get logs 0 ≡ Some y
    → AgreesWith x y → AgreeTo logs n → AgreeTo logs (n + 1)
one_agrees logs n x y at first agrees so_far k b c lt here zeroth = elim (cases_lt k n) [
  | inl before ↦ so_far k b c before here zeroth
  | inr after ↦
      let same : n ≡ k = omega (arith, lt) in
      let b_is : x ≡ b = some_is (sym at ∙ subst (λ j. slice_get logs j ≡ Some b) (sym same) here) in
      let c_is : y ≡ c = some_is (sym first ∙ zeroth) in
      subst (λ z. AgreesWith b z) c_is (subst (λ z. AgreesWith z y) b_is agrees)
]

pub all_agree : (logs : List Back) (n : ℕ) → length logs ≤ n → AgreeTo logs n → LogsAgree logs
all_agree logs n long agrees = record {
  none_stopped = λ i d lt. (with_first i d lt).0;
  one_view = λ i d lt j e more. (with_first i d lt).1 ∙ first_same d e lt ∙ sym (with_first j e more).1;
}
  where
    with_first : (i : ℕ) (d : Back) → i < length logs → AgreesWith (slice_index_or logs i d) (slice_index_or logs 0 d)
    with_first i d lt =
        agrees i _ _ (omega (arith, lt, long)) (slice_get-get_or logs i d lt)
        (slice_get-get_or logs 0 d (omega (arith, lt)))

    first_same : {i : ℕ} (d e : Back) → i < length logs
        → member_view (slice_index_or logs 0 d).member ≡ member_view (slice_index_or logs 0 e).member
    first_same d e lt =
        ap (λ (z : Back). member_view z.member)
        (get_or_from_slice_get logs 0 (slice_index_or logs 0 e) d (slice_get-get_or logs 0 e (omega (arith, lt))))

pub agrees_by_all : (logs : List Back) (i : ℕ) (x y : Back) → slice_get logs i ≡ Some x → slice_get logs 0 ≡ Some y
    → LogsAgree logs → AgreesWith x y
agrees_by_all logs i x y at first all =
    let lt = slice_get_within logs i x at in
    let there = slice_get_within logs 0 y first in
    let x_is = get_or_from_slice_get logs i x x at in
    let y_is = get_or_from_slice_get logs 0 y y first in (
      subst (λ (b : Back). b.stopped ≡ None) x_is (all.none_stopped i x lt),
      subst
          (λ (b : Back). member_view x.member ≡ member_view b.member) y_is
          (subst (λ (b : Back). member_view b.member ≡ member_view (slice_index_or logs 0 y).member) x_is (all.one_view i x lt 0 y there)),
    )
