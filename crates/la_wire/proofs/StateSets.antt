-- The sets that a state's text says.
use Rattle.std.proofs.Common.{◌≡◌, ◌≢◌, ℕ, zero, suc, Bool, true, false, ◌&&◌, List, [], ◌∷◌, ◌++◌, None, Ok, Err}
use Rattle.std.proofs.Common.{filter, refl, ap, sym, subst, ◌∙◌, arith}
use Rattle.std.specs.Bool.{Decides}
use Rattle.std.specs.Prelude.{if◌then◌else◌, length, ◌≤◌, nat_le, All}
use Rattle.std.specs.List.{list_all}
use Rattle.std.proofs.lemmas.Bool.{leb-true, le-leb, lt-ltb, false≢true}
use Rattle.std.proofs.lemmas.Bool.Decides.{Decides-and, Decides-like}
use Rattle.std.proofs.lemmas.List.Elements.{All-weaker, filter-append}
use Rattle.std.proofs.lemmas.List.Sums.{AllPass-from_list_all, list_all-from_AllPass}
use Rattle.la_set.specs.declared.counts.Counts.{Counts}
use Rattle.la_set.specs.declared.update.Update.{Update}
use Rattle.la_set.specs.declared.error.SetError.{SetError}
use Rattle.la_set.specs.declared.error.SetError.TheVariants.{TooManyTags, Gap, Clash, NoBase, Memory}
use Rattle.la_set.specs.Counts.{count_in, from_counts, zero_counts, within, HasCounts}
use Rattle.la_set.specs.ObjectOps.{ObjectOp, update_of}
use Rattle.la_set.specs.Deltas.{DeltaState, is_over, over, pushed, rebuilt, IsOver, IsRebuildRefusal}
use Rattle.la_set.specs.Histories.{Histories, empty, history, from_histories, numbered, updates_from, updates}
use Rattle.la_set.proofs.lemmas.SetHistories.{history-empty}
use Rattle.la_set.proofs.lemmas.WithinCounts.{none_agreed}
use Rattle.la_proposer.specs.Majority.{IsGroup}
use Rattle.la_replica.specs.declared.parcel.Content.TheVariants as content
use Rattle.la_node.specs.Accepting.{has_counts, are_next}
use Rattle.la_node.proofs.lemmas.Tests.{decides-has_counts, decides-unwraps}
use Rattle.la_wire.specs.declared.error.LineFault.TheVariants.{BadLine, BadNumber}
use Rattle.la_wire.specs.States.{set_made, set_taken, is_group, group_with}

-- a delta that is a list
abbrev pub listed_delta : Counts → List Update → DeltaState
listed_delta base more = record { base = base; more = more; made_of = None }

pub zero_had : (s : Histories) → HasCounts s zero_counts
zero_had s = (none_agreed s s).first

-- over nothing a set has all its updates
all_over : (r n : ℕ) (ds : List ObjectOp)
    → filter (is_over zero_counts) (numbered r (suc n) ds) ≡ numbered r (suc n) ds
all_over r n [] = refl
all_over r n (d ∷ ds) =
    let none : count_in zero_counts r ≤ n = omega (arith, zero_had empty r, ap length (history-empty r)) in
    rw (lt-ltb (count_in zero_counts r) (suc n) (omega (arith, none)))
    (ap (λ us. update_of r (suc n) d ∷ us) (all_over r (suc n) ds))

all_from : (h : ℕ → List ObjectOp) (r k : ℕ)
    → filter (is_over zero_counts) (updates_from h r k) ≡ updates_from h r k
all_from h r zero = refl
all_from h r (suc k) =
    filter-append (is_over zero_counts) (numbered r 1 (h r)) (updates_from h (suc r) k)
    ∙ ap (λ us. us ++ filter (is_over zero_counts) (updates_from h (suc r) k)) (all_over r 0 (h r))
    ∙ ap (λ us. numbered r 1 (h r) ++ us) (all_from h (suc r) k)

pub over-nothing : (s : Histories) → over s zero_counts ≡ updates s
unfolding over updates
over-nothing s = all_from (history s) 0 8

none_within : within empty zero_counts ≡ empty
unfolding within from_counts count_in from_histories history empty
none_within = refl

-- ## The set that updates make

decides-made : (us : List Update) → Decides (are_next empty us) (IsOver empty (listed_delta zero_counts us))
decides-made us =
    let has : has_counts empty zero_counts ≡ true = (decides-has_counts empty zero_counts).1 (zero_had empty) in
    subst (λ b. Decides b (IsOver empty (listed_delta zero_counts us)))
    (ap (λ b. b && are_next (within empty zero_counts) us) has ∙ ap (λ s. are_next s us) none_within)
    (decides-unwraps empty (content.Tell (listed_delta zero_counts us)))

made_where : (b : Bool) (us : List Update) (s : Histories) → b ≡ true → s ≡ pushed empty us
    → (if b then Ok (pushed empty us) else Err BadLine) ≡ Ok s
made_where true us s is same = ap Ok (sym same)
made_where false us s is same = absurd (false≢true is)

not_made_where : (b : Bool) (us : List Update) → (b ≡ true → ⊥)
    → (if b then Ok (pushed empty us) else Err BadLine) ≡ Err BadLine
not_made_where true us none = absurd (none refl)
not_made_where false us none = refl

set_made_over : (us : List Update) (s : Histories) → IsOver empty (listed_delta zero_counts us)
    → s ≡ rebuilt empty (listed_delta zero_counts us) → set_made us ≡ Ok s
set_made_over us s stands same =
    made_where (are_next empty us) us s ((decides-made us).1 stands) (same ∙ ap (λ t. pushed t us) none_within)

not_made : (us : List Update) → ¬ IsOver empty (listed_delta zero_counts us) → set_made us ≡ Err BadLine
not_made us none = not_made_where (are_next empty us) us (λ is. none ((decides-made us).0 is))

set_not_made_for : (us : List Update) (e : SetError) → IsRebuildRefusal empty (listed_delta zero_counts us) e
    → e ≢ Memory → set_made us ≡ Err BadLine
set_not_made_for us TooManyTags why other = absurd why
set_not_made_for us Gap why other = not_made us (λ is. why.1 is.next)
set_not_made_for us (Clash id) why other = absurd why
set_not_made_for us NoBase why other = not_made us (λ is. why is.base)
set_not_made_for us Memory why other = absurd (other refl)

module _ (us : List Update) (nothing : Histories) (zero : Counts) (d : DeltaState) (is_empty : nothing ≡ empty)
    (is_zero : zero ≡ zero_counts) (is : d ≡ listed_delta zero us) where
  listed : d ≡ listed_delta zero_counts us
  listed = is ∙ ap (λ c. listed_delta c us) is_zero

  pub set-made : (s : Histories) → IsOver nothing d → s ≡ rebuilt nothing d → set_made us ≡ Ok s
  set-made s stands same =
      let over : IsOver nothing (listed_delta zero_counts us) = subst (IsOver nothing) listed stands in
      set_made_over us s (subst (λ t. IsOver t (listed_delta zero_counts us)) is_empty over)
      (same ∙ (λ i. rebuilt (is_empty i) (listed i)))

  pub set-not_made : (e : SetError) → IsRebuildRefusal nothing d e → e ≢ Memory → set_made us ≡ Err BadLine
  set-not_made e why other =
      set_not_made_for us e
      (subst (λ t. IsRebuildRefusal t (listed_delta zero_counts us) e) is_empty
      (subst (λ t. IsRebuildRefusal nothing t e) listed why)) other

-- ## A set of which a union has all

taken_where : (b : Bool) (s t : Histories) → b ≡ true → t ≡ s → (if b then Ok s else Err BadNumber) ≡ Ok t
taken_where true s t is same = ap Ok (sym same)
taken_where false s t is same = absurd (false≢true is)

not_taken_where : (b : Bool) (s : Histories) → (b ≡ true → ⊥) → (if b then Ok s else Err BadNumber) ≡ Err BadNumber
not_taken_where true s none = absurd (none refl)
not_taken_where false s none = refl

set_taken_over : (s t : Histories) (c : Counts) → IsOver s (listed_delta c []) → t ≡ rebuilt s (listed_delta c [])
    → set_taken s c ≡ Ok t
set_taken_over s t c stands same =
    taken_where (has_counts s c) (within s c) t ((decides-has_counts s c).1 stands.base) same

set_not_taken_for : (s : Histories) (c : Counts) (e : SetError) → IsRebuildRefusal s (listed_delta c []) e
    → e ≢ Memory → set_taken s c ≡ Err BadNumber
set_not_taken_for s c TooManyTags why other = absurd why
set_not_taken_for s c Gap why other = absurd (why.1 tt)
set_not_taken_for s c (Clash id) why other = absurd why
set_not_taken_for s c NoBase why other =
    not_taken_where (has_counts s c) (within s c) (λ is. why ((decides-has_counts s c).0 is))
set_not_taken_for s c Memory why other = absurd (other refl)

module _ (s : Histories) (c : Counts) (none : List Update) (d : DeltaState) (is_none : none ≡ [])
    (is : d ≡ listed_delta c none) where
  unlisted : d ≡ listed_delta c []
  unlisted = is ∙ ap (listed_delta c) is_none

  pub set-taken : (t : Histories) → IsOver s d → t ≡ rebuilt s d → set_taken s c ≡ Ok t
  set-taken t stands same =
      set_taken_over s t c (subst (IsOver s) unlisted stands) (same ∙ ap (rebuilt s) unlisted)

  pub set-not_taken : (e : SetError) → IsRebuildRefusal s d e → e ≢ Memory → set_taken s c ≡ Err BadNumber
  set-not_taken e why other = set_not_taken_for s c e (subst (λ t. IsRebuildRefusal s t e) unlisted why) other

-- ## Votes

decides-le : (a b : ℕ) → Decides (nat_le a b) (a ≤ b)
decides-le a b = (leb-true a b, le-leb a b)

decides-each : (votes : List ℕ)
    → Decides (list_all (λ v. nat_le 1 v && nat_le v 1000) votes) (All (λ v. (1 ≤ v) × (v ≤ 1000)) votes)
decides-each votes =
    let each = λ (v : ℕ). Decides-and (nat_le 1 v) (nat_le v 1000) (decides-le 1 v) (decides-le v 1000) in
    let test = λ (v : ℕ). nat_le 1 v && nat_le v 1000 in (
      λ e.
          All-weaker (λ v. test v ≡ true) (λ v. (1 ≤ v) × (v ≤ 1000)) (λ v is. (each v).0 is) votes
          (AllPass-from_list_all test votes e),
      λ all.
          list_all-from_AllPass test votes
          (All-weaker (λ v. (1 ≤ v) × (v ≤ 1000)) (λ v. test v ≡ true) (λ v is. (each v).1 is) votes all),
    )

decides-group : (votes : List ℕ) → Decides (is_group votes) (IsGroup votes)
decides-group votes =
    let all = list_all (λ v. nat_le 1 v && nat_le v 1000) votes in
    Decides-like (is_group votes) (λ p. record { some = p.0; few = p.1.0; each = p.1.1 })
    (λ is. (is.some, (is.few, is.each)))
    (Decides-and (nat_le 1 (length votes)) (nat_le (length votes) 8 && all) (decides-le 1 (length votes))
    (Decides-and (nat_le (length votes) 8) all (decides-le (length votes) 8) (decides-each votes)))

group_where : (b : Bool) (votes : List ℕ) → b ≡ true → (if b then Ok votes else Err BadNumber) ≡ Ok votes
group_where true votes is = refl
group_where false votes is = absurd (false≢true is)

pub group-votes : (votes : List ℕ) → IsGroup votes → group_with votes ≡ Ok votes
group-votes votes is = group_where (is_group votes) votes ((decides-group votes).1 is)
