-- Staged lines that are put behind a settled file.
use Rattle.std.proofs.Common.{◌≡◌, ⊎_elim, inl, inr, ℕ, true, false, ◌≤◌, Bool, List, [], ◌∷◌, ◌++◌, Option, Some, map, length, take, sym, ◌∙◌, ap, subst, arith, refl}
use Rattle.std.specs.Prelude.{not, ◌&&◌}
use Rattle.std.specs.Bool.{◌==◌}
use Rattle.std.proofs.lemmas.Bool.Decides.{nat_tests}
use Rattle.la_journal.specs.Disk.{LeavesOnly, MayBeTorn}
use Rattle.la_journal.specs.Commits.{is_record, with_record, HasNoEnd, AreWhole}
use Rattle.la_journal.specs.Lines.{file_of}
use Rattle.la_journal.specs.Journal.{IsCallLine, last_in}
use Rattle.la_journal.specs.Records.{parts, ended, ended_from, record_line}
use Rattle.la_journal.specs.Machine.{state_after, steps, steps_from, LeadsToSome}
use Rattle.la_journal.specs.Durable.{IsSettled}
use Rattle.la_journal.specs.Staging.{are_no_records}
use Rattle.la_journal.proofs.Files.{Keeps}
use Rattle.la_journal.proofs.Groups.{file_of_push, lines_in_text, whole_of}
use Rattle.la_journal.proofs.Ended.{ended-append, one_ended, whole_unended_of}
use Rattle.la_journal.proofs.Leading.{leads_on, group_leads}
use Rattle.la_journal.proofs.Takes.{weaker, torn_is}

pub so_long : (n : ℕ) → (n == 0) ≡ true → n ≡ 0
so_long n is = grind (arith, nat_tests)

pub no_bytes : (bytes : List ℕ) → length bytes ≡ 0 → bytes ≡ []
no_bytes [] is = refl
no_bytes (b ∷ bytes) is = absurd (omega (arith, is))

-- no lines are none of these
pub no_calls : {C : Type 0} (write : C → List ℕ) (calls : List C) → map write calls ≡ [] → calls ≡ []
no_calls write [] is = refl
no_calls write (c ∷ calls) is = absurd (omega (arith, ap length is))

and_more : (t b c : Bool) → (b ≡ true → c ≡ true) → (t && b) ≡ true → (t && c) ≡ true
and_more true b c more is = more is
and_more false b c more is = is

push_plain : (line : List ℕ) → is_record line ≡ false → (ls : List (List ℕ)) → are_no_records ls ≡ true
    → are_no_records (ls ++ line ∷ []) ≡ true
push_plain line not_record [] are = ap (λ (t : Bool). not t && true) not_record
push_plain line not_record (l ∷ ls) are =
    and_more (not (is_record l)) (are_no_records ls) (are_no_records (ls ++ line ∷ []))
    (push_plain line not_record ls) are

-- one line more behind whole lines
module _ (text line bytes : List ℕ) (whole : text ≡ file_of (ended text)) (plain : are_no_records (ended text) ≡ true)
    (has : HasNoEnd line) (not_record : is_record line ≡ false) (is : bytes ≡ line ++ 10 ∷ []) where
  pub more_lines : ended (text ++ bytes) ≡ ended text ++ line ∷ []
  more_lines =
      (λ i. ended (text ++ is i))
      ∙ ended-append [] text (line ++ 10 ∷ [])
      ∙ ap (λ (l : List ℕ). ended text ++ ended_from l (line ++ 10 ∷ [])) (whole_unended_of text whole)
      ∙ ap (λ (ls : List (List ℕ)). ended text ++ ls) (one_ended [] line [] has)

  pub more_whole : text ++ bytes ≡ file_of (ended (text ++ bytes))
  more_whole = (λ i. whole i ++ is i) ∙ file_of_push (ended text) line ∙ ap file_of (sym more_lines)

  pub more_plain : are_no_records (ended (text ++ bytes)) ≡ true
  more_plain = ap are_no_records more_lines ∙ push_plain line not_record (ended text) plain

-- they are a group
pub are_group : (text : List ℕ) → text ≡ file_of (ended text) → are_no_records (ended text) ≡ true → AreWhole [] text
are_group text whole plain = subst (AreWhole []) (sym whole) (whole_of (ended text) (lines_in_text text plain))

module _ {D S C : Type 0} (seen : D → List ℕ) (may_leave : D → List ℕ → Type 0) (old : D)
    (settled : IsSettled seen may_leave old) (last : List ℕ) (linked : last ≡ last_in (parts (seen old)))
    (text : List ℕ) (group : AreWhole [] text)
    (head : S → List ℕ) (named_state : List ℕ → Option S) (named : List ℕ → Option C) (step : S → C → Option S)
    (write : C → List ℕ)
    (round_trip : (c : C) → named (write c) ≡ Some c) (clean_calls : (c : C) → IsCallLine (write c))
    (start before : S) (was : state_after head named_state named step start (seen old) ≡ Some before) where
  pub commit_leads : (calls : List C) → ended text ≡ map write calls → (c : List ℕ)
      → Keeps (seen old) (ended text) c → state_after head named_state named step start c ≡ steps step calls before
  commit_leads calls are c keeps =
      leads_on head named_state named step write round_trip clean_calls start (seen old) c calls
      (subst (λ (ls : List (List ℕ)). Keeps (seen old) ls c) are keeps)
      ∙ ap (steps_from step calls) was

  pub commit_leaves : (all : List C) (n : ℕ) → n ≤ length all → ended text ≡ map write (take n all)
      → (moment : D → ℕ) (left_since : D → ℕ → List ℕ → Type 0) (new : D)
      → LeavesOnly moment left_since old new (MayBeTorn (with_record record_line last text) (may_leave old))
      → LeavesOnly moment left_since old new (LeadsToSome (state_after head named_state named step start) step all
      before)
  commit_leaves all n le are moment left_since new leaves =
      weaker moment left_since old new (MayBeTorn (with_record record_line last text) (may_leave old))
      (LeadsToSome (state_after head named_state named step start) step all before)
      (λ c left.
      group_leads head named_state named step write round_trip clean_calls start (seen old) c all n before le was
      (⊎_elim (λ none. inl none) (λ more. inr (subst (λ (ls : List (List ℕ)). Keeps (seen old) ls c) are more))
      (torn_is seen may_leave old settled last linked text group c left))) leaves
