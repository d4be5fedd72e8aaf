-- Where a file leads, by what it has, and what is left of one where what stands behind its groups is cut.
use Rattle.std.proofs.Common.{◌≡◌, ◌≢◌, ◌⊎◌, inl, inr, arith, ℕ, ◌+◌, ◌-◌, Bool, true, false, List, [], ◌∷◌, ◌++◌, Option, Some, None, refl, sym, ◌∙◌, ap, subst, take, drop, length, append_assoc}
use Rattle.std.specs.Prelude.{if◌then◌else◌, ◌==◌, ◌&&◌, not, suc}
use Rattle.std.proofs.lemmas.List.{append-nil, length-append, take_at, drop_at}
use Rattle.std.proofs.lemmas.Option.{none-some}
use Rattle.std.proofs.lemmas.Bool.Decides.{nat_tests}
use Rattle.la_journal.specs.Lines.{IsClean}
use Rattle.la_journal.specs.Commits.{same_bytes, groups, with_records, last_record, HasNoEnd, AreGroups}
use Rattle.la_journal.specs.Records.{Parts, parts, parts_behind, head_line, text_of_head, digest, link, record_line, end_count, behind, IsGroupDamage, is_damage}
use Rattle.la_journal.specs.Journal.{lines, lines_in, journal, has_head}
use Rattle.la_journal.specs.Machine.{state_after, lines_lead}
use Rattle.la_journal.specs.Durable.{IsOtherHead, IsDamagedAt, IsCauseOf, alike}
use Rattle.la_journal.specs.Playing.{StopsAmong, StopsIn}
use Rattle.la_journal.specs.declared.recovery.Unplayed.{Unplayed}
use Rattle.la_journal.specs.declared.recovery.Unplayed.TheVariants.{Memory, Disk, NoHead, OtherHead, NoState, NoCall, Misplaced, Refused, Damaged}
use Rattle.la_journal.proofs.Playing.{Nowhere, nowhere_more, among_nowhere}
use Rattle.la_journal.proofs.Recorded.{same_self, all_groups}
use Rattle.la_journal.proofs.TornRecords.{same_are, either}
use Rattle.la_journal.proofs.RecordBytes.{are_records}
use Rattle.la_journal.proofs.Extents.{reads, are_groups_and_rest, rest_is}
use Rattle.la_journal.proofs.FileParts.{no_parts, no_head, head_is}
use Rattle.la_journal.proofs.Told.{heads_are_read}
use Rattle.la_journal.proofs.Decided.{damage, no_damage}

-- nothing is no damage
pub none_damaged : IsGroupDamage [] → ⊥
none_damaged (inl stands) = absurd stands
none_damaged (inr runs) = absurd runs

-- why a journal was not played, where playing stops
stops_so : {S R : Type 0} (lacks_memory : R → Type 0) (head file : List ℕ) (led : Option S) (stops : Unplayed R → Type 0)
    (why : Unplayed R) → Nowhere lacks_memory led why → stops why → IsCauseOf lacks_memory 0 0 head file led stops why
stops_so lacks_memory head file led stops Memory none at = tt
stops_so lacks_memory head file led stops Disk none at = absurd none
stops_so lacks_memory head file led stops NoHead none at = absurd none
stops_so lacks_memory head file led stops (OtherHead place) none at = absurd none
stops_so lacks_memory head file led stops (NoState line) none at = (none, at)
stops_so lacks_memory head file led stops (NoCall line) none at = (none, at)
stops_so lacks_memory head file led stops (Misplaced line) none at = (none, at)
stops_so lacks_memory head file led stops (Refused line refusal) none at = (none, at)
stops_so lacks_memory head file led stops (Damaged line) none at = absurd none

module _ {S C : Type 0} (head : S → List ℕ) (named_state : List ℕ → Option S) (named : List ℕ → Option C)
    (step : S → C → Option S) (start : S) where
  abbrev leads : List ℕ → Option S
  leads file = state_after head named_state named step start file

  abbrev said : Option Parts → Option S
  said p = lines_lead named_state named step start (journal (lines_in p))

  by_head : (file : List ℕ) (o : Option Parts) → parts file ≡ o
      → leads file ≡ (if has_head (head start) o then said o else None)
  by_head file o is = ap (λ (p : Option Parts). if has_head (head start) p then said p else None) is

  module _ (file : List ℕ) (p : Parts) (is : parts file ≡ Some p) where
    by_parts : (b : Bool) → has_head (head start) (Some p) ≡ b → leads file ≡ (if b then said (Some p) else None)
    by_parts b has =
        by_head file (Some p) is
        ∙ ap (λ (t : Bool). if t then said (Some p) else None) has

    pub sound_leads : p.text ≡ head start → (IsGroupDamage p.rest → ⊥) → leads file ≡ said (Some p)
    sound_leads text sound =
        let same : same_bytes (head start) p.text ≡ true = ap (same_bytes (head start)) text ∙ same_self (head start) in
        by_parts true (λ i. same i && not (no_damage p.rest sound i))

    pub other_nowhere : p.text ≢ head start → leads file ≡ None
    other_nowhere other = elim (either (same_bytes (head start) p.text)) [
      | inl same ↦ absurd (other (sym (same_are (head start) p.text same)))
      | inr differs ↦ by_parts false (ap (λ (b : Bool). b && not (is_damage p.rest)) differs)
    ]

    pub damaged_nowhere : IsGroupDamage p.rest → leads file ≡ None
    damaged_nowhere is_damaged =
        by_parts false
        (ap (λ (b : Bool). same_bytes (head start) p.text && not b) (damage p.rest is_damaged)
        ∙ and_false (same_bytes (head start) p.text))
      where
        and_false : (b : Bool) → (b && false) ≡ false
        and_false true = refl
        and_false false = refl

    pub stopped : {R : Type 0} (lacks_memory : R → Type 0) → AreGroups p.these → (why : Unplayed R)
        → StopsAmong lacks_memory named_state named step false start 2 p.these why
        → IsCauseOf lacks_memory 0 0 (head start) file (leads file)
        (StopsIn lacks_memory named_state named step start (parts file)) why
    stopped lacks_memory are why stops =
        stops_so lacks_memory (head start) file (leads file)
        (StopsIn lacks_memory named_state named step start (parts file)) why
        (nowhere_more lacks_memory (said (Some p)) (leads file) nowhere why
        (among_nowhere lacks_memory named_state named step false start 2 p.these why are stops))
        (subst (λ (o : Option Parts). StopsIn lacks_memory named_state named step start o why) (sym is) stops)
      where
        if_none : (b : Bool) (o : Option S) → o ≡ None → (if b then o else None) ≡ None
        if_none true o none = none
        if_none false o none = refl

        nowhere : said (Some p) ≡ None → leads file ≡ None
        nowhere none =
            by_parts (has_head (head start) (Some p)) refl
            ∙ if_none (has_head (head start) (Some p)) (said (Some p)) none

pub other_head : (head file : List ℕ) (place : ℕ) (p : Parts) → parts file ≡ Some p → p.text ≢ head
    → place ≡ alike head p.text → IsOtherHead head place (parts file)
other_head head file place p is other at = subst (IsOtherHead head place) (sym is) (other, at)

-- where a file has an end, it has a first line
first_line : (bytes : List ℕ)
    → HasNoEnd bytes ⊎ ((line : List ℕ) × (rest : List ℕ) × (bytes ≡ line ++ 10 ∷ rest) × HasNoEnd line)
first_line [] = inl tt
first_line (b ∷ bytes) = elim (either (b == 10)) [
  | inl end ↦ inr ([], bytes, ap (λ (x : ℕ). x ∷ bytes) (ten b end), tt)
  | inr go ↦ elim (first_line bytes) [
    | inl none ↦ inl (go, none)
    | inr some ↦ inr (b ∷ some.0, some.1, ap (λ (l : List ℕ). b ∷ l) some.2, (go, some.3))
  ]
]
  where
    ten : (b : ℕ) → (b == 10) ≡ true → b ≡ 10
    ten b is = grind (arith, nat_tests)

-- a file with a head: its first line, and what stands behind it
record Headed (file : List ℕ) (p : Parts) : Type 0 where
  line : List ℕ
  rest : List ℕ
  split : file ≡ line ++ 10 ∷ rest
  has : HasNoEnd line
  is_head : text_of_head line ≡ Some p.text
  same : p ≡ parts_behind p.text line rest

headed : (file : List ℕ) (p : Parts) → parts file ≡ Some p → Headed file p
headed file p is = elim (first_line file) [
  | inl none ↦ absurd (none-some p (sym (no_parts file none) ∙ is))
  | inr at ↦ with_text at.0 at.1 at.2 at.3 (text_of_head at.0) refl
]
  where
    with_text : (line rest : List ℕ) → file ≡ line ++ 10 ∷ rest → HasNoEnd line → (o : Option (List ℕ))
        → text_of_head line ≡ o → Headed file p
    with_text line rest split has None so = absurd (none-some p (sym (no_head file line rest split has so) ∙ is))
    with_text line rest split has (Some text) so =
        let both : Some (parts_behind text line rest) ≡ Some p = sym (head_is file line rest split has text so) ∙ is in
        let same : parts_behind text line rest ≡ p = cc in
        let texts : text ≡ p.text = ap (λ (q : Parts). q.text) same in record {
          line = line;
          rest = rest;
          split = split;
          has = has;
          is_head = so ∙ ap Some texts;
          same = sym same ∙ ap (λ (t : List ℕ). parts_behind t line rest) texts;
        }

-- all but what stands behind the groups
module _ (file : List ℕ) (p : Parts) (is : parts file ≡ Some p) (end : ℕ) (up_to : end + length p.rest ≡ length file)
  where
    module _ (h : Headed file p) where
      abbrev front : List ℕ
      front = h.line ++ 10 ∷ with_records record_line h.line (groups record_line h.line h.rest)

      file_is : file ≡ front ++ p.rest
      file_is =
          let w = with_records record_line h.line (groups record_line h.line h.rest) in
          h.split
          ∙ ap (λ (l : List ℕ). h.line ++ 10 ∷ l) (are_groups_and_rest record_line are_records h.line h.rest).0
          ∙ sym (append_assoc h.line (10 ∷ w) (behind h.line h.rest))
          ∙ ap (λ (l : List ℕ). (h.line ++ 10 ∷ w) ++ l) (sym (ap (λ (q : Parts). q.rest) h.same))

      long : length front ≡ end
      long = omega (arith, up_to, ap length file_is, length-append front p.rest)

      front_is : take end file ≡ front
      front_is = ap (take end) file_is ∙ take_at front p.rest end long

      rest_behind : drop end file ≡ p.rest
      rest_behind = ap (drop end) file_is ∙ drop_at front p.rest end long

      front_has : parts front ≡ Some (record { text = p.text; these = p.these; last = p.last; rest = [] })
      front_has =
          let gs = groups record_line h.line h.rest in
          let w = with_records record_line h.line gs in
          let read : groups record_line h.line w ≡ gs =
          ap (groups record_line h.line) (sym (append-nil w))
          ∙ all_groups record_line are_records h.line gs [] (reads record_line are_records h.line h.rest).2
          ∙ append-nil gs in
          let none : behind h.line w ≡ [] = rest_is record_line are_records h.line w [] gs read (sym (append-nil w)) in
          let these_are : groups record_line h.line w ≡ p.these = read ∙ sym (ap (λ (q : Parts). q.these) h.same) in
          let last_is : link (last_record record_line h.line (groups record_line h.line w)) ≡ p.last =
          ap (λ (g : List (List ℕ)). link (last_record record_line h.line g)) read
          ∙ sym (ap (λ (q : Parts). q.last) h.same) in
          head_is front h.line w refl h.has p.text h.is_head
          ∙ (λ i. Some (record { text = p.text; these = these_are i; last = last_is i; rest = none i }))

    pub front_parts : parts (take end file) ≡ Some (record { text = p.text; these = p.these; last = p.last; rest = [] })
    front_parts = ap parts (front_is (headed file p is)) ∙ front_has (headed file p is)

    pub front_rest : drop end file ≡ p.rest
    front_rest = rest_behind (headed file p is)

    pub front_lines : lines (take end file) ≡ lines file
    front_lines = ap lines_in front_parts ∙ sym (ap lines_in is)

    pub damaged_at : (place : ℕ) → IsGroupDamage p.rest → place ≡ suc (end_count (take end file))
        → IsDamagedAt file place (parts file)
    damaged_at place is_damaged at =
        let many : end ≡ length file - length p.rest = omega (arith, up_to) in
        subst (IsDamagedAt file place) (sym is)
        (is_damaged, at ∙ ap (λ (n : ℕ). suc (end_count (take n file))) many)

    pub front_leads : {S C : Type 0} (head : S → List ℕ) (named_state : List ℕ → Option S) (named : List ℕ → Option C)
        (step : S → C → Option S) (start : S) → p.text ≡ head start → (IsGroupDamage p.rest → ⊥)
        → state_after head named_state named step start (take end file)
        ≡ state_after head named_state named step start file
    front_leads head named_state named step start text sound =
        sound_leads head named_state named step start (take end file) _ front_parts text none_damaged
        ∙ sym (sound_leads head named_state named step start file p is text sound)

-- a new file
clean_ends : (text : List ℕ) → IsClean text → HasNoEnd text
clean_ends [] clean = tt
clean_ends (b ∷ text) clean = (no_end b clean.1, clean_ends text clean.2)
  where
    no_end : (b : ℕ) → b ≢ 10 → (b == 10) ≡ false
    no_end b other = grind (arith, nat_tests)

pub new_parts : (text : List ℕ) → IsClean text
    → parts (head_line text ++ 10 ∷ []) ≡ Some (record { text = text; these = []; last = digest text; rest = [] })
new_parts text clean = heads_are_read text (clean_ends text clean)

pub new_leads : {S C : Type 0} (head : S → List ℕ) (named_state : List ℕ → Option S) (named : List ℕ → Option C)
    (step : S → C → Option S) (start : S) → IsClean (head start)
    → state_after head named_state named step start (head_line (head start) ++ 10 ∷ []) ≡ Some start
new_leads head named_state named step start clean =
    sound_leads head named_state named step start (head_line (head start) ++ 10 ∷ []) _ (new_parts (head start) clean)
    refl none_damaged
