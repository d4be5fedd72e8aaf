-- A file that is a head and one state.
use Rattle.std.proofs.Common.{◌≡◌, ◌⊎◌, ⊎_elim, ℕ, zero, suc, ◌-◌, Bool, true, false, List, [], ◌∷◌, ◌++◌, Option, Some, None, IfSome, refl, sym, ◌∙◌, ap, subst, arith, length, take, append_assoc}
use Rattle.std.specs.Global.{Vec}
use Rattle.std.specs.Prelude.{if◌then◌else◌, not, ◌&&◌}
use Rattle.std.proofs.lemmas.Option.{none-some, same_Some}
use Rattle.la_journal.specs.Commits.{same_bytes, with_record, HasNoEnd, AreWhole}
use Rattle.la_journal.specs.Records.{Parts, parts, ended, digest, head_line, record_line, is_damage}
use Rattle.la_journal.specs.Journal.{lines, lines_in, last_in, text_in, journal, says, state_line, is_sound}
use Rattle.la_journal.specs.Disk.{Elapses, LeavesOnly}
use Rattle.la_journal.specs.Durable.{IsSettled}
use Rattle.la_journal.specs.Machine.{lines_lead, state_after, LeadsToSome, SaysState}
use Rattle.la_journal.specs.Snapshots.{IsCompacted}
use Rattle.la_journal.proofs.Files.{begins, grown, grows, grows_lines, sound_is}
use Rattle.la_journal.proofs.Groups.{AreLines, no_end_in, whole_of, ended_of}
use Rattle.la_journal.proofs.Moments.{started, goes_on}
use Rattle.la_journal.proofs.Told.{heads_are_read}

-- a file in three pieces
pub in_place : (head group behind : List ℕ) → ((head ++ 10 ∷ []) ++ group) ++ behind ≡ head ++ 10 ∷ (group ++ behind)
in_place head group behind =
    append_assoc (head ++ 10 ∷ []) group behind ∙ append_assoc head (10 ∷ []) (group ++ behind)

-- a head's text has no end
no_end_in_front : (n : ℕ) (line : List ℕ) → HasNoEnd line → HasNoEnd (take n line)
no_end_in_front zero line has = tt
no_end_in_front (suc n) [] has = tt
no_end_in_front (suc n) (b ∷ line) has = (has.0, no_end_in_front n line has.1)

text_in_front : (line text front : List ℕ) (same : Bool) → HasNoEnd front
    → (if same then Some front else None) ≡ Some text → HasNoEnd text
text_in_front line text front true has is = subst HasNoEnd (same_Some front text is) has
text_in_front line text front false has is = absurd (none-some text is)

pub text_has_no_end : (file : List ℕ) (p : Parts) → parts file ≡ Some p → HasNoEnd p.text
text_has_no_end file p read =
    let b = begins file p read in
    let front = take (length b.line - 17) b.line in
    text_in_front b.line p.text front (same_bytes b.line (head_line front))
    (no_end_in_front (length b.line - 17) b.line b.has) b.text

-- a file that is played is sound
sound_where : {S : Type 0} (sound : Bool) (led : Option S) (state : S) → (if sound then led else None) ≡ Some state
    → sound ≡ true
sound_where true led state is = refl
sound_where false led state is = absurd (none-some state is)

-- what is known of a file, where there is one
pub made_of : {S : Type 0} (named_state : List ℕ → Option S) (state : S) (some : Option (Vec ℕ)) (file : Vec ℕ)
    (last : List ℕ) {head text : List ℕ} → some ≡ Some file → head ≡ text
    → IfSome some (λ f. IsCompacted named_state state head f.items last)
    → IsCompacted named_state state text file.items last
made_of named_state state some file last {head} is headed known =
    subst (λ (h : List ℕ). IsCompacted named_state state h file.items last) headed
    (subst (λ (o : Option (Vec ℕ)). IfSome o (λ f. IsCompacted named_state state head f.items last)) is known)

-- in the place of a file with the same head
module _ {S : Type 0} (named_state : List ℕ → Option S) (state : S) (before : List ℕ) (p : Parts)
    (read : parts before ≡ Some p) (whole : p.rest ≡ []) (head : List ℕ) (headed : head ≡ p.text)
    (file last : List ℕ) (is : IsCompacted named_state state head file last) where
  abbrev line : List ℕ
  line = state_line is.snapshot.text

  are : AreLines (line ∷ [])
  are = (no_end_in line (omega arith, omega arith, is.snapshot.clean), refl, tt)

  group_is : AreWhole [] is.group
  group_is = subst (AreWhole []) (sym is.snapshot.is) (whole_of (line ∷ []) are)

  abbrev new : List ℕ
  new = head_line head ++ 10 ∷ []

  abbrev new_parts : Parts
  new_parts = record { text = head; these = []; last = digest head; rest = [] }

  pub new_read : parts new ≡ Some new_parts
  new_read = heads_are_read head (subst HasNoEnd (sym headed) (text_has_no_end before p read))

  -- with its state
  abbrev said : List ℕ
  said = new ++ with_record record_line (digest head) is.group

  abbrev said_parts : Parts
  said_parts = grown new new_parts new_read refl is.group

  pub said_read : parts said ≡ Some said_parts
  said_read = grows new new_parts new_read refl is.group group_is

  said_lines : lines said ≡ line ∷ []
  said_lines =
      (grows_lines new new_parts new_read refl is.group group_is).lines_are
      ∙ (λ i. lines_in (new_read i) ++ (ap ended is.snapshot.is ∙ ended_of (line ∷ []) are) i)

  -- and a seal
  abbrev one : List ℕ
  one = said ++ with_record record_line said_parts.last []

  abbrev one_parts : Parts
  one_parts = grown said said_parts said_read refl []

  pub one_read : parts one ≡ Some one_parts
  one_read = grows said said_parts said_read refl [] refl

  -- and another
  abbrev has : Parts
  has = grown one one_parts one_read refl []

  file_is : file ≡ one ++ with_record record_line one_parts.last []
  file_is =
      let state = with_record record_line (digest head) is.group in
      let seal = with_record record_line said_parts.last [] in
      let second = with_record record_line one_parts.last [] in
      is.is ∙ sym (append_assoc said seal second ∙ in_place (head_line head) state (seal ++ second))

  pub compacted_read : parts file ≡ Some has
  compacted_read = ap parts file_is ∙ grows one one_parts one_read refl [] refl

  alone : lines file ≡ line ∷ []
  alone =
      ap lines file_is
      ∙ (grows_lines one one_parts one_read refl [] refl).lines_are
      ∙ ap (λ (ls : List (List ℕ)). ls ++ [])
      ((grows_lines said said_parts said_read refl [] refl).lines_are ∙ ap (λ (ls : List (List ℕ)). ls ++ []) said_lines)

  pub compacted_says : SaysState named_state state file
  compacted_says = record { text = is.snapshot.text; names = is.snapshot.names; alone = ap journal alone }

  pub compacted_link : last ≡ last_in (parts file)
  compacted_link = is.ends ∙ sym (ap last_in compacted_read)

  pub compacted_text : head ≡ text_in (parts file)
  compacted_text = sym (ap text_in compacted_read)

  sound_same : (h : List ℕ) → is_sound h file ≡ is_sound h before
  sound_same h =
      sound_is h file has compacted_read
      ∙ (λ i. same_bytes h (headed i) && not (is_damage (whole_back i)))
      ∙ sym (sound_is h before p read)
    where
      whole_back : [] ≡ p.rest
      whole_back = sym whole

  pub compacted_leads : {C : Type 0} (head_of : S → List ℕ) (named : List ℕ → Option C) (step : S → C → Option S)
      (start : S) → state_after head_of named_state named step start before ≡ Some state
      → state_after head_of named_state named step start file ≡ Some state
  compacted_leads head_of named step start was =
      ap (λ (t : Bool). if t then lines_lead named_state named step start (says file) else None)
      (sound_same (head_of start)
      ∙ sound_where (is_sound (head_of start) before) (lines_lead named_state named step start (says before)) state was)
      ∙ ap (λ (ls : List (List ℕ)). lines_lead named_state named step start (journal ls)) alone
      ∙ is.snapshot.names

-- a crash at any moment while it is put in the place of a settled file leaves what leads to the state
module _ {D S : Type 0} (seen : D → List ℕ) (may_leave : D → List ℕ → Type 0) (moment : D → ℕ)
    (left_since : D → ℕ → List ℕ → Type 0) where
  pub led_throughout : (leads : List ℕ → Option S) {C : Type 0} (step : S → C → Option S) (old new : D) (state : S)
      (bytes : List ℕ) → IsSettled seen may_leave old
      → ((c : List ℕ) → left_since old (moment old) c → may_leave old c)
      → Elapses (moment old) (moment new) (left_since old) (left_since new) (may_leave new)
      → ((c : List ℕ) → may_leave new c → may_leave old c ⊎ (c ≡ bytes))
      → leads (seen old) ≡ Some state → leads bytes ≡ Some state
      → LeavesOnly moment left_since old new (LeadsToSome leads step [] state)
  led_throughout leads step old new state bytes settled only_now time crash was now =
      let P = LeadsToSome leads step [] state in
      let before : (c : List ℕ) → may_leave old c → P c =
      λ c left. (0, omega arith, ap leads (settled.durable c left) ∙ was) in
      goes_on moment left_since old old new P (may_leave new)
      (started moment left_since old P (λ c left. before c (only_now c left))) time
      (λ c left. ⊎_elim (before c) (λ is. (0, omega arith, ap leads is ∙ now)) (crash c left))
