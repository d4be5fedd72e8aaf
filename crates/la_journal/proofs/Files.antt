-- What becomes of a journal by what is put behind it.
use Rattle.std.proofs.Common.{◌≡◌, inl, inr, arith, ℕ, Bool, true, List, [], ◌∷◌, ◌++◌, Option, Some, None, refl, sym, ◌∙◌, ap, subst, length, append_assoc}
use Rattle.std.specs.Prelude.{not, ◌&&◌, ◌==◌}
use Rattle.std.proofs.lemmas.List.{append-nil}
use Rattle.std.proofs.lemmas.Bool.Decides.{nat_tests}
use Rattle.std.proofs.lemmas.Option.{none-some, same_Some}
use Rattle.la_journal.specs.Commits.{same_bytes, groups, with_record, last_record, HasNoEnd, AreWhole, AreGroups}
use Rattle.la_journal.specs.Records.{Parts, parts, parts_of, parts_with, parts_behind, behind, ended, ended_from, unended, unended_from, text_of_head, record_line, link, is_damage, IsGroupDamage}
use Rattle.la_journal.specs.Journal.{in_a_row, lines, lines_in, has_head, is_sound}
use Rattle.la_journal.proofs.TornRecords.{either}
use Rattle.la_journal.proofs.RecordBytes.{are_records}
use Rattle.la_journal.proofs.Extents.{reads}
use Rattle.la_journal.proofs.RecordLaws.{groups_grow, others_are_behind}
use Rattle.la_journal.proofs.Ended.{ended_end, ended_byte, ended-append, unended-append}
use Rattle.la_journal.proofs.FileParts.{head_is}
use Rattle.la_journal.proofs.Told.{whole_unended}
use Rattle.la_journal.proofs.Links.{link_again, by_link, by_groups}
use Rattle.la_journal.proofs.Decided.{no_damage}

abbrev first_or : List ℕ → List (List ℕ) → List ℕ
first_or line [] = line
first_or line (l ∷ ls) = l

-- ## Its first line

-- the first line that has an end
record First (got bytes line : List ℕ) : Type 0 where
  more : List ℕ
  rest : List ℕ
  line_is : line ≡ got ++ more
  has : HasNoEnd more
  split : bytes ≡ more ++ 10 ∷ rest

ten : (b : ℕ) → (b == 10) ≡ true → b ≡ 10
ten b is = grind (arith, nat_tests)

first_of : (got bytes line : List ℕ) (ls : List (List ℕ)) → ended_from got bytes ≡ line ∷ ls → First got bytes line
first_of got [] line ls is = absurd (omega (arith, ap length is))
first_of got (b ∷ bytes) line ls is = elim (either (b == 10)) [
  | inl end ↦ record {
    more = [];
    rest = bytes;
    line_is = sym (ap (first_or got) (sym (ended_end got bytes b end) ∙ is)) ∙ sym (append-nil got);
    has = tt;
    split = ap (λ (x : ℕ). x ∷ bytes) (ten b end);
  }
  | inr go ↦
      let f = first_of (got ++ b ∷ []) bytes line ls (sym (ended_byte got bytes b go) ∙ is) in
      record {
        more = b ∷ f.more;
        rest = f.rest;
        line_is = f.line_is ∙ append_assoc got (b ∷ []) f.more;
        has = (go, f.has);
        split = ap (λ (l : List ℕ). b ∷ l) f.split;
      }
]

-- a file begins with the head that it has
pub record Begins (file : List ℕ) (p : Parts) : Type 0 where
  pub line : List ℕ
  pub rest : List ℕ
  pub split : file ≡ line ++ 10 ∷ rest
  pub has : HasNoEnd line
  pub text : text_of_head line ≡ Some p.text
  pub is : p ≡ parts_behind p.text line rest

pub begins : (file : List ℕ) (p : Parts) → parts file ≡ Some p → Begins file p
begins file p read = by_lines (ended file) refl
  where
    by_text : (line : List ℕ) (ls : List (List ℕ)) (text : Option (List ℕ)) → ended file ≡ line ∷ ls
        → text_of_head line ≡ text → Begins file p
    by_text line ls None are is =
        absurd (none-some p (sym (ap (parts_of file) are ∙ ap (parts_with file line) is) ∙ read))
    by_text line ls (Some text) are is =
        let f = first_of [] file line ls are in
        let split : file ≡ line ++ 10 ∷ f.rest = f.split ∙ ap (λ (l : List ℕ). l ++ 10 ∷ f.rest) (sym f.line_is) in
        let has : HasNoEnd line = subst HasNoEnd (sym f.line_is) f.has in
        let same : p ≡ parts_behind text line f.rest =
        same_Some p (parts_behind text line f.rest) (sym read ∙ head_is file line f.rest split has text is) in
        let text_is : text ≡ p.text = sym (ap (λ (q : Parts). q.text) same) in
        record {
          line = line;
          rest = f.rest;
          split = split;
          has = has;
          text = is ∙ ap (λ (t : List ℕ). Some t) text_is;
          is = same ∙ ap (λ (t : List ℕ). parts_behind t line f.rest) text_is;
        }

    by_lines : (ls : List (List ℕ)) → ended file ≡ ls → Begins file p
    by_lines [] are = absurd (none-some p (sym (ap (parts_of file) are) ∙ read))
    by_lines (line ∷ ls) are = by_text line ls (text_of_head line) are refl

-- ## The lines of its groups

last_of : (before group : List ℕ) (gs : List (List ℕ))
    → last_record record_line before (gs ++ group ∷ []) ≡ record_line (last_record record_line before gs) group
last_of before group [] = refl
last_of before group (g ∷ gs) = last_of (record_line before g) group gs

joined-append : (gs hs : List (List ℕ)) → in_a_row (gs ++ hs) ≡ in_a_row gs ++ in_a_row hs
joined-append [] hs = refl
joined-append (g ∷ gs) hs =
    ap (λ (l : List ℕ). g ++ l) (joined-append gs hs) ∙ sym (append_assoc g (in_a_row gs) (in_a_row hs))

joined_whole : (gs : List (List ℕ)) → AreGroups gs → unended (in_a_row gs) ≡ []
joined_whole [] are = refl
joined_whole (g ∷ gs) are =
    unended-append [] g (in_a_row gs)
    ∙ ap (λ (l : List ℕ). unended_from l (in_a_row gs)) (whole_unended [] g are.0)
    ∙ joined_whole gs are.1

lines_more : (gs : List (List ℕ)) (group : List ℕ) → AreGroups gs
    → ended (in_a_row (gs ++ group ∷ [])) ≡ ended (in_a_row gs) ++ ended group
lines_more gs group are =
    ap ended (joined-append gs (group ∷ []) ∙ ap (λ (l : List ℕ). in_a_row gs ++ l) (append-nil group))
    ∙ ended-append [] (in_a_row gs) group
    ∙ ap (λ (l : List ℕ). ended (in_a_row gs) ++ ended_from l group) (joined_whole gs are)

pub sound_is : (head file : List ℕ) (p : Parts) → parts file ≡ Some p → is_sound head file ≡ has_head head (Some p)
sound_is head file p read = ap (has_head head) read

-- ## What is put behind it

-- a file keeps these lines behind those of another, and is sound where that is
pub record Keeps (file : List ℕ) (more : List (List ℕ)) (c : List ℕ) : Type 0 where
  pub lines_are : lines c ≡ lines file ++ more
  pub sound : (head : List ℕ) → is_sound head c ≡ is_sound head file

module _ (file : List ℕ) (p : Parts) (read : parts file ≡ Some p) (whole : p.rest ≡ []) where
  abbrev b : Begins file p
  b = begins file p read

  these_are : p.these ≡ groups record_line b.line b.rest
  these_are = ap (λ (q : Parts). q.these) b.is

  last_is : p.last ≡ link (last_record record_line b.line (groups record_line b.line b.rest))
  last_is = ap (λ (q : Parts). q.last) b.is

  none : behind b.line b.rest ≡ []
  none = sym (ap (λ (q : Parts). q.rest) b.is) ∙ whole

  are : AreGroups p.these
  are = subst AreGroups (sym these_are) (reads record_line are_records b.line b.rest).2

  abbrev last_line : List ℕ
  last_line = last_record record_line b.line (groups record_line b.line b.rest)

  same_record : (group : List ℕ) → record_line p.last group ≡ record_line last_line group
  same_record group =
      ap (λ (l : List ℕ). record_line l group) last_is ∙ by_link (link last_line) last_line group (link_again last_line)

  more_behind : (more : List ℕ) → parts (file ++ more) ≡ Some (parts_behind p.text b.line (b.rest ++ more))
  more_behind more =
      head_is (file ++ more) b.line (b.rest ++ more)
      (ap (λ (l : List ℕ). l ++ more) b.split ∙ append_assoc b.line (10 ∷ b.rest) more) b.has p.text b.text

  abbrev pub grown : (group : List ℕ) → Parts
  grown group =
      record { text = p.text; these = p.these ++ group ∷ []; last = link (record_line p.last group); rest = [] }

  pub grows : (group : List ℕ) → AreWhole [] group
      → parts (file ++ with_record record_line p.last group) ≡ Some (grown group)
  grows group is =
      let these = groups record_line b.line b.rest in
      let own = with_record record_line last_line group in
      let both = groups_grow b.line b.rest group none is in
      let read_is : groups record_line b.line (b.rest ++ own) ≡ p.these ++ group ∷ [] =
      both.0 ∙ ap (λ (l : List (List ℕ)). l ++ group ∷ []) (sym these_are) in
      let last : link (last_record record_line b.line (groups record_line b.line (b.rest ++ own))) ≡ link (record_line
      p.last group) =
      ap (λ (l : List (List ℕ)). link (last_record record_line b.line l)) both.0
      ∙ ap link (last_of b.line group these ∙ sym (same_record group)) in
      ap (λ (r : List ℕ). parts (file ++ (group ++ (r ++ 10 ∷ [])))) (same_record group)
      ∙ more_behind own
      ∙ (λ i. Some (record { text = p.text; these = read_is i; last = last i; rest = both.1 i }))

  pub grows_lines : (group : List ℕ) → AreWhole [] group
      → Keeps file (ended group) (file ++ with_record record_line p.last group)
  grows_lines group is = record {
    lines_are = ap lines_in (grows group is) ∙ lines_more p.these group are
        ∙ ap (λ (l : List (List ℕ)). l ++ ended group) (sym (ap lines_in read));
    sound =
        λ head.
        sound_is head (file ++ with_record record_line p.last group) (grown group) (grows group is)
        ∙ ap (λ (l : List ℕ). same_bytes head p.text && not (is_damage l)) (sym whole)
        ∙ sym (sound_is head file p read);
  }

  stays : (torn : List ℕ) → groups record_line p.last torn ≡ [] → parts (file ++ torn) ≡ Some (record p { rest = torn })
  stays torn unread =
      let read_none : groups record_line last_line torn ≡ [] = same_groups torn ∙ unread in
      let both = others_are_behind b.line b.rest torn none read_none in
      more_behind torn
      ∙ (λ i. Some (record {
        text = p.text;
        these = (both.0 ∙ sym these_are) i;
        last = (ap (λ (l : List (List ℕ)). link (last_record record_line b.line l)) both.0 ∙ sym last_is) i;
        rest = both.1 i;
      }))
    where
      same_groups : (torn : List ℕ) → groups record_line last_line torn ≡ groups record_line p.last torn
      same_groups torn =
          by_groups last_line (link last_line) torn (sym (link_again last_line))
          ∙ ap (λ (l : List ℕ). groups record_line l torn) (sym last_is)

  pub stays_lines : (torn : List ℕ) → groups record_line p.last torn ≡ [] → (IsGroupDamage torn → ⊥)
      → Keeps file [] (file ++ torn)
  stays_lines torn unread not_damage = record {
    lines_are = ap lines_in (stays torn unread) ∙ sym (ap lines_in read) ∙ sym (append-nil (lines file));
    sound =
        λ head.
        sound_is head (file ++ torn) (record p { rest = torn }) (stays torn unread)
        ∙ ap (λ (t : Bool). same_bytes head p.text && not t) (no_damage torn not_damage)
        ∙ ap (λ (l : List ℕ). same_bytes head p.text && not (is_damage l)) (sym whole)
        ∙ sym (sound_is head file p read);
  }
