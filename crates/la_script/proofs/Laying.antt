-- Texts in pieces: what is added, and what is kept.
use Rattle.std.proofs.Common.{◌≡◌, ℕ, zero, suc, Bool, true, false, cond, Result, Ok, Err, OnOk, ◌+◌, ◌-◌, ◌<◌, ◌≤◌, List, [], ◌∷◌, ◌++◌, length, take, drop, get_or, set, All, refl, ap, sym, subst, ◌∙◌, inl, inr, arith, append-nil, append_assoc, length-append, length-drop, length-take}
use Rattle.std.specs.Str.{IsUtf8}
use Rattle.std.specs.Result.{is_ok}
use Rattle.std.proofs.lemmas.Bool.{cases_eq}
use Rattle.std.proofs.lemmas.List.{take-append-le, drop-append-le, take-append-drop, drop-drop, drop_all, get_or_append_left, get_or_default, get_or-set_same, get_or-set_other}
use Rattle.std.proofs.lemmas.List.Elements.{All-push, All-head, All-tail}
use Rattle.std.proofs.lemmas.Str.{IsUtf8-append, IsUtf8-nil}
use Rattle.la_script.specs.declared.marks.Mark.{Mark}
use Rattle.la_script.specs.declared.marks.Mark.TheVariants.{Words, Ids, MoreIds, Counted, Ignored, Kept, Yes}
use Rattle.la_script.specs.declared.marks.Plain.TheVariants as plain
use Rattle.la_script.specs.Pieces.{front}
use Rattle.la_script.specs.Plain.{plain_line}
use Rattle.la_script.specs.Marks.{mark_words, numbers_of, mark_text, ids_mark, words_in, IsLine, IsRunMark, AddsRuns, AddsMark}
use Rattle.la_script.specs.Laid.{laid_text, kept_of, AreIds, IsReadyMark, AreReady, AreOwn, IsLaid}
use Rattle.la_script.proofs.IdFronts.{front_some}
use Rattle.la_script.proofs.PlainLines.{line_some}

-- each replica's text is its own still, and has the ids that it had
pub record Grows (ids grown : List (ℕ × ℕ)) : Type 0 where
  pub whose : (r : ℕ) → r < 8 → (kept_of grown r).0 ≡ (kept_of ids r).0
  pub more : (r : ℕ) → r < 8 → (kept_of ids r).1 ≤ (kept_of grown r).1

-- one replica's text grew
pub grows : (ids : List (ℕ × ℕ)) (r : ℕ) (text : ℕ × ℕ) → r < length ids → text.0 ≡ (kept_of ids r).0
    → (kept_of ids r).1 ≤ text.1 → Grows ids (set ids r text)
grows ids r text lt whose more = record {
  whose = λ q _. elim (cases_eq q r) [
    | inl e ↦ ap (λ p. (get_or (set ids r text) p (0, 0)).0) e ∙ ap (λ (t : ℕ × ℕ). t.0) (get_or-set_same ids r text (0, 0) lt) ∙ whose ∙ ap (λ p. (get_or ids p (0, 0)).0) (sym e)
    | inr ne ↦ ap (λ (t : ℕ × ℕ). t.0) (get_or-set_other ids r q text (0, 0) ne)
  ];
  more = λ q _. elim (cases_eq q r) [
    | inl e ↦ (let p : (get_or (set ids r text) q (0, 0)).1 ≡ text.1 = ap (λ p. (get_or (set ids r text) p (0, 0)).1) e ∙ ap (λ (t : ℕ × ℕ). t.1) (get_or-set_same ids r text (0, 0) lt) in
        let o : (get_or ids q (0, 0)).1 ≡ (get_or ids r (0, 0)).1 = ap (λ p. (get_or ids p (0, 0)).1) e in omega arith)
    | inr ne ↦ (let p : (get_or (set ids r text) q (0, 0)).1 ≡ (get_or ids q (0, 0)).1 = ap (λ (t : ℕ × ℕ). t.1) (get_or-set_other ids r q text (0, 0) ne) in omega arith)
  ];
}

-- ## Ids that have grown

module _ (ids grown : List (ℕ × ℕ)) (g : Grows ids grown) where
  ids_grown : (r n : ℕ) → AreIds ids r n → AreIds grown r n
  ids_grown r n is = record { known = is.known; some = is.some; ready = omega (arith, is.ready, g.more r is.known) }

  ready_grown : (m : Mark) (words numbers : List ℕ) → IsReadyMark ids m words numbers → IsReadyMark grown m words numbers
  ready_grown (Words n) words numbers is = is
  ready_grown (Ids r) words numbers is = (is.0, ids_grown r _ is.1)
  ready_grown (MoreIds r) words numbers is = (is.0, ids_grown r _ is.1)
  ready_grown Counted words numbers is = is
  ready_grown Ignored words numbers is = is
  ready_grown Kept words numbers is = is
  ready_grown Yes words numbers is = is

  each_grown : (marks : List Mark) (words numbers : List ℕ) → AreReady ids marks words numbers
      → AreReady grown marks words numbers
  each_grown [] words numbers is = is
  each_grown (m ∷ marks) words numbers is =
      (ready_grown m words numbers is.0, each_grown marks (drop (mark_words m) words) (drop (numbers_of m) numbers) is.1)

  pub laid_grown : (marks : List Mark) (words numbers : List ℕ) (marked : ℕ) → IsLaid marks words numbers marked ids
      → IsLaid marks words numbers marked grown
  laid_grown marks words numbers marked is = record {
    each = each_grown marks words numbers is.each;
    whose = λ r lt. g.whose r lt ∙ is.whose r lt;
    all = is.all;
    utf8 = is.utf8;
  }

-- ## Nothing yet

pub laid_none : (marks : List Mark) (words numbers : List ℕ) (ids : List (ℕ × ℕ)) → marks ≡ [] → words ≡ []
    → numbers ≡ [] → AreOwn ids → IsLaid marks words numbers 0 ids
laid_none marks words numbers ids no_marks no_words no_numbers whose =
    rw (no_marks, no_words, no_numbers) (record { each = refl; whose = whose; all = refl; utf8 = IsUtf8-nil })

pub text_none : (marks : List Mark) (words numbers : List ℕ) → marks ≡ [] → words ≡ []
    → laid_text marks words numbers ≡ []
text_none marks words numbers no_marks no_words = rw (no_marks, no_words) refl

-- the eight replicas' texts, one after another
module _ (a b c d e f g h : ℕ × ℕ) (a_is : a ≡ (0, 0)) (b_is : b ≡ (1, 0)) (c_is : c ≡ (2, 0)) (d_is : d ≡ (3, 0))
    (e_is : e ≡ (4, 0)) (f_is : f ≡ (5, 0)) (g_is : g ≡ (6, 0)) (h_is : h ≡ (7, 0)) where
  pub each_own : (r : ℕ) → r < 8 → (kept_of (a ∷ b ∷ c ∷ d ∷ e ∷ f ∷ g ∷ h ∷ []) r).0 ≡ r
  each_own zero lt = ap (λ (t : ℕ × ℕ). t.0) a_is
  each_own (suc zero) lt = ap (λ (t : ℕ × ℕ). t.0) b_is
  each_own (suc (suc zero)) lt = ap (λ (t : ℕ × ℕ). t.0) c_is
  each_own (suc (suc (suc zero))) lt = ap (λ (t : ℕ × ℕ). t.0) d_is
  each_own (suc (suc (suc (suc zero)))) lt = ap (λ (t : ℕ × ℕ). t.0) e_is
  each_own (suc (suc (suc (suc (suc zero))))) lt = ap (λ (t : ℕ × ℕ). t.0) f_is
  each_own (suc (suc (suc (suc (suc (suc zero)))))) lt = ap (λ (t : ℕ × ℕ). t.0) g_is
  each_own (suc (suc (suc (suc (suc (suc (suc zero))))))) lt = ap (λ (t : ℕ × ℕ). t.0) h_is
  each_own (suc (suc (suc (suc (suc (suc (suc (suc r)))))))) lt = absurd (omega arith)

-- one replica's text is read, and has grown
module _ (marks : List Mark) (words numbers : List ℕ) (marked : ℕ) (ids : List (ℕ × ℕ)) (r : ℕ) (d new : ℕ × ℕ)
    (is : IsLaid marks words numbers marked ids) (known : r < 8) (there : r < length ids)
    (same : new.0 ≡ (get_or ids r d).0) (more : (get_or ids r d).1 ≤ new.1) where
  old_is : get_or ids r d ≡ kept_of ids r
  old_is = get_or_default ids r d (0, 0) there

  pub grown_whose : new.0 ≡ r
  grown_whose = same ∙ ap (λ (t : ℕ × ℕ). t.0) old_is ∙ is.whose r known

  pub grown_laid : IsLaid marks words numbers marked (set ids r new)
  grown_laid =
      let count : (get_or ids r d).1 ≡ (kept_of ids r).1 = ap (λ (t : ℕ × ℕ). t.1) old_is in
      laid_grown ids (set ids r new) (grows ids r new there (same ∙ ap (λ (t : ℕ × ℕ). t.0) old_is) (omega arith)) marks
      words numbers marked is

  pub grown_ready : (n : ℕ) → 0 < n → n ≤ new.1 → AreIds (set ids r new) r n
  grown_ready n some le =
      let count : (kept_of (set ids r new) r).1 ≡ new.1 =
      ap (λ (t : ℕ × ℕ). t.1) (get_or-set_same ids r new (0, 0) there) in
      record { known = known; some = some; ready = omega arith }

-- ## The marks' texts, and the words behind them

abbrev marked_text : List Mark → (words numbers : List ℕ) → List ℕ
marked_text [] words numbers = []
marked_text (m ∷ marks) words numbers =
    mark_text m words numbers ++ marked_text marks (drop (mark_words m) words) (drop (numbers_of m) numbers)

drop_both : (m n : ℕ) (xs : List ℕ) → drop n (drop m xs) ≡ drop (m + n) xs
drop_both m n xs = drop-drop n m xs

text_split : (marks : List Mark) (words numbers : List ℕ)
    → laid_text marks words numbers ≡ marked_text marks words numbers ++ drop (words_in marks) words
text_split [] words numbers = refl
text_split (m ∷ marks) words numbers =
    let w = drop (mark_words m) words in
    let n = drop (numbers_of m) numbers in
    ap (λ t. mark_text m words numbers ++ t) (text_split marks w n)
    ∙ sym (append_assoc (mark_text m words numbers) (marked_text marks w n) (drop (words_in marks) w))
    ∙ ap (λ t. (mark_text m words numbers ++ marked_text marks w n) ++ t)
    (drop_both (mark_words m) (words_in marks) words)

-- a mark that is ready takes no more words and numbers than there are
module _ (ids : List (ℕ × ℕ)) where
  enough_words : (m : Mark) (words numbers : List ℕ) → IsReadyMark ids m words numbers → mark_words m ≤ length words
  enough_words (Words n) words numbers is = is.1
  enough_words (Ids r) words numbers is = omega arith
  enough_words (MoreIds r) words numbers is = omega arith
  enough_words Counted words numbers is = omega arith
  enough_words Ignored words numbers is = omega arith
  enough_words Kept words numbers is = omega arith
  enough_words Yes words numbers is = omega arith

  enough_numbers : (m : Mark) (words numbers : List ℕ) → IsReadyMark ids m words numbers → numbers_of m ≤ length numbers
  enough_numbers (Words n) words numbers is = omega arith
  enough_numbers (Ids r) words numbers is = is.0
  enough_numbers (MoreIds r) words numbers is = is.0
  enough_numbers Counted words numbers is = is
  enough_numbers Ignored words numbers is = is
  enough_numbers Kept words numbers is = is
  enough_numbers Yes words numbers is = is

  pub words_within : (marks : List Mark) (words numbers : List ℕ) → AreReady ids marks words numbers
      → words_in marks ≤ length words
  words_within [] words numbers is = omega arith
  words_within (m ∷ marks) words numbers is =
      omega (
        arith,
        enough_words m words numbers is.0,
        words_within marks (drop (mark_words m) words)
            (drop (numbers_of m) numbers) is.1,
        length-drop (mark_words m) words,
      )

-- what is kept has no more words with a mark than words
pub marked_within : (marks : List Mark) (words numbers : List ℕ) (marked : ℕ) (ids : List (ℕ × ℕ))
    → IsLaid marks words numbers marked ids → marked ≤ length words
marked_within marks words numbers marked ids is = omega (arith, is.all, words_within ids marks words numbers is.each)

-- nothing was added
pub laid_same : (marks new : List Mark) (words numbers all_numbers : List ℕ) (marked : ℕ) (ids : List (ℕ × ℕ))
    → IsLaid marks words numbers marked ids → new ≡ marks → all_numbers ≡ numbers
    → IsLaid new words all_numbers marked ids
laid_same marks new words numbers all_numbers marked ids is same_marks same_numbers = rw (same_marks, same_numbers) is

-- ## Further words and numbers

module _ (ids : List (ℕ × ℕ)) (words numbers ws ns : List ℕ) where
  -- what a mark takes stays the same
  mark_same : (m : Mark) → IsReadyMark ids m words numbers
      → mark_text m (words ++ ws) (numbers ++ ns) ≡ mark_text m words numbers
  mark_same (Words n) is = take-append-le n words ws is.1
  mark_same (Ids r) is = ap (front false r) (get_or_append_left numbers ns 0 0 is.0)
  mark_same (MoreIds r) is = ap (front true r) (get_or_append_left numbers ns 0 0 is.0)
  mark_same Counted is = ap (λ k. plain_line k plain.Counted) (get_or_append_left numbers ns 0 0 is)
  mark_same Ignored is = ap (λ k. plain_line k plain.Ignored) (get_or_append_left numbers ns 0 0 is)
  mark_same Kept is = ap (λ k. plain_line k plain.Kept) (get_or_append_left numbers ns 0 0 is)
  mark_same Yes is =
      ap (λ k. plain_line k (plain.Yes (get_or (numbers ++ ns) 1 0))) (get_or_append_left numbers ns 0 0 (omega arith))
      ∙ ap (λ k. plain_line (get_or numbers 0 0) (plain.Yes k)) (get_or_append_left numbers ns 0 1 is)

  ids_same : (r : ℕ) → 1 ≤ length numbers → AreIds ids r (get_or numbers 0 0)
      → AreIds ids r (get_or (numbers ++ ns) 0 0)
  ids_same r some is = subst (AreIds ids r) (sym (get_or_append_left numbers ns 0 0 some)) is

  ready_same : (m : Mark) → IsReadyMark ids m words numbers → IsReadyMark ids m (words ++ ws) (numbers ++ ns)
  ready_same (Words n) is = (is.0, omega (arith, is.1, length-append words ws))
  ready_same (Ids r) is = (omega (arith, is.0, length-append numbers ns), ids_same r is.0 is.1)
  ready_same (MoreIds r) is = (omega (arith, is.0, length-append numbers ns), ids_same r is.0 is.1)
  ready_same Counted is = omega (arith, length-append numbers ns)
  ready_same Ignored is = omega (arith, length-append numbers ns)
  ready_same Kept is = omega (arith, length-append numbers ns)
  ready_same Yes is = omega (arith, length-append numbers ns)

-- marks behind others, whose words come behind those of the others, and whose numbers too
module _ (ids : List (ℕ × ℕ)) (more : List Mark) (ws ns : List ℕ) where
  pub text_append : (marks : List Mark) (words numbers : List ℕ) → AreReady ids marks words numbers
      → laid_text (marks ++ more) (words ++ ws) (numbers ++ ns)
      ≡ marked_text marks words numbers ++ laid_text more (drop (words_in marks) words ++ ws) ns
  text_append [] words numbers is = ap (λ n. laid_text more (words ++ ws) (n ++ ns)) is
  text_append (m ∷ marks) words numbers is =
      let w = drop (mark_words m) words in
      let n = drop (numbers_of m) numbers in
      ap (λ t. t ++ laid_text (marks ++ more) (drop (mark_words m) (words ++ ws)) (drop (numbers_of m) (numbers ++ ns)))
      (mark_same ids words numbers ws ns m is.0)
      ∙ ap (λ t. mark_text m words numbers ++ laid_text (marks ++ more) t (drop (numbers_of m) (numbers ++ ns)))
      (drop-append-le (mark_words m) words ws (enough_words ids m words numbers is.0))
      ∙ ap (λ t. mark_text m words numbers ++ laid_text (marks ++ more) (w ++ ws) t)
      (drop-append-le (numbers_of m) numbers ns (enough_numbers ids m words numbers is.0))
      ∙ ap (λ t. mark_text m words numbers ++ t) (text_append marks w n is.1)
      ∙ sym
      (append_assoc (mark_text m words numbers) (marked_text marks w n)
      (laid_text more (drop (words_in marks) w ++ ws) ns))
      ∙ ap (λ t. (mark_text m words numbers ++ marked_text marks w n) ++ laid_text more (t ++ ws) ns)
      (drop_both (mark_words m) (words_in marks) words)

  pub ready_append : (marks : List Mark) (words numbers : List ℕ) → AreReady ids marks words numbers
      → AreReady ids more (drop (words_in marks) words ++ ws) ns
      → AreReady ids (marks ++ more) (words ++ ws) (numbers ++ ns)
  ready_append [] words numbers is next = subst (λ n. AreReady ids more (words ++ ws) (n ++ ns)) (sym is) next
  ready_append (m ∷ marks) words numbers is next =
      let w = drop (mark_words m) words in
      let n = drop (numbers_of m) numbers in
      let next_is =
      subst (λ t. AreReady ids more (t ++ ws) ns) (sym (drop_both (mark_words m) (words_in marks) words)) next in
      let rest = ready_append marks w n is.1 next_is in (
        ready_same ids words numbers ws ns m is.0,
        subst (λ t. AreReady ids (marks ++ more) t (drop (numbers_of m) (numbers ++ ns)))
            (sym (drop-append-le (mark_words m) words ws (enough_words ids m words numbers is.0)))
            (subst (λ t. AreReady ids (marks ++ more) (w ++ ws) t)
            (sym (drop-append-le (numbers_of m) numbers ns (enough_numbers ids m words numbers is.0))) rest),
      )

-- ## Words behind all

module _ (marks : List Mark) (words more numbers : List ℕ) (marked : ℕ) (ids : List (ℕ × ℕ))
    (is : IsLaid marks words numbers marked ids) where
  pub text_words : laid_text marks (words ++ more) numbers ≡ laid_text marks words numbers ++ more
  text_words =
      ap (λ ms. laid_text ms (words ++ more) numbers) (sym (append-nil marks))
      ∙ ap (λ n. laid_text (marks ++ []) (words ++ more) n) (sym (append-nil numbers))
      ∙ text_append ids [] more [] marks words numbers is.each
      ∙ sym (append_assoc (marked_text marks words numbers) (drop (words_in marks) words) more)
      ∙ ap (λ t. t ++ more) (sym (text_split marks words numbers))

  pub laid_words : IsUtf8 more → IsLaid marks (words ++ more) numbers marked ids
  laid_words utf8 = record {
    each =
        subst (λ ms. AreReady ids ms (words ++ more) numbers) (append-nil marks)
        (subst (λ n. AreReady ids (marks ++ []) (words ++ more) n) (append-nil numbers)
        (ready_append ids [] more [] marks words numbers is.each refl));
    whose = is.whose;
    all = is.all;
    utf8 = subst IsUtf8 (sym text_words) (IsUtf8-append _ _ is.utf8 utf8);
  }

-- words that were added, unless memory was refused
module _ {T E : Type 0} (r : Result T E) (marks : List Mark) (words more text new numbers : List ℕ) (marked : ℕ)
    (ids : List (ℕ × ℕ)) (is : IsLaid marks words numbers marked ids) (same : more ≡ text) where
  pub laid_if : IsUtf8 text → new ≡ cond (is_ok r) (words ++ more) words → IsLaid marks new numbers marked ids
  laid_if utf8 is_new = subst (λ ws. IsLaid marks ws numbers marked ids) (sym is_new) (by_case (is_ok r))
    where
      by_case : (b : Bool) → IsLaid marks (cond b (words ++ more) words) numbers marked ids
      by_case true = laid_words marks words more numbers marked ids is (subst IsUtf8 (sym same) utf8)
      by_case false = is

pub text_if : {T E : Type 0} (r : Result T E) (marks : List Mark) (words more text new numbers : List ℕ) (marked : ℕ)
    (ids : List (ℕ × ℕ)) (old : List ℕ) → IsLaid marks words numbers marked ids → more ≡ text
    → laid_text marks words numbers ≡ old → new ≡ cond (is_ok r) (words ++ more) words
    → OnOk r (laid_text marks new numbers ≡ old ++ text)
text_if (Ok x) marks words more text new numbers marked ids old is same view is_new =
    ap (λ ws. laid_text marks ws numbers) is_new ∙ text_words marks words more numbers marked ids is
    ∙ ap (λ t. t ++ more) view ∙ ap (λ t. old ++ t) same
text_if (Err e) marks words more text new numbers marked ids old is same view is_new = tt

-- ## A further mark

-- a mark that takes no words says the same whatever words are left
text_alone : (m : Mark) (words numbers : List ℕ) → mark_words m ≡ 0 → mark_text m words numbers ≡ mark_text m [] numbers
text_alone (Words n) words numbers none = rw none refl
text_alone (Ids r) words numbers none = refl
text_alone (MoreIds r) words numbers none = refl
text_alone Counted words numbers none = refl
text_alone Ignored words numbers none = refl
text_alone Kept words numbers none = refl
text_alone Yes words numbers none = refl

no_words_left : (words : List ℕ) → 0 ≡ length words → words ≡ []
no_words_left [] none = refl
no_words_left (w ∷ words) none = absurd (omega arith)

-- runs of all words that are left, and then a mark that takes no words
module _ (m : Mark) (numbers : List ℕ) (no_words : mark_words m ≡ 0) where
  runs_text : (runs : List Mark) (words : List ℕ) → All IsRunMark runs → words_in runs ≡ length words
      → laid_text (runs ++ m ∷ []) words numbers ≡ words ++ mark_text m [] numbers
  runs_text [] words each all =
      rw (no_words_left words all)
      (ap (λ t. mark_text m [] numbers ++ t) (drop_all (mark_words m) [] (omega arith))
      ∙ append-nil (mark_text m [] numbers))
  runs_text (Words n ∷ runs) words each all =
      let rest : words_in runs ≡ length (drop n words) = omega (arith, length-drop n words) in
      ap (λ t. take n words ++ t) (runs_text runs (drop n words) (All-tail IsRunMark (Words n) runs each) rest)
      ∙ sym (append_assoc (take n words) (drop n words) (mark_text m [] numbers))
      ∙ ap (λ t. t ++ mark_text m [] numbers) (take-append-drop n words)
  runs_text (Ids r ∷ runs) words each all = absurd (All-head IsRunMark (Ids r) runs each)
  runs_text (MoreIds r ∷ runs) words each all = absurd (All-head IsRunMark (MoreIds r) runs each)
  runs_text (Counted ∷ runs) words each all = absurd (All-head IsRunMark Counted runs each)
  runs_text (Ignored ∷ runs) words each all = absurd (All-head IsRunMark Ignored runs each)
  runs_text (Kept ∷ runs) words each all = absurd (All-head IsRunMark Kept runs each)
  runs_text (Yes ∷ runs) words each all = absurd (All-head IsRunMark Yes runs each)

  module _ (ids : List (ℕ × ℕ)) (ready : IsReadyMark ids m [] numbers) (takes : length numbers ≡ numbers_of m) where
    runs_ready : (runs : List Mark) (words : List ℕ) → All IsRunMark runs → words_in runs ≡ length words
        → AreReady ids (runs ++ m ∷ []) words numbers
    runs_ready [] words each all = rw (no_words_left words all) (ready, drop_all (numbers_of m) numbers (omega arith))
    runs_ready (Words n ∷ runs) words each all =
        let rest : words_in runs ≡ length (drop n words) = omega (arith, length-drop n words) in (
          (All-head IsRunMark (Words n) runs each, omega arith),
          runs_ready runs (drop n words)
              (All-tail IsRunMark (Words n) runs each) rest,
        )
    runs_ready (Ids r ∷ runs) words each all = absurd (All-head IsRunMark (Ids r) runs each)
    runs_ready (MoreIds r ∷ runs) words each all = absurd (All-head IsRunMark (MoreIds r) runs each)
    runs_ready (Counted ∷ runs) words each all = absurd (All-head IsRunMark Counted runs each)
    runs_ready (Ignored ∷ runs) words each all = absurd (All-head IsRunMark Ignored runs each)
    runs_ready (Kept ∷ runs) words each all = absurd (All-head IsRunMark Kept runs each)
    runs_ready (Yes ∷ runs) words each all = absurd (All-head IsRunMark Yes runs each)

words_in-append : (xs ys : List Mark) → words_in (xs ++ ys) ≡ words_in xs + words_in ys
words_in-append [] ys = omega arith
words_in-append (x ∷ xs) ys = omega (arith, words_in-append xs ys)

-- a run more
pub runs_more : (before marks after : List Mark) (count n all : ℕ) → AddsRuns count before marks → 0 < n
    → after ≡ marks ++ Words n ∷ [] → all ≡ count + n → AddsRuns all before after
runs_more before marks after count n all adds some is sum = (
  adds.0 ++ Words n ∷ [],
  is ∙ ap (λ ms. ms ++ Words n ∷ []) adds.1 ∙ append_assoc before adds.0 (Words n ∷ []),
  All-push IsRunMark adds.0 (Words n) adds.2 some,
  omega (arith, adds.3, words_in-append adds.0 (Words n ∷ [])),
)

-- the words that had no mark have one now, and a mark stands behind them
module _ (marks new : List Mark) (words numbers more all_numbers : List ℕ) (marked count : ℕ) (ids : List (ℕ × ℕ))
    (m : Mark) (is : IsLaid marks words numbers marked ids) (left : count ≡ length words - marked)
    (adds : AddsMark count m marks new) (is_numbers : all_numbers ≡ numbers ++ more) (no_words : mark_words m ≡ 0) where
  abbrev runs : List Mark
  runs = adds.1.0

  abbrev words_left : List ℕ
  words_left = drop (words_in marks) words

  new_is : new ≡ marks ++ (runs ++ m ∷ [])
  new_is = adds.2 ∙ ap (λ ms. ms ++ m ∷ []) adds.1.1 ∙ append_assoc marks runs (m ∷ [])

  all_left : words_in runs ≡ length (words_left ++ [])
  all_left = omega (arith, adds.1.3, is.all, length-drop (words_in marks) words, length-append words_left [])

  pub text_mark : laid_text new words all_numbers ≡ laid_text marks words numbers ++ mark_text m [] more
  text_mark =
      ap (λ ms. laid_text ms words all_numbers) new_is
      ∙ ap (λ n. laid_text (marks ++ (runs ++ m ∷ [])) words n) is_numbers
      ∙ ap (λ w. laid_text (marks ++ (runs ++ m ∷ [])) w (numbers ++ more)) (sym (append-nil words))
      ∙ text_append ids (runs ++ m ∷ []) [] more marks words numbers is.each
      ∙ ap (λ t. marked_text marks words numbers ++ t)
      (runs_text m more no_words runs (words_left ++ []) adds.1.2 all_left)
      ∙ ap (λ t. marked_text marks words numbers ++ (t ++ mark_text m [] more)) (append-nil words_left)
      ∙ sym (append_assoc (marked_text marks words numbers) words_left (mark_text m [] more))
      ∙ ap (λ t. t ++ mark_text m [] more) (sym (text_split marks words numbers))

  pub text_next : (old : List ℕ) → laid_text marks words numbers ≡ old
      → laid_text new words all_numbers ≡ old ++ mark_text m [] more
  text_next old view = text_mark ∙ ap (λ t. t ++ mark_text m [] more) view

  pub laid_mark : IsReadyMark ids m [] more → length more ≡ numbers_of m → IsUtf8 (mark_text m [] more) → (at : ℕ)
      → at ≡ length words → IsLaid new words all_numbers at ids
  laid_mark ready takes utf8 at end =
      let there = runs_ready m more no_words ids ready takes runs (words_left ++ []) adds.1.2 all_left in
      let each = ready_append ids (runs ++ m ∷ []) [] more marks words numbers is.each there in
      let within = words_within ids marks words numbers is.each in
      let sum : words_in new ≡ words_in (marks ++ (runs ++ m ∷ [])) = ap words_in new_is in
      record {
        each =
            subst (λ ms. AreReady ids ms words all_numbers) (sym new_is)
            (subst (λ n. AreReady ids (marks ++ (runs ++ m ∷ [])) words n) (sym is_numbers)
            (subst (λ w. AreReady ids (marks ++ (runs ++ m ∷ [])) w (numbers ++ more)) (append-nil words) each));
        whose = is.whose;
        all =
            omega
            (arith, sum, within, is.all, adds.1.3, words_in-append marks (runs ++ m ∷ []), words_in-append runs (m ∷ []));
        utf8 = subst IsUtf8 (sym text_mark) (IsUtf8-append _ _ is.utf8 utf8);
      }

-- the mark of ids
module _ (b : Bool) (r n : ℕ) where
  ids_text_is : mark_text (ids_mark b r) [] (n ∷ []) ≡ front b r n
  ids_text_is = elim b as (λ v. mark_text (ids_mark v r) [] (n ∷ []) ≡ front v r n) [ true ↦ refl | false ↦ refl ]

  no_ids_words : mark_words (ids_mark b r) ≡ 0
  no_ids_words = elim b as (λ v. mark_words (ids_mark v r) ≡ 0) [ true ↦ refl | false ↦ refl ]

  one_number : 1 ≡ numbers_of (ids_mark b r)
  one_number = elim b as (λ v. 1 ≡ numbers_of (ids_mark v r)) [ true ↦ refl | false ↦ refl ]

  ids_ready : (ids : List (ℕ × ℕ)) → AreIds ids r n → IsReadyMark ids (ids_mark b r) [] (n ∷ [])
  ids_ready ids is =
      let one : 1 ≤ length (n ∷ []) = omega arith in
      elim b as (λ v. IsReadyMark ids (ids_mark v r) [] (n ∷ [])) [ true ↦ (one, is) | false ↦ (one, is) ]

module _ (marks new : List Mark) (words numbers all_numbers : List ℕ) (marked count : ℕ) (ids : List (ℕ × ℕ)) (b : Bool)
    (r n : ℕ) (m : Mark) (m_is : m ≡ ids_mark b r) (is : IsLaid marks words numbers marked ids)
    (left : count ≡ length words - marked) (adds : AddsMark count m marks new)
    (is_numbers : all_numbers ≡ numbers ++ n ∷ []) where
  adds_ids : AddsMark count (ids_mark b r) marks new
  adds_ids = subst (λ k. AddsMark count k marks new) m_is adds

  pub ids_next : (old : List ℕ) → laid_text marks words numbers ≡ old
      → laid_text new words all_numbers ≡ old ++ front b r n
  ids_next old view =
      text_next marks new words numbers (n ∷ []) all_numbers marked count ids (ids_mark b r) is left adds_ids is_numbers
      (no_ids_words b r n) old view
      ∙ ap (λ t. old ++ t) (ids_text_is b r n)

  pub ids_laid : AreIds ids r n → IsUtf8 (front b r n) → (at : ℕ) → at ≡ length words
      → IsLaid new words all_numbers at ids
  ids_laid ready utf8 at end =
      laid_mark marks new words numbers (n ∷ []) all_numbers marked count ids (ids_mark b r) is left adds_ids is_numbers
      (no_ids_words b r n)
      (ids_ready b r n ids ready) (one_number b r n) (subst IsUtf8 (sym (ids_text_is b r n)) utf8) at end

-- the mark of a line
line_no_words : (m : Mark) (numbers : List ℕ) → IsLine m numbers → mark_words m ≡ 0
line_no_words (Words n) numbers is = absurd is
line_no_words (Ids r) numbers is = refl
line_no_words (MoreIds r) numbers is = refl
line_no_words Counted numbers is = refl
line_no_words Ignored numbers is = refl
line_no_words Kept numbers is = refl
line_no_words Yes numbers is = refl

line_takes : (m : Mark) (numbers : List ℕ) → IsLine m numbers → length numbers ≡ numbers_of m
line_takes (Words n) numbers is = absurd is
line_takes (Ids r) numbers is = absurd is
line_takes (MoreIds r) numbers is = absurd is
line_takes Counted numbers is = is
line_takes Ignored numbers is = is
line_takes Kept numbers is = is
line_takes Yes numbers is = is

line_ready : (ids : List (ℕ × ℕ)) (m : Mark) (numbers : List ℕ) → IsLine m numbers → IsReadyMark ids m [] numbers
line_ready ids (Words n) numbers is = absurd is
line_ready ids (Ids r) numbers is = absurd is
line_ready ids (MoreIds r) numbers is = absurd is
line_ready ids Counted numbers is = omega arith
line_ready ids Ignored numbers is = omega arith
line_ready ids Kept numbers is = omega arith
line_ready ids Yes numbers is = omega arith

module _ (marks new : List Mark) (words numbers more all_numbers : List ℕ) (marked count : ℕ) (ids : List (ℕ × ℕ))
    (m : Mark) (line : IsLine m more) (is : IsLaid marks words numbers marked ids) (left : count ≡ length words - marked)
    (adds : AddsMark count m marks new) (is_numbers : all_numbers ≡ numbers ++ more) where
  pub line_next : (old : List ℕ) → laid_text marks words numbers ≡ old
      → laid_text new words all_numbers ≡ old ++ mark_text m [] more
  line_next old view =
      text_next marks new words numbers more all_numbers marked count ids m is left adds is_numbers
      (line_no_words m more line) old view

  pub line_laid : IsUtf8 (mark_text m [] more) → (at : ℕ) → at ≡ length words → IsLaid new words all_numbers at ids
  line_laid utf8 at end =
      laid_mark marks new words numbers more all_numbers marked count ids m is left adds is_numbers
      (line_no_words m more line) (line_ready ids m more line) (line_takes m more line) utf8 at end

-- ## What a mark stands for is not empty

pub mark_some : (ids : List (ℕ × ℕ)) (m : Mark) (words numbers : List ℕ) → IsReadyMark ids m words numbers
    → 0 < length (mark_text m words numbers)
mark_some ids (Words n) words numbers is = omega (arith, is.0, is.1, length-take n words)
mark_some ids (Ids r) words numbers is = front_some false r (get_or numbers 0 0) is.1.some
mark_some ids (MoreIds r) words numbers is = front_some true r (get_or numbers 0 0) is.1.some
mark_some ids Counted words numbers is = line_some _ plain.Counted
mark_some ids Ignored words numbers is = line_some _ plain.Ignored
mark_some ids Kept words numbers is = line_some _ plain.Kept
mark_some ids Yes words numbers is = line_some _ (plain.Yes _)
