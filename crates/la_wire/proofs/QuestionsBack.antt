-- Questions, takes and questions that wait are read as they were written.
use Rattle.std.proofs.Common.{◌≡◌, ℕ, ◌+◌, ◌-◌, ◌≤◌, Bool, true, cond, eqb, List, [], ◌∷◌, ◌++◌, length, take}
use Rattle.std.proofs.Common.{get_or, All, Option, Some, None, refl, ap, ◌∙◌, arith, append_assoc, length-append}
use Rattle.std.proofs.Common.{inl, inr}
use Rattle.std.specs.Prelude.{codes}
use Rattle.std.specs.Fmt.{decimal}
use Rattle.std.specs.List.{list_all, slice_split, onto_first}
use Rattle.std.proofs.Math.Seq.{take-append_seam, get_or-append_seam}
use Rattle.std.proofs.lemmas.Bool.{cases_Bool}
use Rattle.std.proofs.lemmas.List.{get_or-append-add}
use Rattle.std.proofs.lemmas.List.Elements.{All-nil, All-cons}
use Rattle.std.proofs.lemmas.List.Splits.{slice_split_none, slice_split_at}
use Rattle.std.proofs.lemmas.List.Sums.{AllPass-from_list_all}
use Rattle.la_set.specs.declared.update.UpdateId.{UpdateId}
use Rattle.la_script.specs.declared.forms.Keyword.TheVariants as keyword
use Rattle.la_script.specs.Forms.{spelling}
use Rattle.la_script.specs.Lines.{words_of}
use Rattle.la_script.specs.Numbers.{u8_max, u16_max, u64_max, number}
use Rattle.la_script.specs.Text.{id_text}
use Rattle.la_wire.specs.declared.questions.Question.{Question}
use Rattle.la_wire.specs.declared.questions.Question.TheVariants.{Tags, Updates, Update, Status}
use Rattle.la_wire.specs.declared.questions.Take.{Take}
use Rattle.la_wire.specs.Joined.{joined_by}
use Rattle.la_wire.specs.Joined.{front_word}
use Rattle.la_wire.specs.Writable.{IsId}
use Rattle.la_wire.specs.Questions.{status_word, update_word, tags_word, updates_word, take_word, at_word, question_by}
use Rattle.la_wire.specs.Questions.{question_in}
use Rattle.la_wire.specs.Questions.{taker_by, taker_of, take_by, take_in, without_at, awaited_by, from_last}
use Rattle.la_wire.specs.Questions.{awaits, awaited_in, question_text, taker_text, take_text, IsQuestion, IsTakeNumber}
use Rattle.la_wire.specs.Questions.{IsTake}
use Rattle.la_wire.proofs.Decimals.{number-decimal, decimal-canonical, decimal-plain, is_plain, IsPlain}
use Rattle.la_wire.proofs.Ids.{id-plain, id-back}
use Rattle.la_wire.proofs.Joins.{plain-no_space, words-back}
use Rattle.la_wire.proofs.Typed.{typed-id}
use Rattle.la_wire.proofs.FirstWords.{first_part}
use Rattle.la_wire.proofs.NumberedLines.{canonical_no_id}

-- ## Numbers

replica-back : (r : ℕ) → r ≤ u8_max → number 0 u8_max (decimal r) ≡ Some r
replica-back r few = number-decimal 0 u8_max r (omega arith) few (omega arith)

object-back : (o : ℕ) → o ≤ u16_max → number 0 u16_max (decimal o) ≡ Some o
object-back o few = number-decimal 0 u16_max o (omega arith) few (omega arith)

element-back : (x : ℕ) → x ≤ u64_max → number 0 u64_max (decimal x) ≡ Some x
element-back x few = number-decimal 0 u64_max x (omega arith) few (omega arith)

plain-number : (n : ℕ) → n ≤ u64_max → IsPlain (decimal n)
plain-number n few = decimal-plain n (omega (arith, few))

-- words behind a first one, the third of which is fixed
module _ (first a b word : List ℕ) (more : List (List ℕ)) where
  four-back : list_all is_plain first ≡ true → IsPlain a → IsPlain b → list_all is_plain word ≡ true → All IsPlain more
      → words_of (joined_by 32 (first ∷ a ∷ b ∷ word ∷ more)) ≡ first ∷ a ∷ b ∷ word ∷ more
  four-back one two three four rest =
      words-back first (a ∷ b ∷ word ∷ more) (AllPass-from_list_all is_plain first one)
      (All-cons IsPlain a (b ∷ word ∷ more) two
      (All-cons IsPlain b (word ∷ more) three
      (All-cons IsPlain word more (AllPass-from_list_all is_plain word four) rest)))

one-plain : (n : ℕ) → n ≤ u64_max → All IsPlain (decimal n ∷ [])
one-plain n few = All-cons IsPlain (decimal n) [] (plain-number n few) (All-nil IsPlain)

-- ## Questions

pub question-back : (q : Question) → IsQuestion q → question_in (question_text q) ≡ Some q
unfolding question_in
question-back (Tags r o x) is =
    ap question_by
    (four-back (spelling keyword.Ask) (decimal r) (decimal o) tags_word (decimal x ∷ []) refl
    (plain-number r (omega (arith, is.0))) (plain-number o (omega (arith, is.1))) refl (one-plain x is.2))
    ∙ rw (replica-back r is.0, object-back o is.1, element-back x is.2) refl
question-back (Updates r o) is =
    ap question_by
    (four-back (spelling keyword.Ask) (decimal r) (decimal o) updates_word [] refl
    (plain-number r (omega (arith, is.0))) (plain-number o (omega (arith, is.1))) refl (All-nil IsPlain))
    ∙ rw (replica-back r is.0, object-back o is.1) refl
question-back (Update r id) is =
    ap question_by
    (words-back update_word (decimal r ∷ id_text id ∷ []) (AllPass-from_list_all is_plain update_word refl)
    (All-cons IsPlain (decimal r) (id_text id ∷ []) (plain-number r (omega (arith, is.0)))
    (All-cons IsPlain (id_text id) [] (id-plain id (typed-id id is.1)) (All-nil IsPlain))))
    ∙ rw (replica-back r is.0, id-back id is.1) refl
question-back (Status r) is =
    ap question_by
    (words-back status_word (decimal r ∷ []) (AllPass-from_list_all is_plain status_word refl)
    (one-plain r (omega (arith, is))))
    ∙ rw (replica-back r is) refl

-- ## Takes

abbrev id-of : (r n : ℕ) → UpdateId
id-of r n = record { replica = r; number = n }

is-id : (r n : ℕ) → r ≤ u8_max → IsTakeNumber (Some n) → IsId (id-of r n)
is-id r n few is = record { replica = few; some = is.0; number = is.1 }

taker-back : (r : ℕ) (number : Option ℕ) → r ≤ u8_max → IsTakeNumber number
    → taker_of (taker_text r number) ≡ Some (r, number)
taker-back r None few is = rw (canonical_no_id (decimal r) (decimal-canonical r (omega arith)), replica-back r few) refl
taker-back r (Some n) few is = ap (taker_by (id_text (id-of r n))) (id-back (id-of r n) (is-id r n few is))

taker-plain : (r : ℕ) (number : Option ℕ) → r ≤ u8_max → IsTakeNumber number → IsPlain (taker_text r number)
taker-plain r None few is = plain-number r (omega (arith, few))
taker-plain r (Some n) few is = id-plain (id-of r n) (typed-id (id-of r n) (is-id r n few is))

pub take-back : (t : Take) → IsTake t → take_in (take_text t) ≡ Some t
unfolding take_in
take-back t is =
    ap take_by
    (four-back (spelling keyword.Submit) (taker_text t.replica t.number) (decimal t.object) take_word
    (decimal t.element ∷ []) refl (taker-plain t.replica t.number is.replica is.number)
    (plain-number t.object (omega (arith, is.object))) refl (one-plain t.element is.element))
    ∙ rw (
      taker-back t.replica t.number is.replica is.number,
      object-back t.object is.object,
      element-back t.element is.element,
    ) refl

-- ## Questions that wait

module _ (p : ℕ → Bool) (b : ℕ) (cuts : p b ≡ true) (ys : List ℕ) where
  onto_more : (x : ℕ) (parts first : List (List ℕ)) (w : List ℕ) → parts ≡ w ∷ first
      → onto_first x (parts ++ slice_split p ys) ≡ onto_first x parts ++ slice_split p ys
  onto_more x parts first w is = rw is refl

  -- what stands behind a byte that parts words has words of its own
  parts_behind : (xs : List ℕ) → slice_split p (xs ++ b ∷ ys) ≡ slice_split p xs ++ slice_split p ys
  parts_behind [] = rw cuts refl
  parts_behind (x ∷ xs) = elim (cases_Bool (p x)) [
    | inl is ↦ rw is (ap (λ parts. [] ∷ parts) (parts_behind xs))
    | inr not ↦
        rw not
        (ap (onto_first x) (parts_behind xs)
        ∙ onto_more x (slice_split p xs) (first_part p xs).0 _ (first_part p xs).1)
  ]

module _ (ws : List (List ℕ)) (v w : List ℕ) where
  last_but_one : from_last 2 (ws ++ v ∷ w ∷ []) ≡ v
  last_but_one =
      ap (λ n. get_or (ws ++ v ∷ w ∷ []) n []) {y = length ws} (omega (arith, length-append ws (v ∷ w ∷ [])))
      ∙ get_or-append_seam ws v (w ∷ []) []

  last_one : from_last 1 (ws ++ v ∷ w ∷ []) ≡ w
  last_one =
      ap (λ n. get_or (ws ++ v ∷ w ∷ []) n []) {y = length ws + 1} (omega (arith, length-append ws (v ∷ w ∷ [])))
      ∙ get_or-append-add ws (v ∷ w ∷ []) 1 []

-- a question, with what it waits for behind it
abbrev waiting : (line : List ℕ) → UpdateId → List ℕ
waiting line id = line ++ codes " at " ++ id_text id

module _ (line : List ℕ) (id : UpdateId) (is : IsId id) where
  behind_line : waiting line id ≡ line ++ (codes " at " ++ id_text id)
  behind_line = append_assoc line (codes " at ") (id_text id)

  waiting_words : words_of (waiting line id) ≡ words_of line ++ at_word ∷ id_text id ∷ []
  waiting_words =
      ap words_of behind_line
      ∙ parts_behind (λ b. eqb b 32) 32 refl (97 ∷ 116 ∷ 32 ∷ id_text id) line
      ∙ ap (λ words. words_of line ++ words)
      (slice_split_at (λ b. eqb b 32) at_word 32 (id_text id)
      (plain-no_space at_word (AllPass-from_list_all is_plain at_word refl)) refl
      ∙ ap (λ words. at_word ∷ words)
      (slice_split_none (λ b. eqb b 32) (id_text id) (plain-no_space (id_text id) (id-plain id (typed-id id is)))))

  as_long : length (waiting line id) - (length (id_text id) + 4) ≡ length line
  as_long = omega (arith, ap length behind_line, length-append line (codes " at " ++ id_text id))

  whole_before : without_at (waiting line id) (id_text id) ≡ line
  whole_before =
      ap (λ n. take n (waiting line id)) as_long
      ∙ ap (take (length line)) behind_line
      ∙ take-append_seam line (codes " at " ++ id_text id)

  pub awaited-back : front_word line ≡ spelling keyword.Ask
      → awaited_in (waiting line id) ≡ Some (record { after = id; plain = line })
  unfolding awaited_in
  awaited-back front =
      let words = first_part (λ b. eqb b 32) line in
      ap (λ ws. cond (awaits ws) (awaited_by (waiting line id) (from_last 1 ws)) None) waiting_words
      ∙ (
      rw (
        ap (λ ws. get_or (ws ++ at_word ∷ id_text id ∷ []) 0 []) words.1 ∙ front,
        last_but_one (words_of line) at_word (id_text id),
        last_one (words_of line) at_word (id_text id),
        id-back id is,
        whole_before,
      ) refl
      )
