-- A line whose fourth word is not `own` is no submission of an operation of one's own.
use Rattle.std.proofs.Common.{◌≡◌, ℕ, ◌<◌, ◌≤◌, ◌==◌, true, false, length, List, [], ◌∷◌, refl, sym, ap, ◌∙◌}
use Rattle.std.proofs.Common.{Err, Bor, inl, inr, arith}
use Rattle.std.specs.List.{position_or_len}
use Rattle.std.specs.Str.{bytes_eq}
use Rattle.std.proofs.lemmas.Bool.{cases_lt, cases_Bool, false≢true, and_parts, and_from}
use Rattle.std.proofs.lemmas.List.Splits.{slice_split_first, slice_split_none}
use Rattle.std.proofs.lemmas.List.Sums.{fails_before_first}
use Rattle.la_script.specs.declared.forms.Keyword.TheVariants as keyword
use Rattle.la_script.specs.Forms.{spelling}
use Rattle.la_script.specs.Lines.{words_of}
use Rattle.la_script.specs.Words.{bytes_of}
use Rattle.la_wire.specs.declared.updates.Verb.TheVariants as verb
use Rattle.la_wire.specs.Joined.{front_word, behind_word}
use Rattle.la_wire.specs.Updates.{verb_spelling}
use Rattle.la_wire.specs.declared.error.LineFault.TheVariants.{BadLine}
use Rattle.la_wire.specs.CallLines.{may_be_own, are_own, own_words_call}
use Rattle.la_wire.proofs.FirstWords.{first_part}

head : List (List ℕ) → List ℕ
head [] = []
head (w ∷ ws) = w

tail : List (List ℕ) → List (List ℕ)
tail [] = []
tail (w ∷ ws) = ws

-- the first of a line's words
front-is : (line w : List ℕ) (ws : List (List ℕ)) → words_of line ≡ w ∷ ws → front_word line ≡ w
unfolding head
front-is line w ws is = ap head (sym (first_part (λ b. b == 32) line).1 ∙ is)

-- and those behind it, where there are some
behind-are : (line w v : List ℕ) (ws : List (List ℕ)) → words_of line ≡ w ∷ v ∷ ws
    → words_of (behind_word line) ≡ v ∷ ws
unfolding tail
behind-are line w v ws is = elim (cases_lt (position_or_len (λ b. b == 32) line) (length line)) [
  | inl less ↦ ap tail (sym (slice_split_first (λ b. b == 32) line 0 less) ∙ is)
  | inr past ↦
      let alone : words_of line ≡ line ∷ [] =
      slice_split_none (λ b. b == 32) line
      (λ k d lt. fails_before_first (λ b. b == 32) line k d (omega (arith, lt, past))) in
      absurd (omega (arith, ap length (sym alone ∙ is)))
]

-- by five words
by_words : (line a b c w text : List ℕ) → words_of line ≡ a ∷ b ∷ c ∷ w ∷ text ∷ []
    → (front_word line ≡ a) × (front_word (behind_word (behind_word (behind_word line))) ≡ w)
by_words line a b c w text is =
    let one = behind-are line a b (c ∷ w ∷ text ∷ []) is in
    let two = behind-are (behind_word line) b c (w ∷ text ∷ []) one in
    let three = behind-are (behind_word (behind_word line)) c w (text ∷ []) two in (
      front-is line a (b ∷ c ∷ w ∷ text ∷ []) is,
      front-is (behind_word (behind_word (behind_word line))) w (text ∷ []) three,
    )

own-may : (line : List ℕ) (words : List (List ℕ)) → words_of line ≡ words → are_own words ≡ true
    → may_be_own line ≡ true
own-may line [] is own = absurd (false≢true own)
own-may line (a ∷ []) is own = absurd (false≢true own)
own-may line (a ∷ b ∷ []) is own = absurd (false≢true own)
own-may line (a ∷ b ∷ c ∷ []) is own = absurd (false≢true own)
own-may line (a ∷ b ∷ c ∷ w ∷ []) is own = absurd (false≢true own)
own-may line (a ∷ b ∷ c ∷ w ∷ text ∷ []) is own =
    let fronts = by_words line a b c w text is in
    let parts = and_parts (bytes_eq a (spelling keyword.Submit)) (bytes_eq w (verb_spelling verb.Own)) own in
    and_from _ _ (ap (λ v. bytes_eq v (spelling keyword.Submit)) fronts.0 ∙ parts.0)
    (ap (λ v. bytes_eq v (verb_spelling verb.Own)) fronts.1 ∙ parts.1)
own-may line (a ∷ b ∷ c ∷ w ∷ text ∷ x ∷ more) is own = absurd (false≢true own)

-- ## Other words than five

pub few_words : (ws : List (Bor (List ℕ))) → length ws < 5 → own_words_call (bytes_of ws) ≡ Err BadLine
few_words [] few = refl
few_words (a ∷ []) few = refl
few_words (a ∷ b ∷ []) few = refl
few_words (a ∷ b ∷ c ∷ []) few = refl
few_words (a ∷ b ∷ c ∷ d ∷ []) few = refl
few_words (a ∷ b ∷ c ∷ d ∷ e ∷ ws) few = absurd (omega (arith, few))

pub many_words : (ws : List (Bor (List ℕ))) → 6 ≤ length ws → own_words_call (bytes_of ws) ≡ Err BadLine
many_words [] many = absurd (omega (arith, many))
many_words (a ∷ []) many = absurd (omega (arith, many))
many_words (a ∷ b ∷ []) many = absurd (omega (arith, many))
many_words (a ∷ b ∷ c ∷ []) many = absurd (omega (arith, many))
many_words (a ∷ b ∷ c ∷ d ∷ []) many = absurd (omega (arith, many))
many_words (a ∷ b ∷ c ∷ d ∷ e ∷ []) many = absurd (omega (arith, many))
many_words (a ∷ b ∷ c ∷ d ∷ e ∷ f ∷ ws) many = refl

-- ## By a test of the fronts

pub no_own_here : (line : List ℕ) → may_be_own line ≡ false → are_own (words_of line) ≡ false
no_own_here line other = elim (cases_Bool (are_own (words_of line))) [
  | inl own ↦ absurd (false≢true (sym other ∙ own-may line (words_of line) refl own))
  | inr not ↦ not
]
