-- Words that are no question or take, or that wait for nothing.
use Rattle.std.proofs.Common.{◌≡◌, ℕ, ◌-◌, ◌<◌, ◌≤◌, Bool, true, false, cond, ◌&&◌, List, [], ◌∷◌, length, get_or}
use Rattle.std.proofs.Common.{None, Bor, refl, sym, ap, ◌∙◌, arith}
use Rattle.std.specs.Str.{bytes_eq}
use Rattle.std.proofs.Math.Bool.{and-false}
use Rattle.std.proofs.lemmas.List.{get_or-map, length-map}
use Rattle.std.proofs.lemmas.Slice.Eq.{bytes_eq-Decides}
use Rattle.la_script.specs.declared.forms.Keyword.TheVariants as keyword
use Rattle.la_script.specs.Forms.{spelling}
use Rattle.la_script.specs.Lines.{words_of}
use Rattle.la_script.specs.Words.{bytes_of}
use Rattle.la_wire.specs.Questions.{tags_word, at_word, question_asked, update_asked, take_by, awaited_by, from_last}
use Rattle.la_wire.specs.Questions.{awaits}
use Rattle.la_wire.specs.Questions.{awaited_in}

-- of other numbers of words
pub no_question : (ws : List (Bor (List ℕ))) → (length ws ≡ 3 → ⊥) → (length ws ≡ 4 → ⊥)
    → None ≡ question_asked (bytes_of ws)
no_question [] three four = refl
no_question (a ∷ []) three four = refl
no_question (a ∷ b ∷ []) three four = refl
no_question (a ∷ b ∷ c ∷ []) three four = absurd (three refl)
no_question (a ∷ b ∷ c ∷ d ∷ []) three four = absurd (four refl)
no_question (a ∷ b ∷ c ∷ d ∷ e ∷ ws) three four = refl

-- of four words, where the third is not `tags`
pub other_question : (ws : List (Bor (List ℕ))) (x : Bor (List ℕ)) → length ws ≡ 4
    → bytes_eq (get_or ws 2 x).now tags_word ≡ false → None ≡ question_asked (bytes_of ws)
other_question [] x four not = absurd (omega (arith, four))
other_question (a ∷ []) x four not = absurd (omega (arith, four))
other_question (a ∷ b ∷ []) x four not = absurd (omega (arith, four))
other_question (a ∷ b ∷ c ∷ []) x four not = absurd (omega (arith, four))
other_question (a ∷ b ∷ c ∷ d ∷ []) x four not = rw not refl
other_question (a ∷ b ∷ c ∷ d ∷ e ∷ ws) x four not = absurd (omega (arith, four))

pub no_update : (ws : List (Bor (List ℕ))) → (length ws ≡ 2 → ⊥) → None ≡ update_asked (bytes_of ws)
no_update [] two = refl
no_update (a ∷ []) two = refl
no_update (a ∷ b ∷ []) two = absurd (two refl)
no_update (a ∷ b ∷ c ∷ ws) two = refl

pub no_take : (ws : List (Bor (List ℕ))) → (length ws ≡ 5 → ⊥) → None ≡ take_by (bytes_of ws)
no_take [] five = refl
no_take (a ∷ []) five = refl
no_take (a ∷ b ∷ []) five = refl
no_take (a ∷ b ∷ c ∷ []) five = refl
no_take (a ∷ b ∷ c ∷ d ∷ []) five = refl
no_take (a ∷ b ∷ c ∷ d ∷ e ∷ []) five = absurd (five refl)
no_take (a ∷ b ∷ c ∷ d ∷ e ∷ f ∷ ws) five = refl

-- ## Questions that wait

-- no word is both
not_both : (w : List ℕ) (b : Bool) → bytes_eq w (spelling keyword.Ask) ≡ b → (b && bytes_eq w at_word) ≡ false
not_both w true is = ap (λ v. bytes_eq v at_word) ((bytes_eq-Decides w (spelling keyword.Ask)).0 is)
not_both w false is = refl

pub too_few : (ws : List (Bor (List ℕ))) → length ws < 3 → awaits (bytes_of ws) ≡ false
too_few [] few = refl
too_few (a ∷ []) few = not_both a.now (bytes_eq a.now (spelling keyword.Ask)) refl
too_few (a ∷ b ∷ []) few = not_both a.now (bytes_eq a.now (spelling keyword.Ask)) refl
too_few (a ∷ b ∷ c ∷ ws) few = absurd (omega (arith, few))

module _ (ws : List (Bor (List ℕ))) (x : Bor (List ℕ)) (some : 3 ≤ length ws) where
  pub other_first : bytes_eq (get_or ws 0 x).now (spelling keyword.Ask) ≡ false → awaits (bytes_of ws) ≡ false
  other_first not =
      ap (λ w. bytes_eq w (spelling keyword.Ask) && bytes_eq (from_last 2 (bytes_of ws)) at_word)
      (get_or-map (λ (w : Bor (List ℕ)). w.now) ws 0 x [] (omega (arith, some)))
      ∙ ap (λ b. b && bytes_eq (from_last 2 (bytes_of ws)) at_word) not

  pub other_at : bytes_eq (get_or ws (length ws - 2) x).now at_word ≡ false → awaits (bytes_of ws) ≡ false
  other_at not =
      ap (λ b. bytes_eq (get_or (bytes_of ws) 0 []) (spelling keyword.Ask) && b)
      (ap (λ n. bytes_eq (get_or (bytes_of ws) (n - 2) []) at_word) (length-map ws (λ (w : Bor (List ℕ)). w.now))
      ∙ ap (λ w. bytes_eq w at_word)
      (get_or-map (λ (w : Bor (List ℕ)). w.now) ws (length ws - 2) x [] (omega (arith, some)))
      ∙ not)
      ∙ and-false (bytes_eq (get_or (bytes_of ws) 0 []) (spelling keyword.Ask))

pub waits_for_none : (line : List ℕ) (ws : List (Bor (List ℕ))) → bytes_of ws ≡ words_of line
    → awaits (bytes_of ws) ≡ false → None ≡ awaited_in line
unfolding awaited_in
waits_for_none line ws are not =
    sym (ap (λ b. cond b (awaited_by line (from_last 1 (words_of line))) None) (ap awaits (sym are) ∙ not))
