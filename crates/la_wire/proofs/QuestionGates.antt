-- Lines whose first word is another are none of these.
use Rattle.std.proofs.Common.{◌≡◌, ℕ, ◌==◌, Bool, false, ◌&&◌, cond, List, [], ◌∷◌, None, refl}
use Rattle.std.proofs.Common.{sym, ap, ◌∙◌}
use Rattle.std.specs.Str.{bytes_eq}
use Rattle.la_script.specs.declared.forms.Keyword.TheVariants as keyword
use Rattle.la_script.specs.Forms.{spelling}
use Rattle.la_script.specs.Numbers.{number, u16_max, u64_max}
use Rattle.la_wire.specs.Questions.{status_word, update_word, update_asked, take_word, at_word, status_asked}
use Rattle.la_wire.specs.Questions.{question_asked, question_by, question_in}
use Rattle.la_wire.specs.Questions.{taker_of, taken_by, take_by, take_in, from_last, awaits, awaited_by, awaited_in}
use Rattle.la_wire.specs.Joined.{front_word}
use Rattle.la_wire.proofs.FirstWords.{first_part}

no_question : (line : List ℕ) → bytes_eq (front_word line) status_word ≡ false
    → bytes_eq (front_word line) update_word ≡ false → bytes_eq (front_word line) (spelling keyword.Ask) ≡ false →
    question_in line ≡ None
unfolding question_in
no_question line status update ask =
    let part = first_part (λ b. b == 32) line in
    ap question_by part.1
    ∙ ap
    (λ t.
    cond t (status_asked part.0)
    (cond (bytes_eq (front_word line) update_word) (update_asked part.0)
    (cond (bytes_eq (front_word line) (spelling keyword.Ask)) (question_asked part.0) None))) status
    ∙ ap
    (λ t.
    cond t (update_asked part.0)
    (cond (bytes_eq (front_word line) (spelling keyword.Ask)) (question_asked part.0) None)) update
    ∙ ap (λ t. cond t (question_asked part.0) None) ask

no_take_by : (word : List ℕ) (words : List (List ℕ)) → bytes_eq word (spelling keyword.Submit) ≡ false
    → take_by (word ∷ words) ≡ None
no_take_by word [] other = refl
no_take_by word (a ∷ []) other = refl
no_take_by word (a ∷ b ∷ []) other = refl
no_take_by word (a ∷ b ∷ c ∷ []) other = refl
no_take_by word (a ∷ b ∷ c ∷ d ∷ []) other =
    ap (λ t. cond (t && bytes_eq c take_word) (taken_by (taker_of a) (number 0 u16_max b) (number 0 u64_max d)) None)
    other
no_take_by word (a ∷ b ∷ c ∷ d ∷ e ∷ words) other = refl

no_take : (line : List ℕ) → bytes_eq (front_word line) (spelling keyword.Submit) ≡ false → take_in line ≡ None
unfolding take_in
no_take line other =
    let part = first_part (λ b. b == 32) line in
    ap take_by part.1 ∙ no_take_by (front_word line) part.0 other

nothing_awaited : (line : List ℕ) → bytes_eq (front_word line) (spelling keyword.Ask) ≡ false
    → awaited_in line ≡ None
unfolding awaited_in
nothing_awaited line other =
    let part = first_part (λ b. b == 32) line in
    ap (λ ws. cond (awaits ws) (awaited_by line (from_last 1 ws)) None) part.1
    ∙ ap
    (λ t.
    cond (t && bytes_eq (from_last 2 (front_word line ∷ part.0)) at_word)
    (awaited_by line (from_last 1 (front_word line ∷ part.0))) None) other

-- by tests of the first word
pub no_question_here : (line : List ℕ) (a b c : Bool) → a ≡ bytes_eq (front_word line) status_word
    → b ≡ bytes_eq (front_word line) update_word → c ≡ bytes_eq (front_word line) (spelling keyword.Ask)
    → a ≡ false → b ≡ false → c ≡ false → None ≡ question_in line
no_question_here line a b c tests updates asks one two three =
    sym (no_question line (sym tests ∙ one) (sym updates ∙ two) (sym asks ∙ three))

pub no_take_here : (line word : List ℕ) (a : Bool) → a ≡ bytes_eq (front_word line) word
    → word ≡ spelling keyword.Submit → a ≡ false → None ≡ take_in line
no_take_here line word a test is other =
    sym (no_take line (ap (bytes_eq (front_word line)) (sym is) ∙ sym test ∙ other))

pub nothing_awaited_here : (line word : List ℕ) (a : Bool) → a ≡ bytes_eq (front_word line) word
    → word ≡ spelling keyword.Ask → a ≡ false → None ≡ awaited_in line
nothing_awaited_here line word a test is other =
    sym (nothing_awaited line (ap (bytes_eq (front_word line)) (sym is) ∙ sym test ∙ other))
