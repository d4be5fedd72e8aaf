-- One word more.
use Rattle.std.proofs.Common.{◌≡◌, ℕ, ◌+◌, ◌<◌, List, [], ◌∷◌, ◌++◌, map, length, take, get_or, refl, sym, ap, ◌∙◌}
use Rattle.std.proofs.Common.{append_assoc, append-nil}
use Rattle.std.proofs.lemmas.List.{take_more}
use Rattle.clap.specs.Words.{Text}
use Rattle.la_call.specs.Options.{spaced_words}

spaced_behind : (xs ys : List Text) → spaced_words (xs ++ ys) ≡ spaced_words xs ++ spaced_words ys
spaced_behind [] ys = refl
spaced_behind (x ∷ xs) ys =
    ap (λ t. 32 ∷ x ++ t) (spaced_behind xs ys)
    ∙ ap (λ t. 32 ∷ t) (sym (append_assoc x (spaced_words xs) (spaced_words ys)))

mapped_behind : {X : Type 0} (f : X → Text) (xs ys : List X) → map f (xs ++ ys) ≡ map f xs ++ map f ys
mapped_behind f [] ys = refl
mapped_behind f (x ∷ xs) ys = ap (λ t. f x ∷ t) (mapped_behind f xs ys)

-- behind a first word some words were put, and then one more
pub one_more_word : {X : Type 0} (f : X → Text) (first : Text) (rest : List X) (i : ℕ) (d : X) → i < length rest
    → (first ++ spaced_words (map f (take i rest))) ++ 32 ∷ f (get_or rest i d)
    ≡ first ++ spaced_words (map f (take (i + 1) rest))
one_more_word f first rest i d within =
    append_assoc first (spaced_words (map f (take i rest))) (32 ∷ f (get_or rest i d))
    ∙ ap (λ t. first ++ t)
    (ap (λ t. spaced_words (map f (take i rest)) ++ 32 ∷ t) (sym (append-nil (f (get_or rest i d))))
    ∙ sym (spaced_behind (map f (take i rest)) (f (get_or rest i d) ∷ []))
    ∙ ap spaced_words (sym (mapped_behind f (take i rest) (get_or rest i d ∷ [])))
    ∙ ap (λ t. spaced_words (map f t)) (sym (take_more rest i d within)))

-- the same, as the bytes are put
pub puts_word : {X : Type 0} (f : X → Text) (words : List X) (i : ℕ) (d : X) → i < length words
    → (start old pushed new : List ℕ) → old ≡ start ++ spaced_words (map f (take i words)) → pushed ≡ old ++ 32 ∷ []
    → new ≡ pushed ++ f (get_or words i d) → new ≡ start ++ spaced_words (map f (take (i + 1) words))
puts_word f words i d within start old pushed new is space word =
    word ∙ ap (λ t. t ++ f (get_or words i d)) space
    ∙ append_assoc old (32 ∷ []) (f (get_or words i d))
    ∙ ap (λ t. t ++ 32 ∷ f (get_or words i d)) is
    ∙ one_more_word f start words i d within
