-- A run of a list: what stands behind its first so many items, at most so many, gone along from the end.
use Rattle.std.proofs.Common.{◌≡◌, ℕ, ◌+◌, ◌≤◌, List, [], ◌∷◌, ◌++◌, length, map, take, drop, min, reverse, refl, ap, sym, ◌∙◌}
use Rattle.std.proofs.lemmas.List.{reverse-append, drop-take, drop_all, take_min, map-append}

pub map-reverse : {X Y : Type 0} (f : X → Y) (xs : List X) → map f (reverse xs) ≡ reverse (map f xs)
map-reverse f [] = refl
map-reverse f (x ∷ xs) =
    ap (map f) (reverse-append (x ∷ []) xs)
    ∙ map-append f (reverse xs) (x ∷ [])
    ∙ ap (λ ys. ys ++ f x ∷ []) (map-reverse f xs)
    ∙ sym (reverse-append (f x ∷ []) (map f xs))

-- all the way back
pub whole-run : {X Y : Type 0} (f : X → Y) (n m end : ℕ) (all left : List Y) (run : List X)
    → end ≡ min (n + m) (length all) → length left ≤ n → drop n left ++ reverse (map f run) ≡ drop n (take end all)
    → map f (reverse run) ≡ take m (drop n all)
whole-run f n m end all left run is few e =
    map-reverse f run
    ∙ ap (λ ys. ys ++ reverse (map f run)) (sym (drop_all n left few))
    ∙ e
    ∙ ap (λ k. drop n (take k all)) is
    ∙ ap (drop n) (take_min (n + m) all)
    ∙ drop-take n m all
