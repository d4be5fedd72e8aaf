-- What is left of events that are used up one after another: they stand with the last one first.
use Rattle.std.proofs.Common.{◌≡◌, ℕ, ◌+◌, ◌<◌, List, [], ◌∷◌, ◌++◌, length, take, reverse, get_or, refl, ap, sym, ◌∙◌, append_assoc, length-append, arith}
use Rattle.std.proofs.lemmas.List.{reverse-append, take_more, length-take-le}
use Rattle.std.proofs.Math.Seq.{get_or-append_seam}
use Rattle.la_world.specs.declared.event.Event.{Event}

-- after so many
pub record AreLeft (es left : List Event) (i : ℕ) : Type 0 where
  pub are : es ≡ take i es ++ reverse left
  pub many : i + length left ≡ length es

reverse_twice : (xs : List Event) → xs ≡ reverse (reverse xs)
reverse_twice [] = refl
reverse_twice (x ∷ xs) =
    ap (λ l. x ∷ l) (reverse_twice xs) ∙ sym (reverse-append (reverse xs) (x ∷ []))
    ∙ ap reverse (sym (reverse-append (x ∷ []) xs))

length_reversed : (xs : List Event) → length (reverse xs) ≡ length xs
length_reversed [] = refl
length_reversed (x ∷ xs) =
    ap length (reverse-append (x ∷ []) xs) ∙ length-append (reverse xs) (x ∷ [])
    ∙ let e = length_reversed xs in omega arith

pub all_left : (es left : List Event) → left ≡ reverse es → AreLeft es left 0
all_left es left is = record {
  are = reverse_twice es ∙ ap reverse (sym is);
  many = let e : length left ≡ length es = ap length is ∙ length_reversed es in omega arith;
}

-- one is taken
module _ (es left rest : List Event) (event : Event) (i : ℕ) (h : AreLeft es left i) (is : left ≡ rest ++ event ∷ [])
  where
    pub taken_within : i < length es
    taken_within =
        let many = h.many in
        let e : length left ≡ length rest + 1 = ap length is ∙ length-append rest (event ∷ []) in
        omega arith

    split : es ≡ take i es ++ event ∷ reverse rest
    split = h.are ∙ ap (λ l. take i es ++ reverse l) is ∙ ap (λ l. take i es ++ l) (reverse-append rest (event ∷ []))

    pub taken_is : (d : Event) → get_or es i d ≡ event
    taken_is d =
        let lt = taken_within in
        let k : length (take i es) ≡ i = length-take-le i es (omega arith) in
        ap (λ l. get_or l i d) split ∙ ap (λ n. get_or (take i es ++ event ∷ reverse rest) n d) (sym k)
        ∙ get_or-append_seam (take i es) event (reverse rest) d

    pub one_taken : AreLeft es rest (i + 1)
    one_taken = record {
      are =
          split ∙ sym (append_assoc (take i es) (event ∷ []) (reverse rest))
          ∙ ap (λ l. l ++ reverse rest)
          (sym (take_more es i event taken_within ∙ ap (λ e. take i es ++ e ∷ []) (taken_is event)));
      many =
          let many = h.many in
          let e : length left ≡ length rest + 1 = ap length is ∙ length-append rest (event ∷ []) in omega arith;
    }
