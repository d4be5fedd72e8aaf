-- Notes that are written part by part.
use Rattle.std.proofs.Common.{◌≡◌, ℕ, suc, ◌+◌, ◌-◌, ◌<◌, List, [], ◌∷◌, ◌++◌, refl, sym, ap, ◌∙◌, append_assoc}
use Rattle.std.proofs.Common.{◌≤◌, arith, append-nil}
use Rattle.std.specs.Prelude.{codes}
use Rattle.std.specs.Fmt.{decimal}
use Rattle.la_node.specs.declared.link.Links.{Links}
use Rattle.la_wire.specs.Joined.{spaced}
use Rattle.la_wire.specs.Notes.{begun_note, note}
use Rattle.la_wire.specs.Status.{peer_words, peers_from}
use Rattle.la_wire.proofs.UpdateLists.{spaced_append}

-- words behind others
pub more_words : (o p : List ℕ) (xs ys : List (List ℕ)) → p ≡ o ++ spaced 32 xs
    → p ++ spaced 32 ys ≡ o ++ spaced 32 (xs ++ ys)
more_words o p xs ys is =
    ap (λ bytes. bytes ++ spaced 32 ys) is
    ∙ append_assoc o (spaced 32 xs) (spaced 32 ys)
    ∙ ap (λ bytes. o ++ bytes) (sym (spaced_append 32 xs ys))

-- a note's first word
pub first_noted : (own : ℕ) (o p w : List ℕ) → p ≡ o ++ codes "# r" ++ decimal own ++ 32 ∷ w
    → p ≡ o ++ begun_note own (w ∷ [])
first_noted own o p w is =
    is
    ∙ ap (λ bytes. bytes ++ 32 ∷ w) (append_assoc o (codes "# r") (decimal own))
    ∙ append_assoc o (codes "# r" ++ decimal own) (32 ∷ w)
    ∙ ap (λ bytes. o ++ (codes "# r" ++ decimal own ++ 32 ∷ bytes)) (sym (append-nil w))

module _ (own : ℕ) (o p : List ℕ) (xs : List (List ℕ)) (is : p ≡ o ++ begun_note own xs) where
  -- the same of a note
  pub more_noted : (ys : List (List ℕ)) → p ++ spaced 32 ys ≡ o ++ begun_note own (xs ++ ys)
  more_noted ys =
      let front : List ℕ = codes "# r" ++ decimal own in
      ap (λ bytes. bytes ++ spaced 32 ys) is
      ∙ append_assoc o (begun_note own xs) (spaced 32 ys)
      ∙ ap (λ bytes. o ++ bytes)
      (append_assoc front (spaced 32 xs) (spaced 32 ys)
      ∙ ap (λ bytes. front ++ bytes) (sym (spaced_append 32 xs ys)))

  -- one word more
  pub word_noted : (w : List ℕ) → p ++ 32 ∷ w ≡ o ++ begun_note own (xs ++ w ∷ [])
  word_noted w = ap (λ bytes. p ++ 32 ∷ bytes) (sym (append-nil w)) ∙ more_noted (w ∷ [])

  -- its end
  pub noted : p ++ 10 ∷ [] ≡ o ++ note own xs
  noted = ap (λ bytes. bytes ++ 10 ∷ []) is ∙ append_assoc o (begun_note own xs) (10 ∷ [])

-- ## What is known of replicas

next_peer : (known : Links) (own p n : ℕ)
    → peers_from known own p (suc n) ≡ peer_words known own p ++ peers_from known own (p + 1) n
unfolding peers_from
next_peer known own p n = refl

-- a replica that is written leaves the others to be written
pub put_peer_next : (known : Links) (own p n : ℕ) (before after all : List ℕ) → p < n
    → after ≡ before ++ spaced 32 (peer_words known own p)
    → before ++ spaced 32 (peers_from known own p (n - p)) ≡ all
    → after ++ spaced 32 (peers_from known own (p + 1) (n - (p + 1))) ≡ all
put_peer_next known own p n before after all lt is so_far =
    let left : n - p ≡ suc (n - (p + 1)) = omega (arith, lt) in
    let rest : List (List ℕ) = peers_from known own (p + 1) (n - (p + 1)) in
    ap (λ bytes. bytes ++ spaced 32 rest) is
    ∙ append_assoc before (spaced 32 (peer_words known own p)) (spaced 32 rest)
    ∙ ap (λ bytes. before ++ bytes)
    (sym (spaced_append 32 (peer_words known own p) rest)
    ∙ ap (spaced 32) (sym (next_peer known own p (n - (p + 1))) ∙ ap (peers_from known own p) (sym left)))
    ∙ so_far

-- none is left
pub all_peers : (known : Links) (own p n : ℕ) (out all : List ℕ) → n ≤ p
    → out ++ spaced 32 (peers_from known own p (n - p)) ≡ all → out ≡ all
unfolding peers_from
all_peers known own p n out all past is =
    let none : n - p ≡ 0 = omega (arith, past) in
    sym (append-nil out) ∙ ap (λ m. out ++ spaced 32 (peers_from known own p m)) (sym none) ∙ is
