-- Lists that are gone through one by one.
use Rattle.std.proofs.Common.{◌≡◌, ◌==◌, ℕ, true, List, [], ◌∷◌, length, refl}
use Rattle.std.proofs.Common.{sym, ap}
use Rattle.std.proofs.Common.{◌∙◌, arith}
use Rattle.std.proofs.lemmas.Bool.{eqb-true}
use Rattle.la_node.specs.declared.link.Letter.{Letter}
use Rattle.la_embed.specs.declared.outgoing.Outgoing.{Outgoing}
use Rattle.la_embed.specs.Hosts.{with_letter, with_letters}

-- the first of what is left is put
pub one_put : (own : ℕ) (before after : List Outgoing) (left rest : List Letter) (all : List Outgoing) (letter : Letter)
    → after ≡ with_letter own before letter → left ≡ letter ∷ rest → with_letters own before left ≡ all
    → with_letters own after rest ≡ all
one_put own before after left rest all letter put first is =
    ap (λ ms. with_letters own ms rest) put ∙ sym (ap (λ ls. with_letters own before ls) first) ∙ is

none_left : (left : List Letter) → length left ≡ 0 → left ≡ []
none_left [] none = refl
none_left (letter ∷ left) none = absurd (omega (arith, none))

-- nothing is left
pub all_put : (own : ℕ) (after : List Outgoing) (left : List Letter) (all : List Outgoing) → length left ≡ 0
    → with_letters own after left ≡ all → after ≡ all
all_put own after left all none is = sym (ap (λ ls. with_letters own after ls) (none_left left none)) ∙ is

-- no bytes
pub none_there : (bytes : List ℕ) (n : ℕ) → length bytes ≡ n → (n == 0) ≡ true → bytes ≡ []
none_there [] n long none = refl
none_there (b ∷ bytes) n long none = absurd (omega (arith, long, eqb-true n 0 none))
