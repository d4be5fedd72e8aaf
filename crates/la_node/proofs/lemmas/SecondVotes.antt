-- Which vote is a second one.
use Rattle.std.proofs.Common.{◌≡◌, ℕ, Bool, true, false, cond, Option, Some, None, refl, ap, sym}
use Rattle.std.proofs.lemmas.Option.{none-some, same_Some}
use Rattle.la_set.specs.Histories.{Histories}
use Rattle.la_commit.specs.Votes.{proposed}
use Rattle.la_commit.specs.Instances.{is_first_instance, commit_of, second_instance}
use Rattle.la_node.specs.SecondVotes.{Submission, second_vote_of, second_vote_in}

-- a second vote is of the second instance of the same object
pub second_vote_in_is : (i r : ℕ) (learnt : Histories) (s : Submission) → second_vote_in i r learnt ≡ Some s
    → (is_first_instance i ≡ true) × (s.instance ≡ second_instance (commit_of i))
    × (s.replica ≡ r)
second_vote_in_is i r learnt s e = go (is_first_instance i) refl (proposed learnt r) e
  where
    go : (v : Bool) → is_first_instance i ≡ v → (o : Option ℕ)
        → cond v (second_vote_of (commit_of i) r learnt o) None ≡ Some s
        → (is_first_instance i ≡ true) × (s.instance ≡ second_instance (commit_of i))
        × (s.replica ≡ r)
    go false f o k = absurd (none-some s k)
    go true f None k = absurd (none-some s k)
    go true f (Some value) k =
        let same = same_Some _ s k in
        (f, ap (λ (z : Submission). z.instance) (sym same), ap (λ (z : Submission). z.replica) (sym same))
