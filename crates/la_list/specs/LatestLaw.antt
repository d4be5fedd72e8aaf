-- Where what is put in last stands.
use Rattle.std.specs.Prelude.{◌≡◌, ℕ, ◌<◌, List, ◌∷◌, ◌++◌, All, Option, Some}
use Rattle.la_set.specs.declared.update.UpdateId.{UpdateId}
use Rattle.la_set.specs.declared.update.Update.{Update}
use Rattle.la_list.specs.declared.op.ListOp.{ListOp}
use Rattle.la_list.specs.declared.op.ListOp.TheVariants.{Insert}
use Rattle.la_list.specs.ListBytes.{edit_of}
use Rattle.la_list.specs.Lists.{with_insert, all_standing, inserts_of}

-- if it puts something in, then under a smaller stamp
abbrev pub IsPutBefore : ℕ → Option ListOp → Type 0
IsPutBefore stamp (Some (Insert behind other value)) = other < stamp
IsPutBefore stamp _ = Unit {0}

-- whatever updates put in has a smaller stamp
abbrev pub ArePutBefore : ℕ → List Update → Type 0
ArePutBefore stamp us = All (λ u. IsPutBefore stamp (edit_of u.op)) us

-- what an update puts in under a larger stamp than all others stands where it is put: at the head, or right behind the
-- element that it names, if that stands without it
abbrev pub LatestStandsWherePut : Type 0
LatestStandsWherePut =
    (us vs : List Update) (u : Update) (behind : Option UpdateId) (stamp : ℕ) (value : List ℕ)
    → edit_of u.op ≡ Some (Insert behind stamp value) → ArePutBefore stamp us → ArePutBefore stamp vs
    → all_standing (inserts_of (us ++ u ∷ vs))
    ≡ with_insert (all_standing (inserts_of (us ++ vs))) u.id (record { behind = behind; value = value })
