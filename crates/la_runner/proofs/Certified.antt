-- Any two sets with certificates in one member's passes of one instance are comparable.
use Rattle.std.proofs.Common.{◌≡◌, ℕ, List, Option, Some, None, refl, sym, subst}
use mathlib.Core.List.{IsPrefix}
use Rattle.std.specs.List.{slice_get}
use Rattle.la_set.specs.Histories.{Histories, empty}
use Rattle.la_set.specs.Inclusion.{IsSubset, AreComparable}
use Rattle.la_set.specs.Join.{IsCompatible, IsUnionOf, join}
use Rattle.la_set.proofs.lemmas.Theorems.{subset-join_left, contains-join, contains-join_cases}
use Rattle.la_acceptor.proofs.lemmas.Theorems.{subset-from_yes}
use Rattle.la_acceptor.specs.declared.reply.Reply.{Reply}
use Rattle.la_acceptor.specs.declared.reply.Reply.TheVariants.{Yes}
use Rattle.la_proposer.proofs.lemmas.Theorems.{majorities_meet}
use Rattle.la_shared.specs.History.{IsLegal}
use Rattle.la_shared.specs.History.{HasEntry, HasYes}
use Rattle.la_shared.specs.Passes.{Known}
use Rattle.la_shared.proofs.lemmas.Theorems.{has-prefix, owns-has, yes_comparable, later_contains}
use Rattle.la_runner.specs.Certificates.{seen_of, mine_of, passes_seen_at, mine_at, OfMajority, HasCertificate, HasOwnCertificate}
use Rattle.la_runner.specs.Sound.{IsPassAt}
use Rattle.la_runner.specs.Following.{Beyond}

pub seen_at_is : (ps : List Known) (a : ℕ) → passes_seen_at ps a ≡ seen_of (slice_get ps a)
unfolding passes_seen_at
seen_at_is ps a = refl

pub mine_at_is : (ps : List Known) (a : ℕ) → mine_at ps a ≡ mine_of (slice_get ps a)
unfolding mine_at
mine_at_is ps a = refl

legal_of : (k : Option Known) → IsPassAt k → IsLegal (seen_of k)
legal_of None is = tt
legal_of (Some k) is = is.0

pub legal_at : (ps : List Known) (a : ℕ) → IsPassAt (slice_get ps a) → IsLegal (passes_seen_at ps a)
legal_at ps a is = subst IsLegal (sym (seen_at_is ps a)) (legal_of (slice_get ps a) is)

own_of : (k : Option Known) (s : Histories) (r : Reply) → IsPassAt k → HasEntry (mine_of k) s r
    → HasEntry (seen_of k) s r
own_of None s r is e = e
own_of (Some k) s r is e = owns-has k.number k.seen k.mine s r is.1 e

-- an own entry is one that was seen
pub own_at : (ps : List Known) (a : ℕ) (s : Histories) (r : Reply) → IsPassAt (slice_get ps a)
    → HasEntry (mine_at ps a) s r → HasEntry (passes_seen_at ps a) s r
own_at ps a s r is e =
    subst (λ l. HasEntry l s r) (sym (seen_at_is ps a))
    (own_of (slice_get ps a) s r is (subst (λ l. HasEntry l s r) (mine_at_is ps a) e))

-- a majority goes over from one fact to another
pub of_majority : (votes : List ℕ) (P Q : ℕ → Type 0) → ((a : ℕ) → P a → Q a) → OfMajority votes P → OfMajority votes Q
of_majority votes P Q f m = (m.0, m.1, λ a e. f a (m.2 a e))

pub own_certificate : (votes : List ℕ) (ps : List Known) (s : Histories) → ((a : ℕ) → IsPassAt (slice_get ps a))
    → HasOwnCertificate votes ps s → HasCertificate votes ps s
own_certificate votes ps s are c =
    of_majority votes (λ a. HasYes (mine_at ps a) s) (λ a. HasYes (passes_seen_at ps a) s) (λ a e. own_at ps a s Yes (are a) e) c

-- a certificate stays
pub certificate_stays : (votes : List ℕ) (ps qs : List Known) (s : Histories)
    → ((a : ℕ) → IsPrefix (passes_seen_at ps a) (passes_seen_at qs a)) → HasCertificate votes ps s → HasCertificate votes qs s
certificate_stays votes ps qs s go c =
    of_majority votes (λ a. HasYes (passes_seen_at ps a) s) (λ a. HasYes (passes_seen_at qs a) s)
    (λ a e. has-prefix (passes_seen_at ps a) (passes_seen_at qs a) s Yes (go a) e) c

pub own_certificate_stays : (votes : List ℕ) (ps qs : List Known) (s : Histories)
    → ((a : ℕ) → IsPrefix (mine_at ps a) (mine_at qs a)) → HasOwnCertificate votes ps s → HasOwnCertificate votes qs s
own_certificate_stays votes ps qs s go c =
    of_majority votes (λ a. HasYes (mine_at ps a) s) (λ a. HasYes (mine_at qs a) s)
    (λ a e. has-prefix (mine_at ps a) (mine_at qs a) s Yes (go a) e) c

union_is : (a b : Histories) → IsCompatible a b → IsUnionOf (join a b) a b
union_is a b one u = (contains-join_cases a b u, contains-join a b one u)

-- the two majorities share an acceptor, and there one set was acknowledged after the other
pub certificates_compare : (votes : List ℕ) (ps : List Known) (s t : Histories) → ((a : ℕ) → IsPassAt (slice_get ps a))
    → HasCertificate votes ps s → HasCertificate votes ps t → AreComparable s t
certificates_compare votes ps s t are c d =
    let there = majorities_meet votes c.0 d.0 c.1 d.1 in
    yes_comparable subset-join_left union_is subset-from_yes empty (passes_seen_at ps there.0) s t
    (legal_at ps there.0 (are there.0)) (c.2 there.0 there.3) (d.2 there.0 there.4)

-- a set that a majority acknowledged after a certificate was seen contains the certificate's set
pub contains_earlier : (votes : List ℕ) (ps qs : List Known) (s t : Histories) → ((a : ℕ) → IsPassAt (slice_get qs a))
    → HasCertificate votes ps t → OfMajority votes (λ a. Beyond ps qs a s) → IsSubset t s
contains_earlier votes ps qs s t are c d =
    let there = majorities_meet votes c.0 d.0 c.1 d.1 in
    let b = d.2 there.0 there.4 in
    later_contains subset-join_left union_is subset-from_yes (passes_seen_at ps there.0) b.0 t s Yes
    (subst IsLegal b.1 (legal_at qs there.0 (are there.0))) (c.2 there.0 there.3) b.2
