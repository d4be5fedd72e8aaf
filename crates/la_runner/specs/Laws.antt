-- What is true of every member. src/laws.rt has a law for each of these statements.
use Rattle.std.specs.Prelude.{◌≡◌, ◌⊎◌, ℕ, Some}
use Rattle.la_set.specs.declared.update.Update.{Update}
use Rattle.la_set.specs.Histories.{Histories, ContainsUpdate, empty}
use Rattle.la_set.specs.Inclusion.{AreComparable}
use Rattle.la_acceptor.specs.declared.reply.Reply.{Reply}
use Rattle.la_shared.specs.History.{HasEntry}
use Rattle.la_runner.specs.Certificates.{mine_at}
use Rattle.la_runner.specs.Invariant.{IsMember}
use Rattle.la_runner.specs.Members.{MemberState, MemberGoesOn, passes_in, member_submitted, member_learnt, member_view, IsCertified, IsOwnCertified}
use Rattle.la_runner.specs.Sound.{IsMemberSubmission, WasTold}

abbrev pub CertifiedCompare : Type 0
CertifiedCompare = (m : MemberState) → IsMember m → (i : ℕ) (s t : Histories) →
    IsCertified m i s → IsCertified m i t → AreComparable s t

abbrev pub OwnAreCertified : Type 0
OwnAreCertified = (m : MemberState) → IsMember m → (i : ℕ) (s : Histories) →
    IsOwnCertified m i s → IsCertified m i s

abbrev pub CertificatesStay : Type 0
CertificatesStay = (old new : MemberState) → MemberGoesOn old new → (i : ℕ) (s : Histories) →
    (IsCertified old i s → IsCertified new i s) × (IsOwnCertified old i s → IsOwnCertified new i s)

abbrev pub ViewsAreCertified : Type 0
ViewsAreCertified = (m : MemberState) → IsMember m → (member_view m ≡ empty) ⊎ IsCertified m 0 (member_view m)

abbrev pub ViewsCompare : Type 0
ViewsCompare = (m : MemberState) → IsMember m → (s : Histories) →
    IsCertified m 0 s → AreComparable s (member_view m)

abbrev pub LearntAreOwnCertified : Type 0
LearntAreOwnCertified = (m : MemberState) → IsMember m → (i : ℕ) (s : Histories) →
    member_learnt m i ≡ Some s → IsOwnCertified m i s

-- each update of an own offer is the member's own, or was told by a refusal of an offer that lacks it
abbrev pub InventsNothing : MemberState → Type 0
InventsNothing m = (i a : ℕ) (s : Histories) (r : Reply) →
    HasEntry (mine_at (passes_in m i) a) s r → (u : Update) → ContainsUpdate s u →
    IsMemberSubmission m.replica (member_submitted m i) u ⊎ WasTold (passes_in m i) u

abbrev pub NothingIsInvented : Type 0
NothingIsInvented = (m : MemberState) → IsMember m → InventsNothing m
