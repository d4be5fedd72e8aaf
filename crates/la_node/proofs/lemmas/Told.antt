-- What a step's mail is, message by message: what is told is a function of what is sent.
use Rattle.std.proofs.Common.{◌≡◌, List, [], ◌∷◌, map, slice_get, Option, Some, None, IsSomeAnd, All, refl, ap, ap₂, subst, sym}
use Rattle.std.proofs.lemmas.List.Elements.{All-head, All-tail, All-nil, All-cons}
use Rattle.la_set.specs.declared.counts.Counts.{Counts}
use Rattle.la_proposer.specs.ProposerState.{reported}
use Rattle.la_replica.specs.declared.instance.Instance.{Instance}
use Rattle.la_replica.specs.declared.message.Message as code
use Rattle.la_replica.specs.declared.message.Body as code_body
use Rattle.la_replica.specs.declared.message.Body.TheVariants as body
use Rattle.la_replica.specs.Whole.{Message, Body, Offer, Yes, No, Tell, whole_body, whole_of, whole_mail}
use Rattle.la_replica.specs.Bases.{IsToldBody, IsToldIn, AreToldIn}
use Rattle.la_replica.specs.ReplicaState.{ReplicaState}
use Rattle.la_replica.specs.Stored.{IsMadeBody, IsMade}
use Rattle.la_node.specs.Telling.{told_body, told_over, base_told, reported_in, message_told, IsToldAs}

body_told : (reported offered : Counts) (b : code_body.Body) → IsToldBody reported offered b
    → b ≡ told_body (base_told reported offered (whole_body b)) (whole_body b)
body_told reported offered (body.Offer d) told = ap body.Offer told
body_told reported offered body.Yes told = refl
body_told reported offered (body.No d) told = ap body.No told
body_told reported offered (body.Tell set) told = refl

told_where : (o : Option Instance) (offered : Counts) (m : code.Message)
    → IsSomeAnd o (λ x. IsToldBody (reported x.proposer m.to) offered m.body)
    → m.body ≡ told_body (base_told (reported_in o m.to) offered (whole_body m.body)) (whole_body m.body)
told_where None offered m told = absurd told
told_where (Some x) offered m told = body_told (reported x.proposer m.to) offered m.body told

told_one : (r : ReplicaState) (offered : Counts) (m : code.Message) → IsToldIn r offered m
    → m ≡ message_told r offered (whole_of m)
told_one r offered m told =
    ap (λ (b : code_body.Body). record { instance = m.instance; from = m.from; to = m.to; ballot = m.ballot; body = b })
    (told_where (slice_get r.instances m.instance) offered m told)

pub told_all : (r : ReplicaState) (offered : Counts) (mail : List code.Message) → AreToldIn r offered mail
    → IsToldAs r offered mail
told_all r offered [] told = refl
told_all r offered (m ∷ mail) told =
    ap₂ (λ x xs. x ∷ xs) (told_one r offered m (All-head (IsToldIn r offered) m mail told))
    (told_all r offered mail (All-tail (IsToldIn r offered) m mail told))

-- ## It carries what is sent, and was made of it

body_whole : (base : Counts) (b : Body) → whole_body (told_body base b) ≡ b
body_whole base (Offer s) = refl
body_whole base Yes = refl
body_whole base (No s) = refl
body_whole base (Tell s) = refl

pub told_whole : (base : Counts) (m : Message) → whole_of (told_over base m) ≡ m
told_whole base m =
    ap (λ b. record { instance = m.instance; from = m.from; to = m.to; ballot = m.ballot; body = b })
    (body_whole base m.body)

-- whatever it is told over
pub wholes : (f : Message → Counts) (ms : List Message) → whole_mail (map (λ m. told_over (f m) m) ms) ≡ ms
wholes f [] = refl
wholes f (m ∷ ms) = ap₂ (λ x xs. x ∷ xs) (told_whole (f m) m) (wholes f ms)

pub body_made : (base : Counts) (b : Body) → IsMadeBody (told_body base b)
body_made base (Offer s) = refl
body_made base Yes = tt
body_made base (No s) = refl
body_made base (Tell s) = tt

all_made : (f : Message → Counts) (ms : List Message) → All IsMade (map (λ m. told_over (f m) m) ms)
all_made f [] = All-nil IsMade
all_made f (m ∷ ms) =
    All-cons IsMade (told_over (f m) m) (map (λ m. told_over (f m) m) ms) (body_made (f m) m.body) (all_made f ms)

-- the base over which a replica tells a message
abbrev pub base_by : ReplicaState → (offered : Counts) → Message → Counts
base_by r offered m = base_told (reported_in (slice_get r.instances m.instance) m.to) offered m.body

pub told_made : (r : ReplicaState) (offered : Counts) (mail : List code.Message) → IsToldAs r offered mail
    → All IsMade mail
told_made r offered mail told = subst (All IsMade) (sym told) (all_made (base_by r offered) (whole_mail mail))
