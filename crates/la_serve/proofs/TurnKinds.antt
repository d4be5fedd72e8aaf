-- What a line's turn can be.
use Rattle.std.proofs.Common.{◌≡◌, ◌⊎◌, inl, inr, ℕ, Bool, true, false, List, [], refl, sym, subst, Option}
use Rattle.std.proofs.Common.{Some, None, length, leb, ◌==◌}
use Rattle.la_set.specs.declared.tags.TheConstants.{MAX_TAGS}
use Rattle.la_set.specs.declared.update.UpdateId.{UpdateId}
use Rattle.la_object.specs.declared.kind.Kind.{Kind}
use Rattle.la_io.specs.Limits.{is_too_long}
use Rattle.la_wire.specs.declared.error.LineFault.TheVariants.{TooLong}
use Rattle.la_wire.specs.declared.questions.Question.{Question}
use Rattle.la_wire.specs.declared.questions.Take.{Take}
use Rattle.la_wire.specs.Calls.{WireCall, Submit, Decide, Ask, Tick, Receive, Known}
use Rattle.la_wire.specs.CallLines.{named_call}
use Rattle.la_wire.specs.Questions.{question_in, take_in}
use Rattle.la_durable.specs.CallLines.{is_line}
use Rattle.la_durable.specs.declared.error.NodeError.TheVariants.{Memory}
use Rattle.la_node.specs.declared.link.Links.{Links}
use Rattle.la_node.specs.declared.link.Sending.{Sending}
use Rattle.la_node.specs.declared.link.Sending.TheVariants as sending
use Rattle.la_node.specs.Links.{asked_with, is_lacked}
use Rattle.la_replica.specs.Progress.{progress_of}
use Rattle.la_serve.specs.declared.said.Said.{Said}
use Rattle.la_serve.specs.declared.said.Said.TheVariants as said
use Rattle.la_serve.specs.declared.said.Why.TheVariants.{TooManyTags}
use Rattle.la_serve.specs.Heard.{HeardLine, unheard, bare, heard_name, heard_call, heard_take}
use Rattle.la_serve.specs.Said.{asks_of}
use Rattle.la_serve.specs.Takes.{taken_tags}
use Rattle.la_serve.specs.Turns.{ServerState, Turn, only_writes, only_says, turn_refused, faulty, own_of}
use Rattle.la_serve.specs.Turns.{is_note, is_elsewhere, known_after, OneOf, IsCallTaken, IsSentAgain}
use Rattle.la_serve.specs.Turns.{IsKeptTurn, IsSaidTurn, IsTurnHere, SaysCall, HasFault, IsShortTurn, IsTurn}
use Rattle.la_serve.specs.Turns.{IsQuestionTurn, IsTakeTurn, IsRequestTurn}

-- once this is known of others
abbrev pub hearing : Links → ServerState → ServerState
hearing known n = record { kept = n.kept; known = known }

-- nothing changes of what the node keeps, and nothing is sent or learnt
abbrev pub IsQuiet : ServerState → Turn → Type 0
IsQuiet n t = (t.kept ≡ []) × (t.after.kept ≡ n.kept) × (t.sent ≡ []) × (t.learnt ≡ [])

-- something is sent again
abbrev pub Repeats : ServerState → Turn → Type 0
Repeats n t = (known over : Links) × (why : Sending) × IsSentAgain (hearing known n) over why t

-- what a line calls for, as it says it, or a remove in place of a take
abbrev pub IsHeardSo : HeardLine → Type 0
IsHeardSo heard =
    (heard ≡ heard_call heard.line)
    ⊎ ((take : Take) × (tags : List UpdateId) × (heard ≡ heard_take heard.line take tags))

-- a call is taken
pub record Takes (n : ServerState) (t : Turn) : Type 0 where
  pub known : Links
  pub call : WireCall
  pub heard : IsHeardSo t.heard
  pub stands : is_line t.heard.call ≡ true
  pub says : named_call t.heard.call ≡ Some call
  pub taken : IsCallTaken (hearing known n) call t

abbrev pub IsWhat : ServerState → Turn → Type 0
IsWhat n t = IsQuiet n t ⊎ (Repeats n t ⊎ Takes n t)

pub one_of : {A B : Type 0} (b : Bool) → OneOf b A B → A ⊎ B
one_of true a = inl a
one_of false b = inr b

quiet : (n : ServerState) (t u : Turn) → t ≡ u → IsQuiet n u → IsQuiet n t
quiet n t u is q = subst (IsQuiet n) (sym is) q

-- of what was heard first
module _ (objects : List (ℕ × Kind)) (n : ServerState) (known : Links) (k : ℕ) (t : Turn) (so : IsHeardSo t.heard)
    (call : WireCall) (stands : is_line t.heard.call ≡ true) (says : named_call t.heard.call ≡ Some call) where
  abbrev m : ServerState
  m = hearing known n

  kept_what : IsKeptTurn m k call t → IsWhat n t
  kept_what (inl taken) =
      inr (inr (record { known = known; call = call; heard = so; stands = stands; says = says; taken = taken }))
  kept_what (inr not) = inl (quiet n t (turn_refused m k t.heard not.why) not.turn (refl, refl, refl, refl))

  said_what : (o : Option Said) → IsSaidTurn m k call o t → IsWhat n t
  said_what None is = kept_what is
  said_what (Some s) is = inl (quiet n t (only_says m k t.heard s) is (refl, refl, refl, refl))

module _ (objects : List (ℕ × Kind)) (n : ServerState) (known : Links) (k : ℕ) (t : Turn) (so : IsHeardSo t.heard) where
  here_what : (call : WireCall) → is_line t.heard.call ≡ true → named_call t.heard.call ≡ Some call
      → IsTurnHere objects (hearing known n) k call t → IsWhat n t
  here_what (Submit replica object op) stands says (o, said, is) =
      said_what objects n known k t so (Submit replica object op) stands says o is
  here_what (Decide replica commit value) stands says (o, said, is) =
      said_what objects n known k t so (Decide replica commit value) stands says o is
  here_what (Ask replica object query) stands says (o, said, is) =
      said_what objects n known k t so (Ask replica object query) stands says o is
  here_what Tick stands says (inl again) =
      inr (inl (known, asked_with known (progress_of n.kept), sending.Timer, again))
  here_what Tick stands says (inr is) =
      inl (quiet n t (turn_refused (hearing known n) k t.heard Memory) is (refl, refl, refl, refl))
  here_what (Receive message) stands says (o, said, is) =
      said_what objects n known k t so (Receive message) stands says o is
  here_what (Known s) stands says is = elim (one_of (is_lacked known s.from) is) [
    | inl lacks ↦ elim lacks [
      | inl again ↦ inr (inl (known, known, sending.Lack s.from, again))
      | inr starved ↦
          inl (quiet n t (turn_refused (hearing known n) k t.heard Memory) starved (refl, refl, refl, refl))
    ]
    | inr none ↦ inl (quiet n t (only_writes (hearing known n) t.heard []) none (refl, refl, refl, refl))
  ]

module _ (objects : List (ℕ × Kind)) (n : ServerState) (k : ℕ) (t : Turn) where
  says_what : IsHeardSo t.heard → SaysCall objects n k t → IsWhat n t
  says_what so s =
      let known = known_after n.kept n.known s.call in
      elim (one_of (is_elsewhere n.kept s.call) s.turn) [
        | inl passed ↦ inl (quiet n t (only_writes (hearing known n) t.heard []) passed (refl, refl, refl, refl))
        | inr here ↦ here_what objects n known k t so s.call s.stands s.says here
      ]

  heard_what : IsHeardSo t.heard → (SaysCall objects n k t ⊎ HasFault n k t) → IsWhat n t
  heard_what so (inl says) = says_what so says
  heard_what so (inr has) = inl (quiet n t (faulty n k t.heard has.fault) has.turn (refl, refl, refl, refl))

  question_what : (q : Question) → IsQuestionTurn objects n k q t → IsWhat n t
  question_what q is = elim (one_of (asks_of q == own_of n) is) [
    | inl said ↦ inl (quiet n t (only_says n k (heard_name t.heard.line) said.0) said.2 (refl, refl, refl, refl))
    | inr passed ↦ inl (quiet n t (only_writes n (heard_name t.heard.line) []) passed (refl, refl, refl, refl))
  ]

  take_what : (take : Take) → IsTakeTurn objects n k take t → IsWhat n t
  take_what take is = elim (one_of (leb (length (taken_tags objects n.kept take)) MAX_TAGS) is) [
    | inl heard ↦ heard_what (inr (take, taken_tags objects n.kept take, heard.0)) heard.1
    | inr many ↦
        inl (quiet n t (only_says n k (heard_name t.heard.line) (said.Refused TooManyTags)) many
        (refl, refl, refl, refl))
  ]

  request_what : (q : Option Question) (take : Option Take) → IsRequestTurn objects n k q take t → IsWhat n t
  request_what (Some q) take is = question_what q is
  request_what None (Some take) is = take_what take is
  request_what None None is = heard_what (inl is.0) is.1

  short_what : IsShortTurn objects n k t → IsWhat n t
  short_what is = elim (one_of (is_note t.heard.line) is) [
    | inl note ↦ inl (quiet n t (only_writes n (unheard t.heard.line) []) note (refl, refl, refl, refl))
    | inr (inl request) ↦ request_what (question_in (bare t.heard.line)) (take_in (bare t.heard.line)) request
    | inr (inr hungry) ↦
        inl (quiet n t (turn_refused n k (heard_name t.heard.line) Memory) hungry (refl, refl, refl, refl))
  ]

  pub what : IsTurn objects n k t → IsWhat n t
  unfolding IsTurn
  what is = elim (one_of (is_too_long t.heard.line) is) [
    | inl long ↦ inl (quiet n t (faulty n k (unheard t.heard.line) TooLong) long (refl, refl, refl, refl))
    | inr short ↦ short_what short
  ]
