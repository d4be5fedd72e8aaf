-- What makes a turn.
use Rattle.std.proofs.Common.{◌≡◌, ◌⊎◌, ℕ, Bool, true, false, List, [], ◌++◌, length, refl}
use Rattle.std.proofs.Common.{sym, subst, ap, ◌∙◌, append-nil, Option, Some, None, inl, inr}
use Rattle.la_set.specs.Histories.{updates}
use Rattle.la_object.specs.declared.kind.Kind.{Kind}
use Rattle.la_io.specs.Limits.{is_too_long}
use Rattle.la_wire.specs.declared.error.LineFault.TheVariants.{TooLong}
use Rattle.la_wire.specs.Calls.{WireCall, called}
use Rattle.la_wire.specs.Questions.{question_in, take_in}
use Rattle.la_durable.specs.declared.error.NodeError.{NodeError}
use Rattle.la_durable.specs.declared.error.NodeError.TheVariants.{Memory}
use Rattle.la_node.specs.declared.link.Links.{Links}
use Rattle.la_node.specs.declared.link.Sending.TheVariants as sending
use Rattle.la_node.specs.Links.{letters_sent}
use Rattle.la_node.specs.Steps.{Given}
use Rattle.la_journal.specs.Staging.{kept_unless}
use Rattle.la_durable.specs.Nodes.{acts, leaves_be}
use Rattle.la_durable.specs.Errors.{IsForMemory}
use Rattle.la_durable.specs.Inputs.{InputState}
use Rattle.la_wire.specs.Notes.{refused_note}
use Rattle.la_serve.specs.Heard.{HeardLine, unheard, bare, heard_name}
use Rattle.la_serve.specs.Names.{refusal_name}
use Rattle.la_serve.specs.Turns.{Turn, only_writes, turn_refused, faulty, call_text, own_of, is_note, OneOf, noted_by}
use Rattle.la_serve.specs.Turns.{ServerState, is_elsewhere, IsKeptTurn, IsTurnHere, IsTurnOf, IsRequestTurn}
use Rattle.la_serve.specs.Turns.{IsShortTurn, AreNoted}
use Rattle.la_serve.specs.Turns.{IsTurn}
use Rattle.la_serve.specs.Io.{Io}
use Rattle.la_serve.specs.Serving.{OfCall, TakesBy, TellsNoLine}
use Rattle.la_replica.specs.ReplicaState.{ReplicaState}

module _ (objects : List (ℕ × Kind)) (n : ServerState) (k : ℕ) where
  pub short_turn : (t : Turn) → is_too_long t.heard.line ≡ false → IsShortTurn objects n k t → IsTurn objects n k t
  unfolding IsTurn
  short_turn t le s =
      subst (λ b. OneOf b (t ≡ faulty n k (unheard t.heard.line) TooLong) (IsShortTurn objects n k t)) (sym le) s

  pub long_turn : (line : List ℕ) → is_too_long line ≡ true → IsTurn objects n k (faulty n k (unheard line) TooLong)
  unfolding IsTurn
  long_turn line lt =
      let t = faulty n k (unheard line) TooLong in
      subst (λ b. OneOf b (t ≡ t) (IsShortTurn objects n k t)) (sym lt) refl

  -- what a line that is no note comes to
  abbrev IsOtherTurn : (line : List ℕ) → Turn → Type 0
  IsOtherTurn line t =
      IsRequestTurn objects n k (question_in (bare line)) (take_in (bare line)) t
      ⊎ (t ≡ turn_refused n k (heard_name line) Memory)

  pub note_turn : (line : List ℕ) → is_too_long line ≡ false → is_note line ≡ true
      → IsTurn objects n k (only_writes n (unheard line) [])
  note_turn line le is =
      let t = only_writes n (unheard line) [] in
      short_turn t le (subst (λ b. OneOf b (t ≡ t) (IsOtherTurn line t)) (sym is) refl)

  pub request_turn : (line : List ℕ) → is_too_long line ≡ false → is_note line ≡ false → (t : Turn)
      → t.heard.line ≡ line → IsOtherTurn line t → IsTurn objects n k t
  request_turn line le is t same other =
      short_turn t (ap is_too_long same ∙ le)
      (subst (λ b. OneOf b (t ≡ only_writes n (unheard t.heard.line) []) (IsOtherTurn t.heard.line t))
      (sym (ap is_note same ∙ is)) (subst (λ l. IsOtherTurn l t) (sym same) other))

  -- a call that is passed over
  pub passed_turn : (heard : HeardLine) (call : WireCall) (b : Bool) → b ≡ true → is_elsewhere n.kept call ≡ b
      → IsTurnOf objects n k call (only_writes n heard [])
  passed_turn heard call b so is =
      let t = only_writes n heard [] in
      subst (λ b. OneOf b (t ≡ t) (IsTurnHere objects n k call t)) (sym (is ∙ so)) refl

-- ## A call that is kept

abbrev pub OfKept : HeardLine → InputState → (k : ℕ) → (before after : Io) → Turn → Type 0
OfKept heard input k = OfCall heard input (λ _. IsKeptTurn) k

module _ (Wrote : (before after : Option (List ℕ)) → List ℕ → Type 0) (k : ℕ) (heard : HeardLine) (input : InputState)
    (before after : Io) where
  pub take_taken : (given : Given) → acts before.state.kept (called input.call) ≡ Some (given, after.state.kept)
      → after.journal
      ≡ before.journal ++ kept_unless (leaves_be before.state.kept after.state.kept (called input.call) given)
      heard.call
      → AreNoted before.state.known (letters_sent before.state.known after.state.kept sending.Call given.mail)
      after.state.known → (text : List ℕ)
      → text ≡ call_text (length (updates before.state.kept.view)) before.state.known after.state.kept
      (called input.call) heard.name given
      → Wrote before.out after.out text → TakesBy Wrote (OfKept heard input k) TellsNoLine before after
  take_taken given acted journal known text is w = record {
    turn = record {
      heard = heard;
      text = text;
      sent = letters_sent before.state.known after.state.kept sending.Call given.mail;
      learnt = noted_by before.state.kept.own (called input.call) given;
      kept = kept_unless (leaves_be before.state.kept after.state.kept (called input.call) given) heard.call;
      told = [];
      after = after.state;
    };
    is = (
      refl,
      inl (record {
        given = given;
        acted = acted;
        known = known;
        written = is;
        sent = refl;
        learnt = refl;
        journal = refl;
        silent = refl;
      }),
    );
    now_is = refl;
    wrote = w;
    journal = journal;
    tells = refl;
  }

  pub take_refused : (why : NodeError) → (IsForMemory why ⊎ (acts before.state.kept (called input.call) ≡ None))
      → after.state ≡ before.state → after.journal ≡ before.journal
      → Wrote before.out after.out (refused_note (own_of before.state) k (refusal_name why) heard.name)
      → TakesBy Wrote (OfKept heard input k) TellsNoLine before after
  take_refused why cause same still w = record {
    turn = turn_refused before.state k heard why;
    is = (refl, inr (record { why = why; cause = cause; turn = refl }));
    now_is = sym same;
    wrote = w;
    journal = still ∙ sym (append-nil before.journal);
    tells = refl;
  }

pub same_text : (text : List ℕ) (before b : ℕ) (known : Links) (after : ReplicaState) (call call2 : WireCall)
    (name name2 : List ℕ) (given : Given) → text ≡ call_text before known after call name given → before ≡ b
    → call ≡ call2 → name ≡ name2 → text ≡ call_text b known after call2 name2 given
same_text text before b known after call call2 name name2 given e p q r =
    e ∙ ap (λ x. call_text x known after call name given) p ∙ ap (λ y. call_text b known after y name given) q
    ∙ ap (λ z. call_text b known after call2 z given) r

abbrev pub with_kept : Links → ReplicaState → ServerState
with_kept known n = record { kept = n; known = known }

pub same_kept : (n m : ReplicaState) (known : Links) → n ≡ m
    → with_kept known n ≡ with_kept known m
same_kept n m known is = ap (with_kept known) is

pub same_refusal : (P : List ℕ → Type 0) (own own2 k : ℕ) (why why2 name name2 : List ℕ) → own ≡ own2 → why ≡ why2
    → name ≡ name2 → P (refused_note own k why name) → P (refused_note own2 k why2 name2)
same_refusal P own own2 k why why2 name name2 e f g p =
    subst (λ n. P (refused_note own2 k why2 n)) g
    (subst (λ w. P (refused_note own2 k w name)) f (subst (λ o. P (refused_note o k why name)) e p))
