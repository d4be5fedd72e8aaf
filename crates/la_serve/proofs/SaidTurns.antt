-- A turn by what is said of its line.
use Rattle.std.proofs.Common.{◌≡◌, ℕ, Bool, true, false, ◌&&◌, [], List, append-nil, take}
use Rattle.std.proofs.Common.{Some, None, Option, refl, sym, ap, subst, ◌∙◌, inl, inr, length}
use Rattle.std.proofs.Common.{leb}
use Rattle.std.proofs.Common.{◌==◌, ◌⊎◌, Result, OnOk, IfErr}
use Rattle.std.proofs.lemmas.Bool.{false≢true, lt-leb}
use Rattle.std.specs.Io.KnownBytes.{Appends}
use Rattle.std.proofs.KnownBytes.{Appends-nil}
use Rattle.la_set.specs.declared.counts.Counts.{Counts}
use Rattle.la_set.specs.declared.tags.TheConstants.{MAX_TAGS}
use Rattle.la_set.specs.declared.update.UpdateId.{UpdateId}
use Rattle.la_node.specs.declared.link.Letter.{Letter}
use Rattle.la_node.specs.declared.link.Links.{Links}
use Rattle.la_node.specs.declared.link.Sending.{Sending}
use Rattle.la_node.specs.declared.link.Sending.TheVariants as sending
use Rattle.la_node.specs.Links.{asked_with, letters_sent, noted_all, is_lacked, tells_nothing, wants_standing}
use Rattle.la_replica.specs.declared.parcel.Content.{Content}
use Rattle.la_replica.specs.declared.parcel.Content.TheVariants as content
use Rattle.la_replica.specs.declared.progress.Progress.{Progress}
use Rattle.la_replica.specs.Progress.{progress_of}
use Rattle.la_replica.specs.ReplicaState.{ReplicaState}
use Rattle.la_replica.specs.declared.message.Message as code
use Rattle.la_replica.specs.Again.{again}
use Rattle.la_replica.specs.Bases.{AreToldIn}
use Rattle.la_replica.specs.Whole.{whole_mail}
use Rattle.la_object.specs.declared.kind.Kind.{Kind}
use Rattle.la_object.specs.declared.query.Query.{Query}
use Rattle.la_wire.specs.declared.questions.Question.{Question}
use Rattle.la_wire.specs.declared.questions.Take.{Take}
use Rattle.la_wire.specs.Notes.{letters_text}
use Rattle.la_wire.specs.Questions.{question_in, take_in}
use Rattle.la_wire.specs.Calls.{WireCall, Submit, Decide, Ask, Tick, Receive, Known, called}
use Rattle.la_wire.specs.Messages.{said_content, letter_message}
use Rattle.la_durable.specs.Nodes.{content_of}
use Rattle.la_durable.specs.Inputs.{InputState}
use Rattle.la_serve.specs.declared.asking.Asking.{Asking}
use Rattle.la_serve.specs.declared.said.Said.{Said}
use Rattle.la_serve.specs.declared.said.Said.TheVariants as said
use Rattle.la_serve.specs.declared.said.Why.{Why}
use Rattle.la_serve.specs.declared.said.Why.TheVariants as why
use Rattle.la_serve.specs.Asking.{IsAsking, heard_as}
use Rattle.la_serve.specs.Heard.{HeardLine, bare, heard_name, heard_call, heard_take}
use Rattle.la_serve.specs.Io.{Io}
use Rattle.la_serve.specs.Turns.{Turn, ServerState, OneOf, IsAnsweredTurn, IsTurnHere, own_of}
use Rattle.la_serve.specs.Turns.{only_writes, only_sends, only_says, IsRequestTurn, IsHeardTurn, IsSentAgain}
use Rattle.la_serve.specs.Turns.{IsMendingTurn, IsStarved, IsKnownOf}
use Rattle.la_serve.specs.Said.{said_text, is_idle, asks_of, may_be_taken}
use Rattle.la_serve.specs.Said.{IsSaidToAsk, IsSaidAgain, IsSaidHere, IsSaidToQuestion}
use Rattle.la_serve.specs.Serving.{OfCall, OfHeard, OfQuestion, OfRequest, OfTake, IsStarvedLine}
use Rattle.la_serve.specs.declared.error.NodeFault.{NodeFault}
use Rattle.la_serve.specs.Serving.{TakesBy, TakesLine, Breaks, TellsNoLine}
use Rattle.la_serve.specs.Takes.{taken_tags, IsTakeRefusal}
use Rattle.la_serve.proofs.TakenLines.{takes_only, on_ok_more, if_err_more}
use Rattle.la_serve.proofs.Turns.{OfKept}

-- ## Calls

-- something is said of a call, or it is taken
pub answered_here : (objects : List (ℕ × Kind)) (n : ServerState) (k : ℕ) (call : WireCall) (t : Turn)
    → may_be_taken call ≡ true → IsAnsweredTurn objects n k call t → IsTurnHere objects n k call t
answered_here objects n k (Submit replica object op) t may is = is
answered_here objects n k (Decide replica commit value) t may is = is
answered_here objects n k (Ask replica object query) t may is = absurd (false≢true may)
answered_here objects n k Tick t may is = absurd (false≢true may)
answered_here objects n k (Receive m) t may is = is
answered_here objects n k (Known standing) t may is = absurd (false≢true may)

module _ (k : ℕ) (heard : HeardLine) (input : InputState) (before after : Io)
    (may : may_be_taken (called input.call) ≡ true)
    (none : IsSaidHere before.objects before.state.kept heard (called input.call) None) where
  -- it is taken, since nothing is said of it
  pub kept_here : (t : Turn) → OfKept heard input k before after t → OfCall heard input IsTurnHere k before after t
  kept_here t (same, kept) = (
    same,
    answered_here before.objects before.state k (called input.call) t may (
      None,
      subst (λ h. IsSaidHere before.objects before.state.kept h (called input.call) None) (sym same) none,
      kept,
    ),
  )

-- what is said was written
module _ (Wrote : (before after : Option (List ℕ)) → List ℕ → Type 0) (k : ℕ) (heard : HeardLine) (input : InputState)
    (before after : Io) (s : Said) (same : after.state ≡ before.state) (still : after.journal ≡ before.journal)
    (own : ℕ) (is_own : own ≡ own_of before.state) (w : Wrote before.out after.out (said_text own k heard.name s)) where
  said_taken : IsTurnHere before.objects before.state k (called input.call) (only_says before.state k heard s)
      → TakesBy Wrote (OfCall heard input IsTurnHere k) TellsNoLine before after
  said_taken is =
      takes_only Wrote (OfCall heard input IsTurnHere k) before after heard
      (said_text (own_of before.state) k heard.name s) (refl, is) same still
      (subst (λ (o : ℕ). Wrote before.out after.out (said_text o k heard.name s)) is_own w)

  pub instead_taken : may_be_taken (called input.call) ≡ true
      → IsSaidHere before.objects before.state.kept heard (called input.call) (Some s)
      → TakesBy Wrote (OfCall heard input IsTurnHere k) TellsNoLine before after
  instead_taken may is =
      said_taken
      (answered_here before.objects before.state k (called input.call) (only_says before.state k heard s) may
      (Some s, is, refl))

  pub ask_taken : (replica object : ℕ) (query : Query) → called input.call ≡ Ask replica object query
      → IsSaidToAsk before.objects before.state.kept heard.name heard.after object query s
      → TakesBy Wrote (OfCall heard input IsTurnHere k) TellsNoLine before after
  ask_taken replica object query e is =
      said_taken
      (subst
      (λ (x : WireCall). IsTurnHere before.objects before.state k x (only_says before.state k heard s)) (sym e)
      (Some s, is, refl))

-- what waits is sent once more, or some of it
module _ (Wrote : (before after : Option (List ℕ)) → List ℕ → Type 0) (k : ℕ) (heard : HeardLine) (input : InputState)
    (before after : Io) (kept : after.state.kept ≡ before.state.kept) (still : after.journal ≡ before.journal) (own : ℕ)
    (is_own : own ≡ own_of before.state) (over : Links) (reason : Sending)
    (is_here : (t : Turn) → t.heard ≡ heard
    → (IsSentAgain before.state over reason t ⊎ IsStarved before.state k t)
    → IsTurnHere before.objects before.state k (called input.call) t) where
  sent_taken : (text : List ℕ) → Wrote before.out after.out text
      → (mail : List code.Message) → whole_mail mail ≡ again before.state.kept
      → ((offered : Counts) → AreToldIn before.state.kept offered mail)
      → text ≡ letters_text (letters_sent over before.state.kept reason mail)
      → after.state.known ≡ noted_all over (letters_sent over before.state.kept reason mail)
      → TakesBy Wrote (OfCall heard input IsTurnHere k) TellsNoLine before after
  sent_taken text w mail whole told is known =
      let letters = letters_sent over before.state.kept reason mail in
      let turn = only_sends before.state heard letters (noted_all over letters) in
      record {
        turn = turn;
        is =
            (refl, is_here turn refl (inl (record { mail = mail; whole = whole; over = told; turn = refl })));
        now_is = λ i. record { kept = sym kept i; known = sym known i };
        wrote = subst (Wrote before.out after.out) is w;
        journal = still ∙ sym (append-nil before.journal);
        tells = refl;
      }

  starved_again : (w : Why) → w ≡ why.Memory → after.state.known ≡ before.state.known
      → Wrote before.out after.out (said_text own k heard.name (said.Refused w))
      → TakesBy Wrote (OfCall heard input IsTurnHere k) TellsNoLine before after
  starved_again w hungry known wrote =
      said_taken Wrote k heard input before after (said.Refused w)
      (λ i. record { kept = kept i; known = known i }) still own is_own wrote
      (is_here (only_says before.state k heard (said.Refused w)) refl
      (inr (ap (λ v. only_says before.state k heard (said.Refused v)) hungry)))

  pub again_taken : (s : Said) → Wrote before.out after.out (said_text own k heard.name s)
      → IsSaidAgain over before.state.known before.state.kept reason s after.state.known
      → TakesBy Wrote (OfCall heard input IsTurnHere k) TellsNoLine before after
  again_taken (said.Lines text) w is = sent_taken text.items w is.0 is.1 is.2 is.3 is.4
  again_taken (said.Refused w) wrote is = starved_again w is.0 is.1 wrote

-- when the timer has run out
pub tick_here : (objects : List (ℕ × Kind)) (n : ServerState) (k : ℕ) (call : WireCall) (over : Links) → call ≡ Tick
    → over ≡ asked_with n.known (progress_of n.kept) → (t : Turn)
    → (IsSentAgain n over sending.Timer t ⊎ IsStarved n k t) → IsTurnHere objects n k call t
tick_here objects n k call over e asked t is =
    subst (λ (x : WireCall). IsTurnHere objects n k x t) (sym e)
    (subst (λ l. IsSentAgain n l sending.Timer t ⊎ IsStarved n k t) asked is)

-- once another said how far it is
module _ (objects : List (ℕ × Kind)) (n : ServerState) (k : ℕ) (call : WireCall) (r : ℕ) (t : Turn) where
  -- by what it says, be something lacking or not
  said_here : (c : WireCall) → IsKnownOf r c → (lacks : Bool) → is_lacked n.known r ≡ lacks
      → OneOf lacks (IsMendingTurn n r t ⊎ IsStarved n k t) (t ≡ only_writes n t.heard [])
      → IsTurnHere objects n k c t
  said_here (Submit replica object op) of lacks e is = absurd of
  said_here (Decide replica commit value) of lacks e is = absurd of
  said_here (Ask replica object query) of lacks e is = absurd of
  said_here Tick of lacks e is = absurd of
  said_here (Receive m) of lacks e is = absurd of
  said_here (Known s) of lacks e is =
      subst
      (λ q. OneOf (is_lacked n.known q) (IsMendingTurn n q t ⊎ IsStarved n k t) (t ≡ only_writes n t.heard []))
      (sym of)
      (subst (λ b. OneOf b (IsMendingTurn n r t ⊎ IsStarved n k t) (t ≡ only_writes n t.heard [])) (sym e) is)

  pub lacked_here : IsKnownOf r call → is_lacked n.known r ≡ true → (IsMendingTurn n r t ⊎ IsStarved n k t)
      → IsTurnHere objects n k call t
  lacked_here of lacks is = said_here call of true lacks is

  pub known_here : IsKnownOf r call → is_lacked n.known r ≡ false → t ≡ only_writes n t.heard []
      → IsTurnHere objects n k call t
  known_here of lacks is = said_here call of false lacks is

-- where nothing is lacking, what another is known to have changes nothing else
pub known_taken : (heard : HeardLine) (input : InputState) (k : ℕ) (io : Io) (r : ℕ) → IsKnownOf r (called input.call)
    → is_lacked io.state.known r ≡ false → TakesLine (OfCall heard input IsTurnHere k) TellsNoLine io io
known_taken heard input k io r of lacks =
    takes_only Appends (OfCall heard input IsTurnHere k) io io heard []
    (refl, known_here io.objects io.state k (called input.call) r (only_writes io.state heard []) of lacks refl)
    refl refl (Appends-nil io.out)

-- ## Questions that no call says

-- one for another node is passed over
pub question_passed : (line : List ℕ) (q : Question) (k : ℕ) (io : Io) → (asks_of q == own_of io.state) ≡ false
    → TakesLine (OfQuestion line q k) TellsNoLine io io
question_passed line q k io other =
    let t = only_writes io.state (heard_name line) [] in
    takes_only Appends (OfQuestion line q k) io io (heard_name line) [] (
      refl,
      subst
          (λ b.
          OneOf b ((s : Said)
          × IsSaidToQuestion io.objects io.state.kept io.state.known (heard_name line) q s
          × (t ≡ only_says io.state k (heard_name line) s)) (t ≡ t))
          (sym other) refl,
    )
    refl refl (Appends-nil io.out)

pub question_said : (Wrote : (before after : Option (List ℕ)) → List ℕ → Type 0) (k : ℕ) (line : List ℕ) (q : Question)
    (before after : Io) (s : Said) → after.state ≡ before.state → after.journal ≡ before.journal
    → (asks_of q == own_of before.state) ≡ true → (own : ℕ) → own ≡ own_of before.state → (name : List ℕ)
    → name ≡ (heard_name line).name → Wrote before.out after.out (said_text own k name s)
    → IsSaidToQuestion before.objects before.state.kept before.state.known (heard_name line) q s
    → TakesBy Wrote (OfQuestion line q k) TellsNoLine before after
question_said Wrote k line q before after s same still ours own is_own name is_name w is =
    let t = only_says before.state k (heard_name line) s in
    takes_only Wrote (OfQuestion line q k) before after (heard_name line)
    (said_text (own_of before.state) k (heard_name line).name s) (
      refl,
      subst
          (λ b.
          OneOf b ((s : Said)
          × IsSaidToQuestion before.objects before.state.kept before.state.known (heard_name line) q s
          × (t ≡ only_says before.state k (heard_name line) s)) (t ≡ only_writes before.state (heard_name line) []))
          (sym ours) (s, is, refl),
    )
    same still
    (subst (λ (o : ℕ). Wrote before.out after.out (said_text o k (heard_name line).name s)) is_own
    (subst (λ m. Wrote before.out after.out (said_text own k m s)) is_name w))

-- ## What takes an element out

-- how a take is heard
pub heard_so : (a : Asking) → IsAsking a → (take : Take) (tags : List UpdateId) (b : Asking) (call : List ℕ)
    → b.line.now ≡ a.line.now → b.name.now ≡ a.name.now → b.after ≡ a.after → b.update ≡ take.number
    → call ≡ (heard_take a.line.now take tags).call → heard_as b call ≡ heard_take a.line.now take tags
heard_so a is take tags b call line name after update says =
    λ i.
    record {
      line = line i;
      name = (name ∙ is.name) i;
      call = says i;
      number = update i;
      after = (after ∙ is.after) i;
    }

module _ (k : ℕ) (line : List ℕ) (take : Take) (before after : Io) where
  -- it is heard so
  pub take_heard : (hears : HeardLine) → hears ≡ heard_take line take (taken_tags before.objects before.state.kept take)
      → leb (length (taken_tags before.objects before.state.kept take)) MAX_TAGS ≡ true → (t : Turn)
      → OfHeard hears k before after t → OfTake line take k before after t
  take_heard hears is few t (inl heard) =
      let so = heard.0 ∙ is in (
        ap (λ (h : HeardLine). h.line) so,
        inl (subst
            (λ b.
            OneOf b
            (IsHeardTurn before.objects before.state k
            (heard_take t.heard.line take (taken_tags before.objects before.state.kept take)) t)
            (t ≡ only_says before.state k (heard_name t.heard.line) (said.Refused why.TooManyTags)))
            (sym few) (
              so ∙ ap (λ l. heard_take l take (taken_tags before.objects before.state.kept take))
                  (sym (ap (λ (h : HeardLine). h.line) so)),
              heard.1,
            )),
      )
  take_heard hears is few t (inr hungry) =
      let now : IsStarvedLine line k before after t =
      subst (λ l. IsStarvedLine l k before after t) (ap (λ (h : HeardLine). h.line) is) hungry in
      (ap (λ (u : Turn). u.heard.line) now, inr now)

  pub take_starved : (t : Turn) → IsStarvedLine line k before after t → OfTake line take k before after t
  take_starved t hungry = (ap (λ (u : Turn). u.heard.line) hungry, inr hungry)

-- it is refused
pub take_refused_so : (Wrote : (before after : Option (List ℕ)) → List ℕ → Type 0) (k : ℕ) (line : List ℕ) (take : Take)
    (before after : Io) (w : Why) → after.state ≡ before.state → after.journal ≡ before.journal
    → (own : ℕ) → own ≡ own_of before.state → (name : List ℕ) → name ≡ (heard_name line).name
    → Wrote before.out after.out (said_text own k name (said.Refused w))
    → leb (length (taken_tags before.objects before.state.kept take)) MAX_TAGS ≡ false → w ≡ why.TooManyTags
    → TakesBy Wrote (OfTake line take k) TellsNoLine before after
take_refused_so Wrote k line take before after w same still own is_own name is_name wrote many is =
    let t = only_says before.state k (heard_name line) (said.Refused why.TooManyTags) in
    takes_only Wrote (OfTake line take k) before after (heard_name line)
    (said_text (own_of before.state) k (heard_name line).name (said.Refused why.TooManyTags)) (
      refl,
      inl (subst
          (λ b.
          OneOf b
          (IsHeardTurn before.objects before.state k
          (heard_take line take (taken_tags before.objects before.state.kept take)) t) (t ≡ t))
          (sym many) refl),
    )
    same still
    (subst (λ v. Wrote before.out after.out (said_text (own_of before.state) k (heard_name line).name (said.Refused v)))
    is
    (subst (λ (o : ℕ). Wrote before.out after.out (said_text o k (heard_name line).name (said.Refused w))) is_own
    (subst (λ m. Wrote before.out after.out (said_text own k m (said.Refused w))) is_name wrote)))

-- there was no memory
pub take_hungry : (Wrote : (before after : Option (List ℕ)) → List ℕ → Type 0) (k : ℕ) (line : List ℕ) (take : Take)
    (before after : Io) (w : Why) → after.state ≡ before.state → after.journal ≡ before.journal
    → (own : ℕ) → own ≡ own_of before.state → (name : List ℕ) → name ≡ (heard_name line).name
    → Wrote before.out after.out (said_text own k name (said.Refused w)) → w ≡ why.Memory
    → TakesBy Wrote (OfTake line take k) TellsNoLine before after
take_hungry Wrote k line take before after w same still own is_own name is_name wrote is =
    takes_only Wrote (OfTake line take k) before after (heard_name line)
    (said_text (own_of before.state) k (heard_name line).name (said.Refused why.Memory)) (refl, inr refl) same still
    (subst (λ v. Wrote before.out after.out (said_text (own_of before.state) k (heard_name line).name (said.Refused v)))
    is
    (subst (λ (o : ℕ). Wrote before.out after.out (said_text o k (heard_name line).name (said.Refused w))) is_own
    (subst (λ m. Wrote before.out after.out (said_text own k m (said.Refused w))) is_name wrote)))

-- by what it names
pub take_refused_by : (Wrote : (before after : Option (List ℕ)) → List ℕ → Type 0) (k : ℕ) (line : List ℕ) (take : Take)
    (before after : Io) (w : Why) → after.state ≡ before.state → after.journal ≡ before.journal
    → (own : ℕ) → own ≡ own_of before.state → (name : List ℕ) → name ≡ (heard_name line).name
    → Wrote before.out after.out (said_text own k name (said.Refused w))
    → IsTakeRefusal (taken_tags before.objects before.state.kept take) w
    → TakesBy Wrote (OfTake line take k) TellsNoLine before after
take_refused_by Wrote k line take before after w same still own is_own name is_name wrote (inl (is, many)) =
    take_refused_so Wrote k line take before after w same still own is_own name is_name wrote
    (lt-leb (length (taken_tags before.objects before.state.kept take)) MAX_TAGS many) is
take_refused_by Wrote k line take before after w same still own is_own name is_name wrote (inr is) =
    take_hungry Wrote k line take before after w same still own is_own name is_name wrote is

-- where the shelf has absorbed more before
module _ (k : ℕ) (line : List ℕ) (take : Take) (before after : Io) (objects : List (ℕ × Kind))
    (same : objects ≡ before.objects) (hears : HeardLine)
    (is : hears ≡ heard_take line take (taken_tags before.objects before.state.kept take))
    (few : leb (length (taken_tags before.objects before.state.kept take)) MAX_TAGS ≡ true)
    (Told : List (List ℕ) → Type 0) where
  pub ok_take : {T : Type 0} (r : Result T NodeFault)
      → OnOk r (TakesLine (OfHeard hears k) Told (record before { objects = objects }) after)
      → OnOk r (TakesLine (OfTake line take k) Told before after)
  ok_take r x =
      on_ok_more (OfHeard hears k) (OfTake line take k) before after (take_heard k line take before after hears is few)
      (λ told tells. tells) r
      (subst (λ os. OnOk r (TakesLine (OfHeard hears k) Told (record before { objects = os }) after)) same x)

  pub err_take : {T : Type 0} (r : Result T NodeFault)
      → IfErr r (Breaks (OfHeard hears k) Told (record before { objects = objects }) after)
      → IfErr r (Breaks (OfTake line take k) Told before after)
  err_take r x =
      if_err_more (OfHeard hears k) (OfTake line take k) before after (take_heard k line take before after hears is few)
      (λ told tells. tells) r
      (subst (λ os. IfErr r (Breaks (OfHeard hears k) Told (record before { objects = os }) after)) same x)

-- ## Any line that is no note

module _ (k : ℕ) (line : List ℕ) (before after : Io) where
  abbrev IsRequested : Option Question → Option Take → Turn → Type 0
  IsRequested q take t = IsRequestTurn before.objects before.state k q take t ⊎ IsStarvedLine line k before after t

  requested : (q : Option Question) (take : Option Take) → question_in (bare line) ≡ q → take_in (bare line) ≡ take
      → (t : Turn) → t.heard.line ≡ line → IsRequested q take t → OfRequest line k before after t
  requested q take is_q is_take t same is = (
    same,
    subst (λ x. IsRequested x (take_in (bare line)) t) (sym is_q)
        (subst (λ x. IsRequested q x t) (sym is_take) is),
  )

  pub of_question : (q : Question) → question_in (bare line) ≡ Some q → (t : Turn)
      → OfQuestion line q k before after t → OfRequest line k before after t
  of_question q is t (same, question) = requested (Some q) (take_in (bare line)) is refl t same (inl question)

  pub of_take : (take : Take) → question_in (bare line) ≡ None → take_in (bare line) ≡ Some take → (t : Turn)
      → OfTake line take k before after t → OfRequest line k before after t
  of_take take none is t (same, does) = requested None (Some take) none is t same does

  pub of_heard : (hears : HeardLine) → hears ≡ heard_call line → question_in (bare line) ≡ None
      → take_in (bare line) ≡ None
      → (t : Turn) → OfHeard hears k before after t → OfRequest line k before after t
  of_heard hears is none neither t (inl heard) =
      let so = heard.0 ∙ is in
      let same : t.heard.line ≡ line = ap (λ (h : HeardLine). h.line) so in
      requested None None none neither t same (inl (so ∙ ap heard_call (sym same), heard.1))
  of_heard hears is none neither t (inr hungry) =
      let now : IsStarvedLine line k before after t =
      subst (λ l. IsStarvedLine l k before after t) (ap (λ (h : HeardLine). h.line) is) hungry in
      requested None None none neither t (ap (λ (u : Turn). u.heard.line) now) (inr now)

-- ## Whether a letter is answered by how far the node is

same_content : (here : Progress) (c : Content) → tells_nothing here c ≡ tells_nothing here (content_of (said_content c))
same_content here (content.Offer d) = refl
same_content here content.Yes = refl
same_content here (content.No d) = refl
same_content here (content.Tell d) = refl

-- that is asked of what it says
pub idle_as_said : (n : ReplicaState) (l : Letter) → wants_standing n l.parcel ≡ is_idle n (letter_message l)
idle_as_said n l = ap (λ b. (l.parcel.instance == 0) && b) (same_content (progress_of n) l.parcel.content)
