-- Lines that are taken one after another, what they come to held back, and then written.
use Rattle.std.proofs.Common.{◌≡◌, ℕ, ◌+◌, ◌≤◌, List, [], ◌∷◌, ◌++◌, length, take, drop, refl, sym, subst, ap, ◌∙◌}
use Rattle.std.proofs.Common.{arith, append_assoc, append-nil, take-append-drop, length-append, Option, Some, None}
use Rattle.std.proofs.Common.{inl, inr}
use Rattle.std.specs.Prelude.{⊤, ◌⊎◌}
use Rattle.std.specs.Io.KnownBytes.{Appends, Consumes, IsAtEnd, prepend_known}
use Rattle.std.proofs.KnownBytes.{Appends-nil, Appends-trans, Appends-kept, Consumes-nil}
use Rattle.std.proofs.lemmas.List.{map-append, take_all}
use Rattle.std.proofs.lemmas.List.Elements.{All-nil}
use Rattle.std.proofs.lemmas.Grind.{flat_map-append}
use Rattle.la_object.specs.declared.kind.Kind.{Kind}
use Rattle.la_io.specs.Streams.{AppendsPrefix}
use Rattle.la_io.proofs.lemmas.Fronts.{prefix_more, prefix_behind}
use Rattle.la_journal.specs.Disk.{LeavesOnly}
use Rattle.la_journal.specs.Durable.{IsSettled}
use Rattle.la_journal.specs.Giving.{GivenAt}
use Rattle.la_journal.specs.Journal.{lines}
use Rattle.la_journal.specs.Records.{ended}
use Rattle.la_journal.specs.Machine.{steps, LeadsToSome}
use Rattle.la_durable.specs.CallLines.{CallLine}
use Rattle.la_durable.specs.Nodes.{step}
use Rattle.la_durable.specs.Restarts.{leads_from}
use Rattle.la_io.specs.Sources.{IsOneLine, TakesSome}
use Rattle.la_serve.specs.Reading.{ReadSo, ReadsFront, ReadsAll}
use Rattle.la_io.specs.Streams.{TellsAll}
use Rattle.la_serve.proofs.Reading.{reads_line, reads_all, reads_front}
use Rattle.la_io.proofs.lemmas.TellingOn.{tells_on}
use Rattle.la_serve.specs.declared.error.NodeFault.{NodeFault}
use Rattle.la_serve.specs.declared.error.NodeFault.TheVariants as fault
use Rattle.la_serve.specs.Io.{Io, Facts, Waiting}
use Rattle.la_serve.specs.Turns.{Turn, ServerState, IsTurn}
use Rattle.la_serve.specs.Serving.{AreTurns, IsTurnStep, TakesLine, TakesCut, TakesNone, InputEnds, IsStepRefusal}
use Rattle.la_serve.specs.Serving.{of_step, ServesAll, ServesSome, ServesClosed, IsServeRefusal, turn_lines, written}
use Rattle.la_serve.specs.Serving.{kept_lines, turns_told, cut_told}
use Rattle.la_serve.specs.Giving.{gives}
use Rattle.la_serve.specs.Crashes.{AreTextsOf, AreFrontsOf, Leaves, Commits, CommitsSome, Flushes, GivesNothing}
use Rattle.la_serve.specs.Crashes.{FlushesNot}
use Rattle.la_serve.proofs.Turning.{turns_snoc, turns_join}
use Rattle.la_serve.proofs.Leading.{Led, turns_lead}
use Rattle.la_serve.proofs.Crashing.{CrashSo, crash_none, crash_more, crash_some, crash_all}
use Rattle.la_replica.specs.ReplicaState.{ReplicaState}

-- where the loop stands: what is ahead and in the output, what is held back and staged
pub record Point (D E : Type 0) : Type 0 where
  pub objects : List (ℕ × Kind)
  pub state : ServerState
  pub ahead : Option (List ℕ)
  pub out : Option (List ℕ)
  pub held : List ℕ
  pub disk : D
  pub text : List ℕ
  pub given : List GivenAt
  pub errors : E

-- as a flush has it
abbrev pub waits : {D E : Type 0} → Point D E → Waiting D
waits p = record { out = p.out; given = p.given; held = p.held; staged = p.text; disk = p.disk }

-- as a step has it
abbrev pub held_io : {D E : Type 0} → Point D E → Io
held_io p = record { objects = p.objects; state = p.state; left = p.ahead; out = Some p.held; journal = ended p.text }

-- what may be missing of what is held back, by why no more is read
abbrev pub Missing : NodeFault → (more : List ℕ) → Type 0
Missing fault.ReadFault more = more ≡ []
Missing fault.WriteFault more = ⊤
Missing fault.Memory more = ⊤
Missing _ more = ⊥

-- ## One turn behind others

text_on : (turns : List Turn) (t : Turn) → written turns ++ t.text ≡ written (turns ++ t ∷ [])
text_on turns t =
    sym (flat_map-append (λ (t : Turn). t.text) turns (t ∷ []) ∙ ap (λ x. written turns ++ x) (append-nil t.text))

kept_on : (turns : List Turn) (t : Turn) → kept_lines turns ++ t.kept ≡ kept_lines (turns ++ t ∷ [])
kept_on turns t =
    sym (flat_map-append (λ (t : Turn). t.kept) turns (t ∷ []) ∙ ap (λ x. kept_lines turns ++ x) (append-nil t.kept))

told_on : (turns : List Turn) (t : Turn) → turns_told turns ++ t.told ≡ turns_told (turns ++ t ∷ [])
told_on turns t =
    sym (flat_map-append (λ (t : Turn). t.told) turns (t ∷ []) ∙ ap (λ x. turns_told turns ++ x) (append-nil t.told))

lines_on : (turns : List Turn) (t : Turn) → turn_lines turns ++ t.heard.line ∷ [] ≡ turn_lines (turns ++ t ∷ [])
lines_on turns t = sym (map-append (λ (t : Turn). t.heard.line) turns (t ∷ []))

none_read : (left : Option (List ℕ)) → Consumes left (prepend_known [] left) []
none_read None = tt
none_read (Some xs) = refl

module _ {D R W E : Type 0} (f : Facts D R W E) (first : Point D E) where
  -- the journal and the streams at a point, where this is left to read
  abbrev pub run_io : (left : Option (List ℕ)) → Point D E → Io
  run_io left p =
      record { objects = p.objects; state = p.state; left = left; out = p.out; journal = lines (f.seen p.disk) }

  abbrev pub Left : Point D E → (turns last : List Turn) → Type 0
  Left p = Leaves f.seen f.may_leave f.moment f.left_since first.state.kept first.disk p.disk first.given p.given

  abbrev Crash : (between : ServerState) (d : D) (given : List GivenAt) (done : List Turn) → Type 0
  Crash between d given done =
      CrashSo f.seen f.may_leave f.moment f.left_since AreTextsOf first.state.kept between.kept first.disk d
      first.given given
      done

  abbrev pub Flushed : (p q : Point D E) → Type 0
  Flushed p q = Flushes f.seen f.may_leave f.moment f.left_since (waits p) (waits q)

  abbrev pub Only_now : D → Type 0
  Only_now d = (c : List ℕ) → f.left_since d (f.moment d) c → f.may_leave d c

  -- the turns so far: what the first ones came to was written, and what the others came to is held back
  pub record So (p : Point D E) (number : ℕ) : Type 0 where
    pub done : List Turn
    pub group : List Turn
    -- the state after the first ones
    pub between : ServerState
    pub are_done : AreTurns first.objects first.state 1 done between
    pub are_group : AreTurns first.objects between (1 + length done) group p.state
    pub count : number ≡ 1 + length (done ++ group)
    pub read : ReadSo first.ahead p.ahead (turn_lines (done ++ group))
    pub wrote : Appends first.out p.out (written done)
    pub holds : p.held ≡ written group
    pub journal : lines (f.seen p.disk) ≡ lines (f.seen first.disk) ++ kept_lines done
    pub stages : ended p.text ≡ kept_lines group
    pub tells : TellsAll f.heard f.refuses first.errors p.errors (turns_told (done ++ group))
    pub crash : Crash between p.disk p.given done

  -- the same when no more is read: of what the others came to a front is held back
  pub record CutSo (left : Option (List ℕ)) (p : Point D E) (more : List ℕ) : Type 0 where
    pub done : List Turn
    pub group : List Turn
    pub between : ServerState
    pub are_done : AreTurns first.objects first.state 1 done between
    pub are_group : AreTurns first.objects between (1 + length done) group p.state
    pub read : ReadsFront first.ahead left (turn_lines (done ++ group))
    pub wrote : Appends first.out p.out (written done)
    pub holds : p.held ++ more ≡ written group
    pub journal : lines (f.seen p.disk) ≡ lines (f.seen first.disk) ++ kept_lines done
    pub stages : ended p.text ≡ kept_lines group
    pub rest : List ℕ
    pub tells : TellsAll f.heard f.refuses first.errors p.errors
        (turns_told (done ++ group) ++ cut_told (1 + length (done ++ group)) rest)
    pub crash : Crash between p.disk p.given done

  pub so_none : IsSettled f.seen f.may_leave first.disk
      → ((c : List ℕ) → f.left_since first.disk (f.moment first.disk) c → f.may_leave first.disk c)
      → (pending held text : List ℕ) → pending ≡ [] → held ≡ [] → text ≡ []
      → So (record first { ahead = prepend_known pending first.ahead; held = held; text = text }) 1
  so_none settled only_now pending held text none empty unstaged = record {
    done = [];
    group = [];
    between = first.state;
    are_done = refl;
    are_group = refl;
    count = refl;
    read = (
      All-nil IsOneLine,
      subst (λ p. Consumes first.ahead (prepend_known p first.ahead) []) (sym none) (none_read first.ahead),
    );
    wrote = Appends-nil first.out;
    holds = empty;
    journal = sym (append-nil (lines (f.seen first.disk)));
    stages = ap ended unstaged;
    tells = refl;
    crash = crash_none f.seen f.may_leave f.moment f.left_since first.state.kept first.disk first.given settled
        only_now;
  }

  -- ## A step

  module _ (p : Point D E) (number : ℕ) (so : So p number) where
    -- no more is read
    pub stopped : (pending : List ℕ) (left : Option (List ℕ)) → p.ahead ≡ prepend_known pending left → CutSo left p []
    stopped pending left is = record {
      done = so.done;
      group = so.group;
      between = so.between;
      are_done = so.are_done;
      are_group = so.are_group;
      read =
          reads_front first.ahead p.ahead left pending (turn_lines (so.done ++ so.group)) so.read
          ([], subst (λ a. Consumes p.ahead a []) is (Consumes-nil p.ahead));
      wrote = so.wrote;
      holds = append-nil p.held ∙ so.holds;
      journal = so.journal;
      stages = so.stages;
      rest = [];
      tells =
          subst (TellsAll f.heard f.refuses first.errors p.errors) (sym (append-nil (turns_told (so.done ++ so.group))))
          so.tells;
      crash = so.crash;
    }

    module _ (q : Point D E) (objects : p.objects ≡ first.objects) (same : q.disk ≡ p.disk) (out : q.out ≡ p.out)
        (given : q.given ≡ p.given) where
      pub journal_now : lines (f.seen q.disk) ≡ lines (f.seen first.disk) ++ kept_lines so.done
      journal_now = ap (λ d. lines (f.seen d)) same ∙ so.journal

      pub wrote_now : Appends first.out q.out (written so.done)
      wrote_now = subst (λ o. Appends first.out o (written so.done)) (sym out) so.wrote

      pub crash_now : Crash so.between q.disk q.given so.done
      crash_now =
          subst (λ d. Crash so.between d q.given so.done) (sym same)
          (subst (λ g. Crash so.between p.disk g so.done) (sym given) so.crash)

      grown : (t : Turn) → so.done ++ (so.group ++ t ∷ []) ≡ (so.done ++ so.group) ++ t ∷ []
      grown t = sym (append_assoc so.done so.group (t ∷ []))

      are_on : (t : Turn) → IsTurn p.objects p.state number t → t.after ≡ q.state
          → AreTurns first.objects so.between (1 + length so.done) (so.group ++ t ∷ []) q.state
      are_on t is now =
          let here : number ≡ 1 + length so.done + length so.group =
          omega (arith, so.count, length-append so.done so.group) in
          subst (AreTurns first.objects so.between (1 + length so.done) (so.group ++ t ∷ [])) now
          (turns_snoc first.objects so.between (1 + length so.done) so.group p.state t so.are_group
          (subst (λ k. IsTurn first.objects p.state k t) here (subst (λ os. IsTurn os p.state number t) objects is)))

      read_on : (t : Turn) → IsOneLine t.heard.line → Consumes p.ahead q.ahead (t.heard.line ++ 10 ∷ [])
          → ReadSo first.ahead q.ahead (turn_lines (so.done ++ (so.group ++ t ∷ [])))
      read_on t one read =
          subst (λ ts. ReadSo first.ahead q.ahead (turn_lines ts)) (sym (grown t))
          (subst (ReadSo first.ahead q.ahead) (lines_on (so.done ++ so.group) t)
          (reads_line first.ahead p.ahead q.ahead (turn_lines (so.done ++ so.group)) t.heard.line so.read one read))

      tells_more : (t : Turn) → TellsAll f.heard f.refuses p.errors q.errors t.told
          → TellsAll f.heard f.refuses first.errors q.errors (turns_told (so.done ++ (so.group ++ t ∷ [])))
      tells_more t tells =
          subst (λ ts. TellsAll f.heard f.refuses first.errors q.errors (turns_told ts)) (sym (grown t))
          (subst (TellsAll f.heard f.refuses first.errors q.errors) (told_on (so.done ++ so.group) t)
          (tells_on f.heard f.refuses first.errors p.errors q.errors (turns_told (so.done ++ so.group)) t.told so.tells
          tells))

      pub so_more : TakesLine (IsTurnStep number) (TellsAll f.heard f.refuses p.errors q.errors) (held_io p) (held_io q)
          → So q (number + 1)
      so_more t = record {
        done = so.done;
        group = so.group ++ t.turn ∷ [];
        between = so.between;
        are_done = so.are_done;
        are_group = are_on t.turn t.is.is t.now_is;
        count = omega (arith, so.count, ap length (grown t.turn), length-append (so.done ++ so.group) (t.turn ∷ []));
        read = read_on t.turn t.is.one t.is.read;
        wrote = wrote_now;
        holds = t.wrote ∙ ap (λ h. h ++ t.turn.text) so.holds ∙ text_on so.group t.turn;
        journal = journal_now;
        stages = t.journal ∙ ap (λ s. s ++ t.turn.kept) so.stages ∙ kept_on so.group t.turn;
        tells = tells_more t.turn t.tells;
        crash = crash_now;
      }

      -- no more is read
      module _ (pending : List ℕ) (left : Option (List ℕ)) (is : q.ahead ≡ prepend_known pending left) where
        -- the input is at its end
        unfoldable pub at_end : InputEnds number (TellsAll f.heard f.refuses p.errors q.errors) (held_io p) (held_io q)
            → CutSo left q []
        at_end s = record {
          done = so.done;
          group = so.group;
          between = so.between;
          are_done = so.are_done;
          are_group =
              subst (AreTurns first.objects so.between (1 + length so.done) so.group) (sym s.now_is) so.are_group;
          read =
              reads_front first.ahead p.ahead left pending (turn_lines (so.done ++ so.group)) so.read
              (s.rest, subst (λ a. Consumes p.ahead a s.rest) is s.read);
          wrote = wrote_now;
          holds = append-nil q.held ∙ s.out ∙ so.holds;
          journal = journal_now;
          stages = s.journal ∙ so.stages;
          rest = s.rest;
          tells =
              tells_on f.heard f.refuses first.errors p.errors q.errors (turns_told (so.done ++ so.group))
              (cut_told (1 + length (so.done ++ so.group)) s.rest) so.tells
              (subst (λ k. TellsAll f.heard f.refuses p.errors q.errors (cut_told k s.rest)) so.count s.tells);
          crash = crash_now;
        }

        pub all_read : (s : InputEnds number (TellsAll f.heard f.refuses p.errors q.errors) (held_io p) (held_io q))
            → ReadsAll first.ahead left (turn_lines (so.done ++ so.group)) s.rest
        all_read s =
            reads_all first.ahead p.ahead left pending (turn_lines (so.done ++ so.group)) s.rest so.read s.one
            (subst (λ a. Consumes p.ahead a s.rest) is s.read) (subst IsAtEnd is s.at_end)

        -- a line was not taken
        none_cut : TakesSome p.ahead q.ahead
            → TakesNone (TellsAll f.heard f.refuses p.errors q.errors) (held_io p) (held_io q) → CutSo left q []
        none_cut some none = record {
          done = so.done;
          group = so.group;
          between = so.between;
          are_done = so.are_done;
          are_group =
              subst (AreTurns first.objects so.between (1 + length so.done) so.group) (sym none.now_is) so.are_group;
          read =
              reads_front first.ahead p.ahead left pending (turn_lines (so.done ++ so.group)) so.read
              (subst (TakesSome p.ahead) is some);
          wrote = wrote_now;
          holds = append-nil q.held ∙ none.out ∙ so.holds;
          journal = journal_now;
          stages = none.journal ∙ so.stages;
          rest = [];
          tells =
              subst (TellsAll f.heard f.refuses first.errors q.errors)
              (sym (append-nil (turns_told (so.done ++ so.group))))
              (subst (λ e. TellsAll f.heard f.refuses first.errors e (turns_told (so.done ++ so.group)))
              (sym none.tells)
              so.tells);
          crash = crash_now;
        }

        -- or it was, but of what it comes to only a front is held back
        one_cut : TakesCut (IsTurnStep number) (TellsAll f.heard f.refuses p.errors q.errors) (held_io p) (held_io q)
            → (more : List ℕ) × CutSo left q more
        one_cut t =
            let many = t.wrote.0 in
            let more = drop many t.turn.text in (
              more,
              record {
                done = so.done;
                group = so.group ++ t.turn ∷ [];
                between = so.between;
                are_done = so.are_done;
                are_group = are_on t.turn t.is.is t.now_is;
                read =
                    reads_front first.ahead q.ahead left pending (turn_lines (so.done ++ (so.group ++ t.turn ∷ [])))
                    (read_on t.turn t.is.one t.is.read)
                    ([], subst (λ a. Consumes q.ahead a []) is (Consumes-nil q.ahead));
                wrote = wrote_now;
                holds =
                    ap (λ h. h ++ more) t.wrote.1 ∙ append_assoc p.held (take many t.turn.text) more
                    ∙ ap (λ x. p.held ++ x) (take-append-drop many t.turn.text) ∙ ap (λ h. h ++ t.turn.text) so.holds
                    ∙ text_on so.group t.turn;
                journal = journal_now;
                stages = t.journal ∙ ap (λ s. s ++ t.turn.kept) so.stages ∙ kept_on so.group t.turn;
                rest = [];
                tells =
                    subst (TellsAll f.heard f.refuses first.errors q.errors)
                    (sym (append-nil (turns_told (so.done ++ (so.group ++ t.turn ∷ []))))) (tells_more t.turn t.tells);
                crash = crash_now;
              },
            )

        pub step_cut : (why : NodeFault)
            → IsStepRefusal number (TellsAll f.heard f.refuses p.errors q.errors) (held_io p) (held_io q) why
            → (more : List ℕ) × CutSo left q more × Missing why more
        step_cut fault.ReadFault r = ([], none_cut r.0 r.1, refl)
        step_cut fault.WriteFault r = ((one_cut r).0, (one_cut r).1, tt)
        step_cut fault.Memory (inl r) = ([], none_cut r.0 r.1, tt)
        step_cut fault.Memory (inr r) = ((one_cut r).0, (one_cut r).1, tt)
        step_cut fault.BadConfig r = absurd r
        step_cut fault.NoJournal r = absurd r
        step_cut fault.JournalThere r = absurd r
        step_cut fault.Locked r = absurd r
        step_cut (fault.BadJournal line) r = absurd r
        step_cut (fault.OtherOptions option) r = absurd r
        step_cut (fault.StartFault found) r = absurd r
        step_cut fault.DiskFault r = absurd r

  -- ## What is held back is written, or is not

  module _ (follow : (old mid new : D) (start first next : ReplicaState) (taken later : List CallLine)
      → LeavesOnly f.moment f.left_since old mid (LeadsToSome (leads_from start) step taken first)
      → steps step taken first ≡ Some next
      → LeavesOnly f.moment f.left_since mid new (LeadsToSome (leads_from start) step later next)
      → LeavesOnly f.moment f.left_since old new (LeadsToSome (leads_from start) step (taken ++ later) first)) where
    -- before a line is read
    pub so_prepared : (p q : Point D E) (number : ℕ) → So p number → q.ahead ≡ p.ahead → q.errors ≡ p.errors
        → q.state ≡ p.state → Only_now q.disk → ((waits q ≡ waits p) ⊎ Flushed p q) → So q number
    so_prepared p q number so ahead errors state only_now (inl same) = record {
      done = so.done;
      group = so.group;
      between = so.between;
      are_done = so.are_done;
      are_group = subst (AreTurns first.objects so.between (1 + length so.done) so.group) (sym state) so.are_group;
      count = so.count;
      read = subst (λ a. ReadSo first.ahead a (turn_lines (so.done ++ so.group))) (sym ahead) so.read;
      wrote = subst (λ (w : Waiting D). Appends first.out w.out (written so.done)) (sym same) so.wrote;
      holds = ap (λ (w : Waiting D). w.held) same ∙ so.holds;
      journal = ap (λ (w : Waiting D). lines (f.seen w.disk)) same ∙ so.journal;
      stages = ap (λ (w : Waiting D). ended w.staged) same ∙ so.stages;
      tells =
          subst (λ e. TellsAll f.heard f.refuses first.errors e (turns_told (so.done ++ so.group))) (sym errors)
          so.tells;
      crash = subst (λ (w : Waiting D). Crash so.between w.disk w.given so.done) (sym same) so.crash;
    }
    so_prepared p q number so ahead errors state only_now (inr w) =
        let nil : (so.done ++ so.group) ++ [] ≡ so.done ++ so.group = append-nil (so.done ++ so.group) in
        record {
          done = so.done ++ so.group;
          group = [];
          between = p.state;
          are_done =
              turns_join first.objects first.state 1 so.done so.between so.group p.state so.are_done so.are_group;
          are_group = state;
          count = so.count ∙ ap (λ (ts : List Turn). 1 + length ts) (sym nil);
          read =
              subst (λ a. ReadSo first.ahead a (turn_lines ((so.done ++ so.group) ++ []))) (sym ahead)
              (subst (λ ts. ReadSo first.ahead p.ahead (turn_lines ts)) (sym nil) so.read);
          wrote =
              subst (Appends first.out q.out)
              (ap (λ h. written so.done ++ h) so.holds ∙ sym (flat_map-append (λ (t : Turn). t.text) so.done so.group))
              (Appends-trans first.out p.out q.out (written so.done) p.held so.wrote w.wrote);
          holds = w.none_held;
          journal =
              w.commits.lines ∙ (λ i. so.journal i ++ so.stages i)
              ∙ append_assoc (lines (f.seen first.disk)) (kept_lines so.done) (kept_lines so.group)
              ∙ ap (λ k. lines (f.seen first.disk) ++ k)
              (sym (flat_map-append (λ (t : Turn). t.kept) so.done so.group));
          stages = ap ended w.none_staged;
          tells =
              subst (λ e. TellsAll f.heard f.refuses first.errors e (turns_told ((so.done ++ so.group) ++ [])))
              (sym errors)
              (subst (λ ts. TellsAll f.heard f.refuses first.errors p.errors (turns_told ts)) (sym nil) so.tells);
          crash =
              crash_more f.seen f.may_leave f.moment f.left_since follow first.state.kept so.between.kept p.state.kept
              first.disk p.disk q.disk first.given p.given so.done so.group p.text so.crash
              (turns_lead first.objects so.between (1 + length so.done) so.group p.state so.are_group) so.stages w.some
              AreTextsOf p.held q.given w.given (λ groups given are. (so.holds, are)) only_now w.commits;
        }

    -- where no more is read
    module _ (left : Option (List ℕ)) (p q : Point D E) (more : List ℕ) (so : CutSo left p more)
        (state : q.state ≡ p.state) (only_now : Only_now q.disk)
        (some : CommitsSome f.seen f.moment f.left_since p.text p.disk q.disk) where
      abbrev Told : List (List ℕ) → Type 0
      Told = TellsAll f.heard f.refuses first.errors p.errors

      led : Led so.between.kept p.state.kept so.group
      led = turns_lead first.objects so.between (1 + length so.done) so.group p.state so.are_group

      are_all : AreTurns first.objects first.state 1 (so.done ++ so.group) p.state
      are_all = turns_join first.objects first.state 1 so.done so.between so.group p.state so.are_done so.are_group

      pub are_now : AreTurns first.objects first.state 1 (so.done ++ so.group) q.state
      are_now = subst (AreTurns first.objects first.state 1 (so.done ++ so.group)) (sym state) are_all

      pub safe : Commits f.seen f.may_leave p.text p.disk q.disk → q.given ≡ gives f.moment q.disk p.held p.given
          → Left q (so.done ++ so.group) []
      safe all gave =
          crash_all f.seen f.may_leave f.moment f.left_since first.state.kept p.state.kept first.disk q.disk
          first.given q.given
          (so.done ++ so.group)
          (crash_more f.seen f.may_leave f.moment f.left_since follow first.state.kept so.between.kept p.state.kept
          first.disk
          p.disk q.disk first.given p.given so.done so.group p.text so.crash led so.stages some AreFrontsOf p.held
          q.given gave
          (λ groups given are. ((more, so.holds), are)) only_now all) all.settled

      pub journal_is : Commits f.seen f.may_leave p.text p.disk q.disk
          → lines (f.seen q.disk) ≡ lines (f.seen first.disk) ++ kept_lines (so.done ++ so.group)
      journal_is all =
          all.lines ∙ (λ i. so.journal i ++ so.stages i)
          ∙ append_assoc (lines (f.seen first.disk)) (kept_lines so.done) (kept_lines so.group)
          ∙ ap (λ k. lines (f.seen first.disk) ++ k) (sym (flat_map-append (λ (t : Turn). t.kept) so.done so.group))

      text_is : (written so.done ++ p.held) ++ more ≡ written (so.done ++ so.group)
      text_is =
          append_assoc (written so.done) p.held more ∙ ap (λ h. written so.done ++ h) so.holds
          ∙ sym (flat_map-append (λ (t : Turn). t.text) so.done so.group)

      front : AppendsPrefix p.out q.out p.held → AppendsPrefix first.out q.out (written (so.done ++ so.group))
      front cut =
          subst (AppendsPrefix first.out q.out) text_is
          (prefix_more first.out q.out (written so.done ++ p.held) more
          (prefix_behind first.out p.out q.out (written so.done) p.held so.wrote cut))

      pub whole : more ≡ [] → Appends p.out q.out p.held → Appends first.out q.out (written (so.done ++ so.group))
      whole none wrote =
          subst (Appends first.out q.out)
          (sym (append-nil (written so.done ++ p.held)) ∙ ap (λ m. (written so.done ++ p.held) ++ m) (sym none)
          ∙ text_is)
          (Appends-trans first.out p.out q.out (written so.done) p.held so.wrote wrote)

      all_front : Appends p.out q.out p.held → AppendsPrefix p.out q.out p.held
      all_front wrote =
          (length p.held, subst (Appends p.out q.out) (sym (take_all (length p.held) p.held (omega arith))) wrote)

      serves_some : (Wrote : (before after : Option (List ℕ)) → List ℕ → Type 0)
          → Wrote first.out q.out (written (so.done ++ so.group)) → Commits f.seen f.may_leave p.text p.disk q.disk
          → q.given ≡ gives f.moment q.disk p.held p.given
          → ServesSome Told (Left q) Wrote (run_io first.ahead first) (run_io left q)
      serves_some Wrote wrote all gave = record {
        turns = so.done ++ so.group;
        are = are_now;
        read = so.read;
        wrote = wrote;
        journal = journal_is all;
        rest = so.rest;
        tells = so.tells;
        left = safe all gave;
      }

      module _ (counts_now : (t : ℕ) (c : List ℕ) → t ≤ f.moment q.disk → f.may_leave q.disk c
          → f.left_since q.disk t c) where
        closed : GivesNothing (waits p) (waits q)
            → ServesClosed Told (Left q) (run_io first.ahead first) (run_io left q)
        closed none = record {
          turns = so.done;
          last = so.group;
          now = p.state;
          are = are_all;
          read = so.read;
          wrote = Appends-kept first.out p.out q.out (written so.done) so.wrote none.keeps;
          rest = so.rest;
          tells = so.tells;
          left =
              subst
              (λ g.
              Leaves f.seen f.may_leave f.moment f.left_since first.state.kept first.disk q.disk first.given g so.done
              so.group)
              (sym none.given)
              (crash_some f.seen f.may_leave f.moment f.left_since follow first.state.kept so.between.kept
              p.state.kept first.disk
              p.disk q.disk first.given p.given so.done so.group p.text so.crash led so.stages some counts_now);
        }

        pub unflushed : (why : NodeFault)
            → FlushesNot f.seen f.may_leave f.moment (waits p) (waits q) why
            → IsServeRefusal Told (Left q) (run_io first.ahead first) (run_io left q) why
        unflushed fault.DiskFault r = closed r
        unflushed fault.Memory r = absurd r
        unflushed fault.WriteFault r = serves_some AppendsPrefix (front r.front) r.commits r.given
        unflushed fault.ReadFault r = absurd r
        unflushed fault.BadConfig r = absurd r
        unflushed fault.NoJournal r = absurd r
        unflushed fault.JournalThere r = absurd r
        unflushed fault.Locked r = absurd r
        unflushed (fault.BadJournal line) r = absurd r
        unflushed (fault.OtherOptions option) r = absurd r
        unflushed (fault.StartFault found) r = absurd r

      -- and why no more is read
      pub then_refused : (why : NodeFault) → Missing why more → Flushed p q
          → IsServeRefusal Told (Left q) (run_io first.ahead first) (run_io left q) (of_step why)
      then_refused fault.ReadFault none w = serves_some Appends (whole none w.wrote) w.commits w.given
      then_refused fault.WriteFault m w = serves_some AppendsPrefix (front (all_front w.wrote)) w.commits w.given
      then_refused fault.Memory m w = serves_some AppendsPrefix (front (all_front w.wrote)) w.commits w.given
      then_refused fault.BadConfig m w = absurd m
      then_refused fault.NoJournal m w = absurd m
      then_refused fault.JournalThere m w = absurd m
      then_refused fault.Locked m w = absurd m
      then_refused (fault.BadJournal line) m w = absurd m
      then_refused (fault.OtherOptions option) m w = absurd m
      then_refused (fault.StartFault found) m w = absurd m
      then_refused fault.DiskFault m w = absurd m

    -- all was read and written
    pub serves_all : (p q r : Point D E) (number : ℕ) (so : So p number) (objects : p.objects ≡ first.objects)
        (same : q.disk ≡ p.disk) (out : q.out ≡ p.out) (given : q.given ≡ p.given) (pending : List ℕ)
        (left : Option (List ℕ)) (is : q.ahead ≡ prepend_known pending left) (state : r.state ≡ q.state)
        → Only_now r.disk
        → InputEnds number (TellsAll f.heard f.refuses p.errors q.errors) (held_io p) (held_io q) → Flushed q r
        → ServesAll (TellsAll f.heard f.refuses first.errors q.errors) (Left r) (run_io first.ahead first)
        (run_io left r)
    unfolding at_end
    serves_all p q r number so objects same out given pending left is state only_now s w =
        let cut : CutSo left q [] = at_end p number so q objects same out given pending left is s in
        record {
          turns = so.done ++ so.group;
          rest = s.rest;
          are = are_now left q r [] cut state only_now w.some;
          read = all_read p number so q objects same out given pending left is s;
          wrote = whole left q r [] cut state only_now w.some refl w.wrote;
          journal = journal_is left q r [] cut state only_now w.some w.commits;
          tells = cut.tells;
          left = safe left q r [] cut state only_now w.some w.commits w.given;
        }
