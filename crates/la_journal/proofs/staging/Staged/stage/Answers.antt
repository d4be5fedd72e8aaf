use Rattle.std.proofs.Common.{◌≡◌, ◌++◌, true, Bool, List, ℕ, sym, ◌∙◌, ap, subst, rules}
use Rattle.std.proofs.lemmas.List.{append-nil}
use Rattle.la_journal.specs.Lines.{file_of}
use Rattle.la_journal.specs.Records.{ended}
use Rattle.la_journal.specs.Staging.{kept_unless, are_no_records}
use Rattle.la_journal.proofs.Groups.{no_end_in}
use Rattle.la_journal.proofs.Together.{more_whole, more_plain, more_lines}
use Rattle.la_journal.proofs.staging.Staged.stage.Goals.{then-not-is_still, else-not-is_still}
use Rattle.la_journal.proofs.staging.Staged.stage.Goals as goal

pub invariant_of-self-then-not-is_still : goal.invariant_of-self-then-not-is_still
invariant_of-self-then-not-is_still g c =
    let old = c.args.self.now.text.items in
    let call = g.M.Machine.call c.args.input.now in
    let clean = g.met.M.Machine.clean call in
    let has = no_end_in (g.M.Machine.text call) clean.0 in
    let line_is = c.deref.ensures.value ∙ c.in-Ok.ensures.line in
    let items : c.extend_from_slice-there_is_room.new.self.items ≡ old ++ c.deref.result.now = search rules in record {
      whole =
          subst (λ (t : List ℕ). t ≡ file_of (ended t)) (sym items)
          (more_whole old (g.M.Machine.text call) c.deref.result.now c.args.self.now.whole c.args.self.now.plain has
          clean.2
          line_is);
      plain =
          subst (λ (t : List ℕ). are_no_records (ended t) ≡ true) (sym items)
          (more_plain old (g.M.Machine.text call) c.deref.result.now c.args.self.now.whole c.args.self.now.plain has
          clean.2
          line_is);
      room = search rules;
    }

pub returns-in-Ok-apply-clause-staged : goal.returns-in-Ok-apply-clause-staged
returns-in-Ok-apply-clause-staged g c =
    let old = c.args.self.now.text.items in
    let call = g.M.Machine.call c.args.input.now in
    let line = g.M.Machine.text call in
    let clean = g.met.M.Machine.clean call in
    let kept = λ (still : Bool). ended old ++ kept_unless still line in
    let told = ap g.M.Machine.still c.in-Ok-apply.ensures.answer in
    elim c.if-not-is_still.branch [
      | then-not-is_still w ↦
          let line_is = w.deref.ensures.value ∙ c.in-Ok.ensures.line in
          let items : c.if-not-is_still.self.text.items ≡ old ++ w.deref.result.now = search rules in (
            ap ended items
                ∙ more_lines old line w.deref.result.now c.args.self.now.whole c.args.self.now.plain
                (no_end_in line clean.0) clean.2 line_is
                ∙ ap kept (w.if-not-is_still.ensures ∙ told),
            search rules,
          )
      | else-not-is_still w ↦
          let items : c.if-not-is_still.self.text.items ≡ old = search rules in (
            ap ended items ∙ sym (append-nil (ended old)) ∙ ap kept (w.if-not-is_still.ensures ∙ told),
            search rules,
          )
    ]
