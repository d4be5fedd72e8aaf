use Rattle.std.proofs.Common.{◌≡◌, [], ◌∷◌, ◌++◌, List, ℕ, refl, ◌∙◌, ap}
use Rattle.la_journal.specs.Lines.{IsClean}
use Rattle.la_journal.specs.Records.{head_line, digest}
use Rattle.la_journal.specs.Machine.{state_after}
use Rattle.la_journal.proofs.Played.{new_leads}
use Rattle.la_journal.proofs.Recovering.{ok_one, new_lines, new_whole}
use Rattle.la_journal.proofs.recovery.new_journal.Goals as goal

pub returns-clause-leads : goal.returns-clause-leads
returns-clause-leads g c =
    let clean : IsClean (g.M.Machine.head (g.M.Machine.state c.args.machine.now)) = g.met.M.Machine.clean_head _ in
    let text : c.deref.result.now ≡ g.M.Machine.head (g.M.Machine.state c.args.machine.now) =
    c.deref.ensures.value ∙ c.in_ok-head.ensures in
    ok_one c.new_file.result _ _
    (λ file is.
    ap (state_after g.M.Machine.head g.M.Machine.named_state g.M.Machine.named g.M.Machine.step
    (g.M.Machine.state c.args.machine.now)) (is ∙ ap (λ (t : List ℕ). head_line t ++ 10 ∷ []) text)
    ∙ new_leads g.M.Machine.head g.M.Machine.named_state g.M.Machine.named g.M.Machine.step
    (g.M.Machine.state c.args.machine.now) clean)
    c.new_file.ensures

pub returns-clause-lines : goal.returns-clause-lines
returns-clause-lines g c =
    let clean : IsClean (g.M.Machine.head (g.M.Machine.state c.args.machine.now)) = g.met.M.Machine.clean_head _ in
    let text : c.deref.result.now ≡ g.M.Machine.head (g.M.Machine.state c.args.machine.now) =
    c.deref.ensures.value ∙ c.in_ok-head.ensures in
    ok_one c.new_file.result _ _
    (λ file is. new_lines _ _ clean (is ∙ ap (λ (t : List ℕ). head_line t ++ 10 ∷ []) text)) c.new_file.ensures

pub returns-clause-whole : goal.returns-clause-whole
returns-clause-whole g c =
    let clean : IsClean (g.M.Machine.head (g.M.Machine.state c.args.machine.now)) = g.met.M.Machine.clean_head _ in
    let text : c.deref.result.now ≡ g.M.Machine.head (g.M.Machine.state c.args.machine.now) =
    c.deref.ensures.value ∙ c.in_ok-head.ensures in
    ok_one c.new_file.result _ _
    (λ file is.
    let whole = new_whole _ _ _ clean refl (is ∙ ap (λ (t : List ℕ). head_line t ++ 10 ∷ []) text) in
    record {
      has = record {
        text = g.M.Machine.head (g.M.Machine.state c.args.machine.now);
        these = whole.these;
        last = digest (g.M.Machine.head (g.M.Machine.state c.args.machine.now));
        rest = [];
      };
      read = whole.read;
      whole = refl;
    }) c.new_file.ensures
