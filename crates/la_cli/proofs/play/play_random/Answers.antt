use Rattle.std.proofs.Common.{rules, ◌∙◌, ap, sym, subst}
use Rattle.std.proofs.lemmas.Result.{IfErr-weaker, on_ok_weaker}
use Rattle.la_script.specs.RandomEvents.{random_events}
use Rattle.la_cli.specs.declared.error.PlayFault.{PlayFault}
use Rattle.la_cli.specs.Play.{FitAnyGroup, AnswersDraw, IsDrawRefusal}
use Rattle.la_cli.proofs.Playing.{draw_is_answered}
use Rattle.la_cli.proofs.play.play_random.Goals as goal
use Rattle.la_cli.proofs.play.play_random.Goals.{After-write_out}

-- the text that is written is that of the events that are drawn
answered : (g : _) (c : After-write_out g)
    → AnswersDraw c.args.shelves.items c.args.seed c.args.replicas c.args.count c.in_ok-text.text
answered g c =
    draw_is_answered c.args.shelves.items c.args.seed c.args.replicas c.args.count c.random_group.result
    c.in_ok-events.events c.in_ok-text.text c.random_group.ensures.group
    (c.in_ok-events.ensures ∙ ap (λ seed. random_events seed c.args.replicas c.args.count) c.from.ensures)
    c.in_ok-text.ensures

pub returns-clause-ok : goal.returns-clause-ok
returns-clause-ok g c =
    let fit : FitAnyGroup c.args.shelves.items = search rules in
    on_ok_weaker c.write_out.result (λ w. record { fit = fit; text = c.in_ok-text.text; answers = answered g (goal.at.returns-clause-ok g c).After-write_out; wrote = w }) c.write_out.ensures.ok

pub returns-clause-error : goal.returns-clause-error
returns-clause-error g c =
    let fit : FitAnyGroup c.args.shelves.items = search rules in
    let old = g.W.Write.contents c.args.writer.now in
    let new = g.W.Write.contents c.write_out.new.writer in
    IfErr-weaker c.write_out.result _ _
    (λ f w. subst (λ (e : PlayFault). IsDrawRefusal c.args.shelves.items c.args.seed c.args.replicas c.args.count old new e) (sym w.0)
    (record { fit = fit; text = c.in_ok-text.text; answers = answered g (goal.at.returns-clause-error g c).After-write_out; wrote = w.1 }))
    c.write_out.ensures.error
