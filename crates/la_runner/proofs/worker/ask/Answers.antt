use Rattle.std.proofs.Common.{sym, ◌∙◌, subst}
use Rattle.la_set.specs.Join.{IsCompatible}
use Rattle.la_set.proofs.lemmas.Inclusions.{compatible-within}
use Rattle.la_runner.specs.Members.{member_view}
use Rattle.la_runner.proofs.Answering.{known_view, asked_at}
use Rattle.la_runner.proofs.worker.ask.Goals as goal

pub absorb_compatible-requires-after_bounds : goal.absorb_compatible-requires-after_bounds
absorb_compatible-requires-after_bounds g c κs within =
    let all = member_view c.args.member.now in let own = c.args.shelf.now.view in
    subst (λ s. IsCompatible s own) (sym c.view-2.ensures) (compatible-within all own all (λ u has. has) c.requires)

pub returns-in-Ok-ask-clause-answers : goal.returns-in-Ok-ask-clause-answers
returns-in-Ok-ask-clause-answers g c = (
  known_view c.args.member.now c.replica-own.ensures.is c.in-Ok.view (c.in-Ok.ensures ∙ c.view.ensures),
  asked_at c.args.shelf.now c.absorb_compatible.new.self c.view-2.result.now c.in-Ok.view c.args.object c.args.query.now
      c.in-Ok-ask.answer (c.in-Ok.ensures ∙ c.view.ensures ∙ sym c.view-2.ensures) c.in-Ok-absorb_compatible.ensures.ok
      c.in-Ok-ask.ensures.ok,
)
