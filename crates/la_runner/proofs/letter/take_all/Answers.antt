use Rattle.std.proofs.Common.{refl, ◌∙◌, subst, sym}
use Rattle.la_runner.specs.Notes.{IsNoteOf}
use Rattle.la_runner.proofs.Answering.{goes_on_self}
use Rattle.la_runner.proofs.Keeping.{goes_on_then}
use Rattle.la_runner.proofs.UnderWay.{of_goes}
use Rattle.la_runner.proofs.letter.take_all.Goals as goal

pub loop-init : goal.loop-init
loop-init g c = record { goes = goes_on_self c.args.member.now; same = refl }

pub take_one-requires-clause-of : goal.take_one-requires-clause-of
take_one-requires-clause-of g c =
    of_goes c.args.group.now c.args.member.now c.loop.member c.loop.invariant.goes c.requires.of

pub take_one-requires-clause-note : goal.take_one-requires-clause-note
take_one-requires-clause-note g c = subst (λ z. IsNoteOf z c.opened.result) (sym c.requires.named) c.opened.ensures

pub loop-preserved : goal.loop-preserved
loop-preserved g c = record {
  goes =
      goes_on_then c.args.member.now c.loop.member c.take_one.new.member c.loop.invariant.goes c.take_one.ensures.goes_on;
  same = c.take_one.ensures.same ∙ c.loop.invariant.same;
}
