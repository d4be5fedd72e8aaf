use Rattle.la_proposer.specs.Majority.{votes_of}
use Rattle.la_wire.proofs.StateTexts.{next_section}
use Rattle.la_wire.proofs.states.reading.instances_behind.Goals as goal

pub loop-section-preserved : goal.loop-section-preserved
loop-section-preserved c =
    next_section (votes_of c.args.votes) c.args.own c.loop-section.instances.items
    c.push-in-loop-section.new.self.items c.args.sections.now c.loop-section.section-index _ c.in_ok-section.section _
    c.loop-section-test.true c.in_ok-section.ensures c.in_ok-push-2.ensures.items c.loop-section.invariant
