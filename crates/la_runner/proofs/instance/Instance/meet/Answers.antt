use Rattle.std.proofs.Common.{rules, refl}
use Rattle.la_runner.proofs.Meeting.{meeting_start, meeting_next}
use Rattle.la_runner.proofs.instance.Instance.meet.Goals as goal

pub loop-note-init : goal.loop-note-init
loop-note-init c = (
  meeting_start c.args.self.now.proposer.updates c.args.told.notes.items c.args.self.now.passes.items
      c.requires.sound.are,
  refl,
  refl,
  refl,
)

pub loop-note-preserved : goal.loop-note-preserved
loop-note-preserved c = (
  meeting_next c.args.self.now.proposer.updates c.args.told.notes.items c.args.self.now.passes.items
      c.loop-note.notes.items c.pop.new.self.items c.in-Some.note c.loop-note.self.passes.items c.index_mut.result.now
      c.meet.new.pass c.args.acceptors.now c.len-at.result c.index-acceptors-at.result c.loop-note.invariant.0
      c.in-Some.ensures.items (search rules) c.requires.acceptors c.requires.told c.index_mut.ensures.value
      c.index-acceptors-at.is c.meet.ensures.pass c.meet.ensures.acceptor c.meet.ensures.before c.meet.ensures.mine
      c.meet.ensures.told,
  c.loop-note.invariant.1,
  c.loop-note.invariant.2,
  c.loop-note.invariant.3,
)
