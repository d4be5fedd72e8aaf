-- Members and notes may cross threads, and threads may share a group.
use denote.Param.Send.{IsSend, IsSync, sendable}
use Rattle.std.proofs.Crossing as heap
use Rattle.la_set.proofs.lemmas.Crossing as knot
use Rattle.la_proposer.specs.contracts.votes.Votes as Votes
use Rattle.la_proposer.specs.contracts.proposer.Proposer as Proposer
use Rattle.la_runner.specs.contracts.group.Group as Group
use Rattle.la_runner.specs.contracts.group.Row as Row
use Rattle.la_runner.specs.contracts.instance.Instance as Instance
use Rattle.la_runner.specs.contracts.note.InstanceNote as InstanceNote
use Rattle.la_runner.specs.contracts.member.Member as Member
use Rattle.la_runner.specs.contracts.note.MemberNote as MemberNote
use Rattle.la_shared.proofs.lemmas.Theorems as shared

votes_send : IsSend (Votes.the_field).row
votes_send = search (heap.crosses, sendable) depth 60 fits 20000

proposer_send : IsSend (Proposer.the_field).row
proposer_send = search (shared.set_send, votes_send, heap.crosses, knot.crosses, sendable) depth 60 fits 20000

instance_send : IsSend Instance.the_row
instance_send = search (shared.set_send, shared.pass_send, proposer_send, heap.crosses, sendable) depth 60 fits 20000

pub member_send : IsSend (Member.the_field).row
member_send = search (instance_send, votes_send, heap.crosses, sendable) depth 60 fits 20000

instance_note_send : IsSend InstanceNote.the_row
instance_note_send = search (shared.note_send, heap.crosses, sendable) depth 60 fits 20000

pub note_send : IsSend (MemberNote.the_field).row
note_send = search (instance_note_send, shared.set_send, votes_send, heap.crosses, sendable) depth 60 fits 20000

votes_sync : IsSync (Votes.the_field).row
votes_sync = search (heap.crosses, sendable) depth 60 fits 20000

row_sync : IsSync Row.the_row
row_sync = search (shared.acceptor_sync, heap.crosses, sendable) depth 60 fits 20000

pub group_sync : IsSync (Group.the_field).row
group_sync = search (row_sync, votes_sync, heap.crosses, sendable) depth 60 fits 20000
