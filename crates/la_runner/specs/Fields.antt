-- What the fields of a member and a note stand for, and what holds of them.
use Rattle.la_proposer.specs.Majority.{votes_of}
use Rattle.la_runner.specs.declared.member.Member.TheInside.{Inside}
use Rattle.la_runner.specs.declared.note.MemberNote.TheInside as told
use Rattle.std.specs.Prelude.{map}
use Rattle.la_runner.specs.Instances.{state_of}
use Rattle.la_runner.specs.Invariant.{IsMember}
use Rattle.la_runner.specs.Members.{MemberState}
use Rattle.la_runner.specs.Notes.{NoteState, IsNote}

abbrev pub stands_for : Inside → MemberState
stands_for m = record {
  votes = votes_of m.votes;
  replica = m.replica;
  instances = map state_of m.instances.items;
}

abbrev pub note_stands_for : told.Inside → NoteState
note_stands_for n = record {
  votes = votes_of n.votes;
  giver = n.giver;
  told = map (λ t. t.notes.items) n.told.items;
  view = n.view;
}

abbrev pub NoteInvariant : told.Inside → Type 0
NoteInvariant n = IsNote (note_stands_for n)

abbrev pub HoldsMemberInvariant : Inside → Type 0
HoldsMemberInvariant m = IsMember (stands_for m)
