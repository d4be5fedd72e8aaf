use Rattle.std.proofs.Common.{rules, ◌≡◌, ◌<◌, length, None, refl, subst, sym}
use Rattle.la_proposer.specs.ProposerState.{op_on}
use Rattle.la_world.specs.Events.{Submit}
use Rattle.la_world.specs.StandsFor.{StandsFor, refused_in}
use Rattle.la_world.specs.Calls.{HoldsWorldInvariant, IsEventSubmission, PlaysEvent}
use Rattle.la_set.specs.Counts.{zero_counts}
use Rattle.la_node.proofs.lemmas.Stepping.{submission_was}
use Rattle.la_node.proofs.lemmas.Told.{told_made}
use Rattle.la_world.proofs.Worlds.{submission_known, submission_few, submission_is_named, done_by, submission_played, submission_invariant}
use Rattle.la_world.proofs.WorldNodes.{node_known, read_node, submitter_at, stepped, unchanged}
use Rattle.la_world.proofs.Noted.{holds_reserved, submission_noted, noted_holds, noted_plays, noted_prints}
use Rattle.la_world.proofs.world.World.take_update.Goals as goal

pub invariant_of-self : goal.invariant_of-self
invariant_of-self g c =
    holds_reserved c.self.invariant c.reserve.new.self c.reserve.ensures.messages c.reserve.ensures.learnt
    c.reserve.ensures.count

pub index_mut-requires : goal.index_mut-requires
index_mut-requires g c =
    let known : c.args.replica < length c.self.inside.nodes.items =
    node_known c.self.inside.nodes.items c.args.replica
    (subst (λ v. c.args.replica < length v.replica_states) (sym c.self.view_is) c.requires.known) in
    search rules

pub invariant_of-self-in_default : goal.invariant_of-self-in_default
invariant_of-self-in_default g c =
    let r = c.args.replica in
    let found =
    read_node c.self.inside.nodes.items r
    (subst (λ v. r < length v.replica_states) (sym c.self.view_is) c.requires.known) c.index_mut.ensures.value in
    subst HoldsWorldInvariant
    (sym
    (unchanged c.self.inside.nodes.items r c.index_mut.result.now found c.self.inside.config c.submit.new.self
    c.reserve.new.self c.in_default.ensures.err))
    (holds_reserved c.self.invariant c.reserve.new.self c.reserve.ensures.messages c.reserve.ensures.learnt
    c.reserve.ensures.count)

pub note_submission-requires-clause-known : goal.note_submission-requires-clause-known
note_submission-requires-clause-known g c =
    let r = c.args.replica in
    let e = Submit r (op_on c.args.object c.args.op) in
    let made = c.submit.new.self in
    let known = subst (λ v. r < length v.replica_states) (sym c.self.view_is) c.requires.known in
    let found = read_node c.self.inside.nodes.items r known c.index_mut.ensures.value in
    let event : IsEventSubmission e 0 r (op_on c.args.object c.args.op) = λ did. refl in
    let s =
    submitter_at c.self.inside.config c.self.inside.nodes.items c.self.inside.journal c.self.invariant c.self.view_is
    e 0 r (op_on c.args.object c.args.op) event c.requires.allowed found in
    let was =
    submission_was c.index_mut.result.now.replica (op_on c.args.object c.args.op) c.in-Ok.out made.replica
    c.in-Ok.ensures.step in
    submission_known s c.in-Ok.out made.replica was.step was.told

pub note_submission-requires-clause-few : goal.note_submission-requires-clause-few
note_submission-requires-clause-few g c =
    let r = c.args.replica in
    let e = Submit r (op_on c.args.object c.args.op) in
    let made = c.submit.new.self in
    let known = subst (λ v. r < length v.replica_states) (sym c.self.view_is) c.requires.known in
    let found = read_node c.self.inside.nodes.items r known c.index_mut.ensures.value in
    let event : IsEventSubmission e 0 r (op_on c.args.object c.args.op) = λ did. refl in
    let s =
    submitter_at c.self.inside.config c.self.inside.nodes.items c.self.inside.journal c.self.invariant c.self.view_is
    e 0 r (op_on c.args.object c.args.op) event c.requires.allowed found in
    let was =
    submission_was c.index_mut.result.now.replica (op_on c.args.object c.args.op) c.in-Ok.out made.replica
    c.in-Ok.ensures.step in
    submission_few s c.in-Ok.out made.replica was.step was.told

pub note_submission-requires-clause-made : goal.note_submission-requires-clause-made
note_submission-requires-clause-made g c =
    let made = c.submit.new.self in
    let was =
    submission_was c.index_mut.result.now.replica (op_on c.args.object c.args.op) c.in-Ok.out made.replica
    c.in-Ok.ensures.step in
    told_made made.replica zero_counts c.in-Ok.out.mail was.told

pub invariant_of-self-2 : goal.invariant_of-self-2
invariant_of-self-2 g c =
    let r = c.args.replica in
    let e = Submit r (op_on c.args.object c.args.op) in
    let made = c.submit.new.self in
    let known = subst (λ v. r < length v.replica_states) (sym c.self.view_is) c.requires.known in
    let found = read_node c.self.inside.nodes.items r known c.index_mut.ensures.value in
    let event : IsEventSubmission e 0 r (op_on c.args.object c.args.op) = λ did. refl in
    let s =
    submitter_at c.self.inside.config c.self.inside.nodes.items c.self.inside.journal c.self.invariant c.self.view_is
    e 0 r (op_on c.args.object c.args.op) event c.requires.allowed found in
    let was =
    submission_was c.index_mut.result.now.replica (op_on c.args.object c.args.op) c.in-Ok.out made.replica
    c.in-Ok.ensures.step in
    let n =
    submission_noted 0 r c.reserve.new.self c.note_submission.new.journal
    (done_by s c.in-Ok.out made.replica was.step was.told) c.self.invariant
    c.reserve.ensures.messages c.reserve.ensures.learnt c.reserve.ensures.count c.note_submission.ensures.step
    c.note_submission.ensures.messages c.note_submission.ensures.learnt c.note_submission.ensures.count
    c.note_submission.ensures.numbers in
    subst HoldsWorldInvariant
    (sym
    (stepped c.self.inside.nodes.items r c.index_mut.result.now found c.self.inside.config made
    c.note_submission.new.journal c.in-Ok.ensures.shelf))
    (noted_holds n r made.replica (submission_invariant s c.in-Ok.out made.replica was.step was.told))

pub returns-clause-step : goal.returns-clause-step
returns-clause-step g c events stands =
    let r = c.args.replica in
    let e = Submit r (op_on c.args.object c.args.op) in
    let made = c.submit.new.self in
    let known = subst (λ v. r < length v.replica_states) (sym c.self.view_is) c.requires.known in
    let found = read_node c.self.inside.nodes.items r known c.index_mut.ensures.value in
    let event : IsEventSubmission e 0 r (op_on c.args.object c.args.op) = λ did. refl in
    let s =
    submitter_at c.self.inside.config c.self.inside.nodes.items c.self.inside.journal c.self.invariant c.self.view_is
    e 0 r (op_on c.args.object c.args.op) event c.requires.allowed found in
    let was =
    submission_was c.index_mut.result.now.replica (op_on c.args.object c.args.op) c.in-Ok.out made.replica
    c.in-Ok.ensures.step in
    let n =
    submission_noted 0 r c.reserve.new.self c.note_submission.new.journal
    (done_by s c.in-Ok.out made.replica was.step was.told) c.self.invariant
    c.reserve.ensures.messages c.reserve.ensures.learnt c.reserve.ensures.count c.note_submission.ensures.step
    c.note_submission.ensures.messages c.note_submission.ensures.learnt c.note_submission.ensures.count
    c.note_submission.ensures.numbers in
    subst (PlaysEvent c.args.self.now events e c.note_submission.result)
    (sym
    (stepped c.self.inside.nodes.items r c.index_mut.result.now found c.self.inside.config made
    c.note_submission.new.journal c.in-Ok.ensures.shelf))
    (noted_plays n r made.replica c.self.view_is events e
    (submission_played s c.in-Ok.out made.replica was.step was.told e event events (subst (λ v. refused_in v events e ≡ None) (sym c.self.view_is) (c.requires.allowed events stands)) (subst (λ v. StandsFor v events) (sym c.self.view_is) stands)))

pub returns-clause-printable : goal.returns-clause-printable
returns-clause-printable g c =
    let r = c.args.replica in
    let e = Submit r (op_on c.args.object c.args.op) in
    let made = c.submit.new.self in
    let known = subst (λ v. r < length v.replica_states) (sym c.self.view_is) c.requires.known in
    let found = read_node c.self.inside.nodes.items r known c.index_mut.ensures.value in
    let event : IsEventSubmission e 0 r (op_on c.args.object c.args.op) = λ did. refl in
    let s =
    submitter_at c.self.inside.config c.self.inside.nodes.items c.self.inside.journal c.self.invariant c.self.view_is
    e 0 r (op_on c.args.object c.args.op) event c.requires.allowed found in
    let was =
    submission_was c.index_mut.result.now.replica (op_on c.args.object c.args.op) c.in-Ok.out made.replica
    c.in-Ok.ensures.step in
    let n =
    submission_noted 0 r c.reserve.new.self c.note_submission.new.journal
    (done_by s c.in-Ok.out made.replica was.step was.told) c.self.invariant
    c.reserve.ensures.messages c.reserve.ensures.learnt c.reserve.ensures.count c.note_submission.ensures.step
    c.note_submission.ensures.messages c.note_submission.ensures.learnt c.note_submission.ensures.count
    c.note_submission.ensures.numbers in
    noted_prints n (submission_is_named s c.in-Ok.out made.replica was.step was.told)
