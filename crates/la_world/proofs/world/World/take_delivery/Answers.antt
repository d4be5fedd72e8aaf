use Rattle.std.proofs.Common.{rules, ◌<◌, ◌∙◌, length, option_and_then, ap, subst, sym}
use Rattle.la_commit.specs.Outcomes.{outcome_in}
use Rattle.la_node.specs.Preparing.{FitsHere}
use Rattle.la_world.specs.Events.{Deliver}
use Rattle.la_world.specs.StandsFor.{StandsFor}
use Rattle.la_world.specs.Calls.{HoldsWorldInvariant, PlaysEvent}
use Rattle.la_world.proofs.Worlds.{receiver_known, message_fits, message_stands, message_agrees, delivery_known, delivery_few, delivery_is_named, delivery_played, delivery_invariant}
use Rattle.la_node.proofs.lemmas.Stepping.{taking_was}
use Rattle.la_node.proofs.lemmas.Told.{told_made}
use Rattle.la_world.proofs.WorldNodes.{node_known, read_node, receiver_at, stepped, unchanged}
use Rattle.la_world.proofs.Noted.{holds_reserved, delivery_noted, noted_holds, noted_plays, noted_prints}
use Rattle.la_world.proofs.world.World.take_delivery.Goals as goal

pub invariant_of-self : goal.invariant_of-self
invariant_of-self g c =
    holds_reserved c.self.invariant c.reserve.new.self c.reserve.ensures.messages c.reserve.ensures.learnt
    c.reserve.ensures.count

pub index_mut-requires : goal.index_mut-requires
index_mut-requires g c =
    let to = c.in_ok-message.message.to in
    let is = c.in_ok-message.ensures in
    let known : to < length c.self.inside.nodes.items =
    node_known c.self.inside.nodes.items to (receiver_known c.self.invariant c.args.number is) in
    search rules

pub take-requires : goal.take-requires
take-requires g c =
    let is = c.in_ok-message.ensures in
    let found =
    read_node c.self.inside.nodes.items c.in_ok-message.message.to (receiver_known c.self.invariant c.args.number is)
    c.index_mut.ensures.value in
    let d =
    receiver_at c.self.inside.config c.self.inside.nodes.items c.self.inside.journal c.self.invariant c.args.number is
    found in
    let here : FitsHere c.index_mut.result.now.replica c.in_ok-message.message =
    record { fits = message_fits d; stands = message_stands d; agrees = message_agrees d } in
    search rules

pub invariant_of-self-in_default : goal.invariant_of-self-in_default
invariant_of-self-in_default g c =
    let to = c.in_ok-message.message.to in
    let is = c.in_ok-message.ensures in
    let found =
    read_node c.self.inside.nodes.items to (receiver_known c.self.invariant c.args.number is)
    c.index_mut.ensures.value in
    subst HoldsWorldInvariant
    (sym
    (unchanged c.self.inside.nodes.items to c.index_mut.result.now found c.self.inside.config c.take.new.self
    c.reserve.new.self c.in_default.ensures.err))
    (holds_reserved c.self.invariant c.reserve.new.self c.reserve.ensures.messages c.reserve.ensures.learnt
    c.reserve.ensures.count)

pub note-requires-clause-known : goal.note-requires-clause-known
note-requires-clause-known g c =
    let is = c.in_ok-message.ensures in
    let found =
    read_node c.self.inside.nodes.items c.in_ok-message.message.to (receiver_known c.self.invariant c.args.number is)
    c.index_mut.ensures.value in
    delivery_known
    (receiver_at c.self.inside.config c.self.inside.nodes.items c.self.inside.journal c.self.invariant c.args.number
    is found) c.in-Ok.done c.take.new.self.replica c.in-Ok.ensures.learnt (taking_was c.index_mut.result.now.replica c.in_ok-message.message c.in-Ok.done c.take.new.self.replica
    c.in-Ok.ensures.step).step (taking_was c.index_mut.result.now.replica c.in_ok-message.message c.in-Ok.done c.take.new.self.replica
    c.in-Ok.ensures.step).told

pub note-requires-clause-few : goal.note-requires-clause-few
note-requires-clause-few g c =
    let is = c.in_ok-message.ensures in
    let found =
    read_node c.self.inside.nodes.items c.in_ok-message.message.to (receiver_known c.self.invariant c.args.number is)
    c.index_mut.ensures.value in
    delivery_few
    (receiver_at c.self.inside.config c.self.inside.nodes.items c.self.inside.journal c.self.invariant c.args.number
    is found) c.in-Ok.done c.take.new.self.replica c.in-Ok.ensures.learnt (taking_was c.index_mut.result.now.replica c.in_ok-message.message c.in-Ok.done c.take.new.self.replica
    c.in-Ok.ensures.step).step (taking_was c.index_mut.result.now.replica c.in_ok-message.message c.in-Ok.done c.take.new.self.replica
    c.in-Ok.ensures.step).told

pub note-requires-clause-made : goal.note-requires-clause-made
note-requires-clause-made g c = told_made c.take.new.self.replica _ c.in-Ok.done.mail (taking_was c.index_mut.result.now.replica c.in_ok-message.message c.in-Ok.done c.take.new.self.replica
    c.in-Ok.ensures.step).told

pub invariant_of-self-2 : goal.invariant_of-self-2
invariant_of-self-2 g c =
    let message = c.in_ok-message.message in
    let made = c.take.new.self in
    let is = c.in_ok-message.ensures in
    let found =
    read_node c.self.inside.nodes.items message.to (receiver_known c.self.invariant c.args.number is)
    c.index_mut.ensures.value in
    let d =
    receiver_at c.self.inside.config c.self.inside.nodes.items c.self.inside.journal c.self.invariant c.args.number is
    found in
    let n =
    delivery_noted d c.in-Ok.learnt
    (c.outcome_by.ensures ∙ ap (option_and_then (outcome_in message.instance message.to)) c.as_ref.ensures.value)
    c.reserve.new.self c.note.new.self c.in-Ok.done
    c.reserve.ensures.messages c.reserve.ensures.learnt c.reserve.ensures.count c.note.ensures.step
    c.note.ensures.messages c.note.ensures.learnt c.note.ensures.count c.note.ensures.numbers in
    subst HoldsWorldInvariant
    (sym
    (stepped c.self.inside.nodes.items message.to c.index_mut.result.now found c.self.inside.config made
    c.note.new.self c.in-Ok.ensures.shelf))
    (noted_holds n message.to made.replica
    (delivery_invariant d c.in-Ok.done made.replica c.in-Ok.ensures.learnt (taking_was c.index_mut.result.now.replica c.in_ok-message.message c.in-Ok.done c.take.new.self.replica
    c.in-Ok.ensures.step).step (taking_was c.index_mut.result.now.replica c.in_ok-message.message c.in-Ok.done c.take.new.self.replica
    c.in-Ok.ensures.step).told))

pub returns-clause-step : goal.returns-clause-step
returns-clause-step g c events stands =
    let message = c.in_ok-message.message in
    let made = c.take.new.self in
    let is = c.in_ok-message.ensures in
    let found =
    read_node c.self.inside.nodes.items message.to (receiver_known c.self.invariant c.args.number is)
    c.index_mut.ensures.value in
    let d =
    receiver_at c.self.inside.config c.self.inside.nodes.items c.self.inside.journal c.self.invariant c.args.number is
    found in
    let n =
    delivery_noted d c.in-Ok.learnt
    (c.outcome_by.ensures ∙ ap (option_and_then (outcome_in message.instance message.to)) c.as_ref.ensures.value)
    c.reserve.new.self c.note.new.self c.in-Ok.done
    c.reserve.ensures.messages c.reserve.ensures.learnt c.reserve.ensures.count c.note.ensures.step
    c.note.ensures.messages c.note.ensures.learnt c.note.ensures.count c.note.ensures.numbers in
    subst (PlaysEvent c.args.self.now events (Deliver c.args.number) c.note.result)
    (sym
    (stepped c.self.inside.nodes.items message.to c.index_mut.result.now found c.self.inside.config made
    c.note.new.self c.in-Ok.ensures.shelf))
    (noted_plays n message.to made.replica c.self.view_is events (Deliver c.args.number)
    (delivery_played d c.in-Ok.done made.replica c.in-Ok.ensures.learnt (taking_was c.index_mut.result.now.replica c.in_ok-message.message c.in-Ok.done c.take.new.self.replica
    c.in-Ok.ensures.step).step (taking_was c.index_mut.result.now.replica c.in_ok-message.message c.in-Ok.done c.take.new.self.replica
    c.in-Ok.ensures.step).told events (subst (λ v. StandsFor v events) (sym c.self.view_is) stands)))

pub returns-clause-printable : goal.returns-clause-printable
returns-clause-printable g c =
    let message = c.in_ok-message.message in
    let is = c.in_ok-message.ensures in
    let found =
    read_node c.self.inside.nodes.items message.to (receiver_known c.self.invariant c.args.number is)
    c.index_mut.ensures.value in
    let d =
    receiver_at c.self.inside.config c.self.inside.nodes.items c.self.inside.journal c.self.invariant c.args.number is
    found in
    let n =
    delivery_noted d c.in-Ok.learnt
    (c.outcome_by.ensures ∙ ap (option_and_then (outcome_in message.instance message.to)) c.as_ref.ensures.value)
    c.reserve.new.self c.note.new.self c.in-Ok.done
    c.reserve.ensures.messages c.reserve.ensures.learnt c.reserve.ensures.count c.note.ensures.step
    c.note.ensures.messages c.note.ensures.learnt c.note.ensures.count c.note.ensures.numbers in
    noted_prints n
    (delivery_is_named d c.in-Ok.done c.take.new.self.replica c.in-Ok.ensures.learnt (taking_was c.index_mut.result.now.replica c.in_ok-message.message c.in-Ok.done c.take.new.self.replica
    c.in-Ok.ensures.step).step (taking_was c.index_mut.result.now.replica c.in_ok-message.message c.in-Ok.done c.take.new.self.replica
    c.in-Ok.ensures.step).told)
