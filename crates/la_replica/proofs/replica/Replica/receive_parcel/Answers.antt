use Rattle.std.proofs.Common.{option_map, Some, ap, sym, subst, ◌∙◌}
use Rattle.la_replica.specs.Whole.{whole_out}
use Rattle.la_replica.specs.Received.{received_in}
use Rattle.la_replica.specs.Bases.{offered_by, AreToldFrom}
use Rattle.la_replica.specs.Parcels.{unwrapped_in}
use Rattle.la_replica.specs.ReplicaState.{ReplicaState}
use Rattle.la_replica.proofs.lemmas.Growing.{receives_grows}
use Rattle.la_replica.proofs.replica.Replica.receive_parcel.Goals as goal

pub returns-clause-grows : goal.returns-clause-grows
returns-clause-grows c =
    receives_grows c.args.self.now (received_in c.args.self.now (unwrapped_in c.args.self.now c.args.parcel))
    (whole_out c.in_ok-out.out) c.note_agreement.new.self
    (c.in_ok-out.ensures.ok.step
    ∙ ap (option_map (λ (after : ReplicaState). (whole_out c.in_ok-out.out, after)))
    (c.commit.ensures.done ∙ ap Some (sym c.note_agreement.ensures)))

pub returns-clause-told : goal.returns-clause-told
returns-clause-told c =
    let after = c.note_agreement.new.self in
    subst
    (λ i.
    AreToldFrom after i (offered_by (received_in c.args.self.now (unwrapped_in c.args.self.now c.args.parcel)))
    c.in_ok-out.out.mail) c.in_ok-out.ensures.ok.instance
    (c.in_ok-out.ensures.ok.told after (c.commit.ensures.done ∙ ap Some (sym c.note_agreement.ensures)))
