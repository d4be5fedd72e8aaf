use Rattle.std.proofs.Common.{length, refl, sym, ap, subst, ◌∙◌, arith, true, false, slice_set}
use Rattle.la_proposer.specs.declared.change.Told.{Told}
use Rattle.la_proposer.specs.declared.change.Change.TheVariants.{Nothing, Holds, Submits, Counts, Opens, Closes}
use Rattle.la_proposer.specs.ProposerState.{ProposerState}
use Rattle.la_proposer.specs.Fields.{stands_for}
use Rattle.la_proposer.specs.Changes.{after_commit, Leads}
use Rattle.la_proposer.proofs.Preparing.{nothing_leads, committed, committed_holds, has_room, counts_known, opens_known, closes_known}
use Rattle.la_proposer.proofs.proposer.Proposer.commit.Goals as goal

pub bounds-self-inside-counted : goal.bounds-self-inside-counted
bounds-self-inside-counted c = counts_known c.args.self.now c.args.change c.in-Counts.counted c.in-Counts.is c.requires

pub bounds-self-inside-told : goal.bounds-self-inside-told
bounds-self-inside-told c =
    opens_known c.args.self.now c.args.change c.in-Opens.ballot c.in-Opens.told c.in-Opens.is c.requires

pub bounds-self-inside-told-in-Closes : goal.bounds-self-inside-told-in-Closes
bounds-self-inside-told-in-Closes c =
    closes_known c.args.self.now c.args.change c.in-Closes.told c.in-Closes.is c.requires

pub push_reserved-requires : goal.push_reserved-requires
push_reserved-requires c =
    let room = has_room c.args.self.now c.args.change c.in-Counts.counted c.in-Counts.is c.requires in (
      omega arith,
      omega (
        arith,
        room,
        ap (λ (p : ProposerState). length p.tally) c.self.view_is,
        c.capacity-at_least_inline.ensures.at_least_inline,
        c.capacity-at_least_inline.ensures.value,
      ),
    )

pub invariant_of-self : goal.invariant_of-self
invariant_of-self c =
    committed_holds c.self.inside c.args.self.now c.self.view_is c.args.change (Holds c.in-Holds.submissions)
    c.in-Holds.is c.self.inside.last c.self.inside.is_asking c.self.inside.tally.items c.in-Holds.submissions
    c.self.inside.reported refl refl refl refl refl c.requires

pub returns-in-Holds : goal.returns-in-Holds
returns-in-Holds c =
    committed c.self.inside c.args.self.now c.self.view_is c.args.change (Holds c.in-Holds.submissions) c.in-Holds.is
    c.self.inside.last c.self.inside.is_asking c.self.inside.tally.items c.in-Holds.submissions c.self.inside.reported
    refl refl refl refl refl

pub invariant_of-self-in-Submits : goal.invariant_of-self-in-Submits
invariant_of-self-in-Submits c =
    committed_holds c.self.inside c.args.self.now c.self.view_is c.args.change
    (Submits c.in-Submits.ballot c.in-Submits.submissions) c.in-Submits.is c.in-Submits.ballot true
    c.clear.new.self.items c.in-Submits.submissions c.self.inside.reported refl refl c.clear.ensures.items refl refl
    c.requires

pub returns-in-Submits : goal.returns-in-Submits
returns-in-Submits c =
    committed c.self.inside c.args.self.now c.self.view_is c.args.change
    (Submits c.in-Submits.ballot c.in-Submits.submissions) c.in-Submits.is c.in-Submits.ballot true
    c.clear.new.self.items c.in-Submits.submissions c.self.inside.reported refl refl c.clear.ensures.items refl refl

pub invariant_of-self-in-Counts : goal.invariant_of-self-in-Counts
invariant_of-self-in-Counts c =
    committed_holds c.self.inside c.args.self.now c.self.view_is c.args.change (Counts c.in-Counts.counted)
    c.in-Counts.is c.self.inside.last c.self.inside.is_asking c.push_reserved.new.self.items c.self.inside.submissions
    (slice_set c.self.inside.reported c.in-Counts.counted.from c.by-told.result.counts) refl refl
    c.push_reserved.ensures.items c.self.invariant.0.held
    (ap (λ (z : Told). slice_set c.self.inside.reported c.in-Counts.counted.from z.counts) c.by-told.ensures) c.requires

pub returns-in-Counts : goal.returns-in-Counts
returns-in-Counts c =
    committed c.self.inside c.args.self.now c.self.view_is c.args.change (Counts c.in-Counts.counted) c.in-Counts.is
    c.self.inside.last c.self.inside.is_asking c.push_reserved.new.self.items c.self.inside.submissions
    (slice_set c.self.inside.reported c.in-Counts.counted.from c.by-told.result.counts) refl refl
    c.push_reserved.ensures.items c.self.invariant.0.held
    (ap (λ (z : Told). slice_set c.self.inside.reported c.in-Counts.counted.from z.counts) c.by-told.ensures)

pub invariant_of-self-in-Opens : goal.invariant_of-self-in-Opens
invariant_of-self-in-Opens c =
    committed_holds c.self.inside c.args.self.now c.self.view_is c.args.change
    (Opens c.in-Opens.ballot c.in-Opens.told) c.in-Opens.is c.in-Opens.ballot true c.clear-in-Opens.new.self.items
    c.self.inside.submissions (slice_set c.self.inside.reported c.in-Opens.told.from c.in-Opens.told.counts) refl refl
    c.clear-in-Opens.ensures.items c.self.invariant.0.held refl c.requires

pub returns-in-Opens : goal.returns-in-Opens
returns-in-Opens c =
    committed c.self.inside c.args.self.now c.self.view_is c.args.change (Opens c.in-Opens.ballot c.in-Opens.told)
    c.in-Opens.is c.in-Opens.ballot true c.clear-in-Opens.new.self.items c.self.inside.submissions
    (slice_set c.self.inside.reported c.in-Opens.told.from c.in-Opens.told.counts) refl refl
    c.clear-in-Opens.ensures.items c.self.invariant.0.held refl

pub returns-in-Closes : goal.returns-in-Closes
returns-in-Closes c =
    committed c.self.inside c.args.self.now c.self.view_is c.args.change (Closes c.in-Closes.told) c.in-Closes.is
    c.self.inside.last false c.clear-in-Closes.new.self.items c.self.inside.submissions
    (slice_set c.self.inside.reported c.in-Closes.told.from c.in-Closes.told.counts) refl refl
    c.clear-in-Closes.ensures.items c.self.invariant.0.held refl

pub returns-in-Nothing : goal.returns-in-Nothing
returns-in-Nothing c =
    let p = stands_for c.self.inside in
    sym (subst (λ q. Leads q Nothing q) c.self.view_is (nothing_leads p c.self.inside.submissions c.self.invariant.0 c.self.invariant.1)).to
    ∙ ap (after_commit c.args.self.now) (sym c.in-Nothing.is)

pub invariant_of-self-in-Closes : goal.invariant_of-self-in-Closes
invariant_of-self-in-Closes c =
    committed_holds c.self.inside c.args.self.now c.self.view_is c.args.change (Closes c.in-Closes.told) c.in-Closes.is
    c.self.inside.last false c.clear-in-Closes.new.self.items c.self.inside.submissions
    (slice_set c.self.inside.reported c.in-Closes.told.from c.in-Closes.told.counts) refl refl
    c.clear-in-Closes.ensures.items c.self.invariant.0.held refl c.requires
