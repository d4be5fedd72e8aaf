use Rattle.std.proofs.Common.{◌≡◌, ◌≢◌, Some, None, ap, sym, ◌∙◌, rules}
use Rattle.la_proposer.specs.ProposerState.{reported}
use Rattle.la_proposer.specs.Changes.{told_in, after_commit}
use Rattle.la_proposer.proofs.Reporting.{told_is_reported, others_stay, nothing_told}
use Rattle.la_proposer.proofs.proposer.Proposer.reported_after.Goals as goal

pub returns-in_default : goal.returns-in_default
returns-in_default c =
    let p = c.args.self.now in let change = c.args.change.now in
    let is : told_in p.updates change ≡ None = search rules in
    c.reported.ensures ∙ sym (nothing_told p change c.requires c.args.from is)

pub returns-then-told-from : goal.returns-then-told-from
returns-then-told-from c =
    let p = c.args.self.now in let change = c.args.change.now in let told = c.in-Some.told in
    let is : told_in p.updates change ≡ Some told = search rules in
    let other : c.args.from ≢ told.from = search rules in
    c.reported-then-told-from.ensures ∙ sym (others_stay p change c.requires told c.args.from is other)

pub returns : goal.returns
returns c =
    let p = c.args.self.now in let change = c.args.change.now in let told = c.in-Some.told in
    let is : told_in p.updates change ≡ Some told = search rules in
    let same : told.from ≡ c.args.from = search rules in
    sym (told_is_reported p change c.requires told is) ∙ ap (reported (after_commit p change)) same
