use Rattle.std.proofs.Common.{◌∙◌, ap, sym}
use Rattle.std.specs.Option.{option_copied}
use Rattle.la_set.specs.Histories.{get}
use Rattle.la_set.proofs.lemmas.SetHistories.{pop_none}
use Rattle.la_set.proofs.lemmas.Places.{no_last, has_last}
use Rattle.la_set.proofs.set.UpdateSet.pop.Goals as goal

pub returns-in_err-copy-in-Some-clause-room : goal.returns-in_err-copy-in-Some-clause-room
returns-in_err-copy-in-Some-clause-room c none =
    let s = c.args.self.now in let r = c.args.replica in
    absurd (has_last s r c.in-Some.update.now (ap (λ n. get s (record { replica = r; number = n })) (sym c.count_of-count.ensures.count) ∙ sym c.in-Some.ensures) none)

pub returns-in_err-truncate-clause-room : goal.returns-in_err-truncate-clause-room
returns-in_err-truncate-clause-room c none =
    let s = c.args.self.now in let r = c.args.replica in
    absurd (has_last s r c.in-Some.update.now (ap (λ n. get s (record { replica = r; number = n })) (sym c.count_of-count.ensures.count) ∙ sym c.in-Some.ensures) none)

pub returns-in-None-clause-rest : goal.returns-in-None-clause-rest
returns-in-None-clause-rest c =
    let s = c.args.self.now in let r = c.args.replica in
    pop_none s r (no_last s r (ap (λ n. get s (record { replica = r; number = n })) (sym c.count_of-count.ensures.count) ∙ sym c.get.ensures ∙ ap option_copied c.in-None.is))
