use Rattle.std.proofs.Common.{IfSome, ◌<◌, ap, sym, ◌∙◌, subst, arith}
use Rattle.std.specs.List.{slice_get}
use Rattle.std.specs.Option.{option_copied}
use Rattle.std.proofs.lemmas.Bool.{false≢true}
use Rattle.std.proofs.lemmas.Option.{none-some}
use Rattle.la_set.specs.declared.set.TheConstants.{MAX_NUMBER}
use Rattle.la_set.specs.Links.{items_of}
use Rattle.la_set.specs.Agreement.{Agree, AgreeBelow, IsFirstDifference}
use Rattle.la_set.specs.AgreeWithin.{AgreeTo}
use Rattle.la_set.specs.Counts.{count_in}
use Rattle.la_set.specs.Histories.{updates_of}
use Rattle.la_set.proofs.Agreeing.{agree-next, none_next, known_agree, all_agree, first_agree}
use Rattle.la_set.proofs.Rebuilding.{within-agree, difference_below}
use Rattle.la_set.proofs.set.UpdateSet.agree_to.Goals as goal

pub returns-then-both-known : goal.returns-then-both-known
returns-then-both-known c =
    let s = c.args.self.now in let t = c.args.other.now in let r = c.args.replica in
    subst (AgreeTo s t r) (sym c.of-known.ensures)
    (known_agree s t r c.args.known c.requires.known
    (none_next s t r (count_in c.args.known r)
    (omega (arith, c.if-both-known.true, c.of-known.ensures, c.of-both.ensures, c.requires.both))))

pub returns-in_default : goal.returns-in_default
returns-in_default c =
    let s = c.args.self.now in let t = c.args.other.now in let r = c.args.replica in
    subst (AgreeTo s t r) (sym c.of-known.ensures)
    (known_agree s t r c.args.known c.requires.known
    (λ u in_s in_t.
    none-some u
    (sym (ap option_copied c.in_default.is) ∙ c.item_at.ensures
    ∙ ap (λ us. slice_get us c.of-known.result) c.history_of-theirs.ensures.updates
    ∙ ap (slice_get (updates_of t r)) c.of-known.ensures ∙ in_t)))

pub returns-then-not-has_at : goal.returns-then-not-has_at
returns-then-not-has_at c =
    let s = c.args.self.now in let t = c.args.other.now in let r = c.args.replica in
    subst (AgreeTo s t r) (sym c.of-known.ensures)
    (known_agree s t r c.args.known c.requires.known
    (λ u in_s in_t.
    let there =
    sym (ap option_copied c.in-Some.is) ∙ c.item_at.ensures
    ∙ ap (λ us. slice_get us c.of-known.result) c.history_of-theirs.ensures.updates
    ∙ ap (slice_get (updates_of t r)) c.of-known.ensures ∙ in_t in
    let here =
    ap (λ us. slice_get us c.of-known.result) c.history_of-mine.ensures.updates
    ∙ ap (slice_get (updates_of s r)) c.of-known.ensures ∙ in_s in
    absurd (false≢true (sym c.if-not-has_at.true ∙ c.has_at.ensures.1 (here ∙ sym there)))))

pub first_difference_from-requires : goal.first_difference_from-requires
first_difference_from-requires c =
    let s = c.args.self.now in let t = c.args.other.now in let r = c.args.replica in
    let known = c.of-known.result in let mine = items_of (option_copied c.history_of-mine.result) in
    let theirs = items_of (option_copied c.history_of-theirs.result) in
    agree-next mine theirs known c.in-Some.update.now
    (subst (λ us. AgreeBelow us theirs known) (sym c.history_of-mine.ensures.updates)
    (subst (λ us. AgreeBelow (updates_of s r) us known) (sym c.history_of-theirs.ensures.updates)
    (subst (AgreeBelow (updates_of s r) (updates_of t r)) (sym c.of-known.ensures)
    (within-agree s t c.args.known c.requires.known.same r))))
    (c.has_at.ensures.0 c.if-not-has_at.false) (sym c.item_at.ensures ∙ ap option_copied c.in-Some.is)

pub overflow_cast-result : goal.overflow_cast-result
overflow_cast-result c =
    let mine = items_of (option_copied c.history_of-mine.result) in
    let theirs = items_of (option_copied c.history_of-theirs.result) in
    let few = subst (λ found. IfSome found (λ place. place < MAX_NUMBER)) c.in-Some-first_difference_from.is
    (difference_below mine theirs MAX_NUMBER c.history_of-mine.ensures.limit c.first_difference_from.result
    c.first_difference_from.ensures) in
    omega (arith, few)

pub returns-in-Some-first_difference_from : goal.returns-in-Some-first_difference_from
returns-in-Some-first_difference_from c =
    let s = c.args.self.now in let t = c.args.other.now in let r = c.args.replica in
    let place = c.in-Some-first_difference_from.place in
    let mine = items_of (option_copied c.history_of-mine.result) in
    first_agree s t r place
    (subst (λ us. IsFirstDifference us (updates_of t r) place) c.history_of-mine.ensures.updates
    (subst (λ us. IsFirstDifference mine us place) c.history_of-theirs.ensures.updates
    c.in-Some-first_difference_from.ensures))

pub returns-in-None : goal.returns-in-None
returns-in-None c =
    let s = c.args.self.now in let t = c.args.other.now in let r = c.args.replica in
    let mine = items_of (option_copied c.history_of-mine.result) in
    all_agree s t r c.of-both.result (c.of-both.ensures ∙ c.requires.both)
    (subst (λ us. Agree us (updates_of t r)) c.history_of-mine.ensures.updates
    (subst (λ us. Agree mine us) c.history_of-theirs.ensures.updates c.in-None.ensures))
