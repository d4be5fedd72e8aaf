use Rattle.std.proofs.Common.{◌≡◌, ◌∙◌, ap, codes, sym, subst, option_map, Option, None, ℕ, List, [], length}
use Rattle.std.specs.Str.Parse.{ParsesUnsigned, ExplainsUnsignedError, HasUnsignedDigitsIfOk}
use Rattle.clap.specs.Words.{Text, found_of, many_of, rows_of, values_left}
use Rattle.clap.specs.declared.parser.matches.ValuesRef.{ValuesRef}
use Rattle.clap.proofs.WalkLemmas.{typed_values-rows}
use Rattle.la_proposer.specs.Majority.{votes_of}
use Rattle.la_proposer.specs.declared.votes.Votes.{Votes}
use Rattle.la_serve.specs.Options.{AreVotes, IsVotes}
use Rattle.la_serve.proofs.VoteTexts.{Reads, reads_at_first, reads_end, reads_next, reads_none, reads_too_many}
use Rattle.la_serve.proofs.VoteTexts.{votes_made, where_err, where_ok}
use Rattle.la_serve.proofs.options.votes_in.Goals as goal

pub returns-in_default : goal.returns-in_default
returns-in_default c =
    let given = many_of (codes "votes") (rows_of (found_of c.args.given.now)) in
    let none : given ≡ None =
    sym (typed_values-rows (found_of c.args.given.now) (codes "votes")) ∙ sym c.get_many.ensures
    ∙ ap (option_map values_left) c.in_default.is in
    subst (λ (g : Option (List Text)). AreVotes g c.args.replicas (votes_of c.one_each.result)) (sym none)
    c.one_each.ensures

pub loop-value-init : goal.loop-value-init
loop-value-init c =
    let given = many_of (codes "votes") (rows_of (found_of c.args.given.now)) in
    let first = reads_at_first given (values_left c.in-Some.values)
    (sym (typed_values-rows (found_of c.args.given.now) (codes "votes")) ∙ sym c.get_many.ensures
    ∙ ap (option_map values_left) c.in-Some.is) in
    let begun =
    subst (λ (it : ValuesRef ℕ). Reads given [] (values_left it))
    (sym c.into_iter-value-iterator.ensures.into_iter_gives) first in
    subst (λ (read : List ℕ). Reads given read (values_left c.into_iter-value-iterator.result))
    (sym c.new-votes.ensures) begun

pub returns-in_default-value : goal.returns-in_default-value
returns-in_default-value l =
    reads_none (λ bs r. ParsesUnsigned 16 10 bs r × ExplainsUnsignedError 10 bs r × HasUnsignedDigitsIfOk bs r)
    (λ u x g. g.0)
    (many_of (codes "votes") (rows_of (found_of l.args.given.now))) l.loop-value.votes.items
    (values_left l.loop-value.value-iterator) (values_left l.next.new.self) l.in-Some-value.value
    l.in_default-value.field-0 l.in_default-value.is l.loop-value.invariant l.in-Some-value.ensures.steps

pub returns-then-is_err : goal.returns-then-is_err
returns-then-is_err l =
    let full : length l.loop-value.votes.items ≡ 8 =
    where_err l.try_push.result _ l.try_push.ensures.full (sym l.if-is_err.ensures.value) in
    reads_too_many (λ bs r. ParsesUnsigned 16 10 bs r × ExplainsUnsignedError 10 bs r × HasUnsignedDigitsIfOk bs r)
    (λ u x g. g.0)
    (many_of (codes "votes") (rows_of (found_of l.args.given.now))) l.loop-value.votes.items
    (values_left l.loop-value.value-iterator) (values_left l.next.new.self) l.in-Some-value.value
    l.loop-value.invariant l.in-Some-value.ensures.steps full

pub loop-value-preserved : goal.loop-value-preserved
loop-value-preserved l =
    let given = many_of (codes "votes") (rows_of (found_of l.args.given.now)) in
    let more =
    reads_next (λ bs r. ParsesUnsigned 16 10 bs r × ExplainsUnsignedError 10 bs r × HasUnsignedDigitsIfOk bs r)
    (λ u x g. g.0)
    given l.loop-value.votes.items (values_left l.loop-value.value-iterator) (values_left l.next.new.self)
    l.in-Some-value.value l.in-Ok.count l.in-Ok.is l.loop-value.invariant l.in-Some-value.ensures.steps in
    subst (λ (read : List ℕ). Reads given read (values_left l.next.new.self))
    (sym (where_ok l.try_push.result _ l.try_push.ensures.ok (sym l.if-is_err.ensures.value))) more

pub returns : goal.returns
returns c =
    let given = many_of (codes "votes") (rows_of (found_of c.args.given.now)) in
    let done =
    reads_end (λ bs r. ParsesUnsigned 16 10 bs r × ExplainsUnsignedError 10 bs r × HasUnsignedDigitsIfOk bs r)
    (λ u x g. g.0)
    given c.loop-value.votes.items (values_left c.loop-value.value-iterator) (values_left c.next.new.self)
    c.loop-value.invariant c.in-None.ensures.steps in
    subst (λ (o : Option Votes). IsVotes given c.args.replicas o) (sym c.ok.ensures.value)
    (votes_made given c.args.replicas c.loop-value.votes.items c.as_slice.result.now c.new.result
    c.as_slice.ensures.value done c.new.ensures.ok c.new.ensures.exactly)
