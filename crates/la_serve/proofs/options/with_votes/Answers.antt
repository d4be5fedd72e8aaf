use Rattle.std.proofs.Common.{◌≡◌, ◌∙◌, ap, false, codes, Option, Some, None}
use Rattle.std.specs.Prelude.{IsSomeAnd}
use Rattle.std.proofs.lemmas.Result.{IfOk-weaker}
use Rattle.clap.specs.Words.{Rule, app_of, rule_of, with_rule}
use Rattle.clap.specs.declared.builder.range.ValueRange.{ValueRange}
use Rattle.la_serve.specs.Options.{number_option}
use Rattle.la_serve.proofs.CommandRules.{stays_local}
use Rattle.la_serve.proofs.options.with_votes.Goals as goal

some_range : (o : Option ValueRange) (q : ValueRange) → IsSomeAnd o (λ r. r ≡ q) → o ≡ Some q
some_range None q h = absurd h
some_range (Some r) q h = ap Some h

pub returns-clause-app : goal.returns-clause-app
returns-clause-app c =
    let rule =
    c.number-votes.ensures.rule 1 1000
    (rw (c.value_parser.ensures, c.new.ensures.start, c.new.ensures.end) at c.range-weights.ensures) in
    let local : c.num_args.result.global ≡ false =
    ap (λ a. a.global) c.num_args.ensures.0 ∙ c.number-votes.ensures.local in
    let range = some_range c.num_args.result.num_vals (record { start_inclusive = 1; end_inclusive = 8 })
    (rw (c.new-2.ensures.start, c.new-2.ensures.end) at c.num_args.ensures.1) in
    let whole = ap rule_of c.num_args.ensures.0
    ∙ ap (λ (r : Rule). record r { range = c.num_args.result.num_vals }) rule
    ∙ ap (λ (o : Option ValueRange). record (number_option (codes "votes") 1 1000) { range = o }) range in
    IfOk-weaker c.arg.result _ _ (λ made h. h.shape local ∙ ap (with_rule (app_of c.args.command)) whole) c.arg.ensures

pub returns-clause-local : goal.returns-clause-local
returns-clause-local c none =
    let local : c.num_args.result.global ≡ false =
    ap (λ a. a.global) c.num_args.ensures.0 ∙ c.number-votes.ensures.local in
    IfOk-weaker c.arg.result _ _ (λ made h. stays_local _ _ made h local none) c.arg.ensures
