use Rattle.std.proofs.Common.{rules, ◌≡◌, ◌∙◌, ap, false, true, codes, Option, Some, None}
use Rattle.std.specs.Prelude.{IsSomeAnd}
use Rattle.std.proofs.lemmas.Result.{IfOk-weaker}
use Rattle.clap.specs.Lexer.{usize_max}
use Rattle.clap.specs.Words.{Rule, app_of, new_rule, rule_of, with_rule}
use Rattle.clap.specs.declared.builder.action.ArgAction.TheVariants.{Set}
use Rattle.clap.specs.declared.builder.range.ValueRange.{ValueRange}
use Rattle.la_call.proofs.OptionLines.{stays_local}
use Rattle.la_call.proofs.reading.with_words.Goals as goal

some_range : (o : Option ValueRange) (q : ValueRange) → IsSomeAnd o (λ r. r ≡ q) → o ≡ Some q
some_range None q h = absurd h
some_range (Some r) q h = ap Some h

abbrev base_rule : Rule
base_rule = record (new_rule (codes "word")) { action = Some Set; value_names = 1 }

pub returns-clause-app : goal.returns-clause-app
returns-clause-app c =
    let base : rule_of c.action.result ≡ base_rule = search rules in
    let plain : c.action.result.global ≡ false = search rules in
    let local : c.required.result.global ≡ false =
    ap (λ a. a.global) c.required.ensures ∙ ap (λ a. a.global) c.num_args-words.ensures.0 ∙ plain in
    let range = some_range c.num_args-words.result.num_vals
    (record { start_inclusive = 1; end_inclusive = usize_max }) c.num_args-words.ensures.1 in
    let whole = ap rule_of c.required.ensures
    ∙ ap (λ (r : Rule). record r { required = true })
    (ap rule_of c.num_args-words.ensures.0
    ∙ ap (λ (r : Rule). record r { range = c.num_args-words.result.num_vals }) base
    ∙ ap (λ (o : Option ValueRange). record base_rule { range = o }) range) in
    IfOk-weaker c.arg.result _ _ (λ made h. h.shape local ∙ ap (with_rule (app_of c.args.command)) whole) c.arg.ensures

pub returns-clause-local : goal.returns-clause-local
returns-clause-local c none =
    let plain : c.action.result.global ≡ false = search rules in
    let local : c.required.result.global ≡ false =
    ap (λ a. a.global) c.required.ensures ∙ ap (λ a. a.global) c.num_args-words.ensures.0 ∙ plain in
    IfOk-weaker c.arg.result _ _ (λ made h. stays_local _ _ made h local none) c.arg.ensures
