use Rattle.std.proofs.Common.{rules, ◌≡◌, length, nat_eq, ap, sym, ◌∙◌, eqb-true}
use Rattle.la_set.specs.Histories.{updates}
use Rattle.la_node.specs.Configs.{IsConfig}
use Rattle.la_set.proofs.lemmas.Differences.{empty_has_none, none_empty}
use Rattle.la_node.proofs.node.may_start.Goals as goal

pub returns-then-is_group : goal.returns-then-is_group
returns-then-is_group g c = (
  λ e.
      let config : IsConfig c.args.config.now = search rules in
      let none : c.len.result ≡ 0 = eqb-true c.len.result 0 e in
      record { config = config; unused = sym c.view.ensures ∙ none_empty c.view.result.now (sym c.len.ensures.len ∙ none) },
  λ may.
      let none : c.len.result ≡ 0 =
      c.len.ensures.len ∙ ap (λ s. length (updates s)) (c.view.ensures ∙ may.unused) ∙ empty_has_none in
      ap (λ n. nat_eq n 0) none,
)
