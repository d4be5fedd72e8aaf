use Rattle.std.proofs.Common.{sym, ap, ◌∙◌}
use Rattle.std.proofs.lemmas.Bool.{false≢true}
use Rattle.la_orset.proofs.Absorbed.{fresh_from, no_adds, none_early, adds_in, gone_in}
use Rattle.la_orset.proofs.or_set.OrSetReplicated.fresh.Goals as goal

pub returns-then-is_empty : goal.returns-then-is_empty
returns-then-is_empty c =
    let s = c.args.self.now in (
      λ t. fresh_from s.puts s.early (c.is_empty.ensures.0 c.if-is_empty.true) (c.is_empty-then-is_empty.ensures.0 t),
      λ h. c.is_empty-then-is_empty.ensures.1 (none_early s.early s.puts (ap gone_in h)),
    )

pub returns-else-is_empty : goal.returns-else-is_empty
returns-else-is_empty c =
    let s = c.args.self.now in
    (λ t. absurd (false≢true (sym c.if-is_empty.false ∙ t)), λ h. c.is_empty.ensures.1 (no_adds s.puts (ap adds_in h)))
