use Rattle.std.proofs.Common.{sym, ◌∙◌}
use Rattle.std.proofs.lemmas.Bool.{false≢true}
use Rattle.la_journal.proofs.Digests.{text_is, text_is_not}
use Rattle.la_journal.proofs.records.text_of_head.Goals as goal

pub returns-then-is_spaced-clause-some : goal.returns-then-is_spaced-clause-some
returns-then-is_spaced-clause-some c =
    text_is c.args.line.now c.split_at.result.0.now c.split_at.result.1.now c.digest.result c.saturating_sub.result
    c.saturating_sub.ensures c.split_at.ensures.front c.split_at.ensures.back c.digest.ensures
    (c.is_spaced.ensures.0 c.if-is_spaced.true)

pub returns-else-is_spaced-clause-none : goal.returns-else-is_spaced-clause-none
returns-else-is_spaced-clause-none c _ =
    text_is_not c.args.line.now c.split_at.result.0.now c.split_at.result.1.now c.digest.result c.saturating_sub.result
    c.saturating_sub.ensures c.split_at.ensures.front c.split_at.ensures.back c.digest.ensures
    (λ e. false≢true (sym c.if-is_spaced.false ∙ c.is_spaced.ensures.1 e))
