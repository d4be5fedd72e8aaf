use Rattle.std.proofs.Common.{arith, inl, inr}
use Rattle.std.proofs.lemmas.Bool.{cases_lt}
use Rattle.la_set.proofs.lemmas.SetHistories.{count_past}
use Rattle.la_embed.proofs.learnt.next_id.Goals as goal

pub returns : goal.returns
returns c r = elim (cases_lt r 8) [
  | inl lt ↦ c.loop-replica.invariant r (omega (arith, lt, c.loop-replica-test.false))
  | inr past ↦ omega (arith, count_past c.args.view.now r past)
]
