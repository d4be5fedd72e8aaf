use Rattle.std.proofs.Common.{rules, subst}
use Rattle.la_set.specs.Histories.{Histories}
use Rattle.la_acceptor.specs.declared.reply.Reply.{Reply}
use Rattle.la_set.specs.Join.{IsCompatible}
use Rattle.la_shared.specs.History.{IsAnswer}
use Rattle.la_shared.proofs.Keeps.{records}
use Rattle.la_shared.proofs.table.Core.record.Goals as goal

pub fetch_add-requires : goal.fetch_add-requires
fetch_add-requires g c = let t = c.requires.turn in let said = c.requires.said in (
  search rules,
  search rules,
  records _ _ _ t.0 t.1 c.requires.seat.1.0 _ _ t.2 c.requires.seat.1.1
      (subst (λ (z : Histories). IsCompatible t.1 z) said.0 t.3)
      (subst (λ (z : Histories × Reply). IsAnswer t.1 z.0 z.1) (λ i. (said.0 i, said.1 i)) t.4),
)
