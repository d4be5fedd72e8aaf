use Rattle.std.proofs.Common.{cond, ap, sym, ◌∙◌, arith}
use Rattle.std.proofs.lemmas.Bool.{ne_eqb}
use Rattle.la_types.specs.SeenCounts.{same_counts, set_count}
use Rattle.la_types.proofs.flag.up_to.Goals as goal

pub returns-then-id-ge-REPLICAS : goal.returns-then-id-ge-REPLICAS
returns-then-id-ge-REPLICAS c =
    c.zero.ensures ∙ same_counts _ _ (λ r lt. ap (λ b. cond b c.args.id.number 0) (sym (ne_eqb r c.args.id.replica
    (λ e. omega (arith, e, c.if-id-ge-REPLICAS.true)))))

pub returns : goal.returns
returns c = c.from.ensures ∙ same_counts _ _ (λ r lt. set_count c.args.id.replica c.args.id.number r (omega arith))
