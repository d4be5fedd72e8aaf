use Rattle.std.proofs.Common.{◌++◌, length, ap, sym, ◌∙◌, arith, below_more}
use Rattle.std.specs.Int.{w32, to_le_bytes}
use Rattle.la_types.proofs.CountBytes.{put_more, put_length, counts_back}
use Rattle.la_types.proofs.bytes.put_counts.Goals as goal

pub put_all-requires : goal.put_all-requires
put_all-requires c =
    omega (arith, ap length c.loop-replica.invariant.items, put_length c.args.bytes.now.items c.args.counts c.loop-replica.replica, ap length c.to_le_bytes.ensures)

pub loop-replica-preserved : goal.loop-replica-preserved
loop-replica-preserved c = record {
  items =
      c.put_all.ensures
      ∙ (λ i. c.loop-replica.invariant.items i ++ (c.to_le_bytes.ensures ∙ ap (to_le_bytes w32) c.of.ensures) i)
      ∙ sym (put_more c.args.bytes.now.items c.args.counts c.loop-replica.replica);
  small = below_more _ _ c.loop-replica.invariant.small (omega (arith, c.of.type_inv, c.of.ensures));
}

pub returns-clause-back : goal.returns-clause-back
returns-clause-back c = counts_back c.args.counts (λ r lt. c.loop-replica.invariant.small r (omega arith))
