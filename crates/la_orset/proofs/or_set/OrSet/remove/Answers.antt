use Rattle.std.proofs.Common.{sym, subst}
use Rattle.la_orset.specs.Index.{IsIndex}
use Rattle.la_orset.specs.Puts.{adds_of, gone_of}
use Rattle.la_orset.proofs.Absorbed.{gone_with_ids, are_gone_first}
use Rattle.la_orset.proofs.or_set.OrSet.remove.Goals as goal

pub invariant_of-self-2 : goal.invariant_of-self-2
invariant_of-self-2 c =
    let s = c.args.self.now in let ids = c.args.ids.now in
    let gone =
    gone_with_ids s.early s.puts ids c.keep_early.new.early c.take_out.new.puts c.in_ok-keep_early.ensures.ok
    c.take_out.ensures.named in
    record {
      indexed =
          subst (λ a. IsIndex a (gone_of c.keep_early.new.early c.take_out.new.puts) c.take_out.new.live)
          (sym c.take_out.ensures.adds)
          (subst (λ g. IsIndex (adds_of s.puts) g c.take_out.new.live) (sym gone)
          (c.take_out.ensures.live (gone_of s.early s.puts) (are_gone_first s.early s.puts) s.indexed));
    }

pub returns-clause-ok : goal.returns-clause-ok
returns-clause-ok c =
    let s = c.args.self.now in
    gone_with_ids s.early s.puts c.args.ids.now c.keep_early.new.early c.take_out.new.puts c.in_ok-keep_early.ensures.ok
    c.take_out.ensures.named
