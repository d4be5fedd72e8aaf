use Rattle.std.proofs.lemmas.Result.{on_ok_weaker}
use Rattle.std.proofs.Common.{refl}
use Rattle.la_wire.proofs.StateTexts.{told_written}
use Rattle.la_wire.proofs.states.writing.put_told.Goals as goal

pub returns : goal.returns
returns c =
    on_ok_weaker c.put_learnt.result
    (λ written.
    told_written c.args.head.now _ c.args.out.now.items c.put_word.new.out.items c.put_all_counts.new.out.items
    c.put_word-2.new.out.items c.put_learnt.new.out.items refl c.in_ok-put_word.ensures c.in_ok-put_all_counts.ensures
    c.in_ok-put_word-2.ensures written) c.put_learnt.ensures
