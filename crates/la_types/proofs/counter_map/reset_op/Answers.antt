use Rattle.std.proofs.Common.{◌≡◌, [], ◌∷◌, ◌++◌, IfOk, subst, ap, ◌∙◌}
use Rattle.la_own.specs.Own.{AreOwnBytes, own}
use Rattle.la_types.specs.declared.counter_map.CounterOp.TheVariants.{Reset}
use Rattle.la_types.specs.Bytes.{counts_bytes, plain}
use Rattle.la_types.specs.CounterMaps.{counter_bytes}
use Rattle.la_types.proofs.CounterBytes.{reset_back, counter_back}
use Rattle.la_types.proofs.counter_map.reset_op.Goals as goal

pub returns-clause-ok : goal.returns-clause-ok
returns-clause-ok c =
    let bytes : c.as_slice.result.now ≡ counter_bytes (Reset c.args.seen c.args.key.now) =
    c.as_slice.ensures.value ∙ c.put_all.ensures
    ∙ ap (λ bs. bs ++ c.args.key.now) (c.put_counts.ensures.items
    ∙ ap (λ bs. bs ++ counts_bytes c.args.seen) (c.push.ensures.items ∙ ap (λ bs. bs ++ 2 ∷ []) c.new-bytes.ensures)) in
    subst (λ bs. IfOk c.own_op.result (λ op. op ≡ own bs)) bytes c.own_op.ensures.ok

pub returns-clause-comes_back : goal.returns-clause-comes_back
returns-clause-comes_back c =
    let seen = c.args.seen in
    let key = c.args.key.now in
    let bytes : c.as_slice.result.now ≡ counter_bytes (Reset seen key) =
    c.as_slice.ensures.value ∙ c.put_all.ensures
    ∙ ap (λ bs. bs ++ key) (c.put_counts.ensures.items
    ∙ ap (λ bs. bs ++ counts_bytes seen) (c.push.ensures.items ∙ ap (λ bs. bs ++ 2 ∷ []) c.new-bytes.ensures)) in
    counter_back c.bytes_come_back.ensures.read (Reset seen key) (Reset (plain seen) key)
    (reset_back seen key c.put_counts.ensures.back) c.own_op.result
    (λ ok. subst AreOwnBytes bytes (c.own_op.ensures.fits ok))
    (subst (λ bs. IfOk c.own_op.result (λ op. op ≡ own bs)) bytes c.own_op.ensures.ok)
