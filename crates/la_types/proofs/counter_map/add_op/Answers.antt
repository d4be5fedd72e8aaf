use Rattle.std.proofs.Common.{◌≡◌, [], ◌∷◌, ◌++◌, IfOk, subst, ap, ◌∙◌}
use Rattle.la_own.specs.Own.{AreOwnBytes, own}
use Rattle.la_types.specs.declared.counter_map.CounterOp.TheVariants.{Add}
use Rattle.la_types.specs.CounterMaps.{counter_bytes}
use Rattle.la_types.proofs.CounterBytes.{add_back, counter_back}
use Rattle.la_types.proofs.counter_map.add_op.Goals as goal

pub returns-clause-comes_back : goal.returns-clause-comes_back
returns-clause-comes_back c =
    let amount = c.args.amount in
    let key = c.args.key.now in
    let bytes : c.as_slice.result.now ≡ counter_bytes (Add amount key) =
    c.as_slice.ensures.value ∙ c.put_all-2.ensures
    ∙ ap (λ bs. bs ++ key)
    (c.put_all.ensures
    ∙ (λ i. (c.push.ensures.items ∙ ap (λ bs. bs ++ 1 ∷ []) c.new-bytes.ensures) i ++ c.to_le_bytes.ensures i)) in
    counter_back c.bytes_come_back.ensures.read (Add amount key) (Add amount key)
    (add_back amount key c.ranges.amount.fits) c.own_op.result
    (λ ok. subst AreOwnBytes bytes (c.own_op.ensures.fits ok))
    (subst (λ bs. IfOk c.own_op.result (λ op. op ≡ own bs)) bytes c.own_op.ensures.ok)
