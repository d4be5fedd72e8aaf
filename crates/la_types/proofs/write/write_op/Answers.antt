use Rattle.std.proofs.Common.{◌≡◌, ◌++◌, IfOk, subst, ap, ◌∙◌}
use Rattle.la_own.specs.Own.{AreOwnBytes, own}
use Rattle.la_types.specs.Writes.{write_bytes}
use Rattle.la_types.proofs.WriteBytes.{write_back}
use Rattle.la_types.proofs.write.write_op.Goals as goal

pub returns-clause-comes_back : goal.returns-clause-comes_back
returns-clause-comes_back c =
    let bytes : c.as_slice.result.now ≡ write_bytes c.args.stamp c.args.value.now =
    c.as_slice.ensures.value ∙ c.put_all-2.ensures
    ∙ ap (λ bs. bs ++ c.args.value.now) (c.put_all.ensures ∙ (λ i. c.new-bytes.ensures i ++ c.to_le_bytes.ensures i)) in
    write_back c.bytes_come_back.ensures.read c.args.stamp c.args.value.now c.ranges.stamp.fits c.own_op.result
    (λ ok. subst AreOwnBytes bytes (c.own_op.ensures.fits ok))
    (subst (λ bs. IfOk c.own_op.result (λ op. op ≡ own bs)) bytes c.own_op.ensures.ok)
