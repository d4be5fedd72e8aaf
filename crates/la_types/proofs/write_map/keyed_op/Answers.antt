use Rattle.std.proofs.Common.{◌≡◌, [], ◌∷◌, ◌++◌, length, IfOk, subst, ap, ◌∙◌}
use Rattle.la_own.specs.Own.{AreOwnBytes, own}
use Rattle.la_types.specs.Keyed.{keyed_bytes}
use Rattle.la_types.proofs.KeyedBytes.{keyed_back}
use Rattle.la_types.proofs.write_map.keyed_op.Goals as goal

pub returns-clause-comes_back : goal.returns-clause-comes_back
returns-clause-comes_back c =
    let key = c.args.key.now in
    let value = c.args.value.now in
    let bytes : c.as_slice.result.now ≡ keyed_bytes c.args.stamp key value =
    c.as_slice.ensures.value ∙ c.put_all-3.ensures
    ∙ ap (λ bs. bs ++ value)
    (c.put_all-2.ensures
    ∙ ap (λ bs. bs ++ key)
    (c.push.ensures.items
    ∙ ap (λ bs. bs ++ length key ∷ []) (c.put_all.ensures
    ∙ (λ i. c.new-bytes.ensures i ++ c.to_le_bytes.ensures i)))) in
    keyed_back c.bytes_come_back.ensures.read c.args.stamp key value c.ranges.stamp.fits c.own_op.result
    (λ ok. subst AreOwnBytes bytes (c.own_op.ensures.fits ok))
    (subst (λ bs. IfOk c.own_op.result (λ op. op ≡ own bs)) bytes c.own_op.ensures.ok)
