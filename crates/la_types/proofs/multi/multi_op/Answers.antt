use Rattle.std.proofs.Common.{◌≡◌, ◌++◌, IfOk, subst, ap, ◌∙◌}
use Rattle.la_own.specs.Own.{AreOwnBytes, own}
use Rattle.la_types.specs.Bytes.{counts_bytes}
use Rattle.la_types.specs.Multis.{multi_bytes}
use Rattle.la_types.proofs.MultiBytes.{multi_back}
use Rattle.la_types.proofs.multi.multi_op.Goals as goal

pub returns-clause-comes_back : goal.returns-clause-comes_back
returns-clause-comes_back c =
    let bytes : c.as_slice.result.now ≡ multi_bytes c.args.seen c.args.value.now =
    c.as_slice.ensures.value ∙ c.put_all.ensures
    ∙ ap (λ bs. bs ++ c.args.value.now) (c.put_counts.ensures.items
    ∙ ap (λ bs. bs ++ counts_bytes c.args.seen) c.new-bytes.ensures) in
    multi_back c.bytes_come_back.ensures.read c.args.seen c.args.value.now c.put_counts.ensures.back c.own_op.result
    (λ ok. subst AreOwnBytes bytes (c.own_op.ensures.fits ok))
    (subst (λ bs. IfOk c.own_op.result (λ op. op ≡ own bs)) bytes c.own_op.ensures.ok)
