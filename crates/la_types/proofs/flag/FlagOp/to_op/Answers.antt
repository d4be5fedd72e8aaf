use Rattle.std.proofs.Common.{◌≡◌, IfOk, subst, ◌∙◌}
use Rattle.la_own.specs.Own.{AreOwnBytes, own}
use Rattle.la_types.specs.Flags.{flag_bytes}
use Rattle.la_types.proofs.FlagBytes.{op_back}
use Rattle.la_types.proofs.flag.FlagOp.to_op.Goals as goal

pub returns-clause-comes_back : goal.returns-clause-comes_back
returns-clause-comes_back c =
    let bytes : c.as_slice.result.now ≡ flag_bytes c.args.self.now = c.as_slice.ensures.value
    ∙ c.written.ensures.bytes in
    op_back c.bytes_come_back.ensures.read c.args.self.now c.written.ensures.back c.own_op.result
    (λ ok. subst AreOwnBytes bytes (c.own_op.ensures.fits ok))
    (subst (λ bs. IfOk c.own_op.result (λ op. op ≡ own bs)) bytes c.own_op.ensures.ok)
