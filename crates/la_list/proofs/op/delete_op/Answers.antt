use Rattle.std.proofs.Common.{◌≡◌, [], ◌∷◌, ◌++◌, IfOk, subst, ap, ◌∙◌}
use Rattle.la_own.specs.Own.{AreOwnBytes, own}
use Rattle.la_list.specs.declared.op.ListOp.TheVariants.{Delete}
use Rattle.la_list.specs.ListBytes.{id_bytes, edit_bytes}
use Rattle.la_list.proofs.EditBytes.{delete_back, edit_back}
use Rattle.la_list.proofs.op.delete_op.Goals as goal

pub returns-clause-comes_back : goal.returns-clause-comes_back
returns-clause-comes_back c =
    let does = Delete c.args.element in
    let bytes : c.as_slice.result.now ≡ edit_bytes does =
    c.as_slice.ensures.value ∙ c.put_id.ensures.items
    ∙ ap (λ bs. bs ++ id_bytes c.args.element) (c.push.ensures.items ∙ ap (λ bs. bs ++ 3 ∷ []) c.new-bytes.ensures) in
    edit_back c.bytes_come_back.ensures.read does (delete_back c.args.element c.put_id.ensures.back) c.own_op.result
    (λ ok. subst AreOwnBytes bytes (c.own_op.ensures.fits ok))
    (subst (λ bs. IfOk c.own_op.result (λ op. op ≡ own bs)) bytes c.own_op.ensures.ok)
