use Rattle.std.proofs.Common.{◌≡◌, true, false, [], ◌∷◌, ◌++◌, IfOk, refl, subst, ap, ◌∙◌}
use Rattle.la_own.specs.Own.{AreOwnBytes, own}
use Rattle.la_types.proofs.ElementBytes.{element_back}
use Rattle.la_types.proofs.elements.insert_element_op.Goals as goal

pub returns-clause-comes_back : goal.returns-clause-comes_back
returns-clause-comes_back c =
    let element = c.args.element.now in
    let bytes : c.as_slice.result.now ≡ 1 ∷ element =
    c.as_slice.ensures.value ∙ c.put_all.ensures
    ∙ ap (λ bs. bs ++ element) (c.push.ensures.items ∙ ap (λ bs. bs ++ 1 ∷ []) c.new-bytes.ensures) in
    element_back c.bytes_come_back.ensures.read 1 1 true refl element c.own_op.result
    (λ ok. subst AreOwnBytes bytes (c.own_op.ensures.fits ok))
    (subst (λ bs. IfOk c.own_op.result (λ op. op ≡ own bs)) bytes c.own_op.ensures.ok)

pub returns-clause-alone : goal.returns-clause-alone
returns-clause-alone c =
    let element = c.args.element.now in
    let bytes : c.as_slice.result.now ≡ 1 ∷ element =
    c.as_slice.ensures.value ∙ c.put_all.ensures
    ∙ ap (λ bs. bs ++ element) (c.push.ensures.items ∙ ap (λ bs. bs ++ 1 ∷ []) c.new-bytes.ensures) in
    element_back c.bytes_come_back.ensures.read 1 2 false refl element c.own_op.result
    (λ ok. subst AreOwnBytes bytes (c.own_op.ensures.fits ok))
    (subst (λ bs. IfOk c.own_op.result (λ op. op ≡ own bs)) bytes c.own_op.ensures.ok)
