use Rattle.std.proofs.Common.{◌≡◌, [], ◌∷◌, ◌++◌, length, Some, refl, subst, ap, sym, ◌∙◌}
use Rattle.la_own.specs.Own.{AreOwnBytes, own, own_bytes_of}
use Rattle.la_types.specs.KeyedObjects.{part_bytes}
use Rattle.la_types.proofs.PartBytes.{part_back}
use Rattle.la_types.proofs.keyed_objects.op_under.Goals as goal

pub returns-in-Ok-clause-comes_back : goal.returns-in-Ok-clause-comes_back
returns-in-Ok-clause-comes_back c =
    let key = c.args.key.now in
    let inner = c.in-Some.own in
    let before = c.put_all.ensures
    ∙ ap (λ bs. bs ++ key) (c.push.ensures.items ∙ ap (λ bs. bs ++ length key ∷ []) c.new-written.ensures) in
    let bytes : c.as_slice.result.now ≡ part_bytes key inner =
    c.as_slice.ensures.value ∙ c.put_all-2.ensures ∙ (λ i. before i ++ c.as_slice-bytes.ensures.bytes i) in
    let fits = subst AreOwnBytes bytes (c.in-Ok.ensures.fits refl) in
    let back = c.bytes_come_back.ensures.read (part_bytes key inner) fits in
    part_back key inner c.in-Ok.under (sym (ap own_bytes_of (c.in-Ok.ensures.ok ∙ ap own bytes) ∙ back))
    ∙ ap (λ op. Some (key, op)) (sym c.in-Some.ensures.some.1)
