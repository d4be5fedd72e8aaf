use Rattle.std.proofs.Common.{[], ◌∷◌, ◌++◌, ap, sym, ◌∙◌, append_assoc}
use Rattle.std.specs.Int.{w64, to_le_bytes}
use Rattle.la_list.specs.ListBytes.{id_bytes, place_bytes}
use Rattle.la_list.proofs.op.put_place.Goals as goal

pub returns-in-Some-clause-items : goal.returns-in-Some-clause-items
returns-in-Some-clause-items c =
    let before = c.args.bytes.now.items in
    let id = c.in-Some.id in
    let stamp = to_le_bytes w64 c.args.stamp in
    c.put_id.ensures.items
    ∙ ap (λ bs. bs ++ id_bytes id) (c.put_all-in-Some.ensures
    ∙ (λ i. c.push-in-Some.ensures.items i ++ c.to_le_bytes-in-Some.ensures i))
    ∙ append_assoc (before ++ 2 ∷ []) stamp (id_bytes id)
    ∙ append_assoc before (2 ∷ []) (stamp ++ id_bytes id)
    ∙ ap (λ o. before ++ place_bytes o c.args.stamp) (sym c.in-Some.is)
