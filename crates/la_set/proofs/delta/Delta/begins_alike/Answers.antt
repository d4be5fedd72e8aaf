use Rattle.std.proofs.Common.{sym, ◌∙◌}
use Rattle.std.proofs.lemmas.List.{take_more_same}
use Rattle.std.proofs.lemmas.Option.{slice_get_within, get_or_from_slice_get}
use Rattle.la_set.proofs.delta.Delta.begins_alike.Goals as goal

pub loop-place-preserved : goal.loop-place-preserved
loop-place-preserved c =
    let mine =
    c.args.self.now.more in let theirs = c.args.other.now.more in let k = c.loop-place.place in let u =
    c.item.result.now in let v = c.item-in-loop-place.result.now in
    take_more_same mine theirs k u (slice_get_within mine k u c.item.ensures)
    (slice_get_within theirs k v c.item-in-loop-place.ensures) c.loop-place.invariant
    (get_or_from_slice_get mine k u u c.item.ensures ∙ c.same.ensures.0 c.if-not-same.false
    ∙ sym (get_or_from_slice_get theirs k v u c.item-in-loop-place.ensures))
