use Rattle.std.proofs.Common.{◌≡◌, ◌++◌, ◌∷◌, Some, rules, arith}
use Rattle.std.specs.List.{slice_get}
use Rattle.la_script.specs.Text.{id_text}
use Rattle.la_wire.specs.Writable.{IsIdFrom}
use Rattle.la_wire.proofs.UpdateLists.{put_next, one_more, all_of}
use Rattle.la_wire.proofs.writing.put_tags.Goals as goal

pub loop-place-preserved : goal.loop-place-preserved
loop-place-preserved c =
    let got : slice_get c.args.tags.now c.loop-place.place ≡ Some c.in-Some.tag.now = search rules in
    let put : c.put_tag.new.out.items ≡ c.loop-place.out.items ++ 32 ∷ id_text c.in-Some.tag.now = search rules in
    let is : IsIdFrom 0 c.in-Some.tag.now = search rules in
    record {
      written =
          put_next 32 id_text c.args.tags.now c.loop-place.place c.in-Some.tag.now c.loop-place.out.items
          c.put_tag.new.out.items _ got put c.loop-place.invariant.written;
      typed =
          one_more (IsIdFrom 0) c.args.tags.now c.loop-place.place c.in-Some.tag.now got is
          c.loop-place.invariant.typed;
    }

pub returns-clause-typed : goal.returns-clause-typed
returns-clause-typed c = (
  c.len-place-end.ensures.tags,
  all_of (IsIdFrom 0) c.args.tags.now c.loop-place.place (omega (arith, c.len-place-end.ensures.len))
      c.loop-place.invariant.typed,
)
