use Rattle.std.proofs.Common.{◌≡◌, ◌++◌, ◌∷◌, Some, rules, arith}
use Rattle.std.specs.List.{slice_get}
use Rattle.la_wire.specs.Updates.{update_text}
use Rattle.la_wire.specs.Writable.{IsUpdateFrom}
use Rattle.la_wire.proofs.UpdateLists.{put_next, one_more, all_of}
use Rattle.la_wire.proofs.writing.put_delta.Goals as goal

pub loop-place-preserved : goal.loop-place-preserved
loop-place-preserved c =
    let got : slice_get c.args.delta.now.more c.loop-place.place ≡ Some c.in-Some.update.now = search rules in
    let put : c.put_update.new.out.items ≡ c.loop-place.out.items ++ 59 ∷ update_text c.in-Some.update.now =
    search rules in
    let is : IsUpdateFrom 0 c.in-Some.update.now = search rules in
    record {
      written =
          put_next 59 update_text c.args.delta.now.more c.loop-place.place c.in-Some.update.now c.loop-place.out.items
          c.put_update.new.out.items _ got put c.loop-place.invariant.written;
      typed =
          one_more (IsUpdateFrom 0) c.args.delta.now.more c.loop-place.place c.in-Some.update.now got is
          c.loop-place.invariant.typed;
    }

pub returns-clause-typed : goal.returns-clause-typed
returns-clause-typed c =
    all_of (IsUpdateFrom 0) c.args.delta.now.more c.loop-place.place
    (omega (arith, c.len-place-end.ensures)) c.loop-place.invariant.typed
