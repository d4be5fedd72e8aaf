use Rattle.std.proofs.Common.{rules}
use Rattle.la_wire.specs.Writable.{IsOpFrom}
use Rattle.la_wire.proofs.OwnTexts.{own-typed}
use Rattle.la_wire.proofs.writing.put_remove.Goals as goal

pub returns-in-Some-clause-typed : goal.returns-in-Some-clause-typed
returns-in-Some-clause-typed c =
    let typed : IsOpFrom 0 c.args.op.now =
    own-typed c.args.op.now c.args.tags.now c.in-Some.bytes c.requires c.len-few.ensures.tags c.in-Some.ensures.some.0
    c.in-Some.ensures.some.1 in
    search rules
