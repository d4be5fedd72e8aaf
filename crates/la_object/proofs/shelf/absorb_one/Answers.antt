use Rattle.std.proofs.Common.{Result, Ok, Err, OnOk, OnErr, sym}
use Rattle.la_shelf.proofs.lemmas.Rows.{row_here, rows-absorbed, rows-same, key-value, absorbed-lacks, lacks_from_lookup}
use Rattle.la_object.specs.Objects.{meaning}
use Rattle.la_object.proofs.lemmas.Lawful.{lawful}
use Rattle.la_object.proofs.lemmas.Rows.{rows, row-HasRoom}
use Rattle.la_object.proofs.shelf.absorb_one.Goals as goal

on_ok : {A E P Q : Type 0} (r : Result A E) → (P → Q) → OnOk r P → OnOk r Q
on_ok (Ok a) f p = f p
on_ok (Err e) f p = tt

on_err : {A E P Q : Type 0} (r : Result A E) → (P → Q) → OnErr r P → OnErr r Q
on_err (Ok a) f p = tt
on_err (Err e) f p = f p

pub returns-in_default-clause-ok : goal.returns-in_default-clause-ok
returns-in_default-clause-ok g c =
    let f = g.B.Replicated.state in let es = c.args.objects.now.entries in let u = c.args.update.now in
    sym (absorbed-lacks meaning lawful u (rows f es)
    (lacks_from_lookup meaning lawful f u.object es c.in_default.ensures))

pub absorb-requires : goal.absorb-requires
absorb-requires g c =
    let f =
    g.B.Replicated.state in let es = c.args.objects.now.entries in let u = c.args.update.now in let v =
    c.in-Some-get_index_mut.object.now in
    row-HasRoom (rows f es) c.in-Some.place u.object (f v) c.requires
    (row_here meaning lawful f es c.in-Some.place u v v c.in-Some.ensures (sym c.in-Some-get_index_mut.ensures.value))

pub unreachable-requires : goal.unreachable-requires
unreachable-requires g c =
    key-value meaning lawful c.args.objects.now.entries c.in-Some.place c.args.update.now.object c.in-Some.ensures
    (sym c.in-None.ensures.value)

pub returns-clause-ok : goal.returns-clause-ok
returns-clause-ok g c =
    let f = g.B.Replicated.state in let es = c.args.objects.now.entries in
    on_ok c.absorb.result
    (rows-absorbed meaning lawful f es c.in-Some.place c.args.update.now c.in-Some-get_index_mut.object.now
    c.absorb.new.self
    c.in-Some.ensures (sym c.in-Some-get_index_mut.ensures.value) c.in-Some-get_index_mut.ensures.unique)
    c.absorb.ensures.ok

pub returns-clause-err : goal.returns-clause-err
returns-clause-err g c =
    let f = g.B.Replicated.state in let es = c.args.objects.now.entries in
    on_err c.absorb.result
    (rows-same meaning lawful f es c.in-Some.place c.args.update.now c.in-Some-get_index_mut.object.now
    c.absorb.new.self
    c.in-Some.ensures (sym c.in-Some-get_index_mut.ensures.value)) c.absorb.ensures.err
