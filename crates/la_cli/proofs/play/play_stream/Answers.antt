use Rattle.std.proofs.Common.{rules, Err, ap, subst, sym, refl}
use Rattle.std.proofs.lemmas.Result.{IfErr-weaker, on_ok_weaker, err_from_is_err_and}
use Rattle.la_cli.specs.declared.error.PlayFault.{PlayFault}
use Rattle.la_cli.specs.Play.{FitAnyGroup, ReadsInput, IsPlayedRefusal}
use Rattle.la_cli.proofs.Playing.{input_is_refused, answer_is_refused}
use Rattle.la_cli.proofs.Written.{plays, plays_prefix}
use Rattle.la_cli.proofs.play.play_stream.Goals as goal

pub returns-in_err-input-clause-error : goal.returns-in_err-input-clause-error
returns-in_err-input-clause-error g c =
    let fit : FitAnyGroup c.args.shelves.items = search rules in
    let p = err_from_is_err_and c.from_residual.result c.from_residual.ensures.1 in
    rw (p.1, p.2)
    (input_is_refused c.args.shelves.items fit _ _ _ c.in_err-input.field-0.0
    (λ e. c.in_err-input.ensures.long (ap Err e)) (λ e. c.in_err-input.ensures.failed (ap Err e)) c.in_err-input.ensures.taken)

pub returns-in_err-input-clause-taken : goal.returns-in_err-input-clause-taken
returns-in_err-input-clause-taken g c = c.in_err-input.ensures.taken

pub returns-in_err-text-clause-error : goal.returns-in_err-text-clause-error
returns-in_err-text-clause-error g c =
    let read : ReadsInput (g.R.Read.remaining c.args.reader.now) (g.R.Read.remaining c.read_all.new.reader)
    c.in_ok-input.input.items =
    record { all = c.in_ok-input.ensures.all; short = c.in_ok-input.ensures.short } in
    let fit : FitAnyGroup c.args.shelves.items = search rules in
    let p = err_from_is_err_and c.from_residual-in_err-text.result c.from_residual-in_err-text.ensures.1 in
    rw (p.1, p.2)
    (answer_is_refused c.args.shelves.items fit _ _ _ c.in_ok-input.input.items c.in_err-text.field-0.0 read
    c.in_err-text.ensures.error)

pub returns-in_err-text-clause-taken : goal.returns-in_err-text-clause-taken
returns-in_err-text-clause-taken g c = c.in_ok-input.ensures.taken

pub returns-clause-ok : goal.returns-clause-ok
returns-clause-ok g c =
    let fit : FitAnyGroup c.args.shelves.items = search rules in
    let read : ReadsInput (g.R.Read.remaining c.args.reader.now) (g.R.Read.remaining c.read_all.new.reader)
    c.in_ok-input.input.items =
    record { all = c.in_ok-input.ensures.all; short = c.in_ok-input.ensures.short } in
    on_ok_weaker c.write_out.result
    (plays c.args.shelves.items fit _ _ _ _ _ _ c.in_ok-text.text read refl c.in_ok-text.ensures.ok)
    c.write_out.ensures.ok

pub returns-clause-error : goal.returns-clause-error
returns-clause-error g c =
    let fit : FitAnyGroup c.args.shelves.items = search rules in
    let left = g.R.Read.remaining c.args.reader.now in
    let left_after = g.R.Read.remaining c.read_all.new.reader in
    let old = g.W.Write.contents c.args.writer.now in
    let new = g.W.Write.contents c.write_out.new.writer in
    let read : ReadsInput left left_after c.in_ok-input.input.items = record { all = c.in_ok-input.ensures.all; short = c.in_ok-input.ensures.short } in
    IfErr-weaker c.write_out.result _ _
    (λ f w. subst (λ (e : PlayFault). IsPlayedRefusal c.args.shelves.items left left_after old new e) (sym w.0)
    (plays_prefix c.args.shelves.items fit left left_after old new _ _ c.in_ok-text.text read refl c.in_ok-text.ensures.ok w.1))
    c.write_out.ensures.error

pub returns-clause-taken : goal.returns-clause-taken
returns-clause-taken g c = c.in_ok-input.ensures.taken
