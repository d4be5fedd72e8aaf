use Rattle.std.proofs.Common.{◌+◌, take, drop, refl}
use Rattle.std.proofs.lemmas.List.{take_rest}
use Rattle.la_journal.proofs.FileParts.{no_parts, no_head, head_is}
use Rattle.la_journal.proofs.Told.{head_linked}
use Rattle.la_journal.proofs.grouped.head_of.Goals as goal

pub returns-in_err-n-clause-none : goal.returns-in_err-n-clause-none
returns-in_err-n-clause-none c _ = no_parts c.args.file.now (c.in_err-n.ensures.none refl)

pub returns-in_err-text_of_head-clause-none : goal.returns-in_err-text_of_head-clause-none
returns-in_err-text_of_head-clause-none c _ =
    let file = c.args.file.now in
    let n = c.in_ok-n.n in
    no_head file (take n file) (drop (n + 1) file) c.in_ok-n.ensures.split c.in_ok-n.ensures.line
    (c.in_err-text_of_head.ensures.none refl)

pub returns-clause-some : goal.returns-clause-some
returns-clause-some c =
    let file = c.args.file.now in
    let n = c.in_ok-n.n in
    rw take_rest
    (head_is file (take n file) (drop (n + 1) file) c.in_ok-n.ensures.split c.in_ok-n.ensures.line
    c.in_ok-text_of_head.field-0.now c.in_ok-text_of_head.ensures.some)

pub returns-clause-linked : goal.returns-clause-linked
returns-clause-linked c =
    head_linked (take c.in_ok-n.n c.args.file.now) c.in_ok-text_of_head.field-0.now c.in_ok-text_of_head.ensures.some
