use Rattle.std.proofs.Common.{◌≡◌, IfOk, option_map, subst, rules}
use Rattle.la_wire.specs.Requests.{numbered_line}
use Rattle.la_wire.proofs.NumberedLines.{under_submit}
use Rattle.la_wire.proofs.requests.numbered_in.Goals as goal

pub returns : goal.returns
returns c =
    subst (λ apart. IfOk c.numbered_by.result (λ o. option_map numbered_line o ≡ apart))
    (under_submit c.args.line.now _ _ _ _ c.split_once.ensures.before c.split_once.ensures.after
    c.split_once-2.ensures.before c.split_once-2.ensures.after (search rules))
    c.numbered_by.ensures
