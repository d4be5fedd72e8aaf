use Rattle.std.proofs.Common.{◌≡◌, true, rules, Some}
use Rattle.std.specs.List.{list_all}
use Rattle.la_wire.specs.CallLines.{is_clean_byte}
use Rattle.la_wire.specs.States.{said_state}
use Rattle.la_durable.specs.CallLines.{clean_bytes}
use Rattle.la_durable.proofs.StateLines.{named_by}
use Rattle.la_durable.proofs.state.text_of.Goals as goal

pub returns-then-branch-clause-read_back : goal.returns-then-branch-clause-read_back
returns-then-branch-clause-read_back c =
    let said : said_state c.put_state.new.out.items ≡ Some c.args.node.now.replica = search rules in
    named_by c.put_state.new.out.items c.args.node.now.replica said c.replica.ensures.resumable

pub returns-then-branch-clause-clean : goal.returns-then-branch-clause-clean
returns-then-branch-clause-clean c =
    let clean : list_all is_clean_byte c.put_state.new.out.items ≡ true = search rules in
    clean_bytes c.put_state.new.out.items clean
