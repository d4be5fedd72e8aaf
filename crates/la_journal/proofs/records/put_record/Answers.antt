use Rattle.std.proofs.Common.{◌≡◌, ◌++◌, ◌∷◌, [], decimal, sym, ◌∙◌, rules}
use Rattle.la_journal.specs.Records.{digest, link, end_count}
use Rattle.la_journal.proofs.Links.{pieces_are}
use Rattle.la_journal.proofs.Told.{records_link}
use Rattle.la_journal.proofs.records.put_record.Goals as goal

pub returns-clause-group : goal.returns-clause-group
returns-clause-group c =
    let group = c.args.group.now.items in
    let before = link c.args.last.now in
    let own = digest (before ++ group) in
    let pieces : c.put-7.new.text.items ≡ (((((((group ++ 126 ∷ 32 ∷ []) ++ decimal (end_count group)) ++ 32 ∷ []) ++
    before) ++ 32 ∷ []) ++ own) ++ 10 ∷ []) =
    search rules in
    pieces ∙ pieces_are group (decimal (end_count group)) before own

pub returns-clause-last : goal.returns-clause-last
returns-clause-last c =
    let own : c.digest-own.result ≡ digest (link c.args.last.now ++ c.args.group.now.items) = search rules in
    own ∙ sym (records_link c.args.last.now c.args.group.now.items)
