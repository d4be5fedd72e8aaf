use Rattle.std.proofs.Common.{◌≡◌, IfOk, [], get_or, ap, ◌∙◌, subst, take}
use Rattle.std.specs.Option.{option_copied}
use Rattle.la_set.specs.Links.{items_of}
use Rattle.la_set.specs.Join.{joined}
use Rattle.la_set.proofs.Splicing.{begun-at}
use Rattle.la_set.proofs.lists.FourLists.spliced_at.Goals as goal

pub continued-requires-clause-list : goal.continued-requires-clause-list
continued-requires-clause-list c =
    (begun-at (items_of (option_copied c.longer_at-list.result)) (get_or c.args.self.now c.args.place []) c.args.len
    c.requires.splices.first c.longer_at-list.ensures).0

pub returns : goal.returns
returns c =
    let list = items_of (option_copied c.longer_at-list.result) in let mine = get_or c.args.self.now c.args.place [] in
    let begun = begun-at list mine c.args.len c.requires.splices.first c.longer_at-list.ensures in
    let next = items_of (option_copied c.link.result) in
    subst (λ us. IfOk c.continued.result (λ list. list ≡ us))
    (ap (λ us. joined us next) begun.1 ∙ ap (joined (take c.args.len mine)) c.link.ensures) c.continued.ensures
