use Rattle.std.proofs.Common.{◌+◌, cond, is_some, Some, refl, ap, ◌∙◌}
use Rattle.std.specs.HashMap.{hash_map_len}
use Rattle.la_list.proofs.Links.{first_chain}
use Rattle.la_list.proofs.chain.Chain.put_first.Goals as goal

pub returns : goal.returns
returns c = λ es is none.
    first_chain c.args.self.now es is (record { id = c.args.id; value = c.args.value.now }) none _
    (record { first = Some c.args.id; links = c.insert.new.self }) refl (refl, refl) c.in_ok-insert.ensures.updates.0
    (c.in_ok-insert.ensures.len
    ∙ ap (λ o. hash_map_len c.args.self.now.links + cond (is_some o) 0 1) c.in_ok-insert.ensures.old)
