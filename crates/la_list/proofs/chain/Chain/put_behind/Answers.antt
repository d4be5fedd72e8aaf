use Rattle.std.proofs.Common.{◌+◌, cond, is_some, refl, ap, sym, ◌∙◌, subst}
use Rattle.std.specs.HashMap.{hash_map_len}
use Rattle.la_list.specs.Chains.{IsChain}
use Rattle.la_list.proofs.Links.{behind_chain, not_there}
use Rattle.la_list.proofs.chain.Chain.put_behind.Goals as goal

pub returns-in_default : goal.returns-in_default
returns-in_default c = λ es is none.
    subst (IsChain c.args.self.now)
    (not_there c.args.before (record { id = c.args.id; value = c.args.value.now }) es (sym (is.known c.args.before)
    ∙ ap is_some (sym c.in_default.ensures.value))) is

pub returns : goal.returns
returns c = λ es is none.
    behind_chain c.args.self.now es is (record { id = c.args.id; value = c.args.value.now }) none c.args.before
    c.in-Some.link.now (sym c.in-Some.ensures.value) _
    (record { first = c.args.self.now.first; links = c.insert.new.self })
    (record { first = c.args.self.now.first; links = c.insert-2.new.self }) c.in_ok-insert.ensures.updates.0
    (c.in_ok-insert.ensures.len
    ∙ ap (λ o. hash_map_len c.args.self.now.links + cond (is_some o) 0 1) c.in_ok-insert.ensures.old)
    c.in_ok-insert-2.ensures.updates.0
    (c.in_ok-insert-2.ensures.len
    ∙ ap (λ o. hash_map_len c.insert.new.self + cond (is_some o) 0 1) c.in_ok-insert-2.ensures.old) refl (refl, refl)
