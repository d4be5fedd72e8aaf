use Rattle.std.proofs.Common.{nat_lt, ap, ◌∙◌}
use Rattle.std.specs.FinMap as map
use Rattle.la_orset.specs.Index.{has_any}
use Rattle.la_orset.proofs.Lists.{any-list}
use Rattle.la_orset.proofs.tag_list.TagList.has_any.Goals as goal

pub returns : goal.returns
returns c =
    ap (nat_lt 0) (c.len.ensures ∙ c.self.inside.ids.ok.0) ∙ any-list c.self.inside.ids.items c.self.invariant
    ∙ ap (λ s. has_any (map.keys s)) c.self.view_is
