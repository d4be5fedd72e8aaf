use Rattle.std.proofs.Common.{sym, ap, ◌∙◌}
use Rattle.std.specs.FinMap as map
use Rattle.la_orset.specs.Index.{has_any}
use Rattle.la_orset.specs.Few.{few_tags}
use Rattle.la_orset.proofs.LiveTags.{whole-put}
use Rattle.la_orset.proofs.tag_set.TagSet.has_any.Goals as goal

pub returns-in-One : goal.returns-in-One
returns-in-One c =
    whole-put map.empty c.in-One.field-0 ∙ ap (λ t. has_any (map.keys t)) (sym (ap few_tags c.in-One.is) ∙ c.self.view_is)
