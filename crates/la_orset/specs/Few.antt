-- What an element's tags stand for, in each of its forms.
use Rattle.std.specs.FinMap as map
use Rattle.la_set.specs.declared.update.UpdateId.{UpdateId}
use Rattle.la_orset.specs.declared.tag_set.Few.{Few}
use Rattle.la_orset.specs.declared.tag_set.Few.TheVariants.{One, List}
use Rattle.la_orset.specs.Index.{TagMap}

-- one tag
abbrev pub only_tag : UpdateId → TagMap
only_tag id = map.insert map.empty id tt

abbrev pub few_tags : Few → TagMap
few_tags (One id) = only_tag id
few_tags (List tags) = tags
