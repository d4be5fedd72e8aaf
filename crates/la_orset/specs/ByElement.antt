-- What live tags by element stand for, in each of their forms.
use Rattle.la_orset.specs.declared.live.ByElement.{ByElement}
use Rattle.la_orset.specs.declared.live.ByElement.TheVariants.{Few, Many}
use Rattle.la_orset.specs.Index.{Index}

abbrev pub index_of : ByElement → Index
index_of (Few tree) = tree
index_of (Many table) = table
