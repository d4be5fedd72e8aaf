use Rattle.la_list.proofs.Latest.{latest}
use Rattle.la_list.proofs.laws.the_latest_stands_where_it_was_put.Goals as goal

pub returns : goal.returns
returns c = latest
