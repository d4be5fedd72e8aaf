use Rattle.std.proofs.Common.{◌≡◌, ◌≤◌, length, take}
use Rattle.std.specs.Option.{option_copied}
use Rattle.la_set.specs.Links.{items_of}
use Rattle.la_set.proofs.Joining.{up_to}
use Rattle.la_set.proofs.splice.alike_until.Given as goal

abbrev pub invariant-loop-place : goal.invariant-loop-place
invariant-loop-place l = record {
  alike : take l.place (items_of (option_copied l.list))
      ≡ up_to (take l.len (items_of (option_copied l.list))) (items_of (option_copied l.next)) l.place;
  there : l.place ≤ length (items_of (option_copied l.list));
  from : l.len ≤ l.place;
}
