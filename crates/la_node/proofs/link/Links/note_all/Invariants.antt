use Rattle.std.proofs.Common.{◌≡◌, ◌≤◌, length, take}
use Rattle.la_node.specs.Links.{noted_all}
use Rattle.la_node.proofs.link.Links.note_all.Given as goal

abbrev pub invariant-loop-letter : goal.invariant-loop-letter
invariant-loop-letter l = record {
  within : l.letter-index ≤ length l.letters;
  so_far : l.self ≡ noted_all l.initial.self (take l.letter-index l.letters);
}
