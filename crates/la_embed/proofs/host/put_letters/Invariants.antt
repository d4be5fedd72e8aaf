use Rattle.std.proofs.Common.{◌≡◌, ◌+◌, ◌≤◌, length}
use Rattle.std.specs.VecDeque.{deque_len, deque_capacity}
use Rattle.std.specs.Vec.Iter.{into_iter_items, into_iter_len}
use Rattle.la_embed.specs.Hosts.{with_letters}
use Rattle.la_embed.proofs.host.put_letters.Given as goal

-- what was put and what is left are what is to wait, for which there is room
abbrev pub invariant-loop-letter : goal.invariant-loop-letter
invariant-loop-letter l =
    let left = into_iter_items l.letter-iterator in
    (with_letters l.own l.mail.items left
    ≡ with_letters l.own l.initial.mail.items (into_iter_items l.initial.letter-iterator))
    × (deque_len l.mail + length left ≤ deque_capacity l.mail)
    × (into_iter_len l.letter-iterator ≡ length left)
