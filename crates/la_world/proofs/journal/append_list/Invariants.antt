use Rattle.std.proofs.Common.{◌≡◌, ◌+◌, ◌≤◌, ◌++◌, length, vec_len, vec_capacity}
use Rattle.la_world.proofs.journal.append_list.Given as goal

abbrev pub invariant-loop-message : goal.invariant-loop-message
invariant-loop-message l =
    (l.messages.items ++ l.message-iterator ≡ l.initial.messages.items ++ l.fn.list.items)
    × (vec_len l.messages + length l.message-iterator ≤ vec_capacity l.messages)
