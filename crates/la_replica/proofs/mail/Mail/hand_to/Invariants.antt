use Rattle.std.proofs.Common.{◌≡◌, ◌+◌, ◌≤◌, ◌++◌, length}
use Rattle.std.specs.VecDeque.{deque_len, deque_capacity}
use Rattle.la_replica.proofs.mail.Mail.hand_to.Given as goal

-- what was put and what is left are the mail, for which there is room
abbrev pub invariant-loop-message : goal.invariant-loop-message
invariant-loop-message l =
    (l.queue.items ++ l.message-iterator ≡ l.initial.queue.items ++ l.fn.self)
    × (deque_len l.queue + length l.message-iterator ≤ deque_capacity l.queue)
