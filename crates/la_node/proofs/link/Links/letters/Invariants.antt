use Rattle.std.proofs.Common.{◌≡◌, ◌+◌, ◌≤◌, ◌++◌, filter, length, vec_len, vec_capacity}
use Rattle.la_node.specs.Links.{is_chosen, letters_sent, AreOffersOver}
use Rattle.la_node.proofs.link.Links.letters.Given as goal

-- what was made and what is made of the rest are the letters, for which there is room
abbrev pub invariant-loop-message : goal.invariant-loop-message
invariant-loop-message g l =
    let of = letters_sent l.self l.node.replica l.sending in
    (l.letters.items ++ of l.message-iterator ≡ of l.fn.mail)
    × (vec_len l.letters + length l.message-iterator ≤ vec_capacity l.letters)
    × (AreOffersOver l.self (filter (is_chosen l.self l.sending) l.message-iterator)
    → AreOffersOver l.self (filter (is_chosen l.self l.sending) l.fn.mail))
