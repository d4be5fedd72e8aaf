use Rattle.std.proofs.Common.{codes}
use Rattle.clap.specs.Words.{found_of, many_of, rows_of, values_left}
use Rattle.la_serve.proofs.VoteTexts.{Reads}
use Rattle.la_serve.proofs.options.votes_in.Given as goal

abbrev pub invariant-loop-value : goal.invariant-loop-value
invariant-loop-value l =
    Reads (many_of (codes "votes") (rows_of (found_of l.given))) l.votes.items (values_left l.value-iterator)
