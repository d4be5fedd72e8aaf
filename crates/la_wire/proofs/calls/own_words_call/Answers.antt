use Rattle.std.proofs.Common.{rules}
use Rattle.la_wire.proofs.OwnLines.{few_words, many_words}
use Rattle.la_wire.proofs.calls.own_words_call.Goals.{in_default-via-then-words-lt5}
use Rattle.la_wire.proofs.calls.own_words_call.Goals.{in_default-via-else-words-lt5+else-words-lt6}
use Rattle.la_wire.proofs.calls.own_words_call.Goals as goal

pub returns-in_default : goal.returns-in_default
returns-in_default c = elim c.in_default.branch [
  | in_default-via-then-words-lt5 w ↦ few_words c.args.words.now (search rules)
  | in_default-via-else-words-lt5+else-words-lt6 w ↦ many_words c.args.words.now (search rules)
]
