use Rattle.std.proofs.Common.{refl}
use Rattle.std.proofs.lemmas.Result.{MatchResult-from_both}
use Rattle.la_cli.proofs.program.end_without_words.Goals as goal

pub returns-in-OutOfMemory-clause-memory : goal.returns-in-OutOfMemory-clause-memory
returns-in-OutOfMemory-clause-memory g c memory = c.end_with.ensures

pub returns-in-OutOfMemory-clause-other : goal.returns-in-OutOfMemory-clause-other
returns-in-OutOfMemory-clause-other g c other = absurd (other c.in-OutOfMemory.is)

pub returns-in_default : goal.returns-in_default
returns-in_default g c = record {
  memory = λ memory. absurd (c.in_default.not-OutOfMemory memory);
  other = λ other. record { status = refl; wrote = MatchResult-from_both c.tell_no_text.result _ _ c.tell_no_text.ensures.ok c.tell_no_text.ensures.err };
}
