use Rattle.std.proofs.Common.{◌∙◌, ap, sym, rules}
use Rattle.la_script.specs.Words.{bytes_of}
use Rattle.la_wire.proofs.QuestionWords.{too_few, other_first, other_at, waits_for_none}
use Rattle.la_wire.proofs.questions.awaited_by_words.Goals as goal
use Rattle.la_wire.proofs.questions.awaited_by_words.Goals.{in_default-via-then-as_slice-lt3}
use Rattle.la_wire.proofs.questions.awaited_by_words.Goals.{in_default-via-in-len3-up+then-eq+else-eq-2}
use Rattle.la_wire.proofs.questions.awaited_by_words.Goals.{in_default-via-in-len3-up+else-eq}

pub returns : goal.returns
returns c =
    waits_for_none c.args.line.now c.as_slice.result.now
    (ap bytes_of c.as_slice.ensures.value ∙ c.in_ok-words.ensures) (
    elim c.in_default.branch [
      | in_default-via-then-as_slice-lt3 w ↦ too_few c.as_slice.result.now (search rules)
      | in_default-via-in-len3-up+then-eq+else-eq-2 w ↦
          other_at c.as_slice.result.now _ (search rules) (sym w.eq-then-eq.ensures ∙ w.if-eq-2.false)
      | in_default-via-in-len3-up+else-eq w ↦
          other_first c.as_slice.result.now _ (search rules) (sym w.eq.ensures ∙ w.if-eq.false)
    ]
    )
