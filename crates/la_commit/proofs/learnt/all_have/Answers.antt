use Rattle.std.proofs.Common.{◌==◌, sym, ◌∙◌, arith}
use Rattle.std.proofs.lemmas.Grind.{common_steps}
use Rattle.la_commit.proofs.Reading.{all-skip, all-more, all-fails}
use Rattle.la_commit.proofs.learnt.all_have.Goals as goal
use Rattle.la_commit.proofs.learnt.all_have.Goals.{in-Some+else-vote-value, in_default}

pub returns-then-vote-value : goal.returns-then-vote-value
returns-then-vote-value c =
    sym
    (all-fails (λ v. v.value == c.args.value) c.args.set.now c.loop-place.place c.in-Some.vote (sym c.in-Some.ensures)
    (grind (arith, common_steps)) c.loop-place.invariant)

pub loop-place-preserved : goal.loop-place-preserved
loop-place-preserved c = elim c.match-vote_at.branch [
  | in-Some+else-vote-value w ↦
      all-more (λ v. v.value == c.args.value) c.args.set.now c.loop-place.place w.in-Some.vote (sym w.in-Some.ensures)
      (grind (arith, common_steps)) c.loop-place.invariant
  | in_default w ↦ all-skip (λ v. v.value == c.args.value) c.args.set.now c.loop-place.place (sym c.vote_at.ensures ∙ w.in_default.is) c.loop-place.invariant
]
