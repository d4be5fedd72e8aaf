use Rattle.std.proofs.Common.{rules, sym, ◌∙◌, arith}
use Rattle.std.proofs.lemmas.Grind.{common_steps}
use Rattle.la_commit.proofs.Reading.{none-skip, none-more, first-found}
use Rattle.la_commit.proofs.learnt.first_sole.Goals as goal
use Rattle.la_commit.proofs.learnt.first_sole.Goals.{in-Some+else-vote, in_default}

pub returns-then-vote : goal.returns-then-vote
returns-then-vote c =
    sym
    (first-found (λ v. v.sole) c.args.set.now c.loop-at.at c.in-Some.vote (search rules) (grind (arith, common_steps))
    c.loop-at.invariant)

pub loop-at-preserved : goal.loop-at-preserved
loop-at-preserved c = elim c.match-vote_at.branch [
  | in-Some+else-vote w ↦
      none-more (λ v. v.sole) c.args.set.now c.loop-at.at w.in-Some.vote (sym w.in-Some.ensures)
      (grind (arith, common_steps)) c.loop-at.invariant
  | in_default w ↦ none-skip (λ v. v.sole) c.args.set.now c.loop-at.at (sym c.vote_at.ensures ∙ w.in_default.is) c.loop-at.invariant
]
