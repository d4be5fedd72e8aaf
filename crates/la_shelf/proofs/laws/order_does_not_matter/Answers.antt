use Rattle.std.proofs.Common.{ap, ◌∙◌}
use Rattle.la_shelf.proofs.lemmas.Orders.{steps-IsPermutation, ascending-distinct}
use Rattle.la_shelf.proofs.laws.order_does_not_matter.Goals as goal

pub returns-clause-states : goal.returns-clause-states
returns-clause-states g c by_id s us order distinct one =
    steps-IsPermutation g.B.Absorbs.meaning by_id s us order distinct one

pub returns-clause-answers : goal.returns-clause-answers
returns-clause-answers g c by_id kind us order query ascending one =
    ap (λ s. g.B.Absorbs.meaning.reply s query)
    (steps-IsPermutation g.B.Absorbs.meaning by_id (g.B.Absorbs.meaning.start kind) us order
    (ascending-distinct us ascending) one)
    ∙ g.met.B.Absorbs.lawful.means kind us query ascending
