use Rattle.std.proofs.Common.{drop, ap, sym, ◌∙◌}
use Rattle.std.proofs.lemmas.List.{take_rest}
use Rattle.la_script.specs.Pieces.{front}
use Rattle.la_script.proofs.IdFronts.{front_none, front_first}
use Rattle.la_script.proofs.id_text.IdText.front.Goals as goal

pub returns-then-count-eq0 : goal.returns-then-count-eq0
returns-then-count-eq0 c = front_none c.args.behind c.args.self.now.0 c.args.count c.if-count-eq0.true

pub returns-else-behind : goal.returns-else-behind
returns-else-behind c =
    take_rest c.first-ids.result.now 1 ∙ ap (drop 1) c.first-ids.ensures.ids
    ∙ front_first c.args.self.now.0 c.args.count
    ∙ ap (λ b. front b c.args.self.now.0 c.args.count) (sym c.if-behind.false)
