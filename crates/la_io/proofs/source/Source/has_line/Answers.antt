use Rattle.std.proofs.Common.{◌-◌, ◌==◌, ℕ, List, take, drop, ap, sym, ◌∙◌}
use Rattle.std.specs.List.{list_any}
use Rattle.la_io.proofs.Parts.{rest-is}
use Rattle.la_io.proofs.source.Source.has_line.Goals as goal

pub returns : goal.returns
returns c =
    let start = c.args.self.now.start in
    let end = c.args.self.now.end in
    c.contains.ensures.value
    ∙ ap (λ (xs : List ℕ). list_any (λ b. b == 10) (take (end - start) (drop start xs))) c.as_slice-chunk.ensures
    ∙ ap (list_any (λ b. b == 10)) (sym (rest-is start end c.args.self.now.chunk c.args.self.now.order))
