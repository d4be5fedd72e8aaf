use Rattle.std.proofs.Common.{rules, ◌≡◌, [], ◌∷◌, ◌∙◌, ap}
use Rattle.la_cli.specs.Shelves.{states_of}
use Rattle.la_cli.proofs.objects.numbered.Goals as goal

pub returns : goal.returns
returns g c =
    let all : c.push-3.new.self.items ≡ (1, c.args.counter) ∷ (2, c.args.register) ∷ (3, c.args.set) ∷ [] =
    search rules in
    ap (states_of g.B.Replicated.state) all
    ∙ (λ i. (1, c.requires.counter i) ∷ (2, c.requires.register i) ∷ (3, c.requires.set i) ∷ [])
