use Rattle.std.proofs.Common.{◌≤◌, ◌∙◌, sym, refl, true, length, rules}
use Rattle.std.proofs.lemmas.List.{set_past}
use Rattle.std.proofs.lemmas.Option.{slice_get_past}
use Rattle.la_cli.proofs.lemmas.GivenNumbers.{some≢none}
use Rattle.la_serve.proofs.arrivals.Arrivals.hear.Goals as goal

pub returns-else-place-lt8 : goal.returns-else-place-lt8
returns-else-place-lt8 c =
    let past : length c.args.self.now.heard ≤ c.args.replica = search rules in
    record {
      heard = sym (set_past c.args.self.now.heard c.args.replica true past);
      before = refl;
      earlier = refl;
      silent = λ s. absurd (some≢none _ (sym s.heard ∙ slice_get_past c.args.self.now.heard c.args.replica past));
      known = λ s. refl;
    }
