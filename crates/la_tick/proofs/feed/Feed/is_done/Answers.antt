use Rattle.std.proofs.Common.{◌≡◌, ap, sym, ◌∙◌, eq-eqb, eqb-true, length}
use Rattle.la_tick.proofs.Parts.{all_handed, none_left}
use Rattle.la_tick.proofs.feed.Feed.is_done.Goals as goal

pub returns : goal.returns
returns c =
    let taken = c.args.self.now.taken in
    let chunk = c.args.self.now.chunk in
    let there = length c.as_slice.result.now in
    let all : there ≡ length chunk = ap length c.as_slice.ensures in (
      (λ same. none_left taken chunk (eqb-true taken there same ∙ all)),
      (λ none. eq-eqb taken there (all_handed taken chunk c.args.self.now.within none ∙ sym all)),
    )
