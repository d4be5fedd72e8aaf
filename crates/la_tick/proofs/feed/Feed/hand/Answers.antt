use Rattle.std.proofs.Common.{◌≡◌, ◌≤◌, arith, drop, length, take}
use Rattle.std.proofs.lemmas.Grind.{common_steps}
use Rattle.la_tick.proofs.Parts.{hands_on}
use Rattle.la_tick.proofs.feed.Feed.hand.Goals as goal

pub returns-clause-stands : goal.returns-clause-stands
returns-clause-stands c heard handed was =
    let taken = c.args.self.now.taken in
    let chunk = c.args.self.now.chunk in
    let copied : c.copy_from_slice.new.self ≡ take c.min-count.result (drop taken chunk) =
    grind (arith, common_steps) in
    let within : c.min-count.result ≤ length (drop taken chunk) = grind (arith, common_steps) in
    record {
      woven = hands_on _ handed chunk c.copy_from_slice.new.self _ taken c.min-count.result was.woven copied within;
      whole = was.whole;
      between = was.between;
      interval = was.interval;
    }
