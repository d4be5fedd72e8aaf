use Rattle.std.proofs.Common.{◌≡◌, List, ℕ, true, ◌++◌, ap, sym, ◌∙◌, append-nil}
use Rattle.la_tick.specs.Ticks.{input, in_hand}
use Rattle.la_tick.proofs.Whole.{ends_append}
use Rattle.la_tick.proofs.feed.Feed.hear_bytes.Goals as goal

pub returns-clause-stands : goal.returns-clause-stands
returns-clause-stands c heard handed was =
    let none : handed ++ in_hand c.args.self.now ≡ handed =
    ap (λ (xs : List ℕ). handed ++ xs) c.requires ∙ append-nil handed in
    record {
      woven = rw c.replace.ensures.after (ap (λ (xs : List ℕ). xs ++ c.args.filled.chunk) (was.woven ∙ none));
      whole =
          c.ends_behind-self.ensures
          ∙ rw (c.as_slice.ensures, was.whole) (sym (ends_append true (input heard) c.args.filled.chunk));
      between = was.between;
      interval = was.interval;
    }
