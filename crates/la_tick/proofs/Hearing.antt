-- What is handed on once more was heard.
use Rattle.std.proofs.Common.{ℕ, List, [], ◌∷◌, ◌++◌, subst, sym, append-nil, arith}
use Rattle.la_tick.specs.declared.feed.Feed.{Feed}
use Rattle.la_tick.specs.Ticks.{Happening, Hearing, Stands, HandsOn}

pub hears_one : (f : Feed) (x : Happening) (heard : Hearing) (handed : List ℕ) → Stands f (x ∷ heard) handed
    → HandsOn f heard handed []
hears_one f x heard handed now = record {
  new = x ∷ [];
  once = omega arith;
  stands = subst (Stands f (x ∷ heard)) (sym (append-nil handed)) now;
}

pub then_hands : (f g : Feed) (heard : Hearing) (handed bytes : List ℕ) → HandsOn f heard handed []
    → ((heard : Hearing) (handed : List ℕ) → Stands f heard handed → Stands g heard (handed ++ bytes))
    → HandsOn g heard handed bytes
then_hands f g heard handed bytes so hands = record {
  new = so.new;
  once = so.once;
  stands = hands (so.new ++ heard) handed (subst (Stands f (so.new ++ heard)) (append-nil handed) so.stands);
}
