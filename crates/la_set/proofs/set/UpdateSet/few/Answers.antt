use Rattle.std.proofs.Common.{◌≡◌, [], ◌++◌, IfSome, subst}
use Rattle.std.specs.Option.{option_copied}
use Rattle.la_set.specs.Representation.{represented, four_of}
use Rattle.la_set.proofs.Fours.{few-keeps, few-stored}
use Rattle.la_set.proofs.set.UpdateSet.few.Goals as goal

pub returns : goal.returns
returns c =
    let kept = c.self.inside.of in let o = option_copied c.few.result in
    record {
      keeps = few-keeps kept o c.self.invariant c.few.ensures.lists;
      set =
          subst (λ s. IfSome o (λ low. s ≡ represented (four_of low ++ four_of []))) c.self.view_is
          (few-stored kept o c.few.ensures.uncut c.few.ensures.lists);
    }
