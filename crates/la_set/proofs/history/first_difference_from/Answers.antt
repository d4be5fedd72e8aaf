use Rattle.std.proofs.Common.{length, ◌<◌, ◌≡◌, ◌+◌, ◌-◌, arith, sym, ◌∙◌}
use Rattle.std.proofs.lemmas.Bool.{both_ways}
use Rattle.std.specs.Option.{option_copied}
use Rattle.la_set.specs.Links.{items_of}
use Rattle.la_set.proofs.Walks.{found_same, found_different, found_all, last_is}
use Rattle.la_set.proofs.history.first_difference_from.Goals as goal
use Rattle.la_set.proofs.history.first_difference_from.Goals.{then-not-same, else-not-same}

pub loop-left-preserved : goal.loop-left-preserved
loop-left-preserved g c =
    let xs = items_of (option_copied c.args.one) in let ys = items_of (option_copied c.args.other) in
    let n = c.loop-left.left in let k = n - 1 in let inv = c.loop-left.invariant in
    let one_less : n ≡ k + 1 = omega arith in
    let in_mine : k < length xs = omega arith in
    let in_theirs : k < length ys = omega arith in
    let ours =
    last_is xs _ k n c.step_back-ours.result.item.now one_less in_mine (sym inv.mine ∙ c.step_back-ours.ensures) in
    let its =
    last_is ys _ k n c.step_back-its.result.item.now one_less in_theirs (sym inv.theirs ∙ c.step_back-its.ensures) in
    record {
      mine = ours.0;
      theirs = its.0;
      in_mine = omega arith;
      in_theirs = omega arith;
      found = elim c.if-not-same.branch [
        | then-not-same w ↦ rw w.found-is (found_different xs ys k _ _ ours.1 its.1 (λ e. both_ways c.same.result w.if-not-same.true (c.same.ensures.1 e)))
        | else-not-same w ↦ rw w.found-is (found_same xs ys k n c.loop-left.found _ _ (omega arith) ours.1 its.1 (c.same.ensures.0 w.if-not-same.false) inv.found)
      ];
    }

pub returns : goal.returns
returns g c =
    found_all (items_of (option_copied c.args.one)) (items_of (option_copied c.args.other)) c.args.from c.loop-left.left
    c.loop-left.found c.requires (omega arith) c.loop-left.invariant.found
