use Rattle.std.proofs.Common.{◌≡◌, length, take, reverse, sym, ◌∙◌, ap, arith, refl}
use Rattle.std.proofs.lemmas.Bool.{both_ways}
use Rattle.std.specs.Option.{option_copied}
use Rattle.la_set.specs.Links.{items_of}
use Rattle.la_set.proofs.Unmatched.{from_same, from_unmatched, found_next, from_none, something, one_less, back}
use Rattle.la_set.proofs.algebra.lacking.Goals as goal

pub loop-mine-preserved : goal.loop-mine-preserved
loop-mine-preserved c =
    let xs =
    items_of (option_copied c.args.list) in let ys = items_of (option_copied c.args.other) in let inv =
    c.loop-mine.invariant in
    let mine =
    items_of (option_copied c.loop-mine.mine) in let before = items_of (option_copied c.step_back-step.result.prev) in
    let x = c.step_back-step.result.item.now in
    let less = one_less xs mine before x inv.mine inv.within c.step_back-step.ensures in
    let step = back xs mine before x inv.mine inv.within c.step_back-step.ensures in
    let theirs_is : items_of (option_copied c.loop-mine.theirs) ≡ take c.len_of-in-loop-mine-2.result ys =
    inv.theirs ∙ ap (λ n. take n ys) (sym c.len_of-in-loop-mine-2.ensures) in
    let beside = c.step_beside-beside.ensures in
    record {
      mine = step.0;
      theirs = beside.prev ys (length before) (c.len_of-in-loop-mine-2.ensures ∙ less) theirs_is;
      within = omega (arith, less, inv.within);
      found =
          inv.found
          ∙ sym
          (ap reverse
          (from_same xs ys (length before) (length mine) less x step.1 x
          ((beside.has ys (length before) (c.len_of-in-loop-mine-2.ensures ∙ less) theirs_is).0
          c.if-not-beside.false) refl));
    }

pub loop-mine-preserved-in_ok-push : goal.loop-mine-preserved-in_ok-push
loop-mine-preserved-in_ok-push c =
    let xs =
    items_of (option_copied c.args.list) in let ys = items_of (option_copied c.args.other) in let inv =
    c.loop-mine.invariant in
    let mine =
    items_of (option_copied c.loop-mine.mine) in let before = items_of (option_copied c.step_back-step.result.prev) in
    let x = c.step_back-step.result.item.now in
    let less = one_less xs mine before x inv.mine inv.within c.step_back-step.ensures in
    let step = back xs mine before x inv.mine inv.within c.step_back-step.ensures in
    let theirs_is : items_of (option_copied c.loop-mine.theirs) ≡ take c.len_of-in-loop-mine-2.result ys =
    inv.theirs ∙ ap (λ n. take n ys) (sym c.len_of-in-loop-mine-2.ensures) in
    let beside = c.step_beside-beside.ensures in
    let next =
    from_unmatched xs ys (length before) (length mine) less x step.1
    (λ there.
    both_ways _ c.if-not-beside.true
    ((beside.has ys (length before) (c.len_of-in-loop-mine-2.ensures ∙ less) theirs_is).1 there)) in
    record {
      mine = step.0;
      theirs = beside.prev ys (length before) (c.len_of-in-loop-mine-2.ensures ∙ less) theirs_is;
      within = omega (arith, less, inv.within);
      found =
          found_next xs ys (length before) (length mine) less x step.1 c.loop-mine.lacking.items c.push.new.self.items
          c.in_ok-copy.field-0 inv.found c.in_ok-push.ensures.items c.in_ok-copy.ensures.ok next;
    }

pub returns-in_err-copy-clause-room : goal.returns-in_err-copy-clause-room
returns-in_err-copy-clause-room c = λ none.
    let xs =
    items_of (option_copied c.args.list) in let ys = items_of (option_copied c.args.other) in let inv =
    c.loop-mine.invariant in
    let mine =
    items_of (option_copied c.loop-mine.mine) in let before = items_of (option_copied c.step_back-step.result.prev) in
    let x = c.step_back-step.result.item.now in
    let less = one_less xs mine before x inv.mine inv.within c.step_back-step.ensures in
    let step = back xs mine before x inv.mine inv.within c.step_back-step.ensures in
    let theirs_is : items_of (option_copied c.loop-mine.theirs) ≡ take c.len_of-in-loop-mine-2.result ys =
    inv.theirs ∙ ap (λ n. take n ys) (sym c.len_of-in-loop-mine-2.ensures) in
    let beside = c.step_beside-beside.ensures in
    let next =
    from_unmatched xs ys (length before) (length mine) less x step.1
    (λ there.
    both_ways _ c.if-not-beside.true
    ((beside.has ys (length before) (c.len_of-in-loop-mine-2.ensures ∙ less) theirs_is).1 there)) in
    absurd (something (sym next ∙ from_none xs ys (length before) none))

pub returns-in_err-push-clause-room : goal.returns-in_err-push-clause-room
returns-in_err-push-clause-room c = λ none.
    let xs =
    items_of (option_copied c.args.list) in let ys = items_of (option_copied c.args.other) in let inv =
    c.loop-mine.invariant in
    let mine =
    items_of (option_copied c.loop-mine.mine) in let before = items_of (option_copied c.step_back-step.result.prev) in
    let x = c.step_back-step.result.item.now in
    let less = one_less xs mine before x inv.mine inv.within c.step_back-step.ensures in
    let step = back xs mine before x inv.mine inv.within c.step_back-step.ensures in
    let theirs_is : items_of (option_copied c.loop-mine.theirs) ≡ take c.len_of-in-loop-mine-2.result ys =
    inv.theirs ∙ ap (λ n. take n ys) (sym c.len_of-in-loop-mine-2.ensures) in
    let beside = c.step_beside-beside.ensures in
    let next =
    from_unmatched xs ys (length before) (length mine) less x step.1
    (λ there.
    both_ways _ c.if-not-beside.true
    ((beside.has ys (length before) (c.len_of-in-loop-mine-2.ensures ∙ less) theirs_is).1 there)) in
    absurd (something (sym next ∙ from_none xs ys (length before) none))
