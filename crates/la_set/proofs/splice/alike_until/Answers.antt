use Rattle.std.proofs.Common.{◌≡◌, ◌∷◌, [], ◌++◌, ◌∙◌, ap, sym, subst, take, arith}
use Rattle.std.specs.Option.{option_copied}
use Rattle.std.proofs.lemmas.List.{length-take, take_more}
use Rattle.std.proofs.lemmas.Option.{slice_get_within, get_or_from_slice_get}
use Rattle.la_set.specs.Links.{items_of}
use Rattle.la_set.specs.Join.{joined}
use Rattle.la_set.proofs.Joining.{up_to-more, up_to-none}
use Rattle.la_set.proofs.splice.alike_until.Goals as goal

pub loop-place-init : goal.loop-place-init
loop-place-init c =
    let list = items_of (option_copied c.args.list) in let front = take c.args.len list in
    let many = length-take c.args.len list in
    record {
      alike = sym (up_to-none front (items_of (option_copied c.args.next)) c.args.len (omega (arith, many)));
      there = c.requires.list;
      from = omega arith;
    }

pub loop-place-preserved : goal.loop-place-preserved
loop-place-preserved c =
    let list = items_of (option_copied c.args.list) in let next = items_of (option_copied c.args.next) in
    let k = c.loop-place.place in let u = c.item.result.now in
    let from = c.loop-place.invariant.from in
    let got = c.has_at.ensures.0 c.if-not-has_at.false in let many = length-take c.args.len list in
    record {
      alike =
          take_more list k u (slice_get_within list k u got)
          ∙ ap (λ v. take k list ++ v ∷ []) (get_or_from_slice_get list k u u got)
          ∙ ap (λ us. us ++ u ∷ []) c.loop-place.invariant.alike
          ∙ up_to-more (take c.args.len list) next k u (omega (arith, from, many)) c.item.ensures;
      there = omega (arith, slice_get_within list k u got);
      from = omega (arith, c.loop-place.invariant.from);
    }

pub returns : goal.returns
returns c =
    let list = items_of (option_copied c.args.list) in let next = items_of (option_copied c.args.next) in
    let all = c.len_of-all.result in
    let most = c.loop-place.auto.place-end (omega (arith, c.requires.next, c.len_of-all.ensures)) in
    let reached : c.loop-place.place ≡ all = omega (arith, c.loop-place-test.false, most) in
    record {
      from = omega (arith, c.requires.next, c.len_of-all.ensures);
      list = omega (arith, reached, c.loop-place.invariant.there);
      next = omega (arith, c.len_of-all.ensures);
      alike =
          subst (λ n. take n list ≡ joined (take c.args.len list) (take n next)) reached c.loop-place.invariant.alike;
    }
