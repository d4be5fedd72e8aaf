use Rattle.std.proofs.Common.{◌≡◌, ◌++◌, ◌∷◌, [], filter, length, ap, sym, subst, ◌∙◌, arith}
use Rattle.std.proofs.lemmas.List.{append_assoc}
use Rattle.std.proofs.lemmas.List.Elements.{All-cons}
use Rattle.la_replica.specs.declared.message.Message as code
use Rattle.la_replica.specs.Rebased.{IsOfferOver}
use Rattle.la_node.specs.declared.link.Letter.{Letter}
use Rattle.la_node.specs.Links.{is_chosen, letter_of, letters_of, told_on, AreOffersOver}
use Rattle.la_node.proofs.Looking.{filter_keeps, filter_drops}
use Rattle.la_node.proofs.link.Links.letters.Goals as goal

pub loop-message-preserved-then-is_chosen : goal.loop-message-preserved-then-is_chosen
loop-message-preserved-then-is_chosen g c =
    let links = c.args.self.now in
    let chosen = is_chosen links c.args.sending in
    let of = letters_of links c.args.node.now.replica in
    let made = c.loop-message.letters.items in
    let m = c.in-Some.message in
    let rest = c.next.new.self in
    let i = c.loop-message.invariant in
    let first = c.in-Some.ensures.steps in
    let put = c.push_reserved.ensures in
    let parcel = c.in_ok-parcel.ensures in
    let keeps = filter_keeps chosen m rest (sym c.is_chosen.ensures ∙ c.if-is_chosen.true) in
    let letter : Letter = record {
      replicas = c.replicas-replicas.result;
      progress = c.progress-progress.result;
      parcel = c.in_ok-parcel.field-0;
    } in
    let is : letter ≡ letter_of links c.args.node.now.replica m = λ j. record {
      replicas = c.replicas-replicas.ensures j;
      progress = c.progress-progress.ensures j;
      parcel = parcel.ok j;
    } in (
      ap (λ ls. ls ++ of (filter chosen rest)) put.items ∙ append_assoc made (letter ∷ []) (of (filter chosen rest))
          ∙ ap (λ l. made ++ l ∷ of (filter chosen rest)) is ∙ ap (λ ms. made ++ of ms) (sym keeps)
          ∙ ap (λ ms. made ++ of (filter chosen ms)) (sym first) ∙ i.0,
      omega (arith, i.1, put.len, put.capacity, ap length first),
      λ over. i.2 (subst (λ ms. AreOffersOver links (filter chosen ms)) (sym first)
          (subst (AreOffersOver links) (sym keeps)
          (All-cons (λ (n : code.Message). IsOfferOver (told_on links n).body) m (filter chosen rest) parcel.over
          over))),
    )

pub loop-message-preserved : goal.loop-message-preserved
loop-message-preserved g c =
    let links = c.args.self.now in
    let chosen = is_chosen links c.args.sending in
    let of = letters_of links c.args.node.now.replica in
    let made = c.loop-message.letters.items in
    let rest = c.next.new.self in
    let i = c.loop-message.invariant in
    let first = c.in-Some.ensures.steps in
    let drops = filter_drops chosen c.in-Some.message rest (sym c.is_chosen.ensures ∙ c.if-is_chosen.false) in (
      ap (λ ms. made ++ of ms) (sym drops) ∙ ap (λ ms. made ++ of (filter chosen ms)) (sym first) ∙ i.0,
      omega (arith, i.1, ap length first),
      λ over.
          i.2
          (subst (λ ms. AreOffersOver links (filter chosen ms)) (sym first)
          (subst (AreOffersOver links) (sym drops) over)),
    )
