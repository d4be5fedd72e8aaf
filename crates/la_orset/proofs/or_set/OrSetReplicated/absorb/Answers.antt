use Rattle.std.proofs.Common.{rules, ◌∙◌, sym, ap}
use Rattle.la_object.specs.declared.state.State.TheVariants.{Set}
use Rattle.la_object.specs.OrSet.{element, named, with_element, with_ids}
use Rattle.la_object.proofs.lemmas.IdMaps.{with_ids-nil}
use Rattle.la_orset.specs.Puts.{adds_of, gone_of}
use Rattle.la_orset.proofs.LiveTags.{on_ok}
use Rattle.la_orset.proofs.or_set.OrSetReplicated.absorb.Goals as goal

pub returns-in-Put-clause-ok : goal.returns-in-Put-clause-ok
returns-in-Put-clause-ok c =
    let s =
    c.args.self.now in let u = c.args.update.now in let adds = adds_of s.puts in let gone = gone_of s.early s.puts in
    on_ok c.put.result _ _
    (λ p.
    (λ i. Set (p i) ((c.put.ensures.gone ∙ sym (with_ids-nil gone)) i))
    ∙ ap (λ op. Set (with_element adds u.id (element op)) (with_ids gone (named op))) (sym c.in-Put.is))
    c.put.ensures.puts

pub returns-in_default : goal.returns-in_default
returns-in_default c = search (rules, with_ids-nil (gone_of c.args.self.now.early c.args.self.now.puts))
