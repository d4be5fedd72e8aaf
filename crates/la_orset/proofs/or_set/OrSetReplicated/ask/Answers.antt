use Rattle.std.proofs.Common.{rules, ◌≡◌, false, true≢false, ◌∙◌, sym, ap, subst}
use Rattle.la_object.specs.declared.kind.Kind.TheVariants.{OrSet}
use Rattle.la_object.specs.declared.query.Answer.TheVariants.{Has as HasIs, Size as SizeIs, Items as ItemsAre}
use Rattle.la_object.specs.Objects.{answers_a_list}
use Rattle.la_object.specs.OrSet.{set_reply}
use Rattle.la_orset.specs.Puts.{adds_of, gone_of}
use Rattle.la_orset.proofs.Held.{has-held, len-elements, keys-elements}
use Rattle.la_orset.proofs.or_set.OrSetReplicated.ask.Goals as goal
use Rattle.la_orset.proofs.or_set.OrSetReplicated.ask.Goals.{in-Has, in-Size, in-Items+in_ok-elements-in-Items, in_default}

pub returns-clause-ok : goal.returns-clause-ok
returns-clause-ok c =
    let s = c.args.self.now in
    elim c.match-query.branch [
      | in-Has w ↦ w.result-is ∙ ap HasIs (w.has.ensures.answer ∙ has-held (adds_of s.puts) (gone_of s.early s.puts) s.live s.indexed w.has.ensures.whole w.in-Has.element) ∙ ap (set_reply (adds_of s.puts) (gone_of s.early s.puts)) (sym w.in-Has.is)
      | in-Size w ↦ w.result-is ∙ ap SizeIs (w.len.ensures.answer ∙ len-elements (adds_of s.puts) (gone_of s.early s.puts) s.live s.indexed w.len.ensures.whole) ∙ ap (set_reply (adds_of s.puts) (gone_of s.early s.puts)) (sym w.in-Size.is)
      | in-Items+in_ok-elements-in-Items w ↦ w.result-is ∙ ap ItemsAre (w.in_ok-elements-in-Items.ensures.answer ∙ keys-elements (adds_of s.puts) (gone_of s.early s.puts) s.live s.indexed w.elements.ensures.whole) ∙ ap (set_reply (adds_of s.puts) (gone_of s.early s.puts)) (sym w.in-Items.is)
      | in_default w ↦ search rules
    ]

pub returns-in_err-elements-in-Items-clause-room : goal.returns-in_err-elements-in-Items-clause-room
returns-in_err-elements-in-Items-clause-room c none =
    absurd (true≢false (subst (λ q. answers_a_list OrSet q ≡ false) c.in-Items.is none))
