use Rattle.std.proofs.Common.{◌≡◌, ◌∙◌, ◌++◌, map, ap, subst, sym, rules}
use Rattle.std.proofs.lemmas.Result.{on_ok_weaker}
use Rattle.la_set.specs.Counts.{HasCounts}
use Rattle.la_set.specs.Deltas.{DeltaState}
use Rattle.la_wire.specs.Updates.{update_text}
use Rattle.la_wire.specs.Joined.{spaced, joined_by}
use Rattle.la_wire.specs.States.{instance_head_of, asking_words, told_words, tally_words}
use Rattle.la_wire.proofs.StateSets.{zero_had}
use Rattle.la_wire.proofs.StateTexts.{section_written}
use Rattle.la_wire.proofs.states.writing.put_section.Goals as goal

pub over-requires : goal.over-requires
over-requires c = subst (HasCounts c.args.union.now) (sym c.zero.ensures) (zero_had c.args.union.now)

pub returns : goal.returns
returns c =
    let head = instance_head_of c.args.instance.now in
    let asks : c.put_asking.new.out.items ≡ c.push.new.self.items ++ joined_by 32 (asking_words head) =
    search rules in
    let told : c.put_told.new.out.items ≡ c.put_asking.new.out.items ++ spaced 32 (told_words head) =
    search rules in
    let tally : c.put_tally.new.out.items
    ≡ c.put_told.new.out.items ++ spaced 32 (tally_words c.args.instance.now.proposer.tally) = search rules in
    on_ok_weaker c.put_delta.result
    (λ written.
    section_written c.args.instance.now c.args.union.now c.zero.result c.args.out.now.items c.push.new.self.items
    c.put_asking.new.out.items c.put_told.new.out.items c.put_tally.new.out.items c.put_delta.new.out.items
    c.zero.ensures c.in_ok-push.ensures.items asks told tally
    (written
    ∙ ap (λ (d : DeltaState). c.put_tally.new.out.items ++ spaced 59 (map update_text d.more)) c.in_ok-all.ensures))
    c.put_delta.ensures.exact
