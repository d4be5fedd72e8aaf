use Rattle.std.proofs.Common.{ap, sym, ◌∙◌}
use Rattle.la_set.specs.Histories.{updates}
use Rattle.la_object.specs.declared.kind.Kind.TheVariants.{OrSet}
use Rattle.la_object.specs.declared.state.State.TheVariants.{Set}
use Rattle.la_object.specs.Objects.{reply, tags_of}
use Rattle.la_orset.specs.Puts.{adds_of, gone_of}
use Rattle.la_orset.proofs.laws.sets_pass_over_marks_and_votes.Goals as goal

pub returns-clause-steps : goal.returns-clause-steps
returns-clause-steps c set us =
    c.only_own_operations_count.ensures.mark_steps (Set (adds_of set.puts) (gone_of set.early set.puts)) us

pub returns-clause-answers : goal.returns-clause-answers
returns-clause-answers c set view number order query one led =
    ap (λ s. reply s query) led
    ∙ c.order_does_not_matter.ensures.answers OrSet view number order query one
    ∙ sym (c.marks_and_votes_do_not_count.ensures.answers (updates view) number query)

pub returns-clause-tags : goal.returns-clause-tags
returns-clause-tags c set view number order x one led =
    ap (λ s. tags_of s x) led
    ∙ c.order_does_not_matter.ensures.tags OrSet view number order x one
    ∙ sym (c.marks_and_votes_do_not_count.ensures.tags (updates view) number x)
