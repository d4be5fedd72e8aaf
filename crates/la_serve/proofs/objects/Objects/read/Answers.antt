use Rattle.std.proofs.Common.{rules, tests, eqb, refl, sym, ap, ◌∙◌, [], Some}
use denote.Param.Always.{mut_total}
use Rattle.std.proofs.lemmas.Iterator.Splits.{YieldsList-from_slice_split}
use Rattle.std.specs.List.{slice_split}
use Rattle.std.specs.Slice.Iter as slice
use Rattle.la_serve.specs.Objects.{are_for_a_shelf}
use Rattle.la_serve.proofs.ObjectTexts.{behind, reads_next, reads_none, reads_unfit, reads_all}
use Rattle.la_serve.proofs.objects.Objects.read.Goals as goal

pub loop-part-init : goal.loop-part-init
loop-part-init c =
    let same = c.into_iter-part-iterator.ensures.into_iter_gives in (
      mut_total _ _ (λ s a. tt),
      search rules,
      record {
        left = slice_split (λ b. eqb b 44) c.args.text.now;
        yields =
            (YieldsList-from_slice_split _ (λ b. eqb b 44) c.args.text.now
            (ap slice.split_rest same ∙ c.split-part-items.ensures.rest ∙ c.as_bytes.ensures.value)
            (ap slice.split_done same ∙ c.split-part-items.ensures.done)
            (ap slice.split_callee same ∙ c.split-part-items.ensures.closure) (λ x b q h. search (rules, tests))).runs;
        before = [];
        parts = refl;
        read = ap Some (sym c.new-objects.ensures);
        said = ap (λ os. behind os (slice_split (λ b. eqb b 44) c.args.text.now)) (sym c.new-objects.ensures);
        fits = ap are_for_a_shelf c.new-objects.ensures;
      },
    )

pub returns-in_err-number-clause-none : goal.returns-in_err-number-clause-none
returns-in_err-number-clause-none c =
    let both = reads_none _ c.args.text.now c.loop-part.part-iterator c.next.new.self c.in-Some.part c.loop-part.objects
    c.loop-part.invariant.2 c.in-Some.ensures.steps c.in_err-number.ensures.none c.in_err-number.field-0.0
    c.in_err-number.ensures.unfit in
    let none = both.0 in
    search rules

pub returns-in_err-number-clause-unfit : goal.returns-in_err-number-clause-unfit
returns-in_err-number-clause-unfit c =
    let both = reads_none _ c.args.text.now c.loop-part.part-iterator c.next.new.self c.in-Some.part c.loop-part.objects
    c.loop-part.invariant.2 c.in-Some.ensures.steps c.in_err-number.ensures.none c.in_err-number.field-0.0
    c.in_err-number.ensures.unfit in
    let unfit = both.1 in
    search rules

pub returns-in_err-add-clause-none : goal.returns-in_err-add-clause-none
returns-in_err-add-clause-none c =
    let both = reads_unfit _ c.args.text.now c.loop-part.part-iterator c.next.new.self c.in-Some.part
    c.loop-part.objects (c.in_ok-number.number, c.in_ok-number.kind) c.loop-part.invariant.2 c.in-Some.ensures.steps
    c.in_ok-number.ensures.ok c.in_err-add.ensures.not c.in_err-add.field-0.0 c.in_err-add.ensures.unfit in
    let none = both.0 in
    search rules

pub returns-in_err-add-clause-unfit : goal.returns-in_err-add-clause-unfit
returns-in_err-add-clause-unfit c =
    let both = reads_unfit _ c.args.text.now c.loop-part.part-iterator c.next.new.self c.in-Some.part
    c.loop-part.objects (c.in_ok-number.number, c.in_ok-number.kind) c.loop-part.invariant.2 c.in-Some.ensures.steps
    c.in_ok-number.ensures.ok c.in_err-add.ensures.not c.in_err-add.field-0.0 c.in_err-add.ensures.unfit in
    let unfit = both.1 in
    search rules

pub loop-part-preserved : goal.loop-part-preserved
loop-part-preserved c = (
  search rules,
  search rules,
  reads_next _ c.args.text.now c.loop-part.part-iterator c.next.new.self c.in-Some.part c.loop-part.objects
      c.add.new.self (c.in_ok-number.number, c.in_ok-number.kind) c.loop-part.invariant.2 c.in-Some.ensures.steps
      c.in_ok-number.ensures.ok c.in_ok-add.ensures.fits c.in_ok-add.ensures.added,
)

pub returns-clause-ok : goal.returns-clause-ok
returns-clause-ok c =
    reads_all _ c.args.text.now c.loop-part.part-iterator c.next.new.self c.loop-part.objects c.loop-part.invariant.2
    c.in-None.ensures.steps
