use Rattle.std.proofs.Common.{◌<◌, ◌+◌, map, length, sym, subst, arith, ◌∙◌}
use Rattle.la_set.specs.Histories.{empty}
use Rattle.la_runner.specs.Counted.{log_taker}
use Rattle.la_runner.specs.Members.{member_view}
use Rattle.la_runner.proofs.Keeping.{long_map}
use Rattle.std.specs.List.{slice_index_or}
use Rattle.la_runner.proofs.Counting.{Counting, own_passed, one_counted, one_missing, any_default, met_at, one_exactly, none_exactly, own_not, other_met}
use Rattle.la_runner.proofs.runs.count_notes.Goals as goal
use Rattle.la_runner.proofs.runs.count_notes.Goals.{then-other-at+then-has_met, else-other-at, else-other-at-via-then-other-at+else-has_met, else-other-at-via-else-other-at}

pub loop-other-preserved : goal.loop-other-preserved
loop-other-preserved g c =
    let there : c.args.at < length c.args.logs.now.items = omega (arith, c.requires.there, c.args.logs.now.ok.0) in
    let here : c.loop-other.other < length c.args.logs.now.items =
    omega (arith, c.loop-other-test.true, c.len-other-end.ensures, c.args.logs.now.ok.0) in
    let long = long_map (λ x. member_view x.member) c.args.logs.now.items in
    elim c.if-other-at.branch [
      | then-other-at+then-has_met w ↦ record {
        above =
            subst (Counting (map (λ x. member_view x.member) c.args.logs.now.items) c.args.at (c.loop-other.other + 1))
            (sym w.count-is)
            (one_counted (map (λ x. member_view x.member) c.args.logs.now.items) c.args.at c.loop-other.other c.loop-other.count c.loop-other.invariant.above (λ e. omega (arith, e, w.if-other-at.true))
            (met_at (λ x. member_view x.member) c.args.logs.now.items c.args.at c.loop-other.other w.index.result.now w.index-then-other-at.result.now there here w.index.ensures w.index-then-other-at.ensures (w.has_met.ensures.contains w.if-has_met.true)));
        exactly =
            one_exactly (map log_taker c.args.logs.now.items) c.args.at
            c.loop-other.other c.loop-other.count _ c.loop-other.invariant.exactly
            (other_met log_taker c.args.logs.now.items c.args.at c.loop-other.other
            w.index.result.now w.index-then-other-at.result.now there here w.index.ensures
            w.index-then-other-at.ensures (λ e. omega (arith, e, w.if-other-at.true)) _ w.has_met.ensures.value
            ∙ w.if-has_met.true)
            w.count-is;
      }
      | else-other-at w ↦ elim w.else-other-at.branch [
        | else-other-at-via-then-other-at+else-has_met v ↦ record {
          above =
              subst (Counting (map (λ x. member_view x.member) c.args.logs.now.items) c.args.at (c.loop-other.other + 1))
              (sym w.count-is)
              (one_missing (map (λ x. member_view x.member) c.args.logs.now.items) c.args.at c.loop-other.other
              c.loop-other.count c.loop-other.invariant.above (λ e. omega (arith, e, v.if-other-at.true)));
          exactly =
              none_exactly (map log_taker c.args.logs.now.items) c.args.at
              c.loop-other.other c.loop-other.count _ c.loop-other.invariant.exactly
              (other_met log_taker c.args.logs.now.items c.args.at
              c.loop-other.other v.index.result.now v.index-then-other-at.result.now there here v.index.ensures
              v.index-then-other-at.ensures (λ e. omega (arith, e, v.if-other-at.true)) _ v.has_met.ensures.value
              ∙ v.if-has_met.false)
              w.count-is;
        }
        | else-other-at-via-else-other-at v ↦ record {
          above =
              subst (Counting (map (λ x. member_view x.member) c.args.logs.now.items) c.args.at (c.loop-other.other + 1))
              (sym w.count-is)
              (own_passed (map (λ x. member_view x.member) c.args.logs.now.items) c.args.at c.loop-other.other c.loop-other.count c.loop-other.invariant.above (slice_index_or (map (λ x. member_view x.member) c.args.logs.now.items) c.loop-other.other empty) (omega (arith, v.if-other-at.false))
              (λ d. any_default (map (λ x. member_view x.member) c.args.logs.now.items) c.loop-other.other (omega (arith, here, long)) d empty));
          exactly =
              none_exactly (map log_taker c.args.logs.now.items) c.args.at
              c.loop-other.other c.loop-other.count _ c.loop-other.invariant.exactly
              (own_not (map log_taker c.args.logs.now.items) c.args.at
              c.loop-other.other (omega (arith, v.if-other-at.false)))
              w.count-is;
        }
      ]
    ]
