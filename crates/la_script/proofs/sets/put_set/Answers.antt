use Rattle.std.proofs.Common.{◌≡◌, ◌++◌, codes, ap, ◌∙◌, arith, append_assoc}
use Rattle.std.proofs.lemmas.Result.{on_ok_weaker}
use Rattle.la_set.specs.Counts.{count_in}
use Rattle.la_set.specs.Histories.{count}
use Rattle.la_set.proofs.lemmas.Counting.{count_in-counts_of}
use Rattle.la_script.specs.Text.{ids_text, ids_of, set_text}
use Rattle.la_script.specs.Pieces.{front, ids_before}
use Rattle.la_script.proofs.SetIds.{ids-all, text_more, behind_more}
use Rattle.la_script.proofs.sets.put_set.Goals as goal
use Rattle.la_script.proofs.sets.put_set.Goals.{After-push_ascii-2}

all : (c : After-push_ascii-2) → c.loop-replica.out ++ codes "}" ≡ c.args.out.now ++ set_text c.args.set.now
all c =
    let s = c.args.set.now in
    let old = c.args.out.now in
    let eight : c.loop-replica.replica ≡ 8 = omega arith in
    ap (λ t. t ++ codes "}")
    (c.loop-replica.invariant.text
    ∙ ap (λ t. t ++ ids_text (ids_before (count s) c.loop-replica.replica)) c.in_ok-push_ascii.ensures
    ∙ ap (λ k. (old ++ codes "{") ++ ids_text (ids_before (count s) k)) eight
    ∙ ap (λ ids. (old ++ codes "{") ++ ids_text ids) (ids-all s))
    ∙ append_assoc (old ++ codes "{") (ids_text (ids_of s)) (codes "}")
    ∙ append_assoc old (codes "{") (ids_text (ids_of s) ++ codes "}")

pub returns : goal.returns
returns c = on_ok_weaker c.push_ascii-2.result (λ e. e ∙ all c) c.push_ascii-2.ensures

pub loop-replica-preserved : goal.loop-replica-preserved
loop-replica-preserved c =
    let s = c.args.set.now in
    let r = c.loop-replica.replica in
    let n = c.of-count.result in
    let behind = c.loop-replica.behind in
    let before = ids_text (ids_before (count s) r) in
    let is : n ≡ count s r =
    c.of-count.ensures ∙ ap (λ k. count_in k r) c.counts-counts.ensures.counts ∙ count_in-counts_of s r in
    record {
      text =
          c.in_ok-push_ids.ensures ∙ ap (λ t. t ++ front behind r n) c.loop-replica.invariant.text
          ∙ append_assoc (c.push_ascii.new.self) before (front behind r n)
          ∙ ap (λ t. c.push_ascii.new.self ++ t) (text_more (count s) r n behind is c.loop-replica.invariant.behind);
      behind = behind_more (count s) r n behind is c.loop-replica.invariant.behind;
    }
