use Rattle.std.proofs.Common.{rules, ◌≡◌, ◌<◌, [], true, false, sym, ◌∙◌}
use Rattle.std.proofs.lemmas.Bool.{true≢false, cond-true}
use Rattle.std.specs.List.{range_with_len}
use Rattle.std.specs.Prelude.{map, filter}
use Rattle.la_replica.specs.Whole.{whole_of, whole_mail}
use Rattle.la_replica.specs.Messages.{offer_to}
use Rattle.la_replica.specs.Again.{is_unanswered, last_ballot}
use Rattle.la_set.specs.declared.counts.Counts.{Counts}
use Rattle.la_replica.specs.Bases.{IsToldBy}
use Rattle.la_replica.proofs.Sending.{put_last, told_last, one_more_passes, one_less, none_passes}
use Rattle.la_replica.proofs.sender.Sender.offer_again.Goals as goal

pub loop-to-preserved-then-has_counted : goal.loop-to-preserved-then-has_counted
loop-to-preserved-then-has_counted c =
    let p = c.args.proposer.now in let f = offer_to c.args.self.now (last_ballot p) in let k = c.loop-to.to in
    let answered : is_unanswered p (f k) ≡ false = search rules in (
      one_less f (whole_mail c.loop-to.mail) (whole_mail c.args.mail.now) k (is_unanswered p) answered
          c.loop-to.invariant.0,
      c.loop-to.invariant.1,
    )

pub loop-to-preserved : goal.loop-to-preserved
loop-to-preserved c =
    let p = c.args.proposer.now in let f = offer_to c.args.self.now (last_ballot p) in let k = c.loop-to.to in
    let sent : whole_of c.message.result ≡ f k = search rules in
    let unanswered : is_unanswered p (f k) ≡ true = search rules in
    let told : (offered : Counts) → IsToldBy p c.args.self.now.instance offered c.message.result = search rules in (
      put_last c.loop-to.mail c.push.new.self c.message.result (f k) c.in_ok-push.ensures.ok sent
          ∙ one_more_passes f (whole_mail c.loop-to.mail) (whole_mail c.args.mail.now) k (is_unanswered p) unanswered
          c.loop-to.invariant.0,
      λ offered.
          told_last p c.args.self.now.instance offered c.args.mail.now c.loop-to.mail c.push.new.self c.message.result
          c.in_ok-push.ensures.ok (told offered) (c.loop-to.invariant.1 offered),
    )

pub returns-in_err-delta-clause-nothing : goal.returns-in_err-delta-clause-nothing
returns-in_err-delta-clause-nothing c = λ none.
    let s =
    c.args.self.now in let p = c.args.proposer.now in let f = offer_to s (last_ballot p) in let k = c.loop-to.to in
    let asks : p.is_asking ≡ true = search rules in
    let lt : k < s.replicas = search rules in
    let unanswered : is_unanswered p (f k) ≡ true = search rules in
    let all = filter (is_unanswered p) (map f (range_with_len 0 s.replicas)) in
    absurd
    (true≢false
    (sym unanswered
    ∙ none_passes (is_unanswered p) f s.replicas k lt (sym (cond-true p.is_asking all [] asks) ∙ none)))

pub returns-in_err-push-clause-nothing : goal.returns-in_err-push-clause-nothing
returns-in_err-push-clause-nothing c = λ none.
    let s =
    c.args.self.now in let p = c.args.proposer.now in let f = offer_to s (last_ballot p) in let k = c.loop-to.to in
    let asks : p.is_asking ≡ true = search rules in
    let lt : k < s.replicas = search rules in
    let unanswered : is_unanswered p (f k) ≡ true = search rules in
    let all = filter (is_unanswered p) (map f (range_with_len 0 s.replicas)) in
    absurd
    (true≢false
    (sym unanswered
    ∙ none_passes (is_unanswered p) f s.replicas k lt (sym (cond-true p.is_asking all [] asks) ∙ none)))
