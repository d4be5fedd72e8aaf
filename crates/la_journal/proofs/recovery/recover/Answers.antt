use Rattle.std.proofs.Common.{◌≡◌, List, ℕ, Some, take, drop, sym, ◌∙◌, ap, subst, rules}
use Rattle.la_journal.specs.Records.{parts}
use Rattle.la_journal.specs.Journal.{lines}
use Rattle.la_journal.specs.Machine.{state_after}
use Rattle.la_journal.specs.Playing.{IsPlayed, aside_after, IsSetAsideFirst, rest_in}
use Rattle.la_journal.proofs.Recovering.{ok_both, ok_one, ok_three, err_one, played_whole, played_rest, played_lines, played_leads, is_settled, leaves_same}
use Rattle.la_journal.proofs.recovery.recover.Goals as goal

pub settle-requires : goal.settle-requires
settle-requires g c =
    let front : c.split_at.result.0.now ≡ take c.in-Ok-play.played.end (g.D.Disk.seen c.args.disk) = search rules in
    let played : IsPlayed c.in-Ok.head.items (g.D.Disk.seen c.args.disk) c.in-Ok-play.played.end
    c.in-Ok-play.played.last = search rules in
    played_whole c.in-Ok.head.items c.in-Ok-play.played.last (g.D.Disk.seen c.args.disk) c.split_at.result.0.now
    c.in-Ok-play.played.end played front

pub returns-in-Ok-play-clause-leads : goal.returns-in-Ok-play-clause-leads
returns-in-Ok-play-clause-leads g c =
    let front : c.split_at.result.0.now ≡ take c.in-Ok-play.played.end (g.D.Disk.seen c.args.disk) = search rules in
    let played : IsPlayed c.in-Ok.head.items (g.D.Disk.seen c.args.disk) c.in-Ok-play.played.end
    c.in-Ok-play.played.last = search rules in
    let same : state_after g.M.Machine.head g.M.Machine.named_state g.M.Machine.named g.M.Machine.step
    (g.M.Machine.state c.args.start) c.split_at.result.0.now
    ≡ state_after g.M.Machine.head g.M.Machine.named_state g.M.Machine.named g.M.Machine.step
    (g.M.Machine.state c.args.start) (g.D.Disk.seen c.args.disk) =
    played_leads c.in-Ok.head.items c.in-Ok-play.played.last (g.D.Disk.seen c.args.disk) c.split_at.result.0.now
    c.in-Ok-play.played.end played front g.M.Machine.head g.M.Machine.named_state g.M.Machine.named g.M.Machine.step
    (g.M.Machine.state c.args.start) c.in-Ok.ensures in
    let led : state_after g.M.Machine.head g.M.Machine.named_state g.M.Machine.named g.M.Machine.step
    (g.M.Machine.state c.args.start) (g.D.Disk.seen c.args.disk)
    ≡ Some (g.M.Machine.state c.play.new.machine) = search rules in
    ok_both c.settle.result _ _ _
    (λ d made written.
    ap (state_after g.M.Machine.head g.M.Machine.named_state g.M.Machine.named g.M.Machine.step
    (g.M.Machine.state c.args.start)) written ∙ same ∙ led ∙ ap (λ m. Some (g.M.Machine.state m)) (sym made.0))
    c.settle.ensures.made c.settle.ensures.written

pub returns-in-Ok-play-clause-settled : goal.returns-in-Ok-play-clause-settled
returns-in-Ok-play-clause-settled g c =
    let front : c.split_at.result.0.now ≡ take c.in-Ok-play.played.end (g.D.Disk.seen c.args.disk) = search rules in
    let played : IsPlayed c.in-Ok.head.items (g.D.Disk.seen c.args.disk) c.in-Ok-play.played.end
    c.in-Ok-play.played.last = search rules in
    let whole =
    played_whole c.in-Ok.head.items c.in-Ok-play.played.last (g.D.Disk.seen c.args.disk) c.split_at.result.0.now
    c.in-Ok-play.played.end played front in
    ok_three c.settle.result _ _ _ _
    (λ d made written stored.
    (made.1, is_settled g.D.Disk.seen g.D.Disk.may_leave _ _ _ d.disk whole written stored))
    c.settle.ensures.made c.settle.ensures.written c.settle.ensures.stored

pub returns-in-Ok-play-clause-same : goal.returns-in-Ok-play-clause-same
returns-in-Ok-play-clause-same g c =
    let front : c.split_at.result.0.now ≡ take c.in-Ok-play.played.end (g.D.Disk.seen c.args.disk) = search rules in
    let played : IsPlayed c.in-Ok.head.items (g.D.Disk.seen c.args.disk) c.in-Ok-play.played.end
    c.in-Ok-play.played.last = search rules in
    ok_one c.settle.result _ _
    (λ d written.
    ap lines written
    ∙ played_lines c.in-Ok.head.items c.in-Ok-play.played.last (g.D.Disk.seen c.args.disk) c.split_at.result.0.now
    c.in-Ok-play.played.end played front)
    c.settle.ensures.written

pub returns-in-Ok-play-clause-aside : goal.returns-in-Ok-play-clause-aside
returns-in-Ok-play-clause-aside g c =
    let front : c.split_at.result.0.now ≡ take c.in-Ok-play.played.end (g.D.Disk.seen c.args.disk) = search rules in
    let back : c.split_at.result.1.now ≡ drop c.in-Ok-play.played.end (g.D.Disk.seen c.args.disk) = search rules in
    let played : IsPlayed c.in-Ok.head.items (g.D.Disk.seen c.args.disk) c.in-Ok-play.played.end
    c.in-Ok-play.played.last = search rules in
    let rest : c.split_at.result.1.now ≡ rest_in (parts (g.D.Disk.seen c.args.disk)) =
    back ∙ played_rest c.in-Ok.head.items c.in-Ok-play.played.last (g.D.Disk.seen c.args.disk)
    c.split_at.result.0.now c.in-Ok-play.played.end played front in
    ok_one c.settle.result _ _
    (λ d aside. aside ∙ ap (λ (cut : List ℕ). aside_after cut (g.D.Disk.aside c.args.disk)) rest)
    c.settle.ensures.aside

pub returns-in-Ok-play-clause-aside_first : goal.returns-in-Ok-play-clause-aside_first
returns-in-Ok-play-clause-aside_first g c =
    let front : c.split_at.result.0.now ≡ take c.in-Ok-play.played.end (g.D.Disk.seen c.args.disk) = search rules in
    let back : c.split_at.result.1.now ≡ drop c.in-Ok-play.played.end (g.D.Disk.seen c.args.disk) = search rules in
    let played : IsPlayed c.in-Ok.head.items (g.D.Disk.seen c.args.disk) c.in-Ok-play.played.end
    c.in-Ok-play.played.last = search rules in
    let rest : c.split_at.result.1.now ≡ rest_in (parts (g.D.Disk.seen c.args.disk)) =
    back ∙ played_rest c.in-Ok.head.items c.in-Ok-play.played.last (g.D.Disk.seen c.args.disk)
    c.split_at.result.0.now c.in-Ok-play.played.end played front in
    err_one c.settle.result _ _
    (λ e first.
    subst
    (λ (cut : List ℕ).
    IsSetAsideFirst (g.D.Disk.seen c.args.disk) (g.D.Disk.seen e.1) (aside_after cut (g.D.Disk.aside c.args.disk))
    (g.D.Disk.aside e.1)) rest first)
    c.settle.ensures.aside_first

pub returns-in-Ok-play-clause-any_moment : goal.returns-in-Ok-play-clause-any_moment
returns-in-Ok-play-clause-any_moment g c =
    let front : c.split_at.result.0.now ≡ take c.in-Ok-play.played.end (g.D.Disk.seen c.args.disk) = search rules in
    let played : IsPlayed c.in-Ok.head.items (g.D.Disk.seen c.args.disk) c.in-Ok-play.played.end
    c.in-Ok-play.played.last = search rules in
    let same : state_after g.M.Machine.head g.M.Machine.named_state g.M.Machine.named g.M.Machine.step
    (g.M.Machine.state c.args.start) c.split_at.result.0.now
    ≡ state_after g.M.Machine.head g.M.Machine.named_state g.M.Machine.named g.M.Machine.step
    (g.M.Machine.state c.args.start) (g.D.Disk.seen c.args.disk) =
    played_leads c.in-Ok.head.items c.in-Ok-play.played.last (g.D.Disk.seen c.args.disk) c.split_at.result.0.now
    c.in-Ok-play.played.end played front g.M.Machine.head g.M.Machine.named_state g.M.Machine.named g.M.Machine.step
    (g.M.Machine.state c.args.start) c.in-Ok.ensures in
    ok_one c.settle.result _ _
    (λ d leaves.
    leaves_same g.D.Disk.moment g.D.Disk.left_since c.args.disk d.disk (g.D.Disk.may_leave c.args.disk)
    (state_after g.M.Machine.head g.M.Machine.named_state g.M.Machine.named g.M.Machine.step
    (g.M.Machine.state c.args.start)) (g.D.Disk.seen c.args.disk) _ same leaves) c.settle.ensures.any_moment

pub returns-in-Ok-play-clause-any_moment_err : goal.returns-in-Ok-play-clause-any_moment_err
returns-in-Ok-play-clause-any_moment_err g c =
    let front : c.split_at.result.0.now ≡ take c.in-Ok-play.played.end (g.D.Disk.seen c.args.disk) = search rules in
    let played : IsPlayed c.in-Ok.head.items (g.D.Disk.seen c.args.disk) c.in-Ok-play.played.end
    c.in-Ok-play.played.last = search rules in
    let same : state_after g.M.Machine.head g.M.Machine.named_state g.M.Machine.named g.M.Machine.step
    (g.M.Machine.state c.args.start) c.split_at.result.0.now
    ≡ state_after g.M.Machine.head g.M.Machine.named_state g.M.Machine.named g.M.Machine.step
    (g.M.Machine.state c.args.start) (g.D.Disk.seen c.args.disk) =
    played_leads c.in-Ok.head.items c.in-Ok-play.played.last (g.D.Disk.seen c.args.disk) c.split_at.result.0.now
    c.in-Ok-play.played.end played front g.M.Machine.head g.M.Machine.named_state g.M.Machine.named g.M.Machine.step
    (g.M.Machine.state c.args.start) c.in-Ok.ensures in
    err_one c.settle.result _ _
    (λ d leaves.
    leaves_same g.D.Disk.moment g.D.Disk.left_since c.args.disk d.1 (g.D.Disk.may_leave c.args.disk)
    (state_after g.M.Machine.head g.M.Machine.named_state g.M.Machine.named g.M.Machine.step
    (g.M.Machine.state c.args.start)) (g.D.Disk.seen c.args.disk) _ same leaves)
    c.settle.ensures.any_moment_err
