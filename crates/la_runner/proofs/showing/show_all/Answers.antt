use Rattle.std.proofs.Common.{[], ◌∷◌, ◌++◌, map, refl, subst, sym, inr}
use Rattle.std.specs.List.{All, AllZip}
use Rattle.la_runner.specs.Invariant.{IsMember}
use Rattle.la_runner.specs.Members.{IsOfGroup}
use Rattle.la_runner.specs.Runs.{log_back}
use Rattle.la_runner.specs.Together.{HasSeen, IsSameLog}
use Rattle.la_runner.proofs.Sharing.{all_front, all_last, same_all, seen_all, seen_self}
use Rattle.la_runner.proofs.showing.show_all.Goals as goal

pub show_last-requires-clause-of : goal.show_last-requires-clause-of
show_last-requires-clause-of g c κs within k d lt =
    (all_front (λ l. IsOfGroup c.args.group.now l.member × IsMember l.member) c.in-Some.others.now c.in-Some.last.now
    (subst (All (λ l. IsOfGroup c.args.group.now l.member × IsMember l.member)) c.in-Some.ensures.cases.0 c.requires) k d lt).0

pub show_last-requires-clause-last : goal.show_last-requires-clause-last
show_last-requires-clause-last g c κs within =
    (all_last (λ l. IsOfGroup c.args.group.now l.member × IsMember l.member) c.in-Some.others.now c.in-Some.last.now
    (subst (All (λ l. IsOfGroup c.args.group.now l.member × IsMember l.member)) c.in-Some.ensures.cases.0 c.requires)).0

pub returns-clause-same : goal.returns-clause-same
returns-clause-same g c =
    let all =
    subst (All (λ l. IsOfGroup c.args.group.now l.member × IsMember l.member)) c.in-Some.ensures.cases.0 c.requires in
    subst
    (λ l.
    AllZip IsSameLog (map log_back l)
    (map log_back
    (c.show_last.new.others ++ record c.in-Some.last.now { member = c.show_last.new.last } ∷ [])))
    (sym c.in-Some.ensures.cases.0)
    (subst (λ l. AllZip IsSameLog (map log_back (c.in-Some.others.now ++ c.in-Some.last.now ∷ [])) (map log_back (l ++ record c.in-Some.last.now { member = c.show_last.new.last } ∷ []))) (sym c.show_last.ensures.same)
    (same_all log_back c.in-Some.others.now c.in-Some.last.now (record c.in-Some.last.now { member = c.show_last.new.last })
    (λ k d lt.
    (all_front (λ l. IsOfGroup c.args.group.now l.member × IsMember l.member) c.in-Some.others.now c.in-Some.last.now all
    k d lt).1)
    (record { same_replica = refl; sees = c.show_last.ensures.more; same_shelf = refl; same_entries = refl; same_stopped = refl })))

pub returns-clause-seen : goal.returns-clause-seen
returns-clause-seen g c =
    inr (record {
      witness = c.show_last.new.last;
      is = c.show_last.ensures.more.is;
      sees =
          subst
          (λ l.
          All (λ b. HasSeen b.member c.show_last.new.last)
          (map log_back
          (l ++ record c.in-Some.last.now { member = c.show_last.new.last } ∷ [])))
          (sym c.show_last.ensures.same)
          (seen_all log_back c.in-Some.others.now
          (record c.in-Some.last.now { member = c.show_last.new.last }) c.show_last.new.last
          c.show_last.ensures.shown (seen_self c.show_last.new.last));
    })
