-- What a run is begun with.
use Rattle.std.proofs.Common.{◌≡◌, ◌∙◌, ℕ, ◌+◌, ◌≤◌, List, [], ◌∷◌, length, take, replicate, ap, sym, arith}
use Rattle.std.specs.List.{All}
use Rattle.std.proofs.lemmas.List.{length-replicate, length-take-le}
use Rattle.std.proofs.lemmas.List.Elements.{All-nil, All-cons, All-take}
use Rattle.la_set.specs.Histories.{empty}
use Rattle.la_object.specs.Shelves.{ShelfState}
use Rattle.la_runner.specs.Members.{MemberState, GroupState, IsOfGroup}
use Rattle.la_runner.specs.Runs.{IsRunConfig}
use Rattle.la_runner.specs.Starting.{AreMembersFrom, IsAcceptorGroup}
use Rattle.la_cli.specs.Play.{FitAnyGroup}

-- new members of a group are of it
pub all_are_of : (group : GroupState) (cap r : ℕ) (ms : List MemberState) → AreMembersFrom group cap r ms
    → All (IsOfGroup group) ms
all_are_of group cap r [] are = All-nil (IsOfGroup group)
all_are_of group cap r (m ∷ ms) are = All-cons (IsOfGroup group) m ms are.0.of (all_are_of group cap (r + 1) ms are.1)

-- as many of each as the group has replicas, and unused shelves
pub can_run : (n : ℕ) (group : GroupState) (members jobs : ℕ) (shelves : List ShelfState)
    → IsAcceptorGroup n 0 (replicate n 1) group → n ≤ 8 → members ≡ n → jobs ≡ n → FitAnyGroup shelves
    → IsRunConfig (length group.votes) members jobs (take n shelves)
can_run n group members jobs shelves is few count each fit =
    let votes : length group.votes ≡ n = ap length is.votes ∙ length-replicate n 1 in
    record {
      each_member = count ∙ sym votes;
      each_jobs = each ∙ sym votes;
      each_shelf = length-take-le n shelves (omega (arith, few, fit.eight)) ∙ sym votes;
      unused = All-take (λ (s : ShelfState). s.view ≡ empty) n shelves fit.unused;
    }
