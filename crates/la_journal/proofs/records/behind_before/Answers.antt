use Rattle.std.proofs.Common.{◌≡◌, ℕ, List, [], ◌∷◌, ◌++◌, rules, ◌∙◌, ap}
use Rattle.std.specs.Fmt.{decimal}
use Rattle.la_journal.proofs.Digests.{has_space, behind_same, match_option}
use Rattle.la_journal.proofs.records.behind_before.Goals as goal

pub returns-in_err-rest-3 : goal.returns-in_err-rest-3
returns-in_err-rest-3 c =
    let count = decimal c.args.count in
    let first : c.args.line.now ≡ 126 ∷ 32 ∷ c.in_ok-rest.rest.now = search rules in
    let next : c.in_ok-rest.rest.now ≡ count ++ c.in_ok-rest-2.rest.now = search rules in
    rw c.from_residual-in_err-rest-3.ensures
    (λ end is. c.in_err-rest-3.ensures (c.args.before.now ++ end)
    (has_space count c.args.before.now c.args.line.now c.in_ok-rest.rest.now c.in_ok-rest-2.rest.now end first next is))

pub returns : goal.returns
returns c =
    let count = decimal c.args.count in
    let first : c.args.line.now ≡ 126 ∷ 32 ∷ c.in_ok-rest.rest.now = search rules in
    let next : c.in_ok-rest.rest.now ≡ count ++ c.in_ok-rest-2.rest.now = search rules in
    let third : c.in_ok-rest-2.rest.now ≡ 32 ∷ c.in_ok-rest-3.rest.now = search rules in
    let front = λ (l : List ℕ). 126 ∷ 32 ∷ (count ++ 32 ∷ l) in
    match_option c.after-4.result _ _ _ _
    (λ none end is. none end
    (behind_same (32 ∷ []) c.in_ok-rest-2.rest.now c.in_ok-rest-3.rest.now (c.args.before.now ++ end) third
    (has_space count c.args.before.now c.args.line.now c.in_ok-rest.rest.now c.in_ok-rest-2.rest.now end first next
    is)))
    (λ x some. first ∙ ap (λ (l : List ℕ). 126 ∷ 32 ∷ l) (next ∙ ap (λ (l : List ℕ). count ++ l) third) ∙ ap front some)
    c.after-4.ensures
