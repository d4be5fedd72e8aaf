use Rattle.std.proofs.Common.{◌≡◌, ◌≤◌, ℕ, length, take, true, ap, ◌∙◌, arith, length-take}
use Rattle.la_script.specs.Pieces.{front}
use Rattle.la_script.proofs.IdFronts.{front_some, end_within, kept-front}
use Rattle.la_script.proofs.id_text.IdText.first.Goals as goal
use Rattle.la_script.proofs.id_text.IdText.first.Goals.{After-index}

pub slice_bounds-result-end : goal.slice_bounds-result-end
slice_bounds-result-end c =
    let all : length c.self.inside.ends.items ≡ c.args.self.now.1 = ap (λ (t : ℕ × ℕ). t.1) c.self.view_is in
    let le : c.args.count ≤ length c.self.inside.ends.items = omega arith in
    let within =
    end_within c.self.inside.replica c.self.inside.text.items c.self.inside.ends.items c.self.invariant c.args.count
    c.index.result.now c.requires.some le c.index.ensures in
    omega (arith, within, ap length c.deref.ensures.value, length-take c.index.result.now c.deref.result.now)

is_front : (c : After-index) → take c.index.result.now c.deref.result.now ≡ front true c.args.self.now.0 c.args.count
is_front c =
    let all : length c.self.inside.ends.items ≡ c.args.self.now.1 = ap (λ (t : ℕ × ℕ). t.1) c.self.view_is in
    let le : c.args.count ≤ length c.self.inside.ends.items = omega arith in
    let whose : c.self.inside.replica ≡ c.args.self.now.0 = ap (λ (t : ℕ × ℕ). t.0) c.self.view_is in
    rw c.deref.ensures.value
    (kept-front c.self.inside.replica c.self.inside.text.items c.self.inside.ends.items c.self.invariant c.args.count c.index.result.now c.requires.some le c.index.ensures
    ∙ ap (λ r. front true r c.args.count) whose)

pub returns-clause-ids : goal.returns-clause-ids
returns-clause-ids c = is_front (goal.at-returns-clause-ids c).After-index

pub returns-clause-some : goal.returns-clause-some
returns-clause-some c =
    let is : length (take c.index.result.now c.deref.result.now) ≡ length (front true c.args.self.now.0 c.args.count) =
    ap length (is_front (goal.at-returns-clause-some c).After-index) in
    omega (arith, front_some true c.args.self.now.0 c.args.count c.requires.some)
