use Rattle.std.proofs.Common.{◌≡◌, ℕ, ◌<◌, List, [], ◌∷◌, Option, None, length, get_or, ◌∙◌, arith}
use Rattle.std.proofs.lemmas.List.{get_or_default}
use Rattle.la_types.specs.declared.multi.Entry.{Entry}
use Rattle.la_types.proofs.MultiBytes.{eight_of}
use Rattle.la_types.proofs.multi.LastWrites.copy.Goals as goal

-- a copy of what stands at a place
at : (of : List (Option Entry)) (k : ℕ) (copy x : Option Entry) → length of ≡ 8 → copy ≡ get_or of k x → k < 8
    → copy ≡ get_or of k None
at of k copy x long is lt = is ∙ get_or_default of k x None (omega arith)

pub returns : goal.returns
returns c =
    (λ i. at c.self.inside.of 0 c.in_ok-copy_of.field-0 c.index-self-0.result c.self.invariant c.in_ok-copy_of.ensures (omega arith) i ∷ at c.self.inside.of 1 c.in_ok-copy_of-2.field-0 c.index-self-1.result c.self.invariant c.in_ok-copy_of-2.ensures (omega arith) i ∷ at c.self.inside.of 2 c.in_ok-copy_of-3.field-0 c.index-self-2.result c.self.invariant c.in_ok-copy_of-3.ensures (omega arith) i ∷ at c.self.inside.of 3 c.in_ok-copy_of-4.field-0 c.index-self-3.result c.self.invariant c.in_ok-copy_of-4.ensures (omega arith) i ∷ at c.self.inside.of 4 c.in_ok-copy_of-5.field-0 c.index-self-4.result c.self.invariant c.in_ok-copy_of-5.ensures (omega arith) i ∷ at c.self.inside.of 5 c.in_ok-copy_of-6.field-0 c.index-self-5.result c.self.invariant c.in_ok-copy_of-6.ensures (omega arith) i ∷ at c.self.inside.of 6 c.in_ok-copy_of-7.field-0 c.index-self-6.result c.self.invariant c.in_ok-copy_of-7.ensures (omega arith) i ∷ at c.self.inside.of 7 c.in_ok-copy_of-8.field-0 c.index-self-7.result c.self.invariant c.in_ok-copy_of-8.ensures (omega arith) i ∷ [])
    ∙ eight_of c.self.inside.of None c.self.invariant ∙ c.self.view_is
