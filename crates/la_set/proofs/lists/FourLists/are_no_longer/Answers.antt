use Rattle.std.proofs.Common.{[], get_or, length, ap, arith, inl, inr, refl}
use Rattle.std.proofs.lemmas.Bool.{cases_eq, false≢true}
use Rattle.la_set.proofs.lists.FourLists.are_no_longer.Goals as goal

pub loop-place-init : goal.loop-place-init
loop-place-init c r lt = absurd (omega arith)

pub loop-place-preserved : goal.loop-place-preserved
loop-place-preserved c r lt = elim (cases_eq r c.loop-place.place) [
  | inl e ↦
      let mine = ap (λ q. length (get_or c.args.self.now q [])) e in
      let theirs = ap (λ q. length (get_or c.args.others.now q [])) e in
      omega (arith, mine, theirs, c.len_of.ensures, c.len_of-in-loop-place.ensures, c.if-len_of.false)
  | inr ne ↦ c.loop-place.invariant r (omega arith)
]

pub returns-then-len_of : goal.returns-then-len_of
returns-then-len_of c = (
  (λ yes. absurd (false≢true yes)),
  λ all.
      let few = all c.loop-place.place (omega arith) in
      absurd (omega (arith, few, c.if-len_of.true, c.len_of.ensures, c.len_of-in-loop-place.ensures)),
)

pub returns : goal.returns
returns c = ((λ _ r lt. c.loop-place.invariant r (omega arith)), λ _. refl)
