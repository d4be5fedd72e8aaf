-- Whether an operation is one of an object's, by what the object answers.
use Rattle.std.proofs.Common.{◌≡◌, Bool, true, false, not, cond, List, Option, Some, None, option_map, refl, sym, ap}
use Rattle.std.proofs.Common.{subst, ◌∙◌}
use Rattle.std.proofs.lemmas.Bool.{true≢false, false≢true}
use Rattle.std.proofs.lemmas.Option.{none-some, same_Some}
use Rattle.la_set.specs.declared.update.Op.{Op}
use Rattle.la_set.specs.declared.update.Op.TheVariants as op
use Rattle.la_set.specs.declared.update.Update.{Update}
use Rattle.la_object.specs.declared.kind.Kind.{Kind}
use Rattle.la_object.specs.declared.kind.Kind.TheVariants as kind
use Rattle.la_object.specs.declared.query.Answer.{Answer}
use Rattle.la_object.specs.declared.query.Answer.TheVariants as answer
use Rattle.la_object.specs.declared.query.Query.{Query}
use Rattle.la_object.specs.declared.query.Query.TheVariants as query
use Rattle.la_object.specs.Objects.{value}
use Rattle.la_serve.specs.declared.said.Why.TheVariants as why
use Rattle.la_serve.specs.Said.{object_takes, query_for, unfit_here}

abbrev is_foreign : Answer → Bool
is_foreign answer.Foreign = true
is_foreign _ = false

module _ (us : List Update) where
  -- what an object of a kind answers to the query for an operation
  by_query : (k : Kind) (does : Op) (q : Query) → query_for does ≡ Some q
      → is_foreign (value k us q) ≡ not (object_takes k does)
  by_query k (op.Inc by) q is =
      subst (λ x. is_foreign (value k us x) ≡ not (object_takes k (op.Inc by))) (same_Some query.Total q is) (total k)
    where
      total : (k : Kind) → is_foreign (value k us query.Total) ≡ not (object_takes k (op.Inc by))
      total kind.Counter = refl
      total kind.MaxRegister = refl
      total kind.OrSet = refl
  by_query k (op.Dec by) q is =
      subst (λ x. is_foreign (value k us x) ≡ not (object_takes k (op.Dec by))) (same_Some query.Total q is) (total k)
    where
      total : (k : Kind) → is_foreign (value k us query.Total) ≡ not (object_takes k (op.Dec by))
      total kind.Counter = refl
      total kind.MaxRegister = refl
      total kind.OrSet = refl
  by_query k (op.Raise to) q is =
      subst (λ x. is_foreign (value k us x) ≡ not (object_takes k (op.Raise to)))
      (same_Some query.Largest q is) (largest k)
    where
      largest : (k : Kind) → is_foreign (value k us query.Largest) ≡ not (object_takes k (op.Raise to))
      largest kind.Counter = refl
      largest kind.MaxRegister = refl
      largest kind.OrSet = refl
  by_query k (op.Put x) q is =
      subst (λ y. is_foreign (value k us y) ≡ not (object_takes k (op.Put x))) (same_Some query.Size q is) (size k)
    where
      size : (k : Kind) → is_foreign (value k us query.Size) ≡ not (object_takes k (op.Put x))
      size kind.Counter = refl
      size kind.MaxRegister = refl
      size kind.OrSet = refl
  by_query k (op.Remove tags) q is =
      subst (λ x. is_foreign (value k us x) ≡ not (object_takes k (op.Remove tags)))
      (same_Some query.Size q is) (size k)
    where
      size : (k : Kind) → is_foreign (value k us query.Size) ≡ not (object_takes k (op.Remove tags))
      size kind.Counter = refl
      size kind.MaxRegister = refl
      size kind.OrSet = refl
  by_query k op.Mark q is = absurd (none-some q is)
  by_query k (op.Vote v sole) q is = absurd (none-some q is)

  turned : (b c : Bool) → b ≡ not c → cond c None (Some why.Foreign) ≡ cond b (Some why.Foreign) None
  turned true true e = absurd (true≢false e)
  turned true false e = refl
  turned false true e = refl
  turned false false e = absurd (false≢true e)

  -- why it is none, by the answer
  pub unfit_by_answer : (o : Option Kind) (does : Op) (q : Query) (a : Answer) → query_for does ≡ Some q
      → option_map (λ k. value k us q) o ≡ Some a → cond (is_foreign a) (Some why.Foreign) None ≡ unfit_here o does
  unfit_by_answer None does q a is says = absurd (none-some a says)
  unfit_by_answer (Some k) does q a is says =
      sym (turned (is_foreign a) (object_takes k does)
      (sym (ap is_foreign (same_Some (value k us q) a says)) ∙ by_query k does q is))
