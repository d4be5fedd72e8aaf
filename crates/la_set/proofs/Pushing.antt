-- Updates pushed one after another.
use Rattle.std.proofs.Common.{◌≡◌, ℕ, zero, suc, ◌+◌, List, [], ◌∷◌, take, Some, ap, sym, ◌∙◌, subst, arith}
use Rattle.std.specs.List.{slice_get}
use Rattle.std.proofs.lemmas.Option.{none-some, same_Some}
use Rattle.la_set.specs.declared.update.Update.{Update}
use Rattle.la_set.specs.Histories.{Histories, push, IsNext, IsWithinLimit}
use Rattle.la_set.specs.Difference.{PushesTo}
use Rattle.la_set.specs.Deltas.{AreNext, pushed}
use Rattle.la_set.proofs.lemmas.SetHistories.{count-push}

pub pushed-PushesTo : (us : List Update) (a b : Histories) → PushesTo a us b → pushed a us ≡ b
pushed-PushesTo [] a b e = e
pushed-PushesTo (u ∷ us) a b e = pushed-PushesTo us (push a u) b e.1

pub next-PushesTo : (us : List Update) (a b : Histories) → PushesTo a us b → AreNext a us
next-PushesTo [] a b e = tt
next-PushesTo (u ∷ us) a b e = (e.0, next-PushesTo us (push a u) b e.1)

-- the next one, after the first so many
pub next_at : (us : List Update) (s : Histories) (k : ℕ) (u : Update) → slice_get us k ≡ Some u → AreNext s us
    → IsNext (pushed s (take k us)) u.id
next_at [] s k u got all = absurd (none-some u got)
next_at (v ∷ us) s zero u got all = subst (λ w. IsNext s w.id) (same_Some v u got) all.0
next_at (v ∷ us) s (suc k) u got all = next_at us (push s v) k u got all.1

-- and what they lead to with it
pub pushed_more : (us : List Update) (s : Histories) (k : ℕ) (u : Update) → slice_get us k ≡ Some u
    → push (pushed s (take k us)) u ≡ pushed s (take (k + 1) us)
pushed_more [] s k u got = absurd (none-some u got)
pushed_more (v ∷ us) s zero u got = sym (ap (push s) (same_Some v u got))
pushed_more (v ∷ us) s (suc k) u got =
    pushed_more us (push s v) k u got
    ∙ ap (λ n. pushed s (take n (v ∷ us))) {x = suc (k + 1)} {y = suc k + 1} (omega arith)

pub next_more : (us : List Update) (s : Histories) (k : ℕ) (u : Update) → slice_get us k ≡ Some u
    → AreNext s (take k us) → IsNext (pushed s (take k us)) u.id → AreNext s (take (k + 1) us)
next_more [] s k u got all next = absurd (none-some u got)
next_more (v ∷ us) s zero u got all next = (subst (λ w. IsNext s w.id) (sym (same_Some v u got)) next, tt)
next_more (v ∷ us) s (suc k) u got all next =
    subst (λ n. AreNext s (take n (v ∷ us))) {x = suc (k + 1)} {y = suc k + 1} (omega arith)
    (all.0, next_more us (push s v) k u got all.1 next)

pub pushed-limit : (us : List Update) (s : Histories) → AreNext s us → IsWithinLimit s → IsWithinLimit (pushed s us)
pushed-limit [] s all few = few
pushed-limit (u ∷ us) s all few = pushed-limit us (push s u) all.1 (count-push s u all.0 few)
