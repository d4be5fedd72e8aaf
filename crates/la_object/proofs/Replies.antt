-- What the steps over a list of updates lead to, and what is answered then.
use Rattle.std.proofs.Common.{◌≡◌, ℕ, ◌+◌, ◌*◌, ◌≤◌, max, List, [], ◌∷◌, length, fold, refl, ap, sym, ◌∙◌, subst, arith}
use Rattle.std.specs.Prelude.{pos, ◌-ℤ◌}
use Rattle.std.specs.List.{All}
use Rattle.std.proofs.lemmas.List.Elements.{All-head, All-tail}
use Rattle.std.proofs.lemmas.List.Sums.{sum_by-append}
use Rattle.la_set.specs.declared.update.Update.{Update}
use Rattle.la_object.specs.declared.kind.Kind.{Kind}
use Rattle.la_object.specs.declared.kind.Kind.TheVariants.{Counter as CounterKind, MaxRegister, OrSet}
use Rattle.la_object.specs.declared.query.Query.{Query}
use Rattle.la_object.specs.declared.query.Query.TheVariants.{Total, AtLeast, Largest, Has, Size, Items}
use Rattle.la_object.specs.declared.query.Answer.TheVariants.{Total as TotalIs, Reached, Has as HasIs, Size as SizeIs, Items as ItemsAre}
use Rattle.la_object.specs.declared.state.State.{State}
use Rattle.la_object.specs.declared.state.State.TheVariants.{Counter, Max, Set}
use Rattle.la_object.specs.Counter.{increment, decrement, ups, downs, total, reaches}
use Rattle.la_object.specs.MaxRegister.{raised}
use Rattle.la_object.specs.Objects.{after, steps, start, reply, value, tags_of, tags_by, kind_of, HasRoom}
use Rattle.std.specs.FinMap as map
use Rattle.std.specs.FinSet as set
use Rattle.la_object.specs.Shelves.{IsSmall}
use Rattle.la_object.proofs.Presence.{IsDistinctList, steps-Set, held-present}
use Rattle.la_object.proofs.Tags.{IsAscendingList, held-live}

ups-cons : (u : Update) (us : List Update) → ups (u ∷ us) ≡ increment u.op + ups us
ups-cons u us = omega (arith, sum_by-append (λ (v : Update). increment v.op) (u ∷ []) us)

downs-cons : (u : Update) (us : List Update) → downs (u ∷ us) ≡ decrement u.op + downs us
downs-cons u us = omega (arith, sum_by-append (λ (v : Update). decrement v.op) (u ∷ []) us)

pub steps-Counter : (a b : ℕ) (us : List Update) → steps (Counter a b) us ≡ Counter (a + ups us) (b + downs us)
steps-Counter a b [] = λ i. Counter (up i) (down i)
  where
    up : a ≡ a + 0
    up = omega arith

    down : b ≡ b + 0
    down = omega arith
steps-Counter a b (u ∷ us) = steps-Counter (a + increment u.op) (b + decrement u.op) us ∙ (λ i. Counter (up i) (down i))
  where
    up : (a + increment u.op) + ups us ≡ a + ups (u ∷ us)
    up = omega (arith, ups-cons u us)

    down : (b + decrement u.op) + downs us ≡ b + downs (u ∷ us)
    down = omega (arith, downs-cons u us)

pub steps-Max : (a : ℕ) (us : List Update) → steps (Max a) us ≡ Max (fold (λ m u. max m (raised u.op)) a us)
steps-Max a [] = refl
steps-Max a (u ∷ us) = steps-Max (max a (raised u.op)) us

pub kind_of-after : (s : State) (u : Update) → kind_of (after s u) ≡ kind_of s
kind_of-after (Counter a b) u = refl
kind_of-after (Max a) u = refl
kind_of-after (Set a g) u = refl

ups-le : (us : List Update) → All IsSmall us → ups us ≤ length us * 4294967296
ups-le [] all = omega arith
ups-le (u ∷ us) all =
    let h = All-head IsSmall u us all in omega (arith, ups-cons u us, h.0, ups-le us (All-tail IsSmall u us all))

downs-le : (us : List Update) → All IsSmall us → downs us ≤ length us * 4294967296
downs-le [] all = omega arith
downs-le (u ∷ us) all =
    let h = All-head IsSmall u us all in omega (arith, downs-cons u us, h.1, downs-le us (All-tail IsSmall u us all))

Set-HasRoom : (s : State) (us : List Update) → kind_of s ≡ OrSet → HasRoom (steps s us)
Set-HasRoom (Counter a b) us e = absurd cc
Set-HasRoom (Max a) us e = absurd cc
Set-HasRoom (Set a g) [] e = tt
Set-HasRoom (Set a g) (u ∷ us) e = Set-HasRoom (after (Set a g) u) us refl

pub steps-HasRoom : (kind : Kind) (us : List Update) → All IsSmall us → length us ≤ 8000000
    → HasRoom (steps (start kind) us)
steps-HasRoom CounterKind us small few =
    subst HasRoom (sym (steps-Counter 0 0 us)) (omega (arith, ups-le us small), omega (arith, downs-le us small))
steps-HasRoom MaxRegister us small few = subst HasRoom (sym (steps-Max 0 us)) tt
steps-HasRoom OrSet us small few = Set-HasRoom (start OrSet) us refl

-- what the state of a list of updates answers is what they say
pub reply-steps : (kind : Kind) (us : List Update) (query : Query) → IsDistinctList us
    → reply (steps (start kind) us) query ≡ value kind us query
reply-steps CounterKind us Total distinct =
    ap (λ s. reply s Total) (steps-Counter 0 0 us) ∙ (λ i. TotalIs (pos (up i) -ℤ pos (down i)))
  where
    up : 0 + ups us ≡ ups us
    up = omega arith

    down : 0 + downs us ≡ downs us
    down = omega arith
reply-steps CounterKind us (AtLeast bound) distinct =
    ap (λ s. reply s (AtLeast bound)) (steps-Counter 0 0 us) ∙ (λ i. Reached (reaches (total (up i) (down i)) bound))
  where
    up : 0 + ups us ≡ ups us
    up = omega arith

    down : 0 + downs us ≡ downs us
    down = omega arith
reply-steps CounterKind us Largest distinct = ap (λ s. reply s Largest) (steps-Counter 0 0 us)
reply-steps CounterKind us (Has x) distinct = ap (λ s. reply s (Has x)) (steps-Counter 0 0 us)
reply-steps CounterKind us Size distinct = ap (λ s. reply s Size) (steps-Counter 0 0 us)
reply-steps CounterKind us Items distinct = ap (λ s. reply s Items) (steps-Counter 0 0 us)
reply-steps MaxRegister us Total distinct = ap (λ s. reply s Total) (steps-Max 0 us)
reply-steps MaxRegister us (AtLeast bound) distinct = ap (λ s. reply s (AtLeast bound)) (steps-Max 0 us)
reply-steps MaxRegister us Largest distinct = ap (λ s. reply s Largest) (steps-Max 0 us)
reply-steps MaxRegister us (Has x) distinct = ap (λ s. reply s (Has x)) (steps-Max 0 us)
reply-steps MaxRegister us Size distinct = ap (λ s. reply s Size) (steps-Max 0 us)
reply-steps MaxRegister us Items distinct = ap (λ s. reply s Items) (steps-Max 0 us)
reply-steps OrSet us Total distinct = ap (λ s. reply s Total) (steps-Set map.empty set.empty us)
reply-steps OrSet us (AtLeast bound) distinct = ap (λ s. reply s (AtLeast bound)) (steps-Set map.empty set.empty us)
reply-steps OrSet us Largest distinct = ap (λ s. reply s Largest) (steps-Set map.empty set.empty us)
reply-steps OrSet us (Has x) distinct =
    ap (λ s. reply s (Has x)) (steps-Set map.empty set.empty us)
    ∙ ap (λ s. HasIs (map.contains_key s x)) (held-present us distinct)
reply-steps OrSet us Size distinct =
    ap (λ s. reply s Size) (steps-Set map.empty set.empty us) ∙ ap (λ s. SizeIs (map.len s)) (held-present us distinct)
reply-steps OrSet us Items distinct =
    ap (λ s. reply s Items) (steps-Set map.empty set.empty us)
    ∙ ap (λ s. ItemsAre (map.keys s)) (held-present us distinct)

-- and so are the tags that it observes
pub tags-steps : (kind : Kind) (us : List Update) (x : ℕ) → IsAscendingList us
    → tags_of (steps (start kind) us) x ≡ tags_by kind us x
tags-steps CounterKind us x ascending = ap (λ s. tags_of s x) (steps-Counter 0 0 us)
tags-steps MaxRegister us x ascending = ap (λ s. tags_of s x) (steps-Max 0 us)
tags-steps OrSet us x ascending = ap (λ s. tags_of s x) (steps-Set map.empty set.empty us) ∙ held-live us x ascending
