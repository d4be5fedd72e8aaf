-- Words that a generator draws one after another, and the events that come of them.
use Rattle.std.proofs.Common.{◌≡◌, ℕ, zero, suc, ◌+◌, ◌*◌, List, [], ◌∷◌, ◌++◌, refl, ap, ◌∙◌, sym, add-one, zero-add, arith}
use Rattle.std.proofs.lemmas.List.FromFn.{map-range_with_len_more}
use Rattle.rand_pcg.specs.Lcg.{Lcg, next, advance, next_state, state_after}
use Rattle.rand_pcg.specs.Pcg.{multiplier_64, pcg32}
use Rattle.la_world.specs.declared.event.Event.{Event}
use Rattle.la_script.specs.RandomEvents.{generator, word, event_by, random_event, random_events}

one_later : (w m inc n s : ℕ) → next_state w m inc (state_after w m inc n s) ≡ state_after w m inc (suc n) s
unfolding state_after
one_later w m inc zero s = refl
one_later w m inc (suc n) s = one_later w m inc n (next_state w m inc s)

-- one step after n others
advance_on : (w m n : ℕ) (g : Lcg) → next w m (advance w m n g) ≡ advance w m (suc n) g
advance_on w m n g = ap (λ (s : ℕ). record g { state = s }) (one_later w m g.increment n g.state)

-- the generator of a seed after k words
abbrev pub after : (seed k : ℕ) → Lcg
after seed k = advance 64 multiplier_64 k (generator seed)

-- the word that is drawn after k others, and the generator after it
pub drawn_word : (seed k a : ℕ) (g h : Lcg) → g ≡ after seed k → (a, h) ≡ pcg32 g → a ≡ word seed k
drawn_word seed k a g h at now = ap (λ (p : ℕ × Lcg). p.0) now ∙ ap (λ (x : Lcg). (pcg32 x).0) at

pub drawn_after : (seed k a : ℕ) (g h : Lcg) → g ≡ after seed k → (a, h) ≡ pcg32 g → h ≡ after seed (suc k)
drawn_after seed k a g h at now =
    ap (λ (p : ℕ × Lcg). p.1) now ∙ ap (λ (x : Lcg). (pcg32 x).1) at ∙ advance_on 64 multiplier_64 k (generator seed)

-- no word is drawn yet
pub at_first : (seed : ℕ) → generator seed ≡ after seed 0
unfolding state_after
at_first seed = refl

-- the generator after the two words of event number i, and the events with this one
pub generator_on : (seed i a b : ℕ) (g h k : Lcg) → g ≡ after seed (2 * i) → (a, h) ≡ pcg32 g → (b, k) ≡ pcg32 h
    → k ≡ after seed (2 * (i + 1))
generator_on seed i a b g h k at first second =
    let twice : suc (suc (2 * i)) ≡ 2 * (i + 1) = omega arith in
    drawn_after seed (suc (2 * i)) b h k (drawn_after seed (2 * i) a g h at first) second ∙ ap (after seed) twice

pub events_on : (seed n i a b : ℕ) (g h k : Lcg) (events more : List Event)
    → g ≡ after seed (2 * i) → (a, h) ≡ pcg32 g → (b, k) ≡ pcg32 h
    → events ≡ random_events seed n i → more ≡ events ++ event_by n i a b ∷ [] → more ≡ random_events seed n (i + 1)
events_on seed n i a b g h k events more at first second so_far is =
    let a_is = drawn_word seed (2 * i) a g h at first in
    let b_is =
    drawn_word seed (suc (2 * i)) b h k (drawn_after seed (2 * i) a g h at first) second
    ∙ ap (word seed) (sym (add-one (2 * i))) in
    is ∙ ap (λ (es : List Event). es ++ event_by n i a b ∷ []) so_far
    ∙ ap (λ (x : ℕ). random_events seed n i ++ event_by n i x b ∷ []) a_is
    ∙ ap (λ (x : ℕ). random_events seed n i ++ event_by n i (word seed (2 * i)) x ∷ []) b_is
    ∙ sym (map-range_with_len_more (random_event seed n) 0 i i (zero-add i))
