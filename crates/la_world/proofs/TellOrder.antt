-- The tells of a learning stand in the order of the replicas that they are for.
use Rattle.std.proofs.Common.{◌≡◌, ◌⊎◌, ℕ, zero, suc, ◌+◌, ◌-◌, ◌<◌, ◌≤◌, ◌==◌, not, List, ◌∷◌, map, filter, slice_get, Some, ap, sym, ◌∙◌, arith, inl, inr}
use Rattle.std.specs.Prelude.{nat_lt}
use Rattle.std.specs.List.{range_with_len}
use Rattle.std.proofs.lemmas.Bool.{cases_lt, cases_eq, cond-true, cond-false, eq-eqb, ne_eqb, lt-ltb, le-ltb}
use Rattle.std.proofs.lemmas.Option.{same_Some, none-some}
use Rattle.la_set.specs.Histories.{Histories}
use Rattle.la_replica.specs.Whole.{Message}
use Rattle.la_replica.specs.declared.sender.Sender.{Sender}
use Rattle.la_replica.specs.Messages.{tell_to, is_to_other}
use Rattle.la_world.specs.Reading.{place_beside}

-- r is number q of those from a on that are not p
pub record Beside (p a r q : ℕ) : Type 0 where
  pub below : r < p → a + q ≡ r
  pub past : p < r → p < a → a + q ≡ r
  pub across : p < r → a ≤ p → (a + q) + 1 ≡ r

either_side : (r p : ℕ) → (r ≡ p → ⊥) → (r < p) ⊎ (p < r)
either_side r p ne = elim (cases_lt r p) [
  | inl l ↦ inl l
  | inr l ↦ elim (cases_lt p r) [ inl m ↦ inr m | inr m ↦ absurd (ne (omega arith)) ]
]

-- ## Those from the next on

drop_own : (p a r q : ℕ) → a ≡ p → a < r → Beside p a r q → Beside p (a + 1) r q
drop_own p a r q e lt b = record {
  below = λ l. absurd (omega arith);
  past = λ l m. let h = b.across l (omega arith) in omega arith;
  across = λ l m. absurd (omega arith);
}

drop_other : (p a r k : ℕ) → (a ≡ p → ⊥) → Beside p a r (suc k) → Beside p (a + 1) r k
drop_other p a r k na b = record {
  below = λ l. let h = b.below l in omega arith;
  past = λ l m. elim (cases_lt p a) [ inl n ↦ (let h = b.past l n in omega arith) | inr n ↦ absurd (na (omega arith)) ];
  across = λ l m. let h = b.across l (omega arith) in omega arith;
}

here : (p a r : ℕ) → (a ≡ p → ⊥) → (r ≡ p → ⊥) → Beside p a r 0 → a ≡ r
here p a r na ne b = elim (either_side r p ne) [
  | inl l ↦ (let h = b.below l in omega arith)
  | inr l ↦ elim (cases_lt p a) [
    | inl m ↦ (let h = b.past l m in omega arith)
    | inr m ↦ absurd (na (let h = b.across l m in omega arith))
  ]
]

later : (p a r k : ℕ) → (r ≡ p → ⊥) → Beside p a r (suc k) → a + 1 ≤ r
later p a r k ne b = elim (either_side r p ne) [
  | inl l ↦ (let h = b.below l in omega arith)
  | inr l ↦ elim (cases_lt p a) [
    | inl m ↦ (let h = b.past l m in omega arith)
    | inr m ↦ (let h = b.across l m in omega arith)
  ]
]

-- ## And back

with_own : (p a r q : ℕ) → a ≡ p → a < r → Beside p (a + 1) r q → Beside p a r q
with_own p a r q e lt b = record {
  below = λ l. absurd (omega arith);
  past = λ l m. absurd (omega arith);
  across = λ l m. let h = b.past l (omega arith) in omega arith;
}

with_other : (p a r k : ℕ) → (a ≡ p → ⊥) → Beside p (a + 1) r k → Beside p a r (suc k)
with_other p a r k na b = record {
  below = λ l. let h = b.below l in omega arith;
  past = λ l m. let h = b.past l (omega arith) in omega arith;
  across =
      λ l m.
      elim (cases_lt a p)
      [ inl n ↦ (let h = b.across l (omega arith) in omega arith) | inr n ↦ absurd (na (omega arith)) ];
}

first_beside : (p a : ℕ) → (a ≡ p → ⊥) → Beside p a a 0
first_beside p a na = record {
  below = λ l. omega arith;
  past = λ l m. omega arith;
  across = λ l m. absurd (omega arith);
}

-- ## Of all of them

place_below : (p r : ℕ) → r < p → place_beside p r ≡ r
place_below p r l = cond-true (nat_lt r p) r (r - 1) (lt-ltb r p l)

place_across : (p r : ℕ) → p < r → place_beside p r ≡ r - 1
place_across p r l = cond-false (nat_lt r p) r (r - 1) (le-ltb r p (omega arith))

pub beside_is : (p r : ℕ) → (r ≡ p → ⊥) → Beside p 0 r (place_beside p r)
beside_is p r ne = elim (either_side r p ne) [
  | inl l ↦ (let e = place_below p r l in record { below = λ m. omega arith; past = λ m n. absurd (omega arith); across = λ m n. absurd (omega arith) })
  | inr l ↦ (let e = place_across p r l in record { below = λ m. absurd (omega arith); past = λ m n. absurd (omega arith); across = λ m n. omega arith })
]

pub beside_only : (p r q : ℕ) → (r ≡ p → ⊥) → Beside p 0 r q → q ≡ place_beside p r
beside_only p r q ne b = elim (either_side r p ne) [
  | inl l ↦ (let e = place_below p r l in let h = b.below l in omega arith)
  | inr l ↦ (let e = place_across p r l in let h = b.across l (omega arith) in omega arith)
]

-- ## Tells

module _ (s : Sender) (number : ℕ) (set : Histories) where
  abbrev p : ℕ
  p = s.from

  abbrev tell : ℕ → Message
  tell r = tell_to s number set r

  abbrev tells : (a n : ℕ) → List Message
  tells a n = filter (is_to_other s) (map (tell_to s number set) (range_with_len a n))

  first_other : (a n : ℕ) → (a ≡ p → ⊥) → tells a (suc n) ≡ tell a ∷ tells (a + 1) n
  first_other a n ne = cond-true (not (a == p)) (tell a ∷ tells (a + 1) n) (tells (a + 1) n) (ap not (ne_eqb a p ne))

  first_own : (a n : ℕ) → a ≡ p → tells a (suc n) ≡ tells (a + 1) n
  first_own a n e = cond-false (not (a == p)) (tell a ∷ tells (a + 1) n) (tells (a + 1) n) (ap not (eq-eqb a p e))

  -- the one to r stands at its number
  pub tell_at : (a n r q : ℕ) → Beside p a r q → a ≤ r → r < a + n → (r ≡ p → ⊥)
      → slice_get (tells a n) q ≡ Some (tell r)
  tell_at a zero r q b le lt ne = absurd (omega arith)
  tell_at a (suc n) r q b le lt ne = elim (cases_eq a p) [
    | inl e ↦ ap (λ ms. slice_get ms q) (first_own a n e) ∙ tell_at (a + 1) n r q (drop_own p a r q e (own e) b) (let l = own e in omega arith) (omega arith) ne
    | inr na ↦ ap (λ ms. slice_get ms q) (first_other a n na) ∙ other na (λ k c from. tell_at (a + 1) n r k c from (omega arith) ne) q b
  ]
    where
      own : a ≡ p → a < r
      own e = elim (cases_lt a r) [ inl l ↦ l | inr l ↦ absurd (ne (omega arith)) ]

      other : (a ≡ p → ⊥) → ((k : ℕ) → Beside p (a + 1) r k → a + 1 ≤ r → slice_get (tells (a + 1) n) k ≡ Some (tell r))
          → (k : ℕ) → Beside p a r k → slice_get (tell a ∷ tells (a + 1) n) k ≡ Some (tell r)
      other na rest zero b = ap (λ z. Some (tell z)) (here p a r na ne b)
      other na rest (suc k) b = rest k (drop_other p a r k na b) (later p a r k ne b)

  -- what stands at a number is the tell to the replica with it
  pub record IsTell (a n q : ℕ) (m : Message) : Type 0 where
    pub to : ℕ
    pub is : m ≡ tell to
    pub from : a ≤ to
    pub below : to < a + n
    pub other : to ≡ p → ⊥
    pub beside : Beside p a to q

  pub tell_is : (a n q : ℕ) (m : Message) → slice_get (tells a n) q ≡ Some m → IsTell a n q m
  tell_is a zero q m e = absurd (none-some m e)
  tell_is a (suc n) q m e = elim (cases_eq a p) [
    | inl at ↦ own at (tell_is (a + 1) n q m (ap (λ ms. slice_get ms q) (sym (first_own a n at)) ∙ e))
    | inr na ↦ other na (λ k at. tell_is (a + 1) n k m at) q (ap (λ ms. slice_get ms q) (sym (first_other a n na)) ∙ e)
  ]
    where
      own : a ≡ p → IsTell (a + 1) n q m → IsTell a (suc n) q m
      own at h = record {
        to = h.to;
        is = h.is;
        from = let le = h.from in omega arith;
        below = let lt = h.below in omega arith;
        other = h.other;
        beside = with_own p a h.to q at (let le = h.from in omega arith) h.beside;
      }

      further : (a ≡ p → ⊥) → (k : ℕ) → IsTell (a + 1) n k m → IsTell a (suc n) (suc k) m
      further na k h = record {
        to = h.to;
        is = h.is;
        from = let le = h.from in omega arith;
        below = let lt = h.below in omega arith;
        other = h.other;
        beside = with_other p a h.to k na h.beside;
      }

      other : (a ≡ p → ⊥) → ((k : ℕ) → slice_get (tells (a + 1) n) k ≡ Some m → IsTell (a + 1) n k m) → (k : ℕ)
          → slice_get (tell a ∷ tells (a + 1) n) k ≡ Some m → IsTell a (suc n) k m
      other na rest zero e = record {
        to = a;
        is = sym (same_Some (tell a) m e);
        from = omega arith;
        below = omega arith;
        other = na;
        beside = first_beside p a na;
      }
      other na rest (suc k) e = further na k (rest k e)
