-- Objects under numbers of their own: with one more at the end, and without the last ones.
use Rattle.std.proofs.Common.{◌≡◌, ◌∙◌, ℕ, ◌+◌, ◌≤◌, Bool, true, false, not, cond, ◌&&◌, List, [], ◌∷◌, ◌++◌, length}
use Rattle.std.proofs.Common.{Option, Some, refl, sym, ap, ap₂, arith, rules, tests, true≢false}
use Rattle.std.specs.Prelude.{nat_eq, nat_le}
use Rattle.std.specs.Option.{is_none}
use Rattle.la_object.specs.declared.kind.Kind.{Kind}
use Rattle.la_object.specs.Shelves.{kind_at}
use Rattle.la_serve.specs.Objects.{are_for_a_shelf, have_own_numbers}

-- ## With one more

none_first : (b : Bool) (kind : Kind) (o : Option Kind) → is_none (cond b (Some kind) o) ≡ not b && is_none o
none_first true kind o = refl
none_first false kind o = refl

and_last : (a b c : Bool) → (not a && b) && c ≡ not a && (b && c)
and_last true b c = refl
and_last false b c = refl

none_at_end : (os : List (ℕ × Kind)) (n m : ℕ) (kind : Kind)
    → is_none (kind_at (os ++ (n, kind) ∷ []) m) ≡ is_none (kind_at os m) && not (nat_eq m n)
none_at_end [] n m kind = none_first (nat_eq m n) kind _ ∙ by_test (nat_eq m n)
  where
    by_test : (b : Bool) → not b && true ≡ true && not b
    by_test true = refl
    by_test false = refl
none_at_end (o ∷ os) n m kind =
    none_first (nat_eq m o.0) o.1 _ ∙ ap (λ b. not (nat_eq m o.0) && b) (none_at_end os n m kind)
    ∙ sym (and_last (nat_eq m o.0) (is_none (kind_at os m)) (not (nat_eq m n)))
    ∙ ap (λ b. b && not (nat_eq m n)) (sym (none_first (nat_eq m o.0) o.1 (kind_at os m)))

same_test : (m n : ℕ) → nat_eq m n ≡ nat_eq n m
same_test m n = search (rules, tests)

exchanged : (a e h i : Bool) → (a && not e) && (h && i) ≡ (a && h) && (not e && i)
exchanged true true true i = refl
exchanged true true false i = refl
exchanged true false true i = refl
exchanged true false false i = refl
exchanged false e h i = refl

pub own_numbers_end : (os : List (ℕ × Kind)) (n : ℕ) (kind : Kind)
    → have_own_numbers (os ++ (n, kind) ∷ []) ≡ have_own_numbers os && is_none (kind_at os n)
own_numbers_end [] n kind = refl
own_numbers_end (o ∷ os) n kind =
    ap₂ (λ (a b : Bool). a && b) (none_at_end os n o.0 kind) (own_numbers_end os n kind)
    ∙ exchanged (is_none (kind_at os o.0)) (nat_eq o.0 n) (have_own_numbers os) (is_none (kind_at os n))
    ∙ ap (λ b. (is_none (kind_at os o.0) && have_own_numbers os) && (not b && is_none (kind_at os n)))
    (same_test o.0 n)
    ∙ ap (λ b. (is_none (kind_at os o.0) && have_own_numbers os) && b)
    (sym (none_first (nat_eq n o.0) o.1 (kind_at os n)))

-- ## Without the last ones

and_both : (a b : Bool) → a && b ≡ true → (a ≡ true) × (b ≡ true)
and_both true b e = (refl, e)
and_both false b e = absurd (true≢false (sym e))

none_in_front : (os more : List (ℕ × Kind)) (m : ℕ) → is_none (kind_at (os ++ more) m) ≡ true
    → is_none (kind_at os m) ≡ true
none_in_front [] more m e = refl
none_in_front (o ∷ os) more m e =
    let both = and_both _ _ (sym (none_first (nat_eq m o.0) o.1 (kind_at (os ++ more) m)) ∙ e) in
    none_first (nat_eq m o.0) o.1 (kind_at os m) ∙ ap₂ (λ (a b : Bool). a && b) both.0 (none_in_front os more m both.1)

front_own : (os more : List (ℕ × Kind)) → have_own_numbers (os ++ more) ≡ true → have_own_numbers os ≡ true
front_own [] more e = refl
front_own (o ∷ os) more e =
    let both = and_both _ _ e in
    ap₂ (λ (a b : Bool). a && b) (none_in_front os more o.0 both.0) (front_own os more both.1)

length_front : (os more : List (ℕ × Kind)) → length os ≤ length (os ++ more)
length_front [] more = omega arith
length_front (o ∷ os) more = omega (arith, length_front os more)

front_small : (os more : List (ℕ × Kind)) → nat_le (length (os ++ more)) 64 ≡ true → nat_le (length os) 64 ≡ true
front_small os more e = let shorter = length_front os more in search (rules, tests)

-- a front of objects that are for a shelf is too
pub front_for_a_shelf : (os more : List (ℕ × Kind)) → are_for_a_shelf (os ++ more) ≡ true → are_for_a_shelf os ≡ true
front_for_a_shelf os more e =
    let both = and_both _ _ e in
    ap₂ (λ (a b : Bool). a && b) (front_small os more both.0) (front_own os more both.1)

-- ## One more on a shelf

length_end : (os : List (ℕ × Kind)) (o : ℕ × Kind) → length (os ++ o ∷ []) ≡ length os + 1
length_end [] o = refl
length_end (x ∷ os) o = omega (arith, length_end os o)

-- where there is room and the number is new
pub one_fits : (os : List (ℕ × Kind)) (n : ℕ) (kind : Kind) → length os + 1 ≤ 64 → have_own_numbers os ≡ true
    → is_none (kind_at os n) ≡ true → are_for_a_shelf (os ++ (n, kind) ∷ []) ≡ true
one_fits os n kind room own new =
    let long = length_end os (n, kind) in
    let few : nat_le (length (os ++ (n, kind) ∷ [])) 64 ≡ true = search (rules, tests) in
    ap₂ (λ (a b : Bool). a && b) few (own_numbers_end os n kind ∙ ap₂ (λ (a b : Bool). a && b) own new)

no_and : (b : Bool) → b && false ≡ false
no_and true = refl
no_and false = refl

-- where there are 64
pub none_fits : (os : List (ℕ × Kind)) (n : ℕ) (kind : Kind) → length os ≡ 64
    → are_for_a_shelf (os ++ (n, kind) ∷ []) ≡ false
none_fits os n kind full =
    let long = length_end os (n, kind) in
    let many : nat_le (length (os ++ (n, kind) ∷ [])) 64 ≡ false = search (rules, tests) in
    ap (λ b. b && have_own_numbers (os ++ (n, kind) ∷ [])) many

-- where the number is taken
pub taken_fits_not : (os : List (ℕ × Kind)) (n : ℕ) (kind : Kind) → is_none (kind_at os n) ≡ false
    → are_for_a_shelf (os ++ (n, kind) ∷ []) ≡ false
taken_fits_not os n kind taken =
    ap (λ b. nat_le (length (os ++ (n, kind) ∷ [])) 64 && b)
    (own_numbers_end os n kind ∙ ap (λ b. have_own_numbers os && b) taken ∙ no_and (have_own_numbers os))
    ∙ no_and (nat_le (length (os ++ (n, kind) ∷ [])) 64)
