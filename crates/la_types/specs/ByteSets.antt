-- Finite sets of bytes, in the order of a dictionary: finite maps with nothing at each key. So `map.keys` has what is
-- in a set, in order, and `map.len` how many that are.
use Rattle.std.specs.Prelude.{◌≡◌, ℕ, Bool, true, false, not, ◌&&◌, ◌||◌, cond, List, [], ◌∷◌, Option, Some, None}
use Rattle.std.specs.Prelude.{is_some, refl}
use Rattle.std.proofs.Common.{ap, sym, ◌∙◌}
use Rattle.std.specs.List.{list_any}
use Rattle.std.specs.Ordering.{nat_cmp, eq_by_cmp}
use Rattle.std.specs.Cmp.{Equal-is}
use Rattle.std.specs.Cmp.Lexicographic.{slice_cmp}
use Rattle.std.specs.Coded.{Coded, coded_ℕ, coded_list}
use base.Stored.{coded_unit}
use Rattle.std.specs.declared.cmp.Ordering.TheVariants.{Equal}
use Rattle.std.specs.FinMap as map
use Rattle.la_types.specs.KeyOrder.{key_total, key_tied}

abbrev pub ByteSet : Type 0
ByteSet = map.FinMap (slice_cmp nat_cmp) (Unit {0})

abbrev pub byte_set_code : Coded ByteSet
byte_set_code = map.code (coded_list coded_ℕ) coded_unit

abbrev pub has_bytes : ByteSet → List ℕ → Bool
has_bytes s bytes = map.contains_key s bytes

abbrev pub with_bytes : ByteSet → List ℕ → ByteSet
with_bytes s bytes = map.insert s bytes tt

abbrev pub without_bytes : ByteSet → List ℕ → ByteSet
without_bytes s bytes = map.remove s bytes

-- what is in a list
abbrev pub set_of_bytes : List (List ℕ) → ByteSet
set_of_bytes [] = map.empty
set_of_bytes (bytes ∷ more) = with_bytes (set_of_bytes more) bytes

-- what is in the first and not in the second
abbrev pub without_all : ByteSet → ByteSet → ByteSet
without_all s t = map.retain_keys s (λ bytes. not (has_bytes t bytes))

-- ## What is in each

-- these are those bytes
abbrev pub is_this : List ℕ → List ℕ → Bool
is_this = eq_by_cmp (slice_cmp nat_cmp)

some_or : (b : Bool) (x : Option (Unit {0})) → is_some (cond b (Some tt) x) ≡ (b || is_some x)
some_or true x = refl
some_or false x = refl

none_or : (b : Bool) (x : Option (Unit {0})) → is_some (cond b None x) ≡ (not b && is_some x)
none_or true x = refl
none_or false x = refl

or_none : (b : Bool) (x : Option (Unit {0})) → is_some (cond b x None) ≡ (is_some x && b)
or_none true None = refl
or_none true (Some u) = refl
or_none false None = refl
or_none false (Some u) = refl

marked : (x : Option (Unit {0})) → x ≡ cond (is_some x) (Some tt) None
marked None = refl
marked (Some u) = refl

pub tied_bytes : (q bytes : List ℕ) → is_this q bytes ≡ true → q ≡ bytes
tied_bytes q bytes is = key_tied q bytes ((Equal-is (slice_cmp nat_cmp q bytes)).0 is)

pub has-empty : (q : List ℕ) → has_bytes map.empty q ≡ false
has-empty q = ap is_some (map.get-empty (slice_cmp nat_cmp) q)

pub has-with : (s : ByteSet) (bytes q : List ℕ) → has_bytes (with_bytes s bytes) q ≡ (is_this q bytes || has_bytes s q)
has-with s bytes q = ap is_some (map.get-insert key_total s bytes tt q) ∙ some_or (is_this q bytes) (map.get s q)

pub has-without : (s : ByteSet) (bytes q : List ℕ)
    → has_bytes (without_bytes s bytes) q ≡ (not (is_this q bytes) && has_bytes s q)
has-without s bytes q = ap is_some (map.get-remove key_total s bytes q) ∙ none_or (is_this q bytes) (map.get s q)

pub has-set_of : (all : List (List ℕ)) (q : List ℕ) → has_bytes (set_of_bytes all) q ≡ list_any (is_this q) all
has-set_of [] q = has-empty q
has-set_of (bytes ∷ more) q =
    has-with (set_of_bytes more) bytes q ∙ ap (λ b. is_this q bytes || b) (has-set_of more q)

alike : (t : ByteSet) (q x : List ℕ) → slice_cmp nat_cmp q x ≡ Equal → not (has_bytes t x) ≡ not (has_bytes t q)
alike t q x tie = ap (λ y. not (has_bytes t y)) (sym (key_tied q x tie))

pub has-without_all : (s t : ByteSet) (q : List ℕ)
    → has_bytes (without_all s t) q ≡ (has_bytes s q && not (has_bytes t q))
has-without_all s t q =
    ap is_some (map.get-retain_keys s (λ x. not (has_bytes t x)) q (alike t q))
    ∙ or_none (not (has_bytes t q)) (map.get s q)

pub same_set : (s t : ByteSet) → ((q : List ℕ) → has_bytes s q ≡ has_bytes t q) → s ≡ t
same_set s t is = map.same_map key_total key_tied s t (λ q.
    marked (map.get s q) ∙ ap (λ b. cond b (Some tt) None) (is q) ∙ sym (marked (map.get t q)))
