-- What becomes of the index where an element's tags change.
use Rattle.std.proofs.Common.{◌≡◌, ℕ, ◌==◌, eqb, Bool, true, false, not, ◌&&◌, ◌||◌, cond, List, Option, Some, None, Result, Ok, Err, OnOk, OnErr, is_some, refl, ap, sym, ◌∙◌}
use Rattle.std.specs.BTreeMap.{is_at}
use Rattle.std.proofs.lemmas.Bool.{false≢true, eqb-true, eq-eqb}
use Rattle.std.specs.Ordering.{nat_cmp, is_eq, eq_by_cmp}
use Rattle.std.specs.Cmp.{unsigned_tied, nat_eq_equiv, tied_itself, nat_cmp_total, Equal-is}
use Rattle.std.specs.FinMap as map
use Rattle.std.specs.FinMap.{nat_cmp-IsAntisymmetric}
use Rattle.std.specs.Map.{lookup}
use Rattle.la_set.specs.declared.update.UpdateId.{UpdateId}
use Rattle.la_object.specs.IdOrder.{id_cmp}
use Rattle.la_object.proofs.lemmas.IdOrder.{id_cmp_total, id_cmp-IsAntisymmetric}
use Rattle.la_orset.specs.Index.{TagMap, Index, has_any, tags_or, index_tags, IsWhole, HasTags}
use Rattle.la_orset.specs.Few.{only_tag}
use Rattle.la_object.proofs.lemmas.Sorted.{get-lookup}
use Rattle.la_orset.proofs.Sets.{same_members, contains-put, contains-taken, something_in, keys-empty}

pub tied : (x y : ℕ) → eq_by_cmp nat_cmp x y ≡ (y == x)
tied x y = unsigned_tied x y ∙ nat_eq_equiv.symm x y

module _ (old new : Index) (x : ℕ) (o : Option TagMap)
    (changed : (y : ℕ) → map.get new y ≡ cond (is_at (nat_cmp x) y) o (map.get old y)) where
  pub has_tags : (tags : TagMap) → tags_or o ≡ tags → HasTags old x tags new
  has_tags tags is y =
      ap tags_or (changed y) ∙ by (is_at (nat_cmp x) y) ∙ ap (λ b. cond b tags (index_tags old y)) (tied x y)
    where
      by : (b : Bool) → tags_or (cond b o (map.get old y)) ≡ cond b tags (index_tags old y)
      by true = is
      by false = refl

  pub still_whole : IsWhole old → is_some o ≡ has_any (map.keys (tags_or o)) → IsWhole new
  still_whole whole one y =
      ap is_some (changed y) ∙ by (is_at (nat_cmp x) y) ∙ ap (λ g. has_any (map.keys (tags_or g))) (sym (changed y))
    where
      by : (b : Bool) → is_some (cond b o (map.get old y)) ≡ has_any (map.keys (tags_or (cond b o (map.get old y))))
      by true = one
      by false = whole y

pub whole-none : false ≡ has_any (map.keys (tags_or None))
whole-none = ap has_any (sym (keys-empty id_cmp (Unit {0})))

pub whole-empty : IsWhole map.empty
whole-empty y =
    ap is_some (map.get-empty nat_cmp y) ∙ whole-none
    ∙ ap (λ g. has_any (map.keys (tags_or g))) (sym (map.get-empty nat_cmp y))

pub whole-put : (tags : TagMap) (id : UpdateId) → true ≡ has_any (map.keys (map.insert tags id tt))
whole-put tags id =
    sym
    (something_in id_cmp_total id_cmp-IsAntisymmetric (map.insert tags id tt) id
    (contains-put id_cmp_total id_cmp-IsAntisymmetric tags id id
    ∙ ap (λ r. is_eq r || map.contains_key tags id) (tied_itself id_cmp_total id)))

-- nothing is taken out of nothing
pub taken-empty : (id : UpdateId) → map.empty ≡ map.remove (map.empty {X = Unit {0}} {R = id_cmp}) id
taken-empty id = same_members id_cmp_total id_cmp-IsAntisymmetric _ _ (λ q.
    ap is_some (map.get-empty id_cmp q) ∙ sym (contains-taken id_cmp_total id_cmp-IsAntisymmetric map.empty id q ∙ ap (λ g. not (eq_by_cmp id_cmp q id) && is_some g) (map.get-empty id_cmp q) ∙ and_false (not (eq_by_cmp id_cmp q id))))
  where
    and_false : (b : Bool) → (b && false) ≡ false
    and_false true = refl
    and_false false = refl

-- entries that differ under one element make maps that differ there
pub changed_from : (es fs : List (ℕ × TagMap)) (x : ℕ) (o : Option TagMap)
    → ((q : ℕ) → lookup (is_at (nat_cmp q)) fs ≡ cond (is_at (nat_cmp x) q) o (lookup (is_at (nat_cmp q)) es)) → (y : ℕ)
    → map.get (map.from_entries {R = nat_cmp} fs) y
    ≡ cond (is_at (nat_cmp x) y) o (map.get (map.from_entries {R = nat_cmp} es) y)
changed_from es fs x o h y =
    get-lookup nat_cmp_total fs y ∙ h y ∙ ap (cond (is_at (nat_cmp x) y) o) (sym (get-lookup nat_cmp_total es y))

-- what is there is put there
pub put_again : (index : Index) (x : ℕ) (o : Option TagMap) → map.get index x ≡ o → (y : ℕ)
    → cond (is_at (nat_cmp x) y) o (map.get index y) ≡ map.get index y
put_again index x o there y = by (is_at (nat_cmp x) y) refl
  where
    by : (b : Bool) → is_at (nat_cmp x) y ≡ b → cond b o (map.get index y) ≡ map.get index y
    by true is = sym there ∙ ap (map.get index) (nat_cmp-IsAntisymmetric x y ((Equal-is (nat_cmp x y)).0 is))
    by false is = refl

pub twice : (b : Bool) (o p r : Option TagMap) → cond b o (cond b p r) ≡ cond b o r
twice true o p r = refl
twice false o p r = refl

pub on_err : {A E : Type 0} (r : Result A E) (P : Type 0) → P → OnErr r P
on_err (Ok a) P p = tt
on_err (Err e) P p = p

pub on_ok : {A E : Type 0} (r : Result A E) (P Q : Type 0) → (P → Q) → OnOk r P → OnOk r Q
on_ok (Ok a) P Q f p = f p
on_ok (Err e) P Q f p = tt

pub either_way : {A E : Type 0} (r : Result A E) (P Q S : Type 0) → OnOk r P → OnErr r Q → (P → S) → (Q → S) → S
either_way (Ok a) P Q S p q f g = f p
either_way (Err e) P Q S p q f g = g q

pub none_of : {X : Type 0} (o : Option X) → is_some o ≡ false → o ≡ None
none_of None h = refl
none_of (Some x) h = absurd (false≢true (sym h))

-- ## One tag

contains-only : (there q : UpdateId) → map.contains_key (only_tag there) q ≡ (eq_by_cmp id_cmp q there || false)
contains-only there q =
    contains-put id_cmp_total id_cmp-IsAntisymmetric map.empty there q
    ∙ ap (λ g. eq_by_cmp id_cmp q there || is_some g) (map.get-empty id_cmp q)

-- taken out
pub taken-only : (id : UpdateId) → map.empty ≡ map.remove (only_tag id) id
taken-only id = same_members id_cmp_total id_cmp-IsAntisymmetric _ _ (λ q.
    ap is_some (map.get-empty id_cmp q)
    ∙ sym (contains-taken id_cmp_total id_cmp-IsAntisymmetric (only_tag id) id q ∙ ap (λ c. not (eq_by_cmp id_cmp q id) && c) (contains-only id q) ∙ both (eq_by_cmp id_cmp q id)))
  where
    both : (b : Bool) → (not b && (b || false)) ≡ false
    both true = refl
    both false = refl

-- another is taken out
pub kept-only : (there id : UpdateId) → (there ≡ id → ⊥) → only_tag there ≡ map.remove (only_tag there) id
kept-only there id ne = same_members id_cmp_total id_cmp-IsAntisymmetric _ _ (λ q.
    by q (eq_by_cmp id_cmp q id) refl ∙ sym (contains-taken id_cmp_total id_cmp-IsAntisymmetric (only_tag there) id q))
  where
    other : (q : UpdateId) → eq_by_cmp id_cmp q id ≡ true → (b : Bool) → eq_by_cmp id_cmp q there ≡ b → b ≡ false
    other q e true t =
        absurd
        (ne
        (sym (id_cmp-IsAntisymmetric q there ((Equal-is (id_cmp q there)).0 t))
        ∙ id_cmp-IsAntisymmetric q id ((Equal-is (id_cmp q id)).0 e)))
    other q e false t = refl

    by : (q : UpdateId) (b : Bool) → eq_by_cmp id_cmp q id ≡ b
        → map.contains_key (only_tag there) q ≡ (not b && map.contains_key (only_tag there) q)
    by q true e = contains-only there q ∙ ap (λ b. b || false) (other q e (eq_by_cmp id_cmp q there) refl)
    by q false e = refl

-- the test of two ids
pub same-id : (a b : UpdateId) → (eqb a.replica b.replica && eqb a.number b.number) ≡ true → a ≡ b
same-id a b h = by (eqb a.replica b.replica) refl (eqb a.number b.number) refl h
  where
    by : (x : Bool) → eqb a.replica b.replica ≡ x → (y : Bool) → eqb a.number b.number ≡ y → (x && y) ≡ true → a ≡ b
    by true p true q h = λ i. record { replica = eqb-true a.replica b.replica p i; number = eqb-true a.number b.number q i }
    by true p false q h = absurd (false≢true h)
    by false p y q h = absurd (false≢true h)

pub other-id : (a b : UpdateId) → (eqb a.replica b.replica && eqb a.number b.number) ≡ false → a ≡ b → ⊥
other-id a b h e =
    false≢true
    (sym h
    ∙ (λ i.
    eq-eqb a.replica b.replica (ap (λ (id : UpdateId). id.replica) e) i
    && eq-eqb a.number b.number (ap (λ (id : UpdateId). id.number) e) i))
