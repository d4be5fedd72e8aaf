-- The map is a lawful type: under each key it is a register.
use Rattle.std.proofs.Common.{◌≡◌, ◌≢◌, ℕ, Bool, true, false, cond, List, [], ◌∷◌, take, drop, slice_index, fold}
use Rattle.std.proofs.Common.{Option, Some, None, refl, ap, sym, ◌∙◌, subst}
use Rattle.std.specs.Int.{w64, from_le_bytes}
use Rattle.std.specs.Ordering.{nat_cmp, eq_by_cmp}
use Rattle.std.specs.Cmp.{Equal-is}
use Rattle.std.specs.Cmp.Lexicographic.{slice_cmp}
use Rattle.std.specs.Option.{option_and_then}
use Rattle.std.specs.FinMap as map
use Rattle.std.proofs.lemmas.Option.{same_Some, none-some}
use Rattle.la_set.specs.declared.update.UpdateId.{UpdateId}
use Rattle.la_set.specs.declared.update.Op.{Op}
use Rattle.la_set.specs.declared.update.Update.{Update}
use Rattle.la_own.specs.Own.{own_bytes_of}
use Rattle.la_shelf.specs.Meanings.{IsLawful}
use Rattle.la_types.specs.declared.write.Write.{Write}
use Rattle.la_types.specs.Writes.{with_write, value_in}
use Rattle.la_types.specs.WriteLaws.{write_swap, fold_writes, last_is}
use Rattle.la_types.specs.Keyed.{KeyedWrites, Keyed, with_keyed, or_later, write_under, keyed_read, keyed_of}
use Rattle.la_types.specs.Keyed.{writes_under}
use Rattle.la_types.specs.KeyOrder.{key_total, key_tied}
use Rattle.la_types.specs.WriteMaps.{write_map_meaning}

-- the later of what is there and a write
one_later : (last : Option Write) (w : Write) → with_write last (Some w) ≡ Some (or_later last w)
one_later None w = refl
one_later (Some l) w = refl

-- what a map has under a key after a write
pub get-with_keyed : (m : KeyedWrites) (o : Option Keyed) (q : List ℕ)
    → map.get (with_keyed m o) q ≡ with_write (map.get m q) (write_under q o)
get-with_keyed m None q = refl
get-with_keyed m (Some keyed) q =
    map.get-insert key_total m keyed.0 (or_later (map.get m keyed.0) keyed.1) q
    ∙ by (eq_by_cmp (slice_cmp nat_cmp) q keyed.0) refl
  where
    by : (b : Bool) → eq_by_cmp (slice_cmp nat_cmp) q keyed.0 ≡ b
        → cond b (Some (or_later (map.get m keyed.0) keyed.1)) (map.get m q)
        ≡ with_write (map.get m q) (cond b (Some keyed.1) None)
    by true is =
        ap (λ k. Some (or_later (map.get m k) keyed.1)) (sym (key_tied q keyed.0 ((Equal-is
        (slice_cmp nat_cmp q keyed.0)).0 is)))
        ∙ sym (one_later (map.get m q) keyed.1)
    by false is = refl

-- a write under a key has the id of its update
under_some : (q : List ℕ) (o : Option Keyed) (x : Write) → write_under q o ≡ Some x
    → (P : Write → Type 0) → ((k : Keyed) → o ≡ Some k → P k.1) → P x
under_some q None x e P all = absurd (none-some x e)
under_some q (Some k) x e P all = by (eq_by_cmp (slice_cmp nat_cmp) q k.0) e
  where
    by : (b : Bool) → cond b (Some k.1) None ≡ Some x → P x
    by true is = subst P (same_Some _ _ is) (all k refl)
    by false is = absurd (none-some x is)

abbrev found : UpdateId → List ℕ → Keyed
found id bytes = (
  take (slice_index bytes 8) (drop 9 bytes),
  record {
    stamp =
        from_le_bytes w64 bytes;
    id = id;
    value = drop (slice_index bytes 8) (drop 9 bytes);
  },
)

read_id : (id : UpdateId) (bytes : List ℕ) (b : Bool) (k : Keyed) → cond b (Some (found id bytes)) None ≡ Some k
    → k.1.id ≡ id
read_id id bytes true k e = ap (λ (j : Keyed). j.1.id) (sym (same_Some _ _ e))
read_id id bytes false k e = absurd (none-some k e)

some_id : (id : UpdateId) (o : Option (List ℕ)) (k : Keyed) → option_and_then (keyed_read id) o ≡ Some k → k.1.id ≡ id
some_id id None k e = absurd (none-some k e)
some_id id (Some bytes) k e = read_id id bytes _ k e

keyed_of-id : (id : UpdateId) (op : Op) (k : Keyed) → keyed_of id op ≡ Some k → k.1.id ≡ id
unfolding keyed_of
keyed_of-id id op k e = some_id id (own_bytes_of op) k e

under_id : (q : List ℕ) (u : Update) (x : Write) → write_under q (keyed_of u.id u.op) ≡ Some x → x.id ≡ u.id
under_id q u x e = under_some q (keyed_of u.id u.op) x e (λ w. w.id ≡ u.id) (keyed_of-id u.id u.op)

differ : (q : List ℕ) (u v : Update) → u.id.replica ≢ v.id.replica → (x y : Write)
    → write_under q (keyed_of u.id u.op) ≡ Some x → write_under q (keyed_of v.id v.op) ≡ Some y
    → x.id.replica ≢ y.id.replica
differ q u v ne x y one other same =
    ne (ap (λ id. id.replica) (sym (under_id q u x one)) ∙ same ∙ ap (λ id. id.replica) (under_id q v y other))

swap : (m : KeyedWrites) (u v : Update) → u.id.replica ≢ v.id.replica
    → with_keyed (with_keyed m (keyed_of u.id u.op)) (keyed_of v.id v.op)
    ≡ with_keyed (with_keyed m (keyed_of v.id v.op)) (keyed_of u.id u.op)
swap m u v ne = map.same_map key_total key_tied _ _ (λ q.
    let one = keyed_of u.id u.op in let other = keyed_of v.id v.op in
    get-with_keyed (with_keyed m one) other q
    ∙ ap (λ s. with_write s (write_under q other)) (get-with_keyed m one q)
    ∙ write_swap (map.get m q) (write_under q one) (write_under q other) (differ q u v ne)
    ∙ sym (get-with_keyed (with_keyed m other) one q
    ∙ ap (λ s. with_write s (write_under q one)) (get-with_keyed m other q)))

under_end : (q : List ℕ) (m : KeyedWrites) (us : List Update)
    → map.get (fold (λ n u. with_keyed n (keyed_of u.id u.op)) m us) q
    ≡ fold (λ s u. with_write s (write_under q (keyed_of u.id u.op))) (map.get m q) us
under_end q m [] = refl
under_end q m (u ∷ us) =
    under_end q (with_keyed m (keyed_of u.id u.op)) us
    ∙ ap (λ s. fold (λ t v. with_write t (write_under q (keyed_of v.id v.op))) s us) (get-with_keyed m
    (keyed_of u.id u.op) q)

pub write_map_lawful : IsLawful write_map_meaning
write_map_lawful = record {
  commutes = swap;
  keeps = λ m u. refl;
  starts = λ kind. refl;
  means = λ kind us q order. ap value_in (under_end q map.empty us
      ∙ ap (λ s. fold (λ t v. with_write t (write_under q (keyed_of v.id v.op))) s us) (map.get-empty
      (slice_cmp nat_cmp) q)
      ∙ fold_writes (λ u. write_under q (keyed_of u.id u.op)) None us ∙ last_is (writes_under q us));
}
