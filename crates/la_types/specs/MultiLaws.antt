-- The register that keeps what was written at the same time is a lawful type.
use Rattle.std.proofs.Common.{◌≡◌, ◌≢◌, ℕ, zero, suc, ◌<◌, ◌==◌, nat_le, nat_lt, max, not, ◌&&◌}
use Rattle.std.proofs.Common.{◌||◌, cond, List, [], ◌∷◌, length, get_or, set, replicate, fold, Option, Some, None}
use Rattle.std.proofs.Common.{refl, ap, sym, ◌∙◌, inl, inr, arith}
use Rattle.std.specs.List.{list_any, filter_map, cons_option, last_or}
use Rattle.std.proofs.lemmas.Bool.{cases_eq, cases_lt, eq-eqb, ne_eqb, lt-ltb, le-ltb, lt-leb}
use Rattle.std.proofs.lemmas.List.{set_comm, get_or-set_same, get_or-set_other, length-set}
use Rattle.la_set.specs.declared.update.UpdateId.{UpdateId}
use Rattle.la_set.specs.declared.update.Update.{Update}
use Rattle.la_set.specs.Counts.{count_in}
use Rattle.la_shelf.specs.Meanings.{IsLawful}
use Rattle.la_types.specs.declared.multi.Entry.{Entry}
use Rattle.la_types.specs.declared.multi.MultiState.{MultiState}
use Rattle.la_types.specs.SeenCounts.{count_in-from, either_swap}
use Rattle.la_types.specs.Highest.{highest, any_highest, same_any, no_more}
use Rattle.la_types.specs.Multis.{Seeing, multi_of, entry_of, entry_by, last_by, sees, seen_by_some, unseen}
use Rattle.la_types.specs.Multis.{multi_value, multi_start, multi_step, beyond_seen, multi_reply, multi_meaning}

swap : (s : MultiState) (a b : UpdateId) (x y : Option Seeing) → a.replica ≢ b.replica
    → multi_step (multi_step s a x) b y ≡ multi_step (multi_step s b y) a x
swap s a b None None ne = refl
swap s a b (Some x) None ne = refl
swap s a b None (Some y) ne = refl
swap s a b (Some x) (Some y) ne = λ i. record {
  last = set_comm s.last a.replica b.replica (Some (record { number = a.number; value = x.1 })) (Some
      (record { number = b.number; value = y.1 })) ne i;
  seen = either_swap s.seen x.0 y.0 i;
}

-- ## What a replica wrote last

keeps_length : (s : MultiState) (id : UpdateId) (o : Option Seeing) → length (multi_step s id o).last ≡ length s.last
keeps_length s id None = refl
keeps_length s id (Some x) = length-set s.last id.replica (Some (record { number = id.number; value = x.1 }))

last_after : (r : ℕ) (s : MultiState) (id : UpdateId) (o : Option Seeing) → r < length s.last
    → get_or (multi_step s id o).last r None
    ≡ last_or (get_or s.last r None) (cons_option (cond (id.replica == r) (entry_of id.number o) None) [])
last_after r s id None lt = elim (cases_eq id.replica r) [
  | inl e ↦ rw (eq-eqb id.replica r e) refl
  | inr ne ↦ rw (ne_eqb id.replica r ne) refl
]
last_after r s id (Some x) lt = elim (cases_eq id.replica r) [
  | inl e ↦
      let entry : Option Entry = Some (record { number = id.number; value = x.1 }) in
      ap (λ q. get_or (set s.last q entry) r None) e ∙ get_or-set_same s.last r entry None lt
      ∙ ap (λ b. last_or (get_or s.last r None) (cons_option (cond b entry None) [])) (sym (eq-eqb id.replica r e))
  | inr ne ↦
      let entry : Option Entry = Some (record { number = id.number; value = x.1 }) in
      get_or-set_other s.last id.replica r entry None (λ e. ne (sym e))
      ∙ ap (λ b. last_or (get_or s.last r None) (cons_option (cond b entry None) [])) (sym (ne_eqb id.replica r ne))
]

last_more : (o p : Option Entry) (xs : List Entry)
    → last_or (last_or o (cons_option p [])) xs ≡ last_or o (cons_option p xs)
last_more o None xs = refl
last_more o (Some x) xs = refl

last_end : (r : ℕ) (s : MultiState) (us : List Update) → r < length s.last
    → get_or (fold (λ t u. multi_step t u.id (multi_of u.op)) s us).last r None
    ≡ last_or (get_or s.last r None) (filter_map (entry_by r) us)
last_end r s [] lt = refl
last_end r s (u ∷ us) lt =
    last_end r (multi_step s u.id (multi_of u.op)) us (omega (arith, lt, keeps_length s u.id (multi_of u.op)))
    ∙ ap (λ o. last_or o (filter_map (entry_by r) us)) (last_after r s u.id (multi_of u.op) lt)
    ∙ last_more (get_or s.last r None) (entry_by r u) (filter_map (entry_by r) us)

-- ## What was seen

seen_number : ℕ → Option Seeing → ℕ
seen_number r None = 0
seen_number r (Some x) = count_in x.0 r

seen_after : (r : ℕ) → r < 8 → (s : MultiState) (id : UpdateId) (o : Option Seeing)
    → count_in (multi_step s id o).seen r ≡ max (count_in s.seen r) (seen_number r o)
unfolding seen_number
seen_after r lt s id None = no_more (count_in s.seen r)
seen_after r lt s id (Some x) = count_in-from (λ q. max (count_in s.seen q) (count_in x.0 q)) r lt

seen_end : (r : ℕ) → r < 8 → (s : MultiState) (us : List Update)
    → count_in (fold (λ t u. multi_step t u.id (multi_of u.op)) s us).seen r
    ≡ highest (λ u. seen_number r (multi_of u.op)) (count_in s.seen r) us
unfolding highest
seen_end r lt s [] = refl
seen_end r lt s (u ∷ us) =
    seen_end r lt (multi_step s u.id (multi_of u.op)) us
    ∙ ap (λ n. highest (λ v. seen_number r (multi_of v.op)) n us) (seen_after r lt s u.id (multi_of u.op))

sees_number : (r n : ℕ) (o : Option Seeing) → 0 < n → sees (record {
  replica =
      r;
  number = n;
}) o ≡ nat_le n (seen_number r o)
unfolding seen_number
sees_number r n None more = sym (lt-leb n 0 more)
sees_number r n (Some x) more = refl

-- ## The values

module _ (us : List Update) (r : ℕ) (lt : r < 8) where
  abbrev end : MultiState
  end = fold (λ t u. multi_step t u.id (multi_of u.op)) multi_start us

  seen_is : (n : ℕ) → 0 < n → nat_le n (count_in end.seen r) ≡ seen_by_some us r n
  seen_is n more =
      ap (nat_le n) (seen_end r lt multi_start us)
      ∙ any_highest (λ u. seen_number r (multi_of u.op)) n (count_in multi_start.seen r) us
      ∙ ap (λ t. t || list_any (λ u. nat_le n (seen_number r (multi_of u.op))) us)
      (lt-leb n (count_in multi_start.seen r) (omega (arith, more, count_in-from (λ q. 0) r lt)))
      ∙ same_any _ _ us (λ u. sym (sees_number r n (multi_of u.op) more))

  not_seen : (n : ℕ) → nat_lt (count_in end.seen r) n ≡ (nat_lt 0 n && not (seen_by_some us r n))
  not_seen n = elim (cases_lt 0 n) [
    | inl more ↦
        turned n (count_in end.seen r)
        ∙ ap not (seen_is n more)
        ∙ ap (λ b. b && not (seen_by_some us r n)) (sym (lt-ltb 0 n more))
    | inr none ↦
        le-ltb (count_in end.seen r) n (omega arith)
        ∙ ap (λ b. b && not (seen_by_some us r n)) (sym (le-ltb 0 n none))
  ]
    where
      turned : (a b : ℕ) → nat_lt b a ≡ not (nat_le a b)
      turned a b = grind arith

  same_entry : (o : Option Entry) → beyond_seen end.seen r o ≡ unseen us r o
  same_entry None = refl
  same_entry (Some entry) = ap (λ b. cond b (Some entry.value) None) (not_seen entry.number)

  starts_empty : get_or multi_start.last r None ≡ None
  starts_empty = empty 8 r
    where
      empty : (n q : ℕ) → get_or {A = Option Entry} (replicate n None) q None ≡ None
      empty zero q = refl
      empty (suc n) zero = refl
      empty (suc n) (suc q) = empty n q

  pub same_value : beyond_seen end.seen r (get_or end.last r None) ≡ unseen us r (last_by us r)
  same_value =
      ap (beyond_seen end.seen r)
      (last_end r multi_start us lt ∙ ap (λ o. last_or o (filter_map (entry_by r) us)) starts_empty)
      ∙ same_entry (last_by us r)

multi_means : (us : List Update)
    → multi_reply (fold (λ t u. multi_step t u.id (multi_of u.op)) multi_start us) ≡ multi_value us
multi_means us = λ i.
    cons_option (same_value us 0 (omega arith) i) (cons_option (same_value us 1 (omega arith) i) (cons_option
    (same_value us 2 (omega arith) i) (cons_option (same_value us 3 (omega arith) i)
    (cons_option (same_value us 4 (omega arith) i) (cons_option (same_value us 5 (omega arith) i) (cons_option
    (same_value us 6 (omega arith) i) (cons_option (same_value us 7 (omega arith) i) [])))))))

pub multi_lawful : IsLawful multi_meaning
multi_lawful = record {
  commutes = λ s u v ne. swap s u.id v.id (multi_of u.op) (multi_of v.op) ne;
  keeps = λ s u. refl;
  starts = λ kind. refl;
  means = λ kind us question order. multi_means us;
}
