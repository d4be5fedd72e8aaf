-- A set that is kept as eight lists: what each list is, and what an edit of one keeps.
use Rattle.std.proofs.Common.{◌≡◌, ◌≢◌, ℕ, zero, suc, ◌+◌, ◌<◌, ◌≤◌, List, [], ◌∷◌, ◌++◌, length, take, get_or, map, min, set, replicate, refl, ap, sym, ◌∙◌, subst, arith, inl, inr, ap₂, ◌⊎◌}
use Rattle.std.proofs.lemmas.List.{length-set, get_or-set_same, get_or-set_other, get_or_default, get_or-replicate, length-map, length-take, take_all, take-take}
use Rattle.std.proofs.lemmas.Bool.{cases_eq, cases_lt}
use Rattle.std.proofs.Math.Nat.{min_comm}
use Rattle.la_set.specs.declared.update.Update.{Update}
use Rattle.la_set.specs.ObjectOps.{ObjectOp, object_op_of, update_of}
use Rattle.la_set.specs.declared.counts.Counts.{Counts}
use Rattle.la_set.specs.Counts.{count_in, from_counts, counts_of}
use Rattle.la_set.specs.Histories.{Histories, empty, history, count, with_history, truncate, numbered, IsWithinLimit}
use Rattle.la_set.specs.Representation.{represented, lengths_of, IsRepresentation}
use Rattle.la_set.specs.declared.kept.Cut.{Cut}
use Rattle.la_set.specs.declared.kept.Kept.{Kept}
use Rattle.la_set.specs.Kept.{lists_of, cut_of, cut_to, stored}
use Rattle.la_set.proofs.lemmas.NumberedLists.{object_ops-numbered, length-numbered, numbered-append, take-numbered}
use Rattle.la_set.proofs.lemmas.Counting.{count_in-from_counts, same_counts, capped_at, capped_at-own, capped_at-other}
use Rattle.la_set.proofs.lemmas.SetHistories.{history-from_histories, same_histories, history-with_same, history-with_other, history-empty, count-edited, count-shortened, count_past, shortened-none, known_from_count, with_history-with_history}

-- a list of lists that holds each replica's updates
pub represented-from : (lists : List (List Update)) (s : Histories)
    → ((r : ℕ) → r < 8 → get_or lists r [] ≡ numbered r 1 (history s r)) → represented lists ≡ s
unfolding represented
represented-from lists s each =
    same_histories _ _
    (λ r lt.
    history-from_histories (λ q. map object_op_of (get_or lists q [])) r lt ∙ ap (map object_op_of) (each r lt)
    ∙ object_ops-numbered r 1 (history s r))

pub IsRepresentation-from : (lists : List (List Update)) (s : Histories) → length lists ≡ 8
    → ((r : ℕ) → r < 8 → get_or lists r [] ≡ numbered r 1 (history s r)) → ((r : ℕ) → count s r ≤ 1000000)
    → IsRepresentation lists
IsRepresentation-from lists s eight each within =
    let same = represented-from lists s each in
    record { eight = eight; in_order = λ r lt. each r lt ∙ ap (λ t. numbered r 1 (history t r)) (sym same); within = λ r. subst (λ t. count t r ≤ 1000000) (sym same) (within r) }

-- the list of a replica
pub list_at : (lists : List (List Update)) (s : Histories) (r : ℕ) (d : List Update) → r < 8 → IsRepresentation lists
    → represented lists ≡ s → get_or lists r d ≡ numbered r 1 (history s r)
list_at lists s r d lt keeps is =
    get_or_default lists r d [] (omega (arith, keeps.eight)) ∙ keeps.in_order r lt
    ∙ ap (λ t. numbered r 1 (history t r)) is

-- how long a list is
pub length-at : (lists : List (List Update)) (c : Counts) (r : ℕ) → r < 8 → c ≡ lengths_of lists
    → count_in c r ≡ length (get_or lists r [])
length-at lists c r lt is = ap (λ k. count_in k r) is ∙ count_in-from_counts (λ q. length (get_or lists q [])) r lt

-- ## One list that is cut

-- and where none is
pub uncut : (lists : List (List Update)) (n : ℕ) → truncate (represented lists) 8 n ≡ represented lists
uncut lists n =
    same_histories _ _ (λ r lt. history-with_other (represented lists) 8 _ r (λ e. absurd (omega (arith, e, lt))))

pub stored-uncut : (kept : Kept) → (cut_of kept).replica ≡ 8 → stored kept ≡ represented (lists_of kept)
stored-uncut kept is =
    ap (λ q. truncate (represented (lists_of kept)) q (cut_of kept).len) is ∙ uncut (lists_of kept) (cut_of kept).len

-- a set that is cut nowhere, or here, is cut here by its lists
pub recut : (kept : Kept) (r n : ℕ) → ((cut_of kept).replica ≡ 8) ⊎ ((cut_of kept).replica ≡ r)
    → n < count (stored kept) r → truncate (represented (lists_of kept)) r n ≡ truncate (stored kept) r n
recut kept r n (inl whole) more = sym (ap (λ s. truncate s r n) (stored-uncut kept whole))
recut kept r n (inr here) more =
    let s = represented (lists_of kept) in let m = (cut_of kept).len in
    let lt : r < 8 = known_from_count (stored kept) r (omega (arith, more)) in
    let is = ap (λ q. truncate s q m) here in
    let cut = ap (λ t. history t r) is ∙ history-with_same s r (take m (history s r)) r lt refl in
    let few : n ≤ m = omega (arith, more, ap length cut, length-take m (history s r)) in
    sym
    (ap₂ (λ t ds. with_history t r (take n ds)) is cut
    ∙ with_history-with_history s r (take m (history s r)) (take n (take m (history s r))) lt
    ∙ ap (with_history s r) (take-take n m (history s r) few))

pub cut-within : (s : Histories) (q n : ℕ) → IsWithinLimit s → IsWithinLimit (truncate s q n)
cut-within s q n within r = elim (cases_lt q 8) [
  | inl lt ↦ count-shortened s q n lt within r
  | inr past ↦ elim (cases_eq r q) [
    | inl e ↦ omega (arith, count_past (truncate s q n) r (omega (arith, past, e)))
    | inr ne ↦ omega (arith, ap length (history-with_other s q (take n (history s q)) r ne), within r)
  ]
]

pub cut-limit : (kept : Kept) (s : Histories) → IsRepresentation (lists_of kept) → stored kept ≡ s → IsWithinLimit s
cut-limit kept s keeps is =
    subst IsWithinLimit is (cut-within (represented (lists_of kept)) (cut_of kept).replica (cut_of kept).len keeps.within)

module _ (kept : Kept) (s : Histories) (cut : Cut) (keeps : IsRepresentation (lists_of kept))
    (is_cut : cut ≡ cut_of kept) (stores : stored kept ≡ s) where
  abbrev lists : List (List Update)
  lists = lists_of kept

  abbrev whole : Histories
  whole = represented lists

  is : cut_to cut whole ≡ s
  is = ap (λ at. cut_to at whole) is_cut ∙ stores

  module _ (r : ℕ) (d : List Update) (lt : r < 8) where
    list-whole : get_or lists r d ≡ numbered r 1 (history whole r)
    list-whole = list_at lists whole r d lt keeps refl

    pub cut-list_other : r ≢ cut.replica → get_or lists r d ≡ numbered r 1 (history s r)
    cut-list_other ne =
        list-whole ∙ ap (numbered r 1) (sym (history-with_other whole cut.replica _ r ne))
        ∙ ap (λ t. numbered r 1 (history t r)) is

    pub cut-list_own : r ≡ cut.replica → take cut.len (get_or lists r d) ≡ numbered r 1 (history s r)
    cut-list_own e =
        ap (take cut.len) list-whole
        ∙ take-numbered r 1 cut.len (history whole r)
        ∙ ap (λ p. numbered r 1 (take cut.len (history whole p))) e
        ∙ ap (numbered r 1) (sym (history-with_same whole cut.replica _ r (omega (arith, lt, e)) e))
        ∙ ap (λ t. numbered r 1 (history t r)) is

    pub cut-list_short : r ≡ cut.replica → length (get_or lists r d) ≤ cut.len
        → get_or lists r d ≡ numbered r 1 (history s r)
    cut-list_short e few = sym (take_all cut.len (get_or lists r d) few) ∙ cut-list_own e

    pub cut-count_other : r ≢ cut.replica → length (get_or lists r d) ≡ count s r
    cut-count_other ne = ap length (cut-list_other ne) ∙ length-numbered r 1 (history s r)

    pub cut-count_own : r ≡ cut.replica → min (length (get_or lists r d)) cut.len ≡ count s r
    cut-count_own e =
        min_comm (length (get_or lists r d)) cut.len ∙ sym (length-take cut.len (get_or lists r d))
        ∙ ap length (cut-list_own e) ∙ length-numbered r 1 (history s r)

  pub cut-counts : (c : Counts) → c ≡ lengths_of lists → from_counts (capped_at c cut.replica cut.len) ≡ counts_of s
  cut-counts c are = same_counts (capped_at c cut.replica cut.len) (count s) (λ r lt. elim (cases_eq r cut.replica) [
    | inl e ↦ capped_at-own c cut.replica cut.len r e ∙ ap (λ k. min k cut.len) (length-at lists c r lt are) ∙ cut-count_own r [] lt e
    | inr ne ↦ capped_at-other c cut.replica cut.len r ne ∙ length-at lists c r lt are ∙ cut-count_other r [] lt ne
  ])

-- one list in the place of another
module _ (lists : List (List Update)) (s : Histories) (r : ℕ) (us : List Update) (known : r < 8)
    (eight : length lists ≡ 8) (each : (q : ℕ) → q < 8 → get_or lists q [] ≡ numbered q 1 (history s q))
    (listed : us ≡ numbered r 1 (map object_op_of us)) where
  each_edited : (q : ℕ) → q < 8
      → get_or (set lists r us) q [] ≡ numbered q 1 (history (with_history s r (map object_op_of us)) q)
  each_edited q lt = elim (cases_eq q r) [
    | inl e ↦ ap (λ p. get_or (set lists r us) p []) e ∙ get_or-set_same lists r us [] (omega (arith, eight)) ∙ listed ∙ ap (λ p. numbered p 1 (map object_op_of us)) (sym e) ∙ ap (numbered q 1) (sym (history-with_same s r (map object_op_of us) q known e))
    | inr ne ↦ get_or-set_other lists r q us [] ne ∙ each q lt ∙ ap (numbered q 1) (sym (history-with_other s r (map object_op_of us) q ne))
  ]

  pub represented-edited : represented (set lists r us) ≡ with_history s r (map object_op_of us)
  represented-edited = represented-from _ (with_history s r (map object_op_of us)) each_edited

  pub IsRepresentation-edited : length us ≤ 1000000 → IsWithinLimit s → IsRepresentation (set lists r us)
  IsRepresentation-edited few within =
      IsRepresentation-from _ (with_history s r (map object_op_of us)) (length-set lists r us ∙ eight) each_edited
      (count-edited s r (map object_op_of us) known (omega (arith, few, length-map us object_op_of)) within)

-- a replica's updates are named by their operations
pub numbered-object_ops : (us : List Update) (r : ℕ) (ds : List ObjectOp) → us ≡ numbered r 1 ds
    → us ≡ numbered r 1 (map object_op_of us)
numbered-object_ops us r ds e = e ∙ ap (numbered r 1) (sym (ap (map object_op_of) e ∙ object_ops-numbered r 1 ds))

-- a replica's list with the next update
pub pushed-list : (s : Histories) (u : Update) (list : List Update) → u.id.number ≡ count s u.id.replica + 1
    → list ≡ numbered u.id.replica 1 (history s u.id.replica) ++ u ∷ []
    → list ≡ numbered u.id.replica 1 (history s u.id.replica ++ object_op_of u ∷ [])
pushed-list s u list next e =
    let r = u.id.replica in
    e
    ∙ sym
    (numbered-append r 1 (history s r) (object_op_of u ∷ [])
    ∙ ap (λ n. numbered r 1 (history s r) ++ update_of r n (object_op_of u) ∷ []) {x = 1 + count s r}
    {y = u.id.number} (omega (arith, next)))

-- eight empty lists
pub none_each : (r : ℕ) → r < 8 → get_or (replicate 8 []) r [] ≡ numbered r 1 (history empty r)
none_each r lt = get_or-replicate 8 r [] [] lt ∙ ap (numbered r 1) (sym (history-empty r))

-- of these nothing is cut
pub cut-nothing : (q n : ℕ) → represented (replicate 8 []) ≡ truncate (represented (replicate 8 [])) q n
cut-nothing q n =
    let none = represented-from (replicate 8 []) empty none_each in
    shortened-none (represented (replicate 8 [])) q n
    (omega (arith, ap (λ s. count s q) none, ap length (history-empty q)))

-- eight lists, each that of one replica
pub eight_each : (s : Histories) (a b c d e f g h : List Update) → a ≡ numbered 0 1 (history s 0)
    → b ≡ numbered 1 1 (history s 1) → c ≡ numbered 2 1 (history s 2) → d ≡ numbered 3 1 (history s 3)
    → e ≡ numbered 4 1 (history s 4) → f ≡ numbered 5 1 (history s 5) → g ≡ numbered 6 1 (history s 6)
    → h ≡ numbered 7 1 (history s 7) → (r : ℕ) → r < 8
    → get_or (a ∷ b ∷ c ∷ d ∷ e ∷ f ∷ g ∷ h ∷ []) r [] ≡ numbered r 1 (history s r)
eight_each s a b c d e f g h p0 p1 p2 p3 p4 p5 p6 p7 zero lt = p0
eight_each s a b c d e f g h p0 p1 p2 p3 p4 p5 p6 p7 (suc zero) lt = p1
eight_each s a b c d e f g h p0 p1 p2 p3 p4 p5 p6 p7 (suc (suc zero)) lt = p2
eight_each s a b c d e f g h p0 p1 p2 p3 p4 p5 p6 p7 (suc (suc (suc zero))) lt = p3
eight_each s a b c d e f g h p0 p1 p2 p3 p4 p5 p6 p7 (suc (suc (suc (suc zero)))) lt = p4
eight_each s a b c d e f g h p0 p1 p2 p3 p4 p5 p6 p7 (suc (suc (suc (suc (suc zero))))) lt = p5
eight_each s a b c d e f g h p0 p1 p2 p3 p4 p5 p6 p7 (suc (suc (suc (suc (suc (suc zero)))))) lt = p6
eight_each s a b c d e f g h p0 p1 p2 p3 p4 p5 p6 p7 (suc (suc (suc (suc (suc (suc (suc zero))))))) lt = p7
eight_each s a b c d e f g h p0 p1 p2 p3 p4 p5 p6 p7 (suc (suc (suc (suc (suc (suc (suc (suc r)))))))) lt =
    absurd (omega arith)
