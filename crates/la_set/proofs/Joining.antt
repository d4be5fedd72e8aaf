-- Eight lists that become those of a union, one after another.
use Rattle.std.proofs.Common.{◌≡◌, ℕ, append_assoc, append-nil, ◌+◌, ◌<◌, ◌≤◌, List, [], ◌∷◌, ◌++◌, length, take, drop, get_or, set, Option, Some, None, option_map, refl, ap, sym, ◌∙◌, arith, inl, inr}
use Rattle.std.specs.List.{slice_get}
use Rattle.std.proofs.lemmas.List.{length-set, length-append, length-drop, get_or-set_same, get_or-set_other, get_or_default, take_more, take_all, drop-append-le, length-take, drop_all}
use Rattle.std.proofs.lemmas.Option.{none-some, same_Some, slice_get_within, get_or_from_slice_get}
use Rattle.std.proofs.lemmas.Bool.{cases_eq, cases_lt}
use Rattle.la_set.specs.declared.update.Update.{Update}
use Rattle.la_set.specs.ObjectOps.{ObjectOp, update_of}
use Rattle.la_set.specs.Histories.{Histories, history, count, numbered, IsWithinLimit}
use Rattle.la_set.specs.Join.{joined, join, IsCompatible}
use Rattle.la_set.specs.Representation.{represented, IsRepresentation}
use Rattle.la_set.specs.Agreement.{AgreeBelow}
use Rattle.la_set.proofs.lemmas.NumberedLists.{numbered-append, drop-numbered, length-numbered, slice_get-numbered}
use Rattle.la_set.proofs.lemmas.SetHistories.{count_past}
use Rattle.la_set.proofs.Representation.{represented-from, IsRepresentation-from}
use Rattle.la_set.proofs.lemmas.Inclusions.{compatible-agree}
use Rattle.la_set.proofs.lemmas.Joins.{history-join}
use Rattle.la_set.proofs.Walks.{longer_is, shorter_is}

-- a list, and then what another has beyond it, of two replica's lists
pub joined-numbered : (r : ℕ) (h k : List ObjectOp)
    → numbered r 1 h ++ drop (length (numbered r 1 h)) (numbered r 1 k) ≡ numbered r 1 (joined h k)
joined-numbered r h k =
    ap (λ n. numbered r 1 h ++ drop n (numbered r 1 k)) (length-numbered r 1 h)
    ∙ ap (λ us. numbered r 1 h ++ us) (drop-numbered r 1 (length h) k)
    ∙ sym (numbered-append r 1 h (drop (length h) k))

-- a union of sets within the limit is within it
pub join-within : (a b : Histories) → IsWithinLimit a → ((r : ℕ) → r < 8 → count b r ≤ 1000000)
    → IsWithinLimit (join a b)
join-within a b in_a in_b r =
    let many = ap length (history-join a b r) ∙ length-append (history a r) (drop (count a r) (history b r)) in
    let more = length-drop (count a r) (history b r) in
    elim (cases_lt r 8) [
      | inl lt ↦ omega (arith, many, more, in_a r, in_b r lt)
      | inr past ↦ omega (arith, many, more, in_a r, count_past b r past)
    ]

-- the lists below a replica's are those of the union, the others those of the first set
pub record IsJoining (a b : Histories) (lists : List (List Update)) (n : ℕ) : Type 0 where
  pub eight : length lists ≡ 8
  pub done : (r : ℕ) → r < n → r < 8 → get_or lists r [] ≡ numbered r 1 (joined (history a r) (history b r))
  pub todo : (r : ℕ) → n ≤ r → r < 8 → get_or lists r [] ≡ numbered r 1 (history a r)
  pub few : (r : ℕ) → r < n → count b r ≤ 1000000

module _ (a b : Histories) (lists : List (List Update)) (r : ℕ) (so_far : IsJoining a b lists r) (known : r < 8)
    (d : List Update) where
  pub not_yet : get_or lists r d ≡ numbered r 1 (history a r)
  not_yet = get_or_default lists r d [] (omega (arith, so_far.eight)) ∙ so_far.todo r (omega arith) known

module _ (a b : Histories) (lists : List (List Update)) (r : ℕ) (so_far : IsJoining a b lists r) (known : r < 8)
    (d theirs more : List Update) (is : theirs ≡ numbered r 1 (history b r)) where
  added : more ≡ get_or lists r d ++ drop (length (get_or lists r d)) theirs
      → more ≡ numbered r 1 (joined (history a r) (history b r))
  added e =
      e ∙ ap (λ us. us ++ drop (length us) theirs) (not_yet a b lists r so_far known d)
      ∙ ap (λ us. numbered r 1 (history a r) ++ drop (length (numbered r 1 (history a r))) us) is
      ∙ joined-numbered r (history a r) (history b r)

  now_done : more ≡ numbered r 1 (joined (history a r) (history b r)) → (q : ℕ) → q < r + 1 → q < 8
      → get_or (set lists r more) q [] ≡ numbered q 1 (joined (history a q) (history b q))
  now_done e q lt few = elim (cases_eq q r) [
    | inl here ↦ ap (λ p. get_or (set lists r more) p []) here ∙ get_or-set_same lists r more [] (omega (arith, so_far.eight)) ∙ e ∙ ap (λ p. numbered p 1 (joined (history a p) (history b p))) (sym here)
    | inr ne ↦ get_or-set_other lists r q more [] ne ∙ so_far.done q (omega arith) few
  ]

  fewer : length theirs ≤ 1000000 → (q : ℕ) → q < r + 1 → count b q ≤ 1000000
  fewer le q lt = elim (cases_eq q r) [
    | inl here ↦ omega (arith, le, ap (count b) here, ap length is, length-numbered r 1 (history b r))
    | inr ne ↦ so_far.few q (omega arith)
  ]

  pub joining-more : length theirs ≤ 1000000 → more ≡ get_or lists r d ++ drop (length (get_or lists r d)) theirs
      → IsJoining a b (set lists r more) (r + 1)
  joining-more le e = record {
    eight = length-set lists r more ∙ so_far.eight;
    done = now_done (added e);
    todo =
        λ q le few.
        get_or-set_other lists r q more [] (λ same. absurd (omega (arith, same, le))) ∙ so_far.todo q (omega arith) few;
    few = fewer le;
  }

module _ (a b : Histories) (lists : List (List Update)) (n : ℕ) (so_far : IsJoining a b lists n) (all : 8 ≤ n) where
  each : (r : ℕ) → r < 8 → get_or lists r [] ≡ numbered r 1 (history (join a b) r)
  each r lt = so_far.done r (omega arith) lt ∙ ap (numbered r 1) (sym (history-join a b r))

  pub joining-represented : represented lists ≡ join a b
  joining-represented = represented-from lists (join a b) each

  pub joining-keeps : IsWithinLimit a → IsRepresentation lists
  joining-keeps in_a =
      IsRepresentation-from lists (join a b) so_far.eight each (join-within a b in_a (λ r lt. so_far.few r (omega arith)))

-- the lists of one replica in two sets that fit agree wherever both reach
both_at : (f : ObjectOp → Update) (o q : Option ObjectOp) (x y : Update)
    → ((d e : ObjectOp) → o ≡ Some d → q ≡ Some e → d ≡ e) → option_map f o ≡ Some x → option_map f q ≡ Some y → x ≡ y
both_at f None q x y same is_x is_y = absurd (none-some x is_x)
both_at f (Some d) None x y same is_x is_y = absurd (none-some y is_y)
both_at f (Some d) (Some e) x y same is_x is_y =
    same_Some x (f d) (sym is_x) ∙ ap f (same d e refl refl) ∙ same_Some (f e) y is_y

agree-compatible : (a b : Histories) → IsCompatible a b → (r n : ℕ)
    → AgreeBelow (numbered r 1 (history a r)) (numbered r 1 (history b r)) n
agree-compatible a b fits r n k x y lt in_a in_b =
    both_at (update_of r (1 + k)) (slice_get (history a r) k) (slice_get (history b r) k) x y
    (compatible-agree a b fits r k)
    (sym (slice_get-numbered r 1 (history a r) k) ∙ in_a) (sym (slice_get-numbered r 1 (history b r) k) ∙ in_b)

pub agree-lists : (a b : Histories) → IsCompatible a b → (r : ℕ) (us vs : List Update) → us ≡ numbered r 1 (history a r)
    → vs ≡ numbered r 1 (history b r) → AgreeBelow us vs (length us)
agree-lists a b fits r us vs is_us is_vs k x y lt in_us in_vs =
    agree-compatible a b fits r (length us) k x y lt (ap (λ ws. slice_get ws k) (sym is_us) ∙ in_us)
    (ap (λ ws. slice_get ws k) (sym is_vs) ∙ in_vs)

-- the longer of the two is that of the join
pub longer-first : (a b : Histories) (r : ℕ) → count b r ≤ count a r
    → numbered r 1 (history a r) ≡ numbered r 1 (history (join a b) r)
longer-first a b r le = ap (numbered r 1) (shorter_is (history a r) (history b r) le ∙ sym (history-join a b r))

pub longer-second : (a b : Histories) → IsCompatible a b → (r : ℕ) → count a r ≤ count b r
    → numbered r 1 (history b r) ≡ numbered r 1 (history (join a b) r)
longer-second a b fits r le =
    let us = numbered r 1 (history a r) in let vs = numbered r 1 (history b r) in
    longer_is us vs (agree-lists a b fits r us vs refl refl)
    (omega (arith, le, length-numbered r 1 (history a r), length-numbered r 1 (history b r)))
    ∙ joined-numbered r (history a r) (history b r)
    ∙ ap (numbered r 1) (sym (history-join a b r))

-- ## A list that catches up with another, item by item

module _ (mine theirs : List Update) where
  -- with what the other has below a place
  abbrev pub up_to : ℕ → List Update
  up_to place = mine ++ drop (length mine) (take place theirs)

  pub up_to-more : (place : ℕ) (u : Update) → length mine ≤ place → slice_get theirs place ≡ Some u
      → up_to place ++ u ∷ [] ≡ up_to (place + 1)
  up_to-more place u le got =
      append_assoc mine (drop (length mine) (take place theirs)) (u ∷ [])
      ∙ ap (λ us. mine ++ us) (sym (
      ap (drop (length mine))
      (take_more theirs place u (slice_get_within theirs place u got)
      ∙ ap (λ v. take place theirs ++ v ∷ []) (get_or_from_slice_get theirs place u u got))
      ∙ drop-append-le (length mine) (take place theirs) (u ∷ []) (omega (arith, le, length-take place theirs, slice_get_within theirs place u got))))

  pub up_to-none : (place : ℕ) → place ≤ length mine → up_to place ≡ mine
  up_to-none place le =
      ap (λ us. mine ++ us) (drop_all (length mine) (take place theirs) (omega (arith, le, length-take place theirs)))
      ∙ append-nil mine

  pub up_to-all : (place : ℕ) → length theirs ≤ place → up_to place ≡ mine ++ drop (length mine) theirs
  up_to-all place le = ap (λ us. mine ++ drop (length mine) us) (take_all place theirs le)
