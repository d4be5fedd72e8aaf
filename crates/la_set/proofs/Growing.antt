-- A set that grows, update by update, out of fronts of another's lists.
use Rattle.std.proofs.Common.{◌≡◌, ℕ, ◌+◌, ◌<◌, ◌≤◌, Bool, false, IsTrue, List, [], ◌∷◌, ◌++◌, length, take, get_or, set, map, Option, Some, refl, ap, sym, ◌∙◌, subst, arith, inl, inr}
use Rattle.std.specs.List.{slice_get}
use Rattle.std.specs.Borrow.{Bor}
use Rattle.std.specs.Global.{Global}
use Rattle.std.specs.declared.sync.Arc.{Arc}
use Rattle.std.proofs.lemmas.List.{take_more, length-set, length-take, length-append, get_or_default}
use Rattle.std.proofs.lemmas.List.{get_or-map, get_or-set_same, get_or-set_other, take_min, take-take}
use Rattle.std.proofs.lemmas.Option.{slice_get_within, get_or_from_slice_get}
use Rattle.std.proofs.lemmas.Bool.{cases_eq}
use Rattle.la_set.specs.declared.update.Update.{Update}
use Rattle.la_set.specs.declared.counts.Counts.{Counts}
use Rattle.la_set.specs.ObjectOps.{object_op_of}
use Rattle.la_set.specs.Histories.{Histories, history, count, numbered, updates_of, push, with_history, IsNext}
use Rattle.la_set.specs.Links.{lent_items}
use Rattle.la_set.specs.Representation.{represented, IsRepresentation, IsFront, lent_lists, AllBegin, GrowsFrom}
use Rattle.la_set.specs.Counts.{count_in, HasCounts, within}
use Rattle.la_set.proofs.lemmas.NumberedLists.{length-numbered, take-numbered, object_ops-numbered}
use Rattle.la_set.proofs.Representation.{list_at, pushed-list, numbered-object_ops, represented-edited, IsRepresentation-edited}
use Rattle.la_set.proofs.lemmas.SetHistories.{history-with_same, history-with_other}
use Rattle.la_set.proofs.lemmas.Counting.{history-within, count-within}

-- a front, with the item that comes next in the whole
pub next-front : (list all : List Update) (n : ℕ) (u : Update) → n ≡ length list → IsFront list all
    → slice_get all n ≡ Some u → take (n + 1) all ≡ list ++ u ∷ []
next-front list all n u is front got =
    take_more all n u (slice_get_within all n u got)
    ∙ ap (λ v. take n all ++ v ∷ []) (get_or_from_slice_get all n u u got)
    ∙ ap (λ us. us ++ u ∷ []) (ap (λ k. take k all) is ∙ sym front)

pub take-front : (all : List Update) (n : ℕ) → IsFront (take n all) all
take-front all n = sym (ap (λ k. take k all) (length-take n all) ∙ take_min n all)

-- the list that a lent one has
pub lent-at : (lists : List (Option (Bor (Arc (List Update) Global)))) (r : ℕ)
    (d : Option (Bor (Arc (List Update) Global))) → r < length lists
    → get_or (lent_lists lists) r [] ≡ lent_items (get_or lists r d)
lent-at lists r d lt = get_or-map lent_items lists r d [] lt

-- what is within counts is a front of the set's own list
pub begins-own : (s : Histories) (c : Counts) (r : ℕ) → IsFront (updates_of (within s c) r) (updates_of s r)
begins-own s c r =
    subst (λ us. IsFront us (updates_of s r))
    (take-numbered r 1 (count_in c r) (history s r) ∙ ap (numbered r 1) (sym (history-within s c r)))
    (take-front (updates_of s r) (count_in c r))

-- and of that of another set that has the same as far as that goes
pub begins-other : (s t : Histories) (b c : Counts) (r : ℕ) → within s b ≡ within t b → count_in c r ≤ count_in b r
    → IsFront (updates_of (within s c) r) (updates_of t r)
begins-other s t b c r same few =
    let n = count_in c r in let m = count_in b r in
    subst (λ us. IsFront us (updates_of t r))
    (take-numbered r 1 n (history t r)
    ∙ ap (numbered r 1)
    (sym (take-take n m (history t r) few)
    ∙ ap (take n)
    (sym (history-within t b r) ∙ ap (λ (x : Histories). history x r) (sym same) ∙ history-within s b r)
    ∙ take-take n m (history s r) few
    ∙ sym (history-within s c r)))
    (take-front (updates_of t r) n)

-- where a list begins with what a set has within counts, its first so many are that
pub begun : (s : Histories) (c : Counts) (r : ℕ) (list : List Update) → HasCounts s c
    → IsFront (updates_of (within s c) r) list
    → (count_in c r ≤ length list) × (take (count_in c r) list ≡ updates_of (within s c) r)
begun s c r list has front =
    let n : length (updates_of (within s c) r) ≡ count_in c r =
    length-numbered r 1 (history (within s c) r) ∙ count-within s c has r in (
      omega (arith, n, ap length front, length-take (length (updates_of (within s c) r)) list),
      ap (λ k. take k list) (sym n) ∙ sym front,
    )

-- what is within counts is made of fronts of all lists that begin with it
pub fronts-grow : (x : Histories) (c : Counts) (sources lists : List (List Update)) (flags : List Bool)
    → length flags ≡ 8 → AllBegin sources x c → IsRepresentation lists → represented lists ≡ within x c
    → GrowsFrom sources lists flags
fronts-grow x c sources lists flags eight begin keeps is = record {
  keeps = keeps;
  eight = eight;
  own =
      λ r lt flag.
      subst (λ us. IsFront us (get_or sources r []))
      (sym (list_at lists (within x c) r [] lt keeps is)) (begin r lt);
}

module _ (x lists : List (List Update)) (flags : List Bool) (grows : GrowsFrom x lists flags) (r : ℕ)
    (known : r < 8) where
  pub grown-list : (d : List Update) → get_or lists r d ≡ numbered r 1 (history (represented lists) r)
  grown-list d = list_at lists (represented lists) r d known grows.keeps refl

  pub grown-length : (d : List Update) → length (get_or lists r d) ≡ count (represented lists) r
  grown-length d = ap length (grown-list d) ∙ length-numbered r 1 (history (represented lists) r)

  pub grown-own : (d : List Update) (f : Bool) → IsTrue (get_or flags r f)
      → IsFront (get_or lists r d) (get_or x r [])
  grown-own d f flag =
      subst (λ us. IsFront us (get_or x r [])) (get_or_default lists r [] d (omega (arith, grows.keeps.eight)))
      (grows.own r known (get_or_default flags r false f (omega (arith, grows.eight)) ∙ flag))

module _ (x lists : List (List Update)) (flags : List Bool) (grows : GrowsFrom x lists flags) (u : Update)
    (next : IsNext (represented lists) u.id) (d more : List Update) (is : more ≡ get_or lists u.id.replica d ++ u ∷ [])
  where
    longer : more ≡ numbered u.id.replica 1 (history (represented lists) u.id.replica ++ object_op_of u ∷ [])
    longer =
        pushed-list (represented lists) u more next.next
        (is ∙ ap (λ us. us ++ u ∷ []) (grown-list x lists flags grows u.id.replica next.known d))

    pub grown-pushed : represented (set lists u.id.replica more) ≡ push (represented lists) u
    grown-pushed =
        represented-edited lists (represented lists) u.id.replica more next.known grows.keeps.eight grows.keeps.in_order
        (numbered-object_ops more u.id.replica _ longer)
        ∙ ap (with_history (represented lists) u.id.replica)
        (ap (map object_op_of) longer ∙ object_ops-numbered u.id.replica 1 _)

    few : length more ≤ 1000000
    few =
        omega (
          arith,
          ap length is,
          length-append (get_or lists u.id.replica d) (u ∷ []),
          grown-length x lists flags grows
              u.id.replica next.known d,
          next.next,
          next.within,
        )

    still : (flag : Bool) → (IsTrue flag → IsFront more (get_or x u.id.replica [])) → (q : ℕ) → q < 8
        → IsTrue (get_or (set flags u.id.replica flag) q false)
        → IsFront (get_or (set lists u.id.replica more) q []) (get_or x q [])
    still flag own q lt on = elim (cases_eq q u.id.replica) [
      | inl e ↦ subst (λ p. IsTrue (get_or (set flags u.id.replica flag) p false) → IsFront (get_or (set lists u.id.replica more) p []) (get_or x p [])) (sym e)
          (λ here.
          subst (λ us. IsFront us (get_or x u.id.replica []))
          (sym (get_or-set_same lists u.id.replica more [] (omega (arith, next.known, grows.keeps.eight))))
          (own (sym (get_or-set_same flags u.id.replica flag false (omega (arith, next.known, grows.eight))) ∙ here)))
          on
      | inr ne ↦ subst (λ us. IsFront us (get_or x q [])) (sym (get_or-set_other lists u.id.replica q more [] ne)) (grows.own q lt (sym (get_or-set_other flags u.id.replica q flag false ne) ∙ on))
    ]

    pub grown-on : (flag : Bool) → (IsTrue flag → IsFront more (get_or x u.id.replica []))
        → GrowsFrom x (set lists u.id.replica more) (set flags u.id.replica flag)
    grown-on flag own = record {
      keeps =
          IsRepresentation-edited lists (represented lists) u.id.replica more next.known grows.keeps.eight
          grows.keeps.in_order (numbered-object_ops more u.id.replica _ longer) few grows.keeps.within;
      eight = length-set flags u.id.replica flag ∙ grows.eight;
      own = still flag own;
    }

-- counts, with the number of an update that comes next
pub counts-push : (s : Histories) (u : Update) (counts : List ℕ) → IsNext s u.id → length counts ≡ 8
    → ((r : ℕ) → r < 8 → get_or counts r 0 ≡ count s r) → (r : ℕ) → r < 8
    → get_or (set counts u.id.replica u.id.number) r 0 ≡ count (push s u) r
counts-push s u counts next eight each r lt =
    let q = u.id.replica in let longer = history s q ++ object_op_of u ∷ [] in
    elim (cases_eq r q) [
      | inl e ↦
          ap (λ p. get_or (set counts q u.id.number) p 0) e
          ∙ get_or-set_same counts q u.id.number 0 (omega (arith, next.known, eight))
          ∙ next.next ∙ sym (length-append (history s q) (object_op_of u ∷ []))
          ∙ sym (ap length (history-with_same s q longer r next.known e))
      | inr ne ↦ get_or-set_other counts q r u.id.number 0 ne ∙ each r lt ∙ sym (ap length (history-with_other s q longer r ne))
    ]
