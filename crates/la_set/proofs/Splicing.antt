-- What a set's delta stands for over another set, as a join.
use Rattle.std.proofs.Common.{◌≡◌, ℕ, ◌<◌, ◌≤◌, List, [], ◌∷◌, ◌++◌, length, take, drop, get_or}
use Rattle.std.proofs.Common.{ap, sym, subst, ◌∙◌, arith, suc, zero, refl}
use Rattle.std.proofs.lemmas.List.{length-append, length-take, take-take, length-drop}
use Rattle.std.proofs.lemmas.List.{nil_from_length, take-append-le, take_all}
use Rattle.std.proofs.Math.Seq.{drop-append_seam}
use Rattle.la_set.specs.declared.counts.Counts.{Counts}
use Rattle.la_set.specs.declared.update.Update.{Update}
use Rattle.la_set.specs.Histories.{Histories, history, count, numbered, IsWithinLimit}
use Rattle.la_set.specs.Join.{join, joined}
use Rattle.la_set.specs.Agreement.{StartsWith}
use Rattle.la_set.specs.AgreeWithin.{AgreeWithin}
use Rattle.la_set.specs.Representation.{represented, four_of, IsRepresentation, Splices, spliced_at}
use Rattle.la_set.specs.Counts.{count_in, HasCounts, within}
use Rattle.la_set.specs.Deltas.{DeltaState, delta_over, over, pushed, rebuilt, IsOver}
use Rattle.la_set.proofs.Joining.{joined-numbered}
use Rattle.la_set.proofs.Overs.{parts, part, over-parts, over-pushes}
use Rattle.la_set.proofs.Pushing.{pushed-PushesTo}
use Rattle.la_set.proofs.Rebuilding.{next-over, within-fronts}
use Rattle.la_set.proofs.Representation.{eight_each, represented-from, IsRepresentation-from}
use Rattle.la_set.proofs.Fours.{count-low, count-high, few-list}
use Rattle.la_set.proofs.lemmas.NumberedLists.{length-numbered, take-numbered}
use Rattle.la_set.proofs.lemmas.Counting.{history-within, count-within}
use Rattle.la_set.proofs.lemmas.Joins.{history-join}
use Rattle.la_set.proofs.lemmas.SetHistories.{same_histories}

parts-same : (f g : ℕ → List Update) (r k : ℕ) → ((q : ℕ) → f q ≡ g q) → parts f r k ≡ parts g r k
parts-same f g r zero same = refl
parts-same f g r (suc k) same =
    ap (λ us. us ++ parts f (suc r) k) (same r) ∙ ap (λ us. g r ++ us) (parts-same f g (suc r) k same)

-- A set that is told, of which another has so many of each replica, is joined with what is there within them.
module _ (x s : Histories) (base : Counts) (mine : HasCounts x base) (theirs : HasCounts s base) where
  abbrev front : Histories
  front = within x base

  abbrev whole : Histories
  whole = join front s

  module _ (r : ℕ) where
    many : count front r ≡ count_in base r
    many = count-within x base mine r

    -- the updates of the front
    abbrev updates : List Update
    updates = numbered r 1 (history front r)

    front-list : length updates ≡ count_in base r
    front-list = length-numbered r 1 (history front r) ∙ many

    whole-count : count whole r ≡ count s r
    whole-count =
        ap length (history-join front s r) ∙ length-append (history front r) (drop (count front r) (history s r))
        ∙ omega (arith, many, theirs r, length-drop (count front r) (history s r))

    whole-front : history (within whole base) r ≡ history front r
    whole-front =
        history-within whole base r ∙ ap (take (count_in base r)) (history-join front s r)
        ∙ take-append-le (count_in base r) (history front r) (drop (count front r) (history s r)) (omega (arith, many))
        ∙ take_all (count_in base r) (history front r) (omega (arith, many))

    whole-part : part whole base r ≡ part s base r
    unfolding part
    whole-part =
        ap (drop (count_in base r))
        (ap (numbered r 1) (history-join front s r) ∙ sym (joined-numbered r (history front r) (history s r)))
        ∙ ap (λ n. drop n (joined updates (numbered r 1 (history s r)))) (sym front-list)
        ∙ drop-append_seam updates (drop (length updates) (numbered r 1 (history s r)))
        ∙ ap (λ n. drop n (numbered r 1 (history s r))) front-list

    pub whole-none : count s r ≡ 0 → [] ≡ numbered r 1 (history whole r)
    whole-none none =
        let many = length-numbered r 1 (history whole r) ∙ whole-count ∙ none in
        sym (nil_from_length (numbered r 1 (history whole r)) many)

    pub whole-list : (list next : List Update) → list ≡ updates → next ≡ numbered r 1 (history s r)
        → joined list next ≡ numbered r 1 (history whole r)
    whole-list list next is_list is_next =
        ap (λ us. joined us next) is_list ∙ ap (joined updates) is_next
        ∙ joined-numbered r (history front r) (history s r) ∙ ap (numbered r 1) (sym (history-join front s r))

  whole-has : HasCounts whole base
  whole-has r = omega (arith, whole-count r, theirs r)

  pub whole-limit : IsWithinLimit s → IsWithinLimit whole
  whole-limit few r = omega (arith, whole-count r, few r)

  whole-over : over whole base ≡ over s base
  whole-over =
      over-parts whole base ∙ parts-same (part whole base) (part s base) 0 8 whole-part ∙ sym (over-parts s base)

  rebuilt-join : IsWithinLimit s → rebuilt x (delta_over s base) ≡ whole
  rebuilt-join few =
      ap (λ us. pushed front us) (sym whole-over)
      ∙ ap (λ w. pushed w (over whole base)) (sym (same_histories (within whole base) front (λ r lt. whole-front r)))
      ∙ pushed-PushesTo (over whole base) (within whole base) whole (over-pushes whole base whole-has (whole-limit few))

-- the same of a delta that is known to be one
module _ (x s : Histories) (d : DeltaState) (is : d ≡ delta_over s d.base) (mine : HasCounts x d.base)
    (theirs : HasCounts s d.base) (few : IsWithinLimit s) where
  pub join-rebuilt : join (within x d.base) s ≡ rebuilt x d
  join-rebuilt = sym (rebuilt-join x s d.base mine theirs few) ∙ ap (rebuilt x) (sym is)

  pub join-stands : IsOver x d
  join-stands = record { base = mine; next = next-over x s d.base d (sym is) mine theirs few }

-- ## List by list, of sets that have those of replicas 0 to 3 alone

-- where a list begins with the first so many of another, it has so many, and these are the same
pub begun-at : (list mine : List Update) (len : ℕ) → len ≤ length mine → StartsWith list (take len mine)
    → (len ≤ length list) × (take len list ≡ take len mine)
begun-at list mine len le front =
    let n : length (take len mine) ≡ len = omega (arith, length-take len mine, le) in (
      omega (arith, n, ap length front, length-take (length (take len mine)) list),
      ap (λ k. take k list) (sym n) ∙ sym front,
    )

module _ (s t : Histories) (mine next : List (List Update)) (s_is : s ≡ represented (four_of mine ++ four_of []))
    (t_is : t ≡ represented (four_of next ++ four_of [])) (s_keeps : IsRepresentation (four_of mine ++ four_of []))
    (t_keeps : IsRepresentation (four_of next ++ four_of [])) (base : Counts) (mine_has : HasCounts s base)
    (next_has : HasCounts t base) where
  pub few-splices : (o : Histories) (other : List (List Update)) (known : Counts)
      → o ≡ represented (four_of other ++ four_of []) → IsRepresentation (four_of other ++ four_of [])
      → AgreeWithin known s o → IsWithinLimit t → (r : ℕ) → r < 4
      → Splices mine next other r (count_in base r) (count_in known r)
  few-splices o other known o_is o_keeps agree few r lt =
      let n = count_in base r in let m = count_in known r in
      record {
        first = omega (arith, mine_has r, count-low s mine s_is r lt);
        second = omega (arith, next_has r, count-low t next t_is r lt);
        limit = omega (arith, few r, count-low t next t_is r lt);
        alike = λ le.
            ap (take n) (few-list s mine s_is s_keeps r lt)
            ∙ sym (take-take n m (numbered r 1 (history s r)) le)
            ∙ ap (take n) (within-fronts s o known agree.same r)
            ∙ take-take n m (numbered r 1 (history o r)) le
            ∙ sym (ap (take n) (few-list o other o_is o_keeps r lt));
      }

  spliced-list : (r : ℕ) → r < 4 → (list : List Update) → list ≡ spliced_at mine next r (count_in base r)
      → list ≡ numbered r 1 (history (join (within s base) t) r)
  spliced-list r lt list is =
      let n = count_in base r in
      is
      ∙ whole-list s t base mine_has next_has r (take n (get_or mine r [])) (get_or next r [])
      (ap (take n) (few-list s mine s_is s_keeps r lt) ∙ take-numbered r 1 n (history s r)
      ∙ ap (numbered r 1) (sym (history-within s base r)))
      (few-list t next t_is t_keeps r lt)

  spliced-none : (r : ℕ) → 4 ≤ r → [] ≡ numbered r 1 (history (join (within s base) t) r)
  spliced-none r le = whole-none s t base mine_has next_has r (count-high t next t_is r le)

  module _ (a b c d : List Update) (low : List (List Update)) (is : low ≡ a ∷ b ∷ c ∷ d ∷ [])
      (a_is : a ≡ spliced_at mine next 0 (count_in base 0)) (b_is : b ≡ spliced_at mine next 1 (count_in base 1))
      (c_is : c ≡ spliced_at mine next 2 (count_in base 2)) (d_is : d ≡ spliced_at mine next 3 (count_in base 3)) where
    spliced-each : (r : ℕ) → r < 8
        → get_or (a ∷ b ∷ c ∷ d ∷ [] ∷ [] ∷ [] ∷ [] ∷ []) r [] ≡ numbered r 1 (history (join (within s base) t) r)
    spliced-each =
        eight_each (join (within s base) t) a b c d [] [] [] [] (spliced-list 0 (omega arith) a a_is)
        (spliced-list 1 (omega arith) b b_is) (spliced-list 2 (omega arith) c c_is)
        (spliced-list 3 (omega arith) d d_is)
        (spliced-none 4 (omega arith)) (spliced-none 5 (omega arith)) (spliced-none 6 (omega arith))
        (spliced-none 7 (omega arith))

    pub spliced-keeps : IsWithinLimit t → IsRepresentation (four_of low ++ four_of [])
    spliced-keeps few =
        subst (λ lists. IsRepresentation (four_of lists ++ four_of [])) (sym is)
        (IsRepresentation-from _ (join (within s base) t) refl spliced-each
        (whole-limit s t base mine_has next_has few))

    pub spliced-is : represented (four_of low ++ four_of []) ≡ join (within s base) t
    spliced-is =
        ap (λ lists. represented (four_of lists ++ four_of [])) is
        ∙ represented-from _ (join (within s base) t) spliced-each
