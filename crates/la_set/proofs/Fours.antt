-- Lists, four at a time.
use Rattle.std.proofs.Common.{◌≡◌, ℕ, zero, suc, ◌<◌, ◌≤◌, ◌%◌, List, [], ◌∷◌, ◌++◌, length, get_or, map, refl, ap, ap₂, sym, subst, ◌∙◌, arith, inl, inr, Option, Some, None, IfSome}
use Rattle.std.proofs.lemmas.Bool.{cases_lt}
use Rattle.std.proofs.lemmas.List.{same_lists, get_or_default, length-map}
use Rattle.la_set.specs.declared.update.Update.{Update}
use Rattle.la_set.specs.declared.counts.Counts.{Counts}
use Rattle.la_set.specs.Counts.{from_counts, counts_of}
use Rattle.la_set.specs.Representation.{represented, four_of, lengths_of, IsRepresentation}
use Rattle.la_set.specs.declared.kept.Kept.{Kept}
use Rattle.la_set.specs.Kept.{lists_of, cut_of, stored}
use Rattle.la_set.proofs.Representation.{stored-uncut, list_at}
use Rattle.la_set.specs.ObjectOps.{object_op_of}
use Rattle.la_set.specs.Histories.{Histories, history, count, numbered}
use Rattle.la_set.proofs.lemmas.Counting.{same_counts}
use Rattle.la_set.proofs.lemmas.SetHistories.{history-from_histories, count_past}

-- the list of a replica, of two times four
pub four-low : (low high : List (List Update)) (r : ℕ) → r < 4
    → get_or (four_of low ++ four_of high) r [] ≡ get_or low (r % 4) []
four-low low high zero lt = refl
four-low low high (suc zero) lt = refl
four-low low high (suc (suc zero)) lt = refl
four-low low high (suc (suc (suc zero))) lt = refl
four-low low high (suc (suc (suc (suc r)))) lt = absurd (omega arith)

pub four-high : (low high : List (List Update)) (r : ℕ) → 4 ≤ r → r < 8
    → get_or (four_of low ++ four_of high) r [] ≡ get_or high (r % 4) []
four-high low high zero le lt = absurd (omega arith)
four-high low high (suc zero) le lt = absurd (omega arith)
four-high low high (suc (suc zero)) le lt = absurd (omega arith)
four-high low high (suc (suc (suc zero))) le lt = absurd (omega arith)
four-high low high (suc (suc (suc (suc zero)))) le lt = refl
four-high low high (suc (suc (suc (suc (suc zero))))) le lt = refl
four-high low high (suc (suc (suc (suc (suc (suc zero)))))) le lt = refl
four-high low high (suc (suc (suc (suc (suc (suc (suc zero))))))) le lt = refl
four-high low high (suc (suc (suc (suc (suc (suc (suc (suc r)))))))) le lt = absurd (omega arith)

-- and that of no lists
pub none-eight : (r : ℕ) → r < 8 → get_or (four_of [] ++ four_of []) r [] ≡ []
none-eight r lt = elim (cases_lt r 4) [ inl low ↦ four-low [] [] r low | inr high ↦ four-high [] [] r high lt ]

-- how long each of eight is, by the lengths of four and four
pub four-counts : (c : Counts) (low high : List (List Update))
    → c.of ≡ map length (four_of low) ++ map length (four_of high) → c ≡ lengths_of (four_of low ++ four_of high)
unfolding from_counts
four-counts c low high e = λ i. record { of = e i }

-- how many updates a set has, that has those of replicas 0 to 3 alone
module _ (s : Histories) (low : List (List Update)) (is : s ≡ represented (four_of low ++ four_of [])) where
  count-listed : (r : ℕ) → r < 8 → count s r ≡ length (get_or (four_of low ++ four_of []) r [])
  unfolding represented
  count-listed r lt =
      ap (λ t. count t r) is
      ∙ ap length
      (history-from_histories (λ q. map object_op_of (get_or (four_of low ++ four_of []) q [])) r lt)
      ∙ length-map (get_or (four_of low ++ four_of []) r []) object_op_of

  pub count-low : (r : ℕ) → r < 4 → count s r ≡ length (get_or low r [])
  count-low r lt =
      count-listed r (omega arith) ∙ ap length (four-low low [] r lt)
      ∙ ap (λ q. length (get_or low q [])) {x = r % 4} {y = r} (omega arith)

  pub count-high : (r : ℕ) → 4 ≤ r → count s r ≡ 0
  count-high r le = elim (cases_lt r 8) [
    | inl lt ↦ count-listed r lt ∙ ap length (four-high low [] r le lt)
    | inr past ↦ count_past s r past
  ]

  -- the list of a replica
  pub few-list : IsRepresentation (four_of low ++ four_of []) → (r : ℕ) → r < 4
      → get_or low r [] ≡ numbered r 1 (history s r)
  few-list keeps r lt =
      ap (λ q. get_or low q []) {x = r} {y = r % 4} (omega arith) ∙ sym (four-low low [] r lt)
      ∙ list_at (four_of low ++ four_of []) s r [] (omega arith) keeps (sym is)

  pub few-counts : (c : Counts) → c.of ≡ map length (four_of low) ++ map length (four_of []) → c ≡ counts_of s
  few-counts c e =
      four-counts c low [] e
      ∙ same_counts (λ r. length (get_or (four_of low ++ four_of []) r [])) (count s) (λ r lt. sym (count-listed r lt))

-- what a set keeps that has the lists of replicas 0 to 3 alone
module _ (kept : Kept) where
  pub few-keeps : (o : Option (List (List Update))) → IsRepresentation (lists_of kept)
      → IfSome o (λ low. lists_of kept ≡ four_of low ++ four_of [])
      → IfSome o (λ low. IsRepresentation (four_of low ++ four_of []))
  few-keeps None keeps is = tt
  few-keeps (Some low) keeps is = subst IsRepresentation is keeps

  pub few-stored : (o : Option (List (List Update))) → IfSome o (λ low. (cut_of kept).replica ≡ 8)
      → IfSome o (λ low. lists_of kept ≡ four_of low ++ four_of [])
      → IfSome o (λ low. stored kept ≡ represented (four_of low ++ four_of []))
  few-stored None uncut is = tt
  few-stored (Some low) uncut is = stored-uncut kept uncut ∙ ap represented is

-- ## What arrays are read as

pub four-read : {T : Type 0} (xs : List T) (d : T) → length xs ≡ 4
    → get_or xs 0 d ∷ get_or xs 1 d ∷ get_or xs 2 d ∷ get_or xs 3 d ∷ [] ≡ xs
four-read [] d is = absurd (omega arith)
four-read (a ∷ []) d is = absurd (omega arith)
four-read (a ∷ b ∷ []) d is = absurd (omega arith)
four-read (a ∷ b ∷ c ∷ []) d is = absurd (omega arith)
four-read (a ∷ b ∷ c ∷ e ∷ []) d is = refl
four-read (a ∷ b ∷ c ∷ e ∷ f ∷ xs) d is = absurd (omega arith)

pub fours-read : {T : Type 0} (xs ys : List T) (d : T) → length xs ≡ 4 → length ys ≡ 4
    → get_or xs 0 d ∷ get_or xs 1 d ∷ get_or xs 2 d ∷ get_or xs 3 d ∷ get_or ys 0 d ∷ get_or ys 1 d ∷ get_or ys 2 d
    ∷ get_or ys 3 d ∷ [] ≡ xs ++ ys
fours-read xs ys d four_xs four_ys = ap₂ (λ us vs. us ++ vs) (four-read xs d four_xs) (four-read ys d four_ys)

-- the lists of two halves
module _ (low high of : List (List Update)) (four_low : length low ≡ 4) (four_high : length high ≡ 4)
    (is : low ++ high ≡ of) where
  pub fours-are : four_of low ++ four_of high ≡ of
  fours-are = fours-read low high [] four_low four_high ∙ is

-- eight items, read one after another
pub eight-read : {T : Type 0} (xs : List T) (a b c d e f g h : T) → length xs ≡ 8
    → a ≡ get_or xs 0 a → b ≡ get_or xs 1 b → c ≡ get_or xs 2 c → d ≡ get_or xs 3 d
    → e ≡ get_or xs 4 e → f ≡ get_or xs 5 f → g ≡ get_or xs 6 g → h ≡ get_or xs 7 h
    → a ∷ b ∷ c ∷ d ∷ e ∷ f ∷ g ∷ h ∷ [] ≡ xs
eight-read {T} xs a b c d e f g h eight at_0 at_1 at_2 at_3 at_4 at_5 at_6 at_7 = same_lists _ xs (sym eight) each
  where
    at : (k : ℕ) (x y : T) → k < 8 → x ≡ get_or xs k x → x ≡ get_or xs k y
    at k x y lt e = e ∙ get_or_default xs k x y (omega (arith, eight))

    each : (k : ℕ) (y : T) → k < 8 → get_or (a ∷ b ∷ c ∷ d ∷ e ∷ f ∷ g ∷ h ∷ []) k y ≡ get_or xs k y
    each zero y lt = at 0 a y lt at_0
    each (suc zero) y lt = at 1 b y lt at_1
    each (suc (suc zero)) y lt = at 2 c y lt at_2
    each (suc (suc (suc zero))) y lt = at 3 d y lt at_3
    each (suc (suc (suc (suc zero)))) y lt = at 4 e y lt at_4
    each (suc (suc (suc (suc (suc zero))))) y lt = at 5 f y lt at_5
    each (suc (suc (suc (suc (suc (suc zero)))))) y lt = at 6 g y lt at_6
    each (suc (suc (suc (suc (suc (suc (suc zero))))))) y lt = at 7 h y lt at_7
    each (suc (suc (suc (suc (suc (suc (suc (suc k)))))))) y lt = absurd (omega arith)
