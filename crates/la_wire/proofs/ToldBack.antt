-- An update that a node tells is read back from the line.
use Rattle.std.proofs.Common.{◌≡◌, ℕ, ◌≤◌, ◌==◌, ◌&&◌, true, false, not, cond, eqb, List, [], ◌∷◌, ◌++◌, All, Ok, Err}
use Rattle.std.proofs.Common.{codes, refl, sym, ap, ◌∙◌, append-nil, append_assoc, arith}
use Rattle.std.specs.Fmt.{decimal}
use Rattle.std.specs.Option.{is_some}
use Rattle.std.proofs.lemmas.Bool.Decides.{nat_tests}
use Rattle.std.proofs.lemmas.List.Elements.{All-nil, All-cons, All-head, All-tail, All-append, All-weaker}
use Rattle.std.proofs.lemmas.List.Sums.{AllPass-from_list_all, list_all-from_AllPass}
use Rattle.la_set.specs.declared.update.Update.{Update}
use Rattle.la_script.specs.Numbers.{u8_max}
use Rattle.la_wire.specs.declared.error.LineFault.TheVariants.{BadLine}
use Rattle.la_wire.specs.Joined.{spaced, joined_by, parted}
use Rattle.la_wire.specs.Notes.{begun_note}
use Rattle.la_wire.specs.Questions.{update_word}
use Rattle.la_wire.specs.Requests.{has_no_at, is_name, is_of_peer, Asked, unnamed_in}
use Rattle.la_wire.specs.Told.{told_line, update_in_words, update_in_note}
use Rattle.la_wire.specs.Updates.{update_in, update_words}
use Rattle.la_wire.specs.Writable.{IsUpdate}
use Rattle.la_wire.proofs.Decimals.{number-decimal, decimal-plain, is_plain, IsPlain}
use Rattle.la_wire.proofs.Joins.{Lacks, parted-joined, plain-no_space}
use Rattle.la_wire.proofs.RequestLines.{named_apart, nameless_apart}
use Rattle.la_wire.proofs.Typed.{typed-update}
use Rattle.la_wire.proofs.UpdateLists.{spaced_append}
use Rattle.la_wire.proofs.UpdatesBack.{update-plain, update-line, update-back}

-- no byte is an `@`
abbrev HasNone : List ℕ → Type 0
HasNone w = All (λ b. not (b == 64) ≡ true) w

plain-none : (w : List ℕ) → IsPlain w → HasNone w
plain-none w plain =
    All-weaker (λ b. is_plain b ≡ true) (λ b. not (b == 64) ≡ true) (λ b p. grind (arith, nat_tests)) w plain

spaced-none : (ws : List (List ℕ)) → All IsPlain ws → HasNone (spaced 32 ws)
spaced-none [] all = All-nil (λ b. not (b == 64) ≡ true)
spaced-none (w ∷ ws) all =
    All-cons (λ b. not (b == 64) ≡ true) 32 (w ++ spaced 32 ws) refl
    (All-append (λ b. not (b == 64) ≡ true) w (spaced 32 ws) (plain-none w (All-head IsPlain w ws all))
    (spaced-none ws (All-tail IsPlain w ws all)))

module _ (own : ℕ) (u : Update) (few : own ≤ u8_max) (is : IsUpdate u) where
  -- the words behind `#`, and the line of them all
  abbrev behind : List (List ℕ)
  behind = (114 ∷ decimal own) ∷ update_word ∷ update_words u

  abbrev line : List ℕ
  line = joined_by 32 (codes "#" ∷ behind)

  all-plain : All IsPlain behind
  all-plain =
      All-cons IsPlain (114 ∷ decimal own) (update_word ∷ update_words u)
      (All-cons (λ b. is_plain b ≡ true) 114 (decimal own) refl (decimal-plain own (omega (arith, few))))
      (All-cons IsPlain update_word (update_words u) (AllPass-from_list_all is_plain update_word refl)
      (update-plain u (typed-update u is)))

  none-at : has_no_at line ≡ true
  none-at =
      list_all-from_AllPass (λ b. not (b == 64)) line
      (All-cons (λ b. not (b == 64) ≡ true) 35 (spaced 32 behind) refl (spaced-none behind all-plain))

  words-apart : parted 32 line ≡ codes "#" ∷ behind
  words-apart =
      parted-joined 32 (codes "#") behind refl
      (All-cons (λ b. eqb b 32 ≡ false) 35 [] refl (All-nil (λ b. eqb b 32 ≡ false)))
      (All-weaker IsPlain (Lacks 32) plain-no_space behind all-plain)

  told-words : update_in_words (codes "#" ∷ behind) ≡ Ok u
  told-words =
      ap (λ o. cond (is_some o && true) (update_in (update_words u)) (Err BadLine))
      (number-decimal 0 u8_max own (omega arith) few (omega arith))
      ∙ sym (ap update_in (update-line u (typed-update u is))) ∙ update-back u is

  -- whose name stands apart
  told-apart : (whole : List ℕ) → unnamed_in whole ≡ line → update_in_note whole ≡ Ok u
  unfolding update_in_note
  told-apart whole apart = ap (λ l. update_in_words (parted 32 l)) apart ∙ ap update_in_words words-apart ∙ told-words

  pub nameless-back : update_in_note (told_line own u []) ≡ Ok u
  nameless-back =
      told-apart (told_line own u [])
      (ap unnamed_in (ap (begun_note own) (append-nil (update_word ∷ update_words u)))
      ∙ ap (λ (a : Asked). a.call) (nameless_apart line none-at))

  -- before a name
  whole-line : (b : ℕ) (bytes : List ℕ) → told_line own u (b ∷ bytes) ≡ line ++ 32 ∷ 64 ∷ b ∷ bytes
  whole-line b bytes =
      ap (λ more. codes "# r" ++ decimal own ++ more)
      (spaced_append 32 (update_word ∷ update_words u) ((64 ∷ b ∷ bytes) ∷ []))
      ∙ sym (append_assoc (codes "# r" ++ decimal own) (spaced 32 (update_word ∷ update_words u)) _)
      ∙ ap (λ name. line ++ 32 ∷ 64 ∷ name) (append-nil (b ∷ bytes))

  no-peer : (more : List ℕ) → is_of_peer (line ++ more) ≡ false
  no-peer more = refl

  pub named-back : (name : List ℕ) → is_name name ≡ true → update_in_note (told_line own u name) ≡ Ok u
  named-back [] named = nameless-back
  named-back (b ∷ bytes) named =
      told-apart (told_line own u (b ∷ bytes))
      (ap unnamed_in (whole-line b bytes)
      ∙ ap (λ (a : Asked). a.call) (named_apart line none-at (b ∷ bytes) named (no-peer (32 ∷ 64 ∷ b ∷ bytes))))
