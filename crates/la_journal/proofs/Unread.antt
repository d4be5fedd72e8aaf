-- Bytes of which no group is read behind those of a file, and what a crash may leave by them.
use Rattle.std.proofs.Common.{◌≡◌, inl, inr, ⊎_elim, arith, ℕ, ◌<◌, Bool, true, false, List, [], ◌∷◌, ◌++◌, Option, Some, None, not, refl, sym, ◌∙◌, ap, subst, take, drop, length, take-append-drop}
use Rattle.std.specs.Prelude.{IsTrue, IfSome, ◌↔◌}
use Rattle.std.specs.Option.{is_some}
use Rattle.std.proofs.lemmas.List.{append-nil, take_at, drop_at}
use Rattle.std.proofs.lemmas.Bool.{false≢true}
use Rattle.la_journal.specs.Commits.{groups, last_record}
use Rattle.la_journal.specs.Records.{Parts, link, record_line, parts, parts_behind, IsGroupDamage}
use Rattle.la_journal.specs.Disk.{IsUnread}
use Rattle.la_journal.specs.Journal.{in_a_row}
use Rattle.la_journal.specs.Note.{Moment, bytes_in, kept_in}
use Rattle.la_journal.specs.Outcomes.{LeftOf, LeftAt, left_there}
use Rattle.la_journal.specs.declared.grouped.Group.{Group}
use Rattle.la_journal.proofs.TornRecords.{either}
use Rattle.la_journal.proofs.Links.{link_again, by_groups}

-- of the line before, groups are read by its digest alone
pub same_groups : (before bytes : List ℕ) → groups record_line (link before) bytes ≡ groups record_line before bytes
same_groups before bytes = by_groups (link before) before bytes (link_again before)

-- of a file whose groups were read up to a record
module _ (file text line rest torn before end : List ℕ) (is : parts file ≡ Some (parts_behind text line rest))
    (same : last_record record_line before (groups record_line before end)
    ≡ last_record record_line line (groups record_line line rest)) (none : groups record_line before end ≡ []) where
  abbrev last : List ℕ
  last = last_record record_line line (groups record_line line rest)

  same_torn : groups record_line (link last) torn ≡ groups record_line before torn
  same_torn =
      same_groups last torn
      ∙ ap (λ (b : List ℕ). groups record_line b torn) (sym same ∙ ap (last_record record_line before) none)

  pub unread : (damage : Bool) → IsTrue damage ↔ IsGroupDamage torn → groups record_line before torn ≡ []
      → IsTrue (not damage) ↔ IsUnread (parts file) torn
  unread damage tells nothing = (
    λ sound. subst (λ (p : Option Parts). IsUnread p torn) (sym is)
        (same_torn ∙ nothing, λ has. absurd (false≢true (sym (not_is damage sound) ∙ tells.1 has))),
    λ un. is_not damage (λ has. (subst (λ (p : Option Parts). IsUnread p torn) is un).1 (tells.0 has)),
  )
    where
      not_is : (b : Bool) → IsTrue (not b) → b ≡ false
      not_is b so = elim (either b) [
        | inl e ↦ absurd (false≢true (sym (ap not e) ∙ so))
        | inr f ↦ f
      ]

      is_not : (b : Bool) → (IsTrue b → ⊥) → IsTrue (not b)
      is_not b not_so = elim (either b) [
        | inl t ↦ absurd (not_so t)
        | inr f ↦ ap not f
      ]

  pub is_read : (r : Option Group) → is_some r ≡ true
      → IfSome r (λ g. groups record_line before torn ≡ g.lines.now ∷ groups record_line g.record.now g.rest.now)
      → IsUnread (parts file) torn → ⊥
  is_read None is_not some un = false≢true is_not
  is_read (Some g) is_so some un =
      omega
      (arith, ap length (sym some ∙ sym same_torn ∙ (subst (λ (p : Option Parts). IsUnread p torn) is un).0))

pub none_is : {T : Type 0} (r : Option T) → is_some r ≡ false → r ≡ None
none_is None is = refl
none_is (Some x) is = absurd (false≢true (sym is))

-- ---- what a crash leaves
unread_nothing : (p : Option Parts) → IsUnread p []
unread_nothing None = tt
unread_nothing (Some p) = (refl, λ damage. ⊎_elim (λ no. no) (λ no. no) damage)

nothing_more : (kept : List ℕ) (more : List (List ℕ)) → LeftOf kept more kept
nothing_more kept [] = refl
nothing_more kept (piece ∷ more) =
    (kept, ([], inr (unread_nothing (parts kept)), sym (append-nil kept)), nothing_more kept more)

unread_first : (kept torn : List ℕ) (more : List (List ℕ)) → 0 < length (in_a_row more) → IsUnread (parts kept) torn
    → LeftOf kept more (kept ++ torn)
unread_first kept torn [] some un = absurd (omega (arith, some))
unread_first kept torn (piece ∷ more) some un =
    (kept ++ torn, (torn, inr un, refl), nothing_more (kept ++ torn) more)

-- of a file of which these bytes are on the disk, and those behind may not be
module _ (m : Moment) (front back torn left : List ℕ) (front_is : front ≡ take (kept_in m) (bytes_in m))
    (back_is : back ≡ drop (kept_in m) (bytes_in m)) (is : left ≡ front ++ torn) where
  -- all that is there
  pub whole_left : 0 < length m → back ≡ torn → LeftAt m left
  whole_left there whole =
      subst (LeftAt m)
      (sym (is ∙ (λ i. front_is i ++ (sym whole ∙ back_is) i) ∙ take-append-drop (kept_in m) (bytes_in m)))
      (left_there m there)

  -- bytes of which no group is read
  pub unread_left : 0 < length back → IsUnread (parts front) torn → LeftAt m left
  unread_left some un = left_of m front_is back_is
    where
      left_of : (n : Moment) → front ≡ take (kept_in n) (bytes_in n) → back ≡ drop (kept_in n) (bytes_in n) → LeftAt n
          left
      left_of [] front_is back_is = absurd (omega (arith, some, ap length back_is))
      left_of (e ∷ rest) front_is back_is =
          let kept : front ≡ e.kept = front_is ∙ take_at e.kept (in_a_row e.more) (length e.kept) refl in
          let more : back ≡ in_a_row e.more = back_is ∙ drop_at e.kept (in_a_row e.more) (length e.kept) refl in
          inl
          (subst (LeftOf e.kept e.more) (sym (is ∙ ap (λ (l : List ℕ). l ++ torn) kept))
          (unread_first e.kept torn e.more (omega (arith, some, ap length more))
          (subst (λ (l : List ℕ). IsUnread (parts l) torn) kept un)))
