-- How what a crash may leave goes on.
use Rattle.std.proofs.Common.{◌≡◌, inl, inr, ℕ, ◌<◌, List, [], ◌∷◌, ◌++◌, length, refl, sym, ◌∙◌, ap, subst, arith, append_assoc}
use Rattle.std.proofs.lemmas.List.{append-nil}
use Rattle.la_journal.specs.Disk.{Torn}
use Rattle.la_journal.specs.Journal.{in_a_row}
use Rattle.la_journal.specs.Note.{Moment, bytes_in, grown, only_whole}
use Rattle.la_journal.specs.Outcomes.{LeftOf, LeftAt}

-- one piece more
appends : (kept : List ℕ) (pieces : List (List ℕ)) (more c : List ℕ) → LeftOf kept (pieces ++ more ∷ []) c
    → (d : List ℕ) × LeftOf kept pieces d × Torn more d c
appends kept [] more c left = (kept, refl, subst (Torn more kept) (sym left.2) left.1)
appends kept (piece ∷ pieces) more c left =
    let rest = appends left.0 pieces more c left.2 in (rest.0, (left.0, left.1, rest.1), rest.2)

pub grown_left : (more : List ℕ) (m : Moment) (c : List ℕ) → LeftAt (grown more m) c
    → (d : List ℕ) × LeftAt m d × Torn more d c
grown_left more [] c left = absurd left
grown_left more (e ∷ rest) c (inl this) = let d = appends e.kept e.more more c this in (d.0, inl d.1, d.2)
grown_left more (e ∷ rest) c (inr other) = let d = grown_left more rest c other in (d.0, inr d.1, d.2)

-- one alone, all of it on the disk
pub stored_alone : (bytes c : List ℕ) → LeftAt (only_whole bytes) c → c ≡ bytes
stored_alone bytes c (inl this) = this
stored_alone bytes c (inr none) = absurd none

-- what the file has grows
pub bytes_grow : (more : List ℕ) (m : Moment) → 0 < length m → bytes_in (grown more m) ≡ bytes_in m ++ more
bytes_grow more [] there = absurd (omega (arith, there))
bytes_grow more (e ∷ rest) there =
    ap (λ (l : List ℕ). e.kept ++ l) (joined_more e.more more) ∙ sym (append_assoc e.kept (in_a_row e.more) more)
  where
    joined_more : (pieces : List (List ℕ)) (more : List ℕ) → in_a_row (pieces ++ more ∷ []) ≡ in_a_row pieces ++ more
    joined_more [] more = append-nil more
    joined_more (piece ∷ pieces) more =
        ap (λ (l : List ℕ). piece ++ l) (joined_more pieces more) ∙ sym (append_assoc piece (in_a_row pieces) more)

-- and it stays noted
pub stays_there : (more : List ℕ) (m : Moment) → 0 < length m → 0 < length (grown more m)
stays_there more [] there = there
stays_there more (e ∷ rest) there = omega arith
