-- The bytes of a first journal, handed out.
use Rattle.std.proofs.Common.{◌≡◌, ◌<◌, ℕ, List, [], ◌∷◌, ◌++◌, length, drop, inl, inr, refl, ap, subst, ◌∙◌}
use Rattle.std.proofs.lemmas.Option.{none-some}
use Rattle.la_journal.specs.Durable.{EndsInGroups}
use Rattle.lattice_c.specs.Calls.{IsHandedOut}

-- they are some, since they have a head
pub all_handed_out : (file buffer now : List ℕ) (len : ℕ) → EndsInGroups file → len ≡ length file
    → now ≡ file ++ drop len buffer → IsHandedOut file buffer 0 len now
all_handed_out [] buffer now len ends long is = absurd (none-some ends.has ends.read)
all_handed_out (b ∷ file) buffer now len ends long is =
    (long, inl (refl, is ∙ ap (λ (n : ℕ). b ∷ file ++ drop n buffer) long))

pub none_handed_out : (file buffer : List ℕ) (len : ℕ) → EndsInGroups file → len ≡ length file → length buffer < len
    → IsHandedOut file buffer 3 len buffer
none_handed_out [] buffer len ends long more = absurd (none-some ends.has ends.read)
none_handed_out (b ∷ file) buffer len ends long more =
    (long, inr (refl, subst (λ (n : ℕ). length buffer < n) long more, refl))
