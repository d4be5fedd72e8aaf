-- What an object of one of two types means: what its own type does. A question of the other type has no answer.
use Rattle.std.specs.Prelude.{Bool, true, List, Option, Some, None}
use Rattle.la_set.specs.declared.update.Update.{Update}
use Rattle.la_shelf.specs.declared.either.Either.{Either}
use Rattle.la_shelf.specs.declared.either.Either.TheVariants.{First, Second}
use Rattle.la_shelf.specs.Meanings.{Meaning}

abbrev pub either_state : {A B S T : Type 0} → (A → S) → (B → T) → Either A B → Either S T
either_state f g (First a) = First (f a)
either_state f g (Second b) = Second (g b)

abbrev pub either_full : {S T : Type 0} → (S → Update → Type 0) → (T → Update → Type 0) → Either S T → Update
    → Type 0
either_full f g (First s) u = f s u
either_full f g (Second t) u = g t u

module _ {K S Q A L T R B : Type 0} (m : Meaning K S Q A) (n : Meaning L T R B) where
  abbrev pub either_start : Either K L → Either S T
  either_start (First k) = First (m.start k)
  either_start (Second l) = Second (n.start l)

  abbrev pub either_kind_of : Either S T → Either K L
  either_kind_of (First s) = First (m.kind_of s)
  either_kind_of (Second t) = Second (n.kind_of t)

  abbrev pub either_after : Either S T → Update → Either S T
  either_after (First s) u = First (m.after s u)
  either_after (Second t) u = Second (n.after t u)

  abbrev pub either_reply : Either S T → Either Q R → Option (Either A B)
  either_reply (First s) (First q) = Some (First (m.reply s q))
  either_reply (Second t) (Second r) = Some (Second (n.reply t r))
  either_reply _ _ = None

  abbrev pub either_value : Either K L → List Update → Either Q R → Option (Either A B)
  either_value (First k) us (First q) = Some (First (m.value k us q))
  either_value (Second l) us (Second r) = Some (Second (n.value l us r))
  either_value _ us _ = None

  abbrev pub either_in_place : Either K L → Either Q R → Bool
  either_in_place (First k) (First q) = m.in_place k q
  either_in_place (Second l) (Second r) = n.in_place l r
  either_in_place _ _ = true

  abbrev pub either_meaning : Meaning (Either K L) (Either S T) (Either Q R) (Option (Either A B))
  either_meaning = record {
    start = either_start;
    kind_of = either_kind_of;
    after = either_after;
    reply = either_reply;
    value = either_value;
    in_place = either_in_place;
  }
