-- Where a journal leads, as lines are put behind it.
use Rattle.std.proofs.Common.{◌≡◌, ◌⊎◌, inl, inr, ℕ, ◌+◌, ◌≤◌, Bool, true, false, List, [], ◌∷◌, ◌++◌, Option, Some, None, map, length, take, refl, sym, ◌∙◌, ap, arith}
use Rattle.std.specs.Prelude.{⊤, if◌then◌else◌}
use Rattle.std.proofs.Math.Seq.{take-append-add}
use Rattle.std.proofs.lemmas.List.{take-append-le, length-append}
use Rattle.la_journal.specs.Journal.{Journal, is_sound, lines, state_in, begun_by, journal, says, IsCallLine}
use Rattle.la_journal.specs.Machine.{call_unless, step_named, plays_line, begins_with, lines_lead, state_after, steps_from, steps, LeadsToSome}
use Rattle.la_journal.proofs.Files.{Keeps}
use Rattle.la_journal.proofs.StepsMore.{from_append, none_stays}

-- none of them is a state's
abbrev AreCalls : List (List ℕ) → Type 0
AreCalls [] = ⊤
AreCalls (line ∷ rest) = (state_in line ≡ None) × AreCalls rest

begun_more : (state : Option (List ℕ)) (line : List ℕ) (rest more : List (List ℕ)) → begun_by state line (rest ++
    more) ≡ record { state = (begun_by state line rest).state; calls = (begun_by state line rest).calls ++ more }
begun_more None line rest more = refl
begun_more (Some text) line rest more = refl

journal_more : (ls more : List (List ℕ)) → AreCalls more → journal (ls ++ more) ≡ record {
  state = (journal ls).state;
  calls = (journal ls).calls ++ more;
}
journal_more [] [] are = refl
journal_more [] (line ∷ more) are = ap (λ (o : Option (List ℕ)). begun_by o line more) are.0
journal_more (l ∷ ls) more are = begun_more (state_in l) l ls more

module _ {S C : Type 0} (head : S → List ℕ) (named_state : List ℕ → Option S) (named : List ℕ → Option C)
    (step : S → C → Option S) where
  abbrev leads : S → Journal → Option S
  leads start j = lines_lead named_state named step start j

  -- one line, as the loop plays it
  played_as : (state : S) (line : List ℕ) (call : Option C) → state_in line ≡ None → named line ≡ call
      → plays_line named step state line ≡ step_named step state call
  played_as state line call no_state is =
      ap (λ (o : Option (List ℕ)). step_named step state (call_unless o (named line))) no_state ∙ ap (step_named step
      state) is

  module _ (text : C → List ℕ) (round_trip : (c : C) → named (text c) ≡ Some c) (clean : (c : C) → IsCallLine (text c))
    where
      texts_lead : (cs : List C) (state : Option S)
          → steps_from (plays_line named step) (map text cs) state ≡ steps_from step cs state
      texts_lead [] state = refl
      texts_lead (c ∷ cs) None = texts_lead cs None
      texts_lead (c ∷ cs) (Some state) =
          ap (λ (o : Option S). steps_from (plays_line named step) (map text cs) o)
          (played_as state (text c) (Some c) (clean c).1 (round_trip c))
          ∙ texts_lead cs (step state c)

      are_calls : (cs : List C) → AreCalls (map text cs)
      are_calls [] = tt
      are_calls (c ∷ cs) = ((clean c).1, are_calls cs)

      lines_go_on : (start : S) (file c : List ℕ) (cs : List C) → lines c ≡ lines file ++ map text cs
          → leads start (says c) ≡ steps_from step cs (leads start (says file))
      lines_go_on start file c cs more =
          ap (λ (ls : List (List ℕ)). leads start (journal ls)) more
          ∙ ap (leads start) (journal_more (lines file) (map text cs) (are_calls cs))
          ∙ from_append (plays_line named step) (says file).calls (map text cs)
          (begins_with named_state (says file).state start)
          ∙ texts_lead cs (leads start (says file))

      where_sound : (cs : List C) (sound : Bool) (x y : Option S) → x ≡ steps_from step cs y
          → (if sound then x else None) ≡ steps_from step cs (if sound then y else None)
      where_sound cs true x y is = is
      where_sound cs false x y is = sym (none_stays step cs)

      pub leads_on : (start : S) (file c : List ℕ) (cs : List C) → Keeps file (map text cs) c
          → state_after head named_state named step start c
          ≡ steps_from step cs (state_after head named_state named step start file)
      leads_on start file c cs keeps =
          ap (λ (t : Bool). if t then leads start (says c) else None) (keeps.sound (head start))
          ∙ where_sound cs (is_sound (head start) file) (leads start (says c)) (leads start (says file))
          (lines_go_on start file c cs keeps.lines_are)

      -- a crash keeps none of a group or all of it, which is the first some of these calls
      pub group_leads : (start : S) (file c : List ℕ) (all : List C) (n : ℕ) (state : S) → n ≤ length all
          → state_after head named_state named step start file ≡ Some state
          → Keeps file [] c ⊎ Keeps file (map text (take n all)) c
          → LeadsToSome (state_after head named_state named step start) step all state c
      group_leads start file c all n state le was (inl none) = (0, omega arith, leads_on start file c [] none ∙ was)
      group_leads start file c all n state le was (inr whole) =
          (n, le, leads_on start file c (take n all) whole ∙ ap (steps_from step (take n all)) was)

-- some of the first calls, or all of them and some of the later ones, are some of all
module _ {S C : Type 0} (leads : List ℕ → Option S) (step : S → C → Option S) (taken later : List C) (first next : S)
    (c : List ℕ) where
  pub first_of_all : LeadsToSome leads step taken first c → LeadsToSome leads step (taken ++ later) first c
  first_of_all some = (
    some.0,
    omega (arith, some.1, length-append taken later),
    some.2 ∙ ap (λ (cs : List C). steps step cs first) (sym (take-append-le some.0 taken later some.1)),
  )

  pub later_of_all : steps step taken first ≡ Some next → LeadsToSome leads step later next c
      → LeadsToSome leads step (taken ++ later) first c
  later_of_all led some = (
    length taken + some.0,
    omega (arith, some.1, length-append taken later),
    some.2
        ∙ ap (steps_from step (take some.0 later)) (sym led)
        ∙ sym (from_append step taken (take some.0 later) (Some first))
        ∙ ap (λ (cs : List C). steps step cs first) (sym (take-append-add taken later some.0)),
  )
