-- What is played of a file, line by line.
use Rattle.std.specs.Prelude.{◌≡◌, ◌⊎◌, ⊤, ℕ, ◌+◌, ◌-◌, ◌||◌, Bool, true, false, List, [], ◌∷◌, Option, Some}
use Rattle.std.specs.Prelude.{None, length, take}
use Rattle.la_journal.specs.Records.{Parts, parts, ended, end_count, IsGroupDamage}
use Rattle.la_journal.specs.Journal.{journal, state_in}
use Rattle.la_journal.specs.Machine.{plays_line, steps_from, lines_lead, state_after}
use Rattle.la_journal.specs.Durable.{IsCauseOf}
use Rattle.la_journal.specs.declared.recovery.Unplayed.{Unplayed}
use Rattle.la_journal.specs.declared.recovery.Unplayed.TheVariants.{Memory, NoState, NoCall, Misplaced, Refused}

-- where these lines lead from a state: where none was played before, the first may say one
abbrev pub leads_more : {S C : Type 0} (named_state : List ℕ → Option S) (named : List ℕ → Option C)
    (step : S → C → Option S) → (begun : Bool) → S → List (List ℕ) → Option S
leads_more named_state named step true state ls = steps_from (plays_line named step) ls (Some state)
leads_more named_state named step false state ls = lines_lead named_state named step state (journal ls)

-- whether there is a line
abbrev pub are_some : List (List ℕ) → Bool
are_some [] = false
are_some (line ∷ rest) = true

-- ## Where playing stops

module _ {S C R : Type 0} (lacks_memory : R → Type 0) (named_state : List ℕ → Option S) (named : List ℕ → Option C)
    (step : S → C → Option S) where
  -- The line with this number is not played behind lines that led to a state: it is a state's, which is not read, or
  -- lines were played before it; or it is no call, or one that the machine refuses there.
  abbrev pub StopsAt : (begun : Bool) → S → (number : ℕ) → List ℕ → Unplayed R → Type 0
  StopsAt begun state number line Memory = ⊤
  StopsAt begun state number line (NoState n) =
      (n ≡ number) × (begun ≡ false) × ((text : List ℕ) × (state_in line ≡ Some text) × (named_state text ≡ None))
  StopsAt begun state number line (NoCall n) = (n ≡ number) × (state_in line ≡ None) × (named line ≡ None)
  StopsAt begun state number line (Misplaced n) =
      (n ≡ number) × (begun ≡ true) × ((text : List ℕ) × (state_in line ≡ Some text))
  StopsAt begun state number line (Refused n refusal) =
      (n ≡ number) × (state_in line ≡ None)
      × ((call : C) × (named line ≡ Some call) × (lacks_memory refusal ⊎ (step state call ≡ None)))
  StopsAt begun state number line _ = ⊥

  -- one of these lines, the first of which has this number, is not played, and those before it are
  abbrev pub StopsFrom : (begun : Bool) → S → (number : ℕ) → List (List ℕ) → Unplayed R → Type 0
  StopsFrom begun state number [] why = ⊥
  StopsFrom begun state number (line ∷ rest) why =
      StopsAt begun state number line why
      ⊎ ((now : S) × (leads_more named_state named step begun state (line ∷ []) ≡ Some now)
      × StopsFrom true now (number + 1) rest why)

  -- the same of groups, behind each of which stands a record
  abbrev pub StopsAmong : (begun : Bool) → S → (number : ℕ) → List (List ℕ) → Unplayed R → Type 0
  StopsAmong begun state number [] why = ⊥
  StopsAmong begun state number (g ∷ gs) why =
      StopsFrom begun state number (ended g) why
      ⊎ ((now : S) × (leads_more named_state named step begun state (ended g) ≡ Some now)
      × StopsAmong (begun || are_some (ended g)) now (number + end_count g + 1) gs why)

  -- the same of what a file has, whose first line is the head
  abbrev pub StopsIn : S → Option Parts → Unplayed R → Type 0
  StopsIn start None why = ⊥
  StopsIn start (Some p) why = StopsAmong false start 2 p.these why

-- what stands behind the groups of a file
abbrev pub rest_in : Option Parts → List ℕ
rest_in None = []
rest_in (Some p) = p.rest

-- what is aside once these bytes were cut off: they are, and where none was cut, what was aside before
abbrev pub aside_after : (cut before : List ℕ) → List ℕ
aside_after [] before = before
aside_after (b ∷ cut) before = b ∷ cut

-- what is cut off a file is set aside first: the file is as it was, or that is done
abbrev pub IsSetAsideFirst : (before after : List ℕ) → (cut aside : List ℕ) → Type 0
IsSetAsideFirst before after cut aside = (after ≡ before) ⊎ (aside ≡ cut)

-- what is left of a file: all but that
abbrev pub recovered_file : List ℕ → List ℕ
recovered_file file = take (length file - length (rest_in (parts file))) file

-- a file is a head with this text and groups with nothing behind them, and ends in this digest
pub record HasNothingBehind (text last file : List ℕ) : Type 0 where
  pub these : List (List ℕ)
  pub read : parts file ≡ Some (record { text = text; these = these; last = last; rest = [] })

-- so many bytes of a file were played: all but what stands behind its groups, which is no damage
pub record IsPlayed (text file : List ℕ) (end : ℕ) (last : List ℕ) : Type 0 where
  pub has : Parts
  pub read : parts file ≡ Some has
  pub head : has.text ≡ text
  pub up_to : end + length has.rest ≡ length file
  pub ends : last ≡ has.last
  pub sound : IsGroupDamage has.rest → ⊥

-- a journal is not played on a machine that was this, for a cause
abbrev pub IsNotPlayed : {S C R : Type 0} (lacks_memory : R → Type 0) (head : S → List ℕ)
    (named_state : List ℕ → Option S) (named : List ℕ → Option C) (step : S → C → Option S) → S
    → (faults_before faults : ℕ) → (file : List ℕ) → Unplayed R → Type 0
IsNotPlayed lacks_memory head named_state named step start faults_before faults file =
    IsCauseOf lacks_memory faults_before faults (head start) file
    (state_after head named_state named step start file)
    (StopsIn lacks_memory named_state named step start (parts file))
