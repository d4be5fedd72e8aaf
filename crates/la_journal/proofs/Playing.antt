-- Where the lines of a file lead, as they are played one group after another.
use Rattle.std.proofs.Common.{◌-◌, length-drop, ◌≡◌, ◌⊎◌, inl, inr, ⊎_elim, arith, ℕ, ◌+◌, ◌≤◌, Bool, true, false, List, [], ◌∷◌, ◌++◌, Option, Some, None, refl, sym, ◌∙◌, ap, subst, take, drop, length, append_assoc}
use Rattle.std.specs.Prelude.{◌||◌, min, ⊤, if◌then◌else◌}
use Rattle.std.specs.List.{list_all}
use Rattle.std.specs.Char.{is_ascii_hexdigit}
use Rattle.std.proofs.lemmas.List.{length-append, drop_all}
use Rattle.std.proofs.lemmas.Bool.{cases_lt}
use Rattle.la_journal.specs.Commits.{groups, with_records, last_record, HasNoEnd, AreWhole, AreGroups}
use Rattle.la_journal.specs.Records.{link, record_line, ended_from, ended, end_count, behind}
use Rattle.la_journal.specs.Journal.{begun_by, state_in, in_a_row}
use Rattle.la_journal.specs.Machine.{plays_line, steps_from, lines_lead, step_named, call_unless}
use Rattle.la_journal.specs.Durable.{alike}
use Rattle.la_journal.specs.Playing.{leads_more, are_some, StopsAt, StopsFrom, StopsAmong}
use Rattle.la_journal.specs.declared.recovery.Unplayed.{Unplayed}
use Rattle.la_journal.specs.declared.recovery.Unplayed.TheVariants.{Memory, Disk, NoHead, OtherHead, NoState, NoCall, Misplaced, Refused, Damaged}
use Rattle.la_journal.proofs.StepsMore.{from_append, none_stays}
use Rattle.la_journal.proofs.Digests.{length-digest}
use Rattle.la_journal.proofs.RecordBytes.{are_records}
use Rattle.la_journal.proofs.Extents.{reads, are_groups_and_rest, rest_is}
use Rattle.la_journal.proofs.Ended.{ended-append, one_ended}
use Rattle.la_journal.proofs.Untold.{few_ends}
use Rattle.la_journal.proofs.Told.{records_link, whole_unended, ends_lines}

begun_now : (begun : Bool) → (begun || true) ≡ true
begun_now true = refl
begun_now false = refl

pub none_begin : (begun : Bool) (ls : List (List ℕ)) → ls ≡ [] → begun ≡ (begun || are_some ls)
none_begin true ls none = refl
none_begin false ls none = ap are_some (sym none)

-- the first line of some bytes
pub next_ended : (rest : List ℕ) (n : ℕ) → rest ≡ take n rest ++ 10 ∷ drop (n + 1) rest → HasNoEnd (take n rest)
    → ended rest ≡ take n rest ∷ ended (drop (n + 1) rest)
next_ended rest n split has = ap ended split ∙ one_ended [] (take n rest) (drop (n + 1) rest) has

-- the lines of groups
rows_ended : (g : List ℕ) (gs : List (List ℕ)) → AreWhole [] g
    → ended (in_a_row (g ∷ gs)) ≡ ended g ++ ended (in_a_row gs)
rows_ended g gs whole =
    ended-append [] g (in_a_row gs)
    ∙ ap (λ (l : List ℕ). ended g ++ ended_from l (in_a_row gs)) (whole_unended [] g whole)

module _ {S C : Type 0} (named_state : List ℕ → Option S) (named : List ℕ → Option C) (step : S → C → Option S) where
  abbrev leads : Bool → S → List (List ℕ) → Option S
  leads begun state ls = leads_more named_state named step begun state ls

  begun_more : (o : Option (List ℕ)) (state : S) (x : List ℕ) (xs ys : List (List ℕ))
      → lines_lead named_state named step state (begun_by o x (xs ++ ys))
      ≡ steps_from (plays_line named step) ys (lines_lead named_state named step state (begun_by o x xs))
  begun_more None state x xs ys = from_append (plays_line named step) (x ∷ xs) ys (Some state)
  begun_more (Some text) state x xs ys = from_append (plays_line named step) xs ys (named_state text)

  -- later lines go on from where the first ones led
  pub leads_on : (begun : Bool) (state now : S) (xs ys : List (List ℕ)) → leads begun state xs ≡ Some now
      → leads begun state (xs ++ ys) ≡ leads (begun || are_some xs) now ys
  leads_on true state now xs ys led =
      from_append (plays_line named step) xs ys (Some state) ∙ ap (steps_from (plays_line named step) ys) led
  leads_on false state now [] ys led =
      let same : state ≡ now = cc in ap (λ (s : S). leads false s ys) same
  leads_on false state now (x ∷ xs) ys led =
      begun_more (state_in x) state x xs ys ∙ ap (steps_from (plays_line named step) ys) led

  -- and nowhere if those do
  pub leads_nowhere : (begun : Bool) (state : S) (xs ys : List (List ℕ)) → leads begun state xs ≡ None
      → leads begun state (xs ++ ys) ≡ None
  leads_nowhere true state xs ys led =
      from_append (plays_line named step) xs ys (Some state)
      ∙ ap (steps_from (plays_line named step) ys) led
      ∙ none_stays (plays_line named step) ys
  leads_nowhere false state [] ys led = cc
  leads_nowhere false state (x ∷ xs) ys led =
      begun_more (state_in x) state x xs ys
      ∙ ap (steps_from (plays_line named step) ys) led
      ∙ none_stays (plays_line named step) ys

  -- no line leads nowhere else
  pub none_lead : (begun : Bool) (state : S) (ls : List (List ℕ)) → ls ≡ [] → leads begun state ls ≡ Some state
  none_lead true state ls none = ap (leads true state) none
  none_lead false state ls none = ap (leads false state) none

  -- one line is played
  module _ (begun : Bool) (state : S) (rest : List ℕ) (n : ℕ)
      (split : rest ≡ take n rest ++ 10 ∷ drop (n + 1) rest) (has : HasNoEnd (take n rest)) where
    pub line_leads : (now : S) → leads begun state (take n rest ∷ []) ≡ Some now
        → leads true now (ended (drop (n + 1) rest)) ≡ leads begun state (ended rest)
    line_leads now led =
        sym
        (ap (leads begun state) (next_ended rest n split has)
        ∙ leads_on begun state now (take n rest ∷ []) (ended (drop (n + 1) rest)) led
        ∙ ap (λ (b : Bool). leads b now (ended (drop (n + 1) rest))) (begun_now begun))

    pub line_nowhere : leads begun state (take n rest ∷ []) ≡ None → leads begun state (ended rest) ≡ None
    line_nowhere led =
        ap (leads begun state) (next_ended rest n split has)
        ∙ leads_nowhere begun state (take n rest ∷ []) (ended (drop (n + 1) rest)) led

    pub line_begins : true ≡ (begun || are_some (ended rest))
    line_begins =
        sym (ap (λ (ls : List (List ℕ)). begun || are_some ls) (next_ended rest n split has) ∙ begun_now begun)

-- one line more is played of some bytes
module _ (rest : List ℕ) (n : ℕ) (split : rest ≡ take n rest ++ 10 ∷ drop (n + 1) rest) (has : HasNoEnd (take n rest))
  where
    pub line_number : (number : ℕ) → number + 1 + end_count (drop (n + 1) rest) ≡ number + end_count rest
    line_number number =
        omega (
          arith,
          ends_lines [] rest,
          ends_lines [] (drop (n + 1) rest),
          ap length (next_ended rest n split has),
        )

    pub line_stops : {S C R : Type 0} (lacks_memory : R → Type 0) (named_state : List ℕ → Option S)
        (named : List ℕ → Option C) (step : S → C → Option S) (begun : Bool) (state now : S) (number : ℕ)
        (why : Unplayed R) → leads_more named_state named step begun state (take n rest ∷ []) ≡ Some now
        → StopsFrom lacks_memory named_state named step true now (number + 1) (ended (drop (n + 1) rest)) why
        → StopsFrom lacks_memory named_state named step begun state number (ended rest) why
    line_stops lacks_memory named_state named step begun state now number why led later =
        subst (λ (ls : List (List ℕ)). StopsFrom lacks_memory named_state named step begun state number ls why)
        (sym (next_ended rest n split has)) (inr (now, led, later))

-- a file is longer than what stands behind its head
pub head_room : (file line rest : List ℕ) → file ≡ line ++ 10 ∷ rest → length (link line) ≡ 16
    → length rest + 17 ≤ length file
head_room file line rest is linked =
    omega (arith, ap length is, length-append line (10 ∷ rest), linked, link_short line)
  where
    as_long : (some : Bool) (end line : List ℕ) → length end ≤ length line
        → length (if some then end else []) ≤ length line
    as_long true end line le = le
    as_long false end line le = omega arith

    link_short : (line : List ℕ) → length (link line) ≤ length line
    link_short line =
        let end = drop (length line - 16) line in
        as_long (list_all is_ascii_hexdigit end) end line (omega (arith, length-drop (length line - 16) line))

-- a group is read
module _ (before rest group record_ more : List ℕ) (is : rest ≡ group ++ (record_ ++ 10 ∷ more))
    (its : record_ ≡ record_line before group)
    (read : groups record_line before rest ≡ group ∷ groups record_line record_ more) where
  whole : AreWhole [] group
  whole = (subst AreGroups read (reads record_line are_records before rest).2).0

  group_ended : ended (in_a_row (groups record_line before rest))
      ≡ ended group ++ ended (in_a_row (groups record_line record_ more))
  group_ended =
      ap (λ (gs : List (List ℕ)). ended (in_a_row gs)) read
      ∙ ended-append [] group (in_a_row (groups record_line record_ more))
      ∙ ap (λ (l : List ℕ). ended group ++ ended_from l (in_a_row (groups record_line record_ more)))
      (whole_unended [] group whole)

  pub group_linked : length (link record_) ≡ 16
  group_linked =
      ap (λ (l : List ℕ). length (link l)) its
      ∙ ap length (records_link before group)
      ∙ length-digest (link before ++ group)

  pub group_last : last_record record_line record_ (groups record_line record_ more)
      ≡ last_record record_line before (groups record_line before rest)
  group_last =
      ap (λ (l : List ℕ). last_record record_line l (groups record_line record_ more)) its
      ∙ sym (ap (last_record record_line before) read)

  bytes_are : rest
      ≡ with_records record_line before (group ∷ groups record_line record_ more) ++ behind record_ more
  bytes_are =
      let gs = groups record_line record_ more in
      let tail = behind record_ more in
      let r = record_line before group in
      let w = with_records record_line r gs in
      is
      ∙ ap (λ (l : List ℕ). group ++ (record_ ++ 10 ∷ l)) (are_groups_and_rest record_line are_records record_ more).0
      ∙ ap (λ (l : List ℕ). group ++ (l ++ 10 ∷ (with_records record_line l gs ++ tail))) its
      ∙ sym
      (append_assoc group (r ++ 10 ∷ w) tail ∙ ap (λ (l : List ℕ). group ++ l) (append_assoc r (10 ∷ w) tail))

  pub group_behind : behind record_ more ≡ behind before rest
  group_behind =
      sym
      (rest_is record_line are_records before rest (behind record_ more) (group ∷ groups record_line record_ more) read
      bytes_are)

  -- each line of a group has an end, and its record too
  pub group_room : (number : ℕ) → number + end_count group + 1 + length more ≤ number + length rest
  group_room number =
      omega (
        arith,
        few_ends group,
        ap length is,
        length-append group (record_ ++ 10 ∷ more),
        length-append record_ (10 ∷ more),
      )

  pub group_stops : {S C R : Type 0} (lacks_memory : R → Type 0) (named_state : List ℕ → Option S)
      (named : List ℕ → Option C) (step : S → C → Option S) (begun begun_after : Bool) (state now : S)
      (number number_after : ℕ) (why : Unplayed R) → begun_after ≡ (begun || are_some (ended group))
      → leads_more named_state named step begun state (ended group) ≡ Some now
      → number_after ≡ number + end_count group + 1
      → StopsAmong lacks_memory named_state named step begun_after now number_after (groups record_line record_ more) why
      → StopsAmong lacks_memory named_state named step begun state number (groups record_line before rest) why
  group_stops lacks_memory named_state named step begun begun_after state now number number_after why is_begun led at
      later =
      subst (λ (gs : List (List ℕ)). StopsAmong lacks_memory named_state named step begun state number gs why)
      (sym read)
      (inr (
        now,
        led,
        subst
            (λ (b : Bool). StopsAmong lacks_memory named_state named step b now (number + end_count group + 1) (groups
            record_line record_ more) why) is_begun
            (subst
            (λ (n : ℕ). StopsAmong lacks_memory named_state named step begun_after now n (groups record_line record_
            more) why) at later),
      ))

  pub group_within : length more ≤ length rest
  group_within =
      omega (arith, ap length is, length-append group (record_ ++ 10 ∷ more), length-append record_ (10 ∷ more))

  module _ {S C : Type 0} (named_state : List ℕ → Option S) (named : List ℕ → Option C) (step : S → C → Option S)
      (begun : Bool) where
    pub group_leads : (begun_after : Bool) (state now : S) → begun_after ≡ (begun || are_some (ended group))
        → leads named_state named step begun state (ended group) ≡ Some now
        → leads named_state named step begun_after now (ended (in_a_row (groups record_line record_ more)))
        ≡ leads named_state named step begun state (ended (in_a_row (groups record_line before rest)))
    group_leads begun_after state now is_begun led =
        let later = ended (in_a_row (groups record_line record_ more)) in
        ap (λ (b : Bool). leads named_state named step b now later) is_begun
        ∙ sym
        (ap (leads named_state named step begun state) group_ended
        ∙ leads_on named_state named step begun state now (ended group) later led)

    pub group_nowhere : (state : S) → leads named_state named step begun state (ended group) ≡ None
        → leads named_state named step begun state (ended (in_a_row (groups record_line before rest))) ≡ None
    group_nowhere state none =
        ap (leads named_state named step begun state) group_ended
        ∙ leads_nowhere named_state named step begun state (ended group)
        (ended (in_a_row (groups record_line record_ more))) none

-- what is not played leads nowhere, unless for memory
abbrev pub Nowhere : {S R : Type 0} (lacks_memory : R → Type 0) → (led : Option S) → Unplayed R → Type 0
Nowhere lacks_memory led Memory = ⊤
Nowhere lacks_memory led (NoState line) = led ≡ None
Nowhere lacks_memory led (NoCall line) = led ≡ None
Nowhere lacks_memory led (Misplaced line) = led ≡ None
Nowhere lacks_memory led (Refused line refusal) = lacks_memory refusal ⊎ (led ≡ None)
Nowhere lacks_memory led _ = ⊥

pub nowhere_more : {S R : Type 0} (lacks_memory : R → Type 0) (led all : Option S) → (led ≡ None → all ≡ None)
    → (why : Unplayed R) → Nowhere lacks_memory led why → Nowhere lacks_memory all why
nowhere_more lacks_memory led all stays Memory is = is
nowhere_more lacks_memory led all stays Disk is = absurd is
nowhere_more lacks_memory led all stays NoHead is = absurd is
nowhere_more lacks_memory led all stays (OtherHead place) is = absurd is
nowhere_more lacks_memory led all stays (NoState line) is = stays is
nowhere_more lacks_memory led all stays (NoCall line) is = stays is
nowhere_more lacks_memory led all stays (Misplaced line) is = stays is
nowhere_more lacks_memory led all stays (Refused line refusal) (inl lacks) = inl lacks
nowhere_more lacks_memory led all stays (Refused line refusal) (inr none) = inr (stays none)
nowhere_more lacks_memory led all stays (Damaged line) is = absurd is

module _ {S C R : Type 0} (lacks_memory : R → Type 0) (named_state : List ℕ → Option S) (named : List ℕ → Option C)
    (step : S → C → Option S) where
  abbrev led : Bool → S → List (List ℕ) → Option S
  led begun state ls = leads_more named_state named step begun state ls

  -- a call's line
  called_line : (begun : Bool) (state : S) (line : List ℕ) → state_in line ≡ None
      → led begun state (line ∷ []) ≡ step_named step state (named line)
  called_line true state line is = ap (λ (o : Option (List ℕ)). step_named step state (call_unless o (named line))) is
  called_line false state line is =
      ap (λ (o : Option (List ℕ)). lines_lead named_state named step state (begun_by o line [])) is
      ∙ ap (λ (o : Option (List ℕ)). step_named step state (call_unless o (named line))) is

  at_nowhere : (begun : Bool) (state : S) (number : ℕ) (line : List ℕ) (why : Unplayed R)
      → StopsAt lacks_memory named_state named step begun state number line why
      → Nowhere lacks_memory (led begun state (line ∷ [])) why
  at_nowhere begun state number line Memory is = tt
  at_nowhere begun state number line Disk is = absurd is
  at_nowhere begun state number line NoHead is = absurd is
  at_nowhere begun state number line (OtherHead place) is = absurd is
  at_nowhere begun state number line (NoState n) is =
      ap (λ (b : Bool). led b state (line ∷ [])) is.1
      ∙ ap (λ (o : Option (List ℕ)). lines_lead named_state named step state (begun_by o line [])) is.2.1
      ∙ is.2.2
  at_nowhere begun state number line (NoCall n) is =
      called_line begun state line is.1 ∙ ap (step_named step state) is.2
  at_nowhere begun state number line (Misplaced n) is =
      ap (λ (b : Bool). led b state (line ∷ [])) is.1
      ∙ ap (λ (o : Option (List ℕ)). step_named step state (call_unless o (named line))) is.2.1
  at_nowhere begun state number line (Refused n refusal) is = of is.2.2
    where
      of : lacks_memory refusal ⊎ (step state is.2.0 ≡ None)
          → lacks_memory refusal ⊎ (led begun state (line ∷ []) ≡ None)
      of (inl lacks) = inl lacks
      of (inr none) =
          inr (called_line begun state line is.1 ∙ ap (step_named step state) is.2.1 ∙ none)
  at_nowhere begun state number line (Damaged n) is = absurd is

  from_nowhere : (begun : Bool) (state : S) (number : ℕ) (ls : List (List ℕ)) (why : Unplayed R)
      → StopsFrom lacks_memory named_state named step begun state number ls why
      → Nowhere lacks_memory (led begun state ls) why
  from_nowhere begun state number [] why stops = absurd stops
  from_nowhere begun state number (line ∷ rest) why (inl at) =
      nowhere_more lacks_memory (led begun state (line ∷ [])) (led begun state (line ∷ rest))
      (leads_nowhere named_state named step begun state (line ∷ []) rest) why
      (at_nowhere begun state number line why at)
  from_nowhere begun state number (line ∷ rest) why (inr on) =
      nowhere_more lacks_memory (led true on.0 rest) (led begun state (line ∷ rest))
      (λ none.
      leads_on named_state named step begun state on.0 (line ∷ []) rest on.1
      ∙ ap (λ (b : Bool). led b on.0 rest) (begun_now begun)
      ∙ none) why (from_nowhere true on.0 (number + 1) rest why on.2)

  pub among_nowhere : (begun : Bool) (state : S) (number : ℕ) (gs : List (List ℕ)) (why : Unplayed R) → AreGroups gs
      → StopsAmong lacks_memory named_state named step begun state number gs why
      → Nowhere lacks_memory (led begun state (ended (in_a_row gs))) why
  among_nowhere begun state number [] why are stops = absurd stops
  among_nowhere begun state number (g ∷ gs) why are (inl here) =
      nowhere_more lacks_memory (led begun state (ended g)) (led begun state (ended (in_a_row (g ∷ gs))))
      (λ none.
      ap (led begun state) (rows_ended g gs are.0)
      ∙ leads_nowhere named_state named step begun state (ended g) (ended (in_a_row gs)) none) why
      (from_nowhere begun state number (ended g) why here)
  among_nowhere begun state number (g ∷ gs) why are (inr on) =
      nowhere_more lacks_memory (led (begun || are_some (ended g)) on.0 (ended (in_a_row gs)))
      (led begun state (ended (in_a_row (g ∷ gs))))
      (λ none.
      ap (led begun state) (rows_ended g gs are.0)
      ∙ leads_on named_state named step begun state on.0 (ended g) (ended (in_a_row gs)) on.1
      ∙ none) why (among_nowhere (begun || are_some (ended g)) on.0 (number + end_count g + 1) gs why are.1 on.2)

-- up to the end of either, as many bytes are alike
pub alike_end : (xs ys : List ℕ) (k : ℕ) → k ≡ min (length xs) (length ys) → alike (drop k xs) (drop k ys) ≡ 0
alike_end xs ys k is = cases (either_done (length xs) (length ys) k is)
  where
    ends : (l : List ℕ) → alike l [] ≡ 0
    ends [] = refl
    ends (x ∷ l) = refl

    either_done : (a b k : ℕ) → k ≡ min a b → (a ≤ k) ⊎ (b ≤ k)
    either_done a b k is = ⊎_elim (λ less. inl (omega arith)) (λ ge. inr (omega arith)) (cases_lt a b)

    cases : (length xs ≤ k) ⊎ (length ys ≤ k) → alike (drop k xs) (drop k ys) ≡ 0
    cases (inl all) = ap (λ (l : List ℕ). alike l (drop k ys)) (drop_all k xs all)
    cases (inr all) = ap (alike (drop k xs)) (drop_all k ys all) ∙ ends (drop k xs)
