-- What the matches of a command line say of its task.
use Rattle.std.proofs.Common.{◌≡◌, ◌∙◌, ℕ, List, Option, Some, None, sym, subst, true, true≢false, ap, ap₂, refl, unwrap_or, option_map, codes, [], ◌∷◌, ◌⊎◌, Bool, cond, is_some, inl, inr, drop, false, length, arith}
use Rattle.std.specs.Str.Parse.{digits_value, without_leading_plus}
use Rattle.std.specs.Box.{box_value}
use Rattle.std.specs.Prelude.{Box}
use Rattle.clap.specs.declared.parser.matches.ArgMatches.{ArgMatches}
use Rattle.clap.specs.declared.parser.matches.ArgMatches.TheViews.{out-ArgMatches, out-SubCommand}
use Rattle.clap.specs.declared.parser.matches.SubCommand.{SubCommand}
use Rattle.clap.specs.Words.{Text, Row, is_simple, is_simple_and_free, subcommand_name_of, subcommand_of, subcommand_rows, subcommand_rows_of, fault_of}
use Rattle.clap.proofs.OnLiterals.{clap_on_literals}
use Rattle.std.specs.Option.{option_map_or}
use Rattle.std.specs.Str.{bytes_eq}
use Rattle.std.specs.List.{slice_index_or}
use Rattle.clap.specs.Walk.{Rule, nothing_held, rows_after, settled, walk, answers_to, stop_after}
use Rattle.clap.specs.Simple.{App, Shape, built, filled, new_shape, argument_words, entered, label_of, names_of, rows_at}
use Rattle.clap.specs.Faults.{entered_fault, level_fault}
use Rattle.la_cli.proofs.lemmas.GivenNumbers.{some_is, some≢none}
use Rattle.la_cli.proofs.lemmas.Entered.{IsNoHelp, enters_well, help_never, level_never}
use Rattle.la_cli.proofs.lemmas.Faultless.{AllOne, defaults_there, level_reads}
use Rattle.la_cli.specs.Calls.{AreGiven, AreSizesGiven, Calls, IsGiven, IsDraw, IsRunTask, AreDrawOptions, AreSizesTaken, IsNamedTask, NamesCommand, lattice, option}
use Rattle.la_cli.specs.declared.call.Task.{Task}
use Rattle.la_cli.specs.declared.call.Task.TheVariants.{Play, Random, Threads}

-- the command with a version, of which a subcommand is wanted
abbrev pub requires_one : App → App
requires_one a = record a {
  top = record a.top {
    has_version = true;
    subcommand_required = true;
  };
}

-- the command of which a subcommand is wanted, or its help is shown
abbrev pub only_helps : App → App
only_helps a = record a {
  top = record a.top {
    subcommand_required = true;
    arg_required_else_help = true;
  };
}

pub lattice_is_simple : is_simple lattice ≡ true
unfolding clap_on_literals
lattice_is_simple = refl

pub lattice_is_free : is_simple_and_free lattice ≡ true
unfolding clap_on_literals
lattice_is_free = refl

-- the name and the rows of a subcommand, together
paired : {Z : Type 0} (o : Option (Box SubCommand Z)) (name : Text) (rows : List Row)
    → option_map (λ b. (out-SubCommand (box_value b)).name.now) o ≡ Some name
    → option_map (λ p. p.1) (subcommand_rows o) ≡ Some rows → subcommand_rows o ≡ Some (name, rows)
paired None name rows e f = absurd (some≢none name (sym e))
paired (Some b) name rows e f = ap₂ (λ (n : Text) (r : List Row). Some (n, r)) (some_is _ _ e) (some_is _ _ f)

-- what a parse of the words that names a subcommand says of them
pub names_of_parse : (words : List Text) (m : ArgMatches) (name : Text) (rows : List Row)
    → subcommand_name_of m ≡ Some name → option_map (λ p. p.1) (subcommand_rows_of m) ≡ Some rows
    → subcommand_rows_of m ≡ subcommand_of lattice words → NamesCommand words name rows
names_of_parse words m name rows e f is = sym is ∙ paired (out-ArgMatches m).subcommand name rows e f

pub draw_is_named : (words : List Text) (rows : List Row) (task : Task) → NamesCommand words (codes "random") rows
    → IsDraw rows task → IsNamedTask words task
draw_is_named words rows Play named draw = absurd draw
draw_is_named words rows (Random seed replicas events) named draw = (rows, named, draw)
draw_is_named words rows (Threads replicas each) named draw = absurd draw

pub run_is_named : (words : List Text) (rows : List Row) (task : Task) → NamesCommand words (codes "threads") rows
    → IsRunTask rows task → IsNamedTask words task
run_is_named words rows Play named run = absurd run
run_is_named words rows (Random seed replicas events) named run = absurd run
run_is_named words rows (Threads replicas each) named run = (rows, named, run)

-- ---- each faultless command line names a task

abbrev whole : App
whole = built lattice

abbrev shape_at : ℕ → Shape
shape_at i = slice_index_or whole.subs i (new_shape [])

-- an option of a draw, as `clap` completes it
abbrev filled_option : (name : Text) (least most : ℕ) (otherwise : Text) → Rule
filled_option name least most otherwise = filled (option name least most otherwise)

abbrev seed_rule : Rule
seed_rule = filled_option (codes "seed") 0 4294967295 (codes "1")

abbrev replicas_rule : Rule
replicas_rule = filled_option (codes "replicas") 1 8 (codes "3")

abbrev events_rule : Rule
events_rule = filled_option (codes "events") 1 10000 (codes "100")

abbrev each_rule : Rule
each_rule = filled_option (codes "each") 1 1000 (codes "10")

no : {X : Type 0} → false ≡ true → X
no e = absurd (true≢false (sym e))

seed_alone : AllOne seed_rule (shape_at 1).rules
unfolding clap_on_literals
seed_alone = (inr (refl, refl, λ e. refl), (inr (refl, refl, λ e. no e), (inr (refl, refl, λ e. no e), (inl refl, tt))))

replicas_alone : AllOne replicas_rule (shape_at 1).rules
unfolding clap_on_literals
replicas_alone =
    (inr (refl, refl, λ e. no e), (inr (refl, refl, λ e. refl), (inr (refl, refl, λ e. no e), (inl refl, tt))))

events_alone : AllOne events_rule (shape_at 1).rules
unfolding clap_on_literals
events_alone =
    (inr (refl, refl, λ e. no e), (inr (refl, refl, λ e. no e), (inr (refl, refl, λ e. refl), (inl refl, tt))))

run_replicas_alone : AllOne replicas_rule (shape_at 2).rules
unfolding clap_on_literals
run_replicas_alone = (inr (refl, refl, λ e. refl), (inr (refl, refl, λ e. no e), (inl refl, tt)))

each_alone : AllOne each_rule (shape_at 2).rules
unfolding clap_on_literals
each_alone = (inr (refl, refl, λ e. no e), (inr (refl, refl, λ e. refl), (inl refl, tt)))

module _ (words : List Text) (faultless : level_fault (shape_at 1) [] nothing_held words false [] ≡ []) where
  settled_at_end : List Row
  settled_at_end = (settled (shape_at 1).rules (walk (shape_at 1).rules [] nothing_held words).held).rows

  all_taken : AreDrawOptions (rows_after (shape_at 1).rules [] words)
  unfolding clap_on_literals settled_at_end
  all_taken =
      let seed = level_reads seed_rule (shape_at 1) [] words false [] seed_alone
      (defaults_there seed_rule (codes "1") [] [] (drop 1 (shape_at 1).rules) settled_at_end refl refl) faultless in
      let replicas = level_reads replicas_rule (shape_at 1) [] words false [] replicas_alone
      (defaults_there replicas_rule (codes "3") [] (seed_rule ∷ []) (drop 2 (shape_at 1).rules) settled_at_end refl refl)
      faultless in
      let events = level_reads events_rule (shape_at 1) [] words false [] events_alone
      (defaults_there events_rule (codes "100") [] (seed_rule ∷ replicas_rule ∷ []) (drop 3 (shape_at 1).rules)
      settled_at_end refl refl) faultless in
      record {
        seed = record { text = seed.0; given = seed.1; passed = seed.2 };
        replicas = record { text = replicas.0; given = replicas.1; passed = replicas.2 };
        events = record { text = events.0; given = events.1; passed = events.2 };
      }

module _ (words : List Text) (faultless : level_fault (shape_at 2) [] nothing_held words false [] ≡ []) where
  run_settled_at_end : List Row
  run_settled_at_end = (settled (shape_at 2).rules (walk (shape_at 2).rules [] nothing_held words).held).rows

  both_taken : AreSizesTaken (rows_after (shape_at 2).rules [] words)
  unfolding clap_on_literals run_settled_at_end
  both_taken =
      let replicas = level_reads replicas_rule (shape_at 2) [] words false [] run_replicas_alone
      (defaults_there replicas_rule (codes "3") [] [] (drop 1 (shape_at 2).rules) run_settled_at_end refl refl)
      faultless in
      let each = level_reads each_rule (shape_at 2) [] words false [] each_alone
      (defaults_there each_rule (codes "10") [] (replicas_rule ∷ []) (drop 2 (shape_at 2).rules) run_settled_at_end refl
      refl) faultless in
      record {
        replicas = record { text = replicas.0; given = replicas.1; passed = replicas.2 };
        each = record { text = each.0; given = each.1; passed = each.2 };
      }

-- what is named is one of the three, a draw or a run with each of its numbers
abbrev pub NamesTask : Option (Text × List Row) → Type 0
NamesTask o = ((rows : List Row) × (o ≡ Some (codes "play", rows)))
    ⊎ (((rows : List Row) × (o ≡ Some (codes "random", rows)) × AreDrawOptions rows)
    ⊎ ((rows : List Row) × (o ≡ Some (codes "threads", rows)) × AreSizesTaken rows))

named_at : (stop : Option (Text × List Text)) → entered_fault whole stop ≡ [] → is_some (entered whole stop) ≡ true
    → IsNoHelp stop → NamesTask (entered whole stop)
unfolding clap_on_literals
named_at None e there other = no there
named_at (Some p) e there other =
    go (answers_to p.0 (label_of (shape_at 0))) (answers_to p.0 (label_of (shape_at 1)))
    (answers_to p.0 (label_of (shape_at 2))) (answers_to p.0 (label_of (shape_at 3)))
    (answers_to p.0 (label_of (shape_at 4))) (help_never p.0 other) e there
  where
    found : (t u v w x : Bool) → Option Shape
    found t u v w x =
        cond t (Some (shape_at 0))
        (cond u (Some (shape_at 1))
        (cond v (Some (shape_at 2)) (cond w (Some (shape_at 3)) (cond x (Some (shape_at 4)) None))))

    go : (t u v w x : Bool) → (x ≡ true → ⊥)
        → option_map_or (λ s. level_fault s [] nothing_held p.1 false []) (found t u v w x) [] ≡ []
        → is_some (option_map (λ s. rows_at s p.1) (found t u v w x)) ≡ true
        → NamesTask (option_map (λ s. rows_at s p.1) (found t u v w x))
    go true u v w x never f some = inl (_, refl)
    go false true v w x never f some = inr (inl (_, refl, all_taken p.1 f))
    go false false true w x never f some = inr (inr (_, refl, both_taken p.1 f))
    go false false false true x never f some = absurd (level_never (shape_at 3) p.1 refl f)
    go false false false false true never f some = absurd (never refl)
    go false false false false false never f some = no some

-- words in which nothing is wrong name a task
pub faultless_names : (words : List Text) → fault_of lattice words ≡ [] → NamesTask (subcommand_of lattice words)
unfolding clap_on_literals
faultless_names words e =
    let enters = enters_well lattice words refl refl e in
    named_at (stop_after whole.top.rules (names_of whole) (argument_words lattice words)) enters.below enters.there
    enters.no_help

never_that : (words : List Text) (name that : Text) (rows others : List Row) → bytes_eq that that ≡ true
    → bytes_eq name that ≡ false → NamesCommand words name rows → NamesCommand words that others → ⊥
never_that words name that rows others self other named is =
    let same : name ≡ that = ap (λ o. unwrap_or (option_map (λ p. p.0) o) []) (sym named ∙ is) in
    true≢false (sym self ∙ subst (λ (n : Text). bytes_eq n that ≡ false) same other)

-- so no name but these three is entered
pub no_other : (words : List Text) (name : Text) (rows : List Row) → fault_of lattice words ≡ [] → NamesCommand words name rows
    → bytes_eq name (codes "play") ≡ false → bytes_eq name (codes "random") ≡ false
    → bytes_eq name (codes "threads") ≡ false → ⊥
unfolding clap_on_literals
no_other words name rows faultless named plays draws runs = elim (faultless_names words faultless) [
  | inl is ↦ never_that words name (codes "play") rows is.0 refl plays named is.1
  | inr other ↦ elim other [
    | inl is ↦ never_that words name (codes "random") rows is.0 refl draws named is.1
    | inr is ↦ never_that words name (codes "threads") rows is.0 refl runs named is.1
  ]
]

nothing_named : (o : Option (Text × List Row)) → NamesTask o → None ≡ option_map (λ p. p.1) o → ⊥
nothing_named None named none = elim named [
  | inl is ↦ some≢none _ (sym is.1)
  | inr other ↦ elim other [
    | inl is ↦ some≢none _ (sym is.1)
    | inr is ↦ some≢none _ (sym is.1)
  ]
]
nothing_named (Some p) named none = some≢none p.1 (sym none)

-- and one is
pub some_entered : (words : List Text) → fault_of lattice words ≡ []
    → None ≡ option_map (λ p. p.1) (subcommand_of lattice words) → ⊥
some_entered words faultless none = nothing_named (subcommand_of lattice words) (faultless_names words faultless) none

-- ---- the words call for one task

given_once : (rows : List Row) (name : Text) (n m : ℕ) → IsGiven rows name n → IsGiven rows name m → n ≡ m
given_once rows name n m g h =
    g.value ∙ ap (λ t. digits_value 10 (without_leading_plus t)) (some_is _ _ (sym g.given ∙ h.given)) ∙ sym h.value

play_is_no_draw : (words : List Text) (a b : List Row) → NamesCommand words (codes "play") a → NamesCommand words (codes "random") b
    → ⊥
play_is_no_draw words a b plays draws =
    let names : codes "play" ≡ codes "random" = ap (λ o. unwrap_or (option_map (λ p. p.0) o) []) (sym plays ∙ draws) in
    let lengths : length (codes "play") ≡ length (codes "random") = ap length names in
    absurd (omega arith)

play_is_no_run : (words : List Text) (a b : List Row) → NamesCommand words (codes "play") a → NamesCommand words (codes "threads") b
    → ⊥
play_is_no_run words a b plays runs =
    let names : codes "play" ≡ codes "threads" = ap (λ o. unwrap_or (option_map (λ p. p.0) o) []) (sym plays ∙ runs) in
    let lengths : length (codes "play") ≡ length (codes "threads") = ap length names in
    absurd (omega arith)

draw_is_no_run : (words : List Text) (a b : List Row) → NamesCommand words (codes "random") a → NamesCommand words (codes "threads") b
    → ⊥
draw_is_no_run words a b draws runs =
    let names : codes "random" ≡ codes "threads" =
    ap (λ o. unwrap_or (option_map (λ p. p.0) o) []) (sym draws ∙ runs) in
    let lengths : length (codes "random") ≡ length (codes "threads") = ap length names in
    absurd (omega arith)

same_rows : (words : List Text) (name : Text) (a b : List Row) → NamesCommand words name a → NamesCommand words name b → a ≡ b
same_rows words name a b x y = ap (λ o. unwrap_or (option_map (λ p. p.1) o) []) (sym x ∙ y)

-- what a faultless draw was given has each of its numbers
pub draw_is_taken : (words : List Text) (rows : List Row) → fault_of lattice words ≡ []
    → NamesCommand words (codes "random") rows → AreDrawOptions rows
draw_is_taken words rows faultless named = elim (faultless_names words faultless) [
  | inl plays ↦ absurd (play_is_no_draw words plays.0 rows plays.1 named)
  | inr other ↦ elim other [
    | inl draws ↦ subst AreDrawOptions (same_rows words (codes "random") draws.0 rows draws.1 named) draws.2
    | inr runs ↦ absurd (draw_is_no_run words rows runs.0 named runs.1)
  ]
]

-- the same of a run
pub run_is_taken : (words : List Text) (rows : List Row) → fault_of lattice words ≡ []
    → NamesCommand words (codes "threads") rows → AreSizesTaken rows
run_is_taken words rows faultless named = elim (faultless_names words faultless) [
  | inl plays ↦ absurd (play_is_no_run words plays.0 rows plays.1 named)
  | inr other ↦ elim other [
    | inl draws ↦ absurd (draw_is_no_run words draws.0 rows draws.1 named)
    | inr runs ↦ subst AreSizesTaken (same_rows words (codes "threads") runs.0 rows runs.1 named) runs.2
  ]
]

same_draw : (rows : List Row) (s r e t q f : ℕ) → AreGiven rows s r e → AreGiven rows t q f
    → Random s r e ≡ Random t q f
same_draw rows s r e t q f x y =
    let seed = given_once rows (codes "seed") s t x.seed_given y.seed_given in
    let replicas = given_once rows (codes "replicas") r q x.replicas_given y.replicas_given in
    let events = given_once rows (codes "events") e f x.events_given y.events_given in
    λ i. Random (seed i) (replicas i) (events i)

same_run : (rows : List Row) (r e q f : ℕ) → AreSizesGiven rows r e → AreSizesGiven rows q f → Threads r e ≡ Threads q f
same_run rows r e q f x y =
    let replicas = given_once rows (codes "replicas") r q x.replicas_given y.replicas_given in
    let each = given_once rows (codes "each") e f x.each_given y.each_given in
    λ i. Threads (replicas i) (each i)

-- two tasks that the same words call for are one
pub one_task : (words : List Text) (a b : Task) → Calls words a → Calls words b → a ≡ b
one_task words Play Play x y = refl
one_task words Play (Random t q f) x y = absurd (play_is_no_draw words _ _ x.named.1 y.named.1)
one_task words (Random s r e) Play x y = absurd (play_is_no_draw words _ _ y.named.1 x.named.1)
one_task words (Random s r e) (Random t q f) x y =
    same_draw y.named.0 s r e t q f
    (subst (λ rows. AreGiven rows s r e) (same_rows words (codes "random") x.named.0 y.named.0 x.named.1 y.named.1)
    x.named.2) y.named.2
one_task words Play (Threads q f) x y = absurd (play_is_no_run words _ _ x.named.1 y.named.1)
one_task words (Threads r e) Play x y = absurd (play_is_no_run words _ _ y.named.1 x.named.1)
one_task words (Random s r e) (Threads q f) x y = absurd (draw_is_no_run words _ _ x.named.1 y.named.1)
one_task words (Threads r e) (Random t q f) x y = absurd (draw_is_no_run words _ _ y.named.1 x.named.1)
one_task words (Threads r e) (Threads q f) x y =
    same_run y.named.0 r e q f
    (subst (λ rows. AreSizesGiven rows r e)
    (same_rows words (codes "threads") x.named.0 y.named.0 x.named.1 y.named.1) x.named.2) y.named.2

-- words that name a node call for none
pub node_is_no_task : (words : List Text) (rows : List Row) (task : Task) → NamesCommand words (codes "node") rows
    → Calls words task → ⊥
unfolding clap_on_literals
node_is_no_task words rows Play named calls =
    never_that words (codes "node") (codes "play") rows calls.named.0 refl refl named calls.named.1
node_is_no_task words rows (Random seed replicas events) named calls =
    never_that words (codes "node") (codes "random") rows calls.named.0 refl refl named calls.named.1
node_is_no_task words rows (Threads replicas each) named calls =
    never_that words (codes "node") (codes "threads") rows calls.named.0 refl refl named calls.named.1
