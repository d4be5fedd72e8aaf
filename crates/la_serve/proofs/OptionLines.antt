-- What the matches of a command line of `lattice node` say of its options.
use Rattle.std.proofs.Common.{◌≡◌, ℕ, List, Option, Some, None, true, false, refl, codes, [], ◌∷◌, not, drop, take}
use Rattle.std.proofs.Common.{option_map}
use Rattle.std.specs.List.{slice_index_or}
use Rattle.clap.specs.Words.{Text, Row, Rule, fault_of, is_simple, is_simple_and_free, subcommand_of}
use Rattle.clap.proofs.OnLiterals.{clap_on_literals}
use Rattle.clap.specs.Takes.{is_given}
use Rattle.clap.specs.Walk.{Held, nothing_held, rows_after, settled, walk}
use Rattle.clap.specs.Simple.{App, Shape, built, filled, new_shape}
use Rattle.clap.specs.Faults.{level_fault}
use Rattle.la_cli.proofs.lemmas.Faultless.{AllOne, defaults_there, level_reads}
use Rattle.la_cli.specs.Calls.{option}
use Rattle.la_serve.proofs.CommandRules.{IsRead, NamesOne, alone_among, is_entered, is_read, names_one, none_missing}
use Rattle.la_serve.proofs.CommandRules.{not_missing, or_first, or_second}
use Rattle.la_serve.specs.Options.{AreNodeOptions, lattice_node, own, objects_option, journal_option}

pub lattice_is_simple : is_simple lattice_node ≡ true
unfolding clap_on_literals
lattice_is_simple = refl

pub lattice_is_free : is_simple_and_free lattice_node ≡ true
unfolding clap_on_literals
lattice_is_free = refl

abbrev whole : App
whole = built lattice_node

abbrev shape_at : ℕ → Shape
shape_at i = slice_index_or whole.subs i (new_shape [])

abbrev shape : Shape
shape = shape_at 0

abbrev rules : List Rule
rules = shape.rules

abbrev replicas_rule : Rule
replicas_rule = filled (option (codes "replicas") 1 8 (codes "3"))

abbrev own_rule : Rule
own_rule = filled own

abbrev commits_rule : Rule
commits_rule = filled (option (codes "commits") 0 16 (codes "0"))

abbrev cap_rule : Rule
cap_rule = filled (option (codes "cap") 1 1000000 (codes "1000000"))

abbrev tick_rule : Rule
tick_rule = filled (option (codes "tick") 0 3600 (codes "0"))

abbrev compact_rule : Rule
compact_rule = filled (option (codes "compact") 0 1000000 (codes "0"))

abbrev objects_rule : Rule
objects_rule = filled objects_option

abbrev journal_rule : Rule
journal_rule = filled journal_option

-- ---- each option stands once among the rules

replicas_alone : AllOne replicas_rule rules
unfolding clap_on_literals
replicas_alone = alone_among replicas_rule [] (drop 1 rules) refl refl refl

own_alone : AllOne own_rule rules
unfolding clap_on_literals
own_alone = alone_among own_rule (take 1 rules) (drop 2 rules) refl refl refl

commits_alone : AllOne commits_rule rules
unfolding clap_on_literals
commits_alone = alone_among commits_rule (take 2 rules) (drop 3 rules) refl refl refl

cap_alone : AllOne cap_rule rules
unfolding clap_on_literals
cap_alone = alone_among cap_rule (take 3 rules) (drop 4 rules) refl refl refl

tick_alone : AllOne tick_rule rules
unfolding clap_on_literals
tick_alone = alone_among tick_rule (take 4 rules) (drop 5 rules) refl refl refl

compact_alone : AllOne compact_rule rules
unfolding clap_on_literals
compact_alone = alone_among compact_rule (take 5 rules) (drop 6 rules) refl refl refl

objects_alone : AllOne objects_rule rules
unfolding clap_on_literals
objects_alone = alone_among objects_rule (take 6 rules) (drop 7 rules) refl refl refl

journal_alone : AllOne journal_rule rules
unfolding clap_on_literals
journal_alone = alone_among journal_rule (take 8 rules) (drop 9 rules) refl refl refl

-- ---- what a faultless command line gives

module _ (words : List Text) (faultless : level_fault shape [] nothing_held words false [] ≡ []) where
  end : Held
  end = (walk rules [] nothing_held words).held

  rows : List Row
  rows = rows_after rules [] words

  both_given : (not (is_given (codes "own") rows) ≡ false) × (not (is_given (codes "journal") rows) ≡ false)
  unfolding clap_on_literals end rows
  both_given =
      let all = none_missing shape words faultless in
      (or_first _ _ all, or_first _ _ (or_second (not (is_given (codes "own") rows)) _ all))

  all_taken : AreNodeOptions (rows_after rules [] words)
  unfolding clap_on_literals end rows
  all_taken =
      let start = (settled rules end).rows in
      let replicas = level_reads replicas_rule shape [] words false [] replicas_alone
      (defaults_there replicas_rule (codes "3") [] [] (drop 1 rules) start refl refl) faultless in
      let own = level_reads own_rule shape [] words false [] own_alone
      (not_missing (codes "own") rows both_given.0) faultless in
      let commits = level_reads commits_rule shape [] words false [] commits_alone
      (defaults_there commits_rule (codes "0") [] (replicas_rule ∷ own_rule ∷ []) (drop 3 rules) start refl refl)
      faultless in
      let cap = level_reads cap_rule shape [] words false [] cap_alone
      (defaults_there cap_rule (codes "1000000") [] (replicas_rule ∷ own_rule ∷ commits_rule ∷ []) (drop 4 rules) start
      refl refl) faultless in
      let tick = level_reads tick_rule shape [] words false [] tick_alone
      (defaults_there tick_rule (codes "0") [] (replicas_rule ∷ own_rule ∷ commits_rule ∷ cap_rule ∷ []) (drop 5 rules)
      start refl refl) faultless in
      let compact = level_reads compact_rule shape [] words false [] compact_alone
      (defaults_there compact_rule (codes "0") [] (replicas_rule ∷ own_rule ∷ commits_rule ∷ cap_rule ∷ tick_rule ∷ [])
      (drop 6 rules) start refl refl) faultless in
      let objects = level_reads objects_rule shape [] words false [] objects_alone
      (defaults_there objects_rule (codes "1=counter,2=max,3=set") []
      (replicas_rule ∷ own_rule ∷ commits_rule ∷ cap_rule ∷ tick_rule ∷ compact_rule ∷ []) (drop 7 rules) start refl refl)
      faultless in
      let journal_option = level_reads journal_rule shape [] words false [] journal_alone
      (not_missing (codes "journal") rows both_given.1) faultless in
      record {
        group = record {
          replicas = record { text = replicas.0; given = replicas.1; passed = replicas.2 };
          own = record { text = own.0; given = own.1; passed = own.2 };
          commits = record { text = commits.0; given = commits.1; passed = commits.2 };
          cap = record { text = cap.0; given = cap.1; passed = cap.2 };
        };
        tick = record { text = tick.0; given = tick.1; passed = tick.2 };
        compact = record { text = compact.0; given = compact.1; passed = compact.2 };
        objects = (_, objects.1);
        journal = (_, journal_option.1);
      }

-- words in which nothing is wrong name a node, with all that it needs
pub faultless_node : (words : List Text) → fault_of lattice_node words ≡ []
    → NamesOne (codes "node") AreNodeOptions (subcommand_of lattice_node words)
unfolding clap_on_literals
faultless_node = names_one lattice_node shape (shape_at 1) refl refl AreNodeOptions all_taken refl refl

-- what the matches of a program say that was made as this one
pub options_read : (made : App) (words : List Text) → made ≡ lattice_node → {X : Type 0}
    (o : Option (Text × List Row)) → (is_simple made ≡ true → X × (o ≡ subcommand_of made words))
    → (is_simple_and_free made ≡ true → fault_of made words ≡ []) → (rows : List Row)
    → option_map (λ p. p.1) o ≡ Some rows → IsRead lattice_node (codes "node") AreNodeOptions words rows
options_read = is_read lattice_node (codes "node") AreNodeOptions lattice_is_simple lattice_is_free faultless_node

pub options_entered : (made : App) (words : List Text) → made ≡ lattice_node → {X : Type 0}
    (o : Option (Text × List Row)) → (is_simple made ≡ true → X × (o ≡ subcommand_of made words))
    → (is_simple_and_free made ≡ true → fault_of made words ≡ []) → None ≡ option_map (λ p. p.1) o → ⊥
options_entered =
    is_entered lattice_node (codes "node") AreNodeOptions lattice_is_simple lattice_is_free faultless_node
