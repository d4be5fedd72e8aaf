-- What the words of `lattice node` say, the program's name first, by what `clap` makes of them.
use Rattle.std.specs.Prelude.{◌≡◌, ◌≢◌, ◌⊎◌, ℕ, ◌<◌, ◌≤◌, ⊤, List, [], ◌∷◌, length, Option, Some, None, Result, Ok, Err}
use Rattle.std.specs.Prelude.{true, codes, pos, replicate}
use Rattle.std.specs.Prelude.{string_bytes}
use Rattle.std.specs.Option.{option_and_then}
use Rattle.std.specs.Str.Parse.{IsNumeral, without_leading_plus, digits_value}
use Rattle.clap.specs.Words.{App, Row, Rule, Text, new_app, new_rule, with_rule, with_subcommand}
use Rattle.clap.specs.Words.{fault_of, first_of, many_of, one_of, subcommand_of}
use Rattle.clap.specs.declared.builder.value_parser.ValueParser.TheVariants.{Signed}
use Rattle.la_cli.specs.Calls.{IsGiven, IsNumberTaken, lattice_alone, option}
use Rattle.la_object.specs.declared.kind.Kind.{Kind}
use Rattle.la_node.specs.declared.config.Config.{Config}
use Rattle.la_node.specs.Configs.{IsConfig}
use Rattle.la_proposer.specs.Majority.{IsGroup, votes_of}
use Rattle.la_proposer.specs.declared.votes.Votes.{Votes}
use Rattle.la_serve.specs.declared.options.Options.{Options}
use Rattle.la_serve.specs.declared.unfit.Unfit.{Unfit}
use Rattle.la_serve.specs.declared.unfit.Unfit.TheVariants as unfit
use Rattle.la_serve.specs.Objects.{objects_in, IsFirstUnfit}

-- ## The command line

-- an option `--NAME N`, with a number from `least` to `most`
abbrev pub number_option : (name : Text) → (least most : ℕ) → Rule
number_option name least most = record (new_rule name) {
  long = Some name;
  value_names = 1;
  parser = Some (Signed (pos least) (pos most));
}

-- which replica it is, which must be said
abbrev pub own : Rule
own = record (number_option (codes "own") 0 7) { required = true }

-- the objects of its shelf, and those that it has where none are said
abbrev pub objects_option : Rule
objects_option = record (new_rule (codes "objects")) {
  long = Some (codes "objects");
  value_names = 1;
  defaults = codes "1=counter,2=max,3=set" ∷ [];
}

-- 1 to 8 numbers in one use
abbrev pub votes_option : Rule
votes_option = record (number_option (codes "votes") 1 1000) {
  range = Some (record { start_inclusive = 1; end_inclusive = 8 });
}

-- the folder, which must be said
abbrev pub journal_option : Rule
journal_option = record (new_rule (codes "journal")) {
  long = Some (codes "journal");
  value_names = 1;
  required = true;
}

abbrev pub node_named : App
node_named =
    let top = (new_app (codes "node")).top in
    record {
      top = record top { has_version = true };
      subs = [];
    }

abbrev pub node : App
node = with_rule
    (with_rule
    (with_rule
    (with_rule
    (with_rule
    (with_rule
    (with_rule
    (with_rule
    (with_rule node_named (option (codes "replicas") 1 8 (codes "3")))
    own)
    (option (codes "commits") 0 16 (codes "0")))
    (option (codes "cap") 1 1000000 (codes "1000000")))
    (option (codes "tick") 0 3600 (codes "0")))
    (option (codes "compact") 0 1000000 (codes "0")))
    objects_option)
    votes_option)
    journal_option

-- the program `lattice`, of whose subcommands this is the one that is read here
abbrev pub lattice_node : App
lattice_node = with_subcommand lattice_alone node.top

-- ## What it says

-- a text in its range stands for each number of a group, and for the replica's
pub record AreGroupOptions (rows : List Row) : Type 0 where
  pub replicas : IsNumberTaken rows (codes "replicas") 1 8
  pub own : IsNumberTaken rows (codes "own") 0 7
  pub commits : IsNumberTaken rows (codes "commits") 0 16
  pub cap : IsNumberTaken rows (codes "cap") 1 1000000

-- for each other number too, and there are one for the objects and one for the folder
pub record AreNodeOptions (rows : List Row) : Type 0 where
  pub group : AreGroupOptions rows
  pub tick : IsNumberTaken rows (codes "tick") 0 3600
  pub compact : IsNumberTaken rows (codes "compact") 0 1000000
  pub objects : (text : Text) × (one_of (codes "objects") rows ≡ Some text)
  pub journal : (folder : Text) × (one_of (codes "journal") rows ≡ Some folder)

-- the text is this number
pub record IsNumber (text : Text) (n : ℕ) : Type 0 where
  pub numeral : IsNumeral 10 (without_leading_plus text)
  pub value : n ≡ digits_value 10 (without_leading_plus text)

-- the texts are these numbers, one by one
abbrev pub AreNumbers : List Text → List ℕ → Type 0
AreNumbers [] [] = ⊤
AreNumbers [] (n ∷ ns) = ⊥
AreNumbers (t ∷ ts) [] = ⊥
AreNumbers (t ∷ ts) (n ∷ ns) = IsNumber t n × AreNumbers ts ns

-- the votes that were given, which are those of a group; one for each replica, where none were
abbrev pub AreVotes : (given : Option (List Text)) → (replicas : ℕ) → List ℕ → Type 0
AreVotes None replicas votes_option = votes_option ≡ replicate replicas 1
AreVotes (Some texts) replicas votes_option = AreNumbers texts votes_option × IsGroup votes_option

-- votes were given that are those of no group
abbrev pub AreNoVotes : (given : Option (List Text)) → Type 0
AreNoVotes None = ⊥
AreNoVotes (Some texts) = (votes_option : List ℕ) → AreNumbers texts votes_option → IsGroup votes_option → ⊥

-- these are those votes, or there are none, and those that were given are those of no group
abbrev pub IsVotes : (given : Option (List Text)) → (replicas : ℕ) → Option Votes → Type 0
IsVotes given replicas None = AreNoVotes given
IsVotes given replicas (Some votes_option) = AreVotes given replicas (votes_of votes_option)

-- the objects that were given
abbrev pub given_objects : List Row → Option (List (ℕ × Kind))
given_objects rows = option_and_then objects_in (first_of (codes "objects") rows)

-- the group is the one that was given, or that of the defaults, and has this replica
pub record IsGroupGiven (rows : List Row) (config : Config) (own : ℕ) : Type 0 where
  pub replicas_given : IsGiven rows (codes "replicas") config.replicas
  pub own_given : IsGiven rows (codes "own") own
  pub commits_given : IsGiven rows (codes "commits") config.commits
  pub cap_given : IsGiven rows (codes "cap") config.cap
  pub votes_given : AreVotes (many_of (codes "votes") rows) config.replicas (votes_of config.votes)
  pub is_group : IsConfig config
  pub within : own < config.replicas

-- the options are those that were given, or their defaults, each in its range
pub record AreOptions (rows : List Row) (options : Options) : Type 0 where
  pub group_given : IsGroupGiven rows options.config options.own
  pub tick_given : IsGiven rows (codes "tick") options.tick
  pub compact_given : IsGiven rows (codes "compact") options.compact
  pub most_tick : options.tick ≤ 3600
  pub most_compact : options.compact ≤ 1000000
  pub objects_given : given_objects rows ≡ Some options.objects
  pub folder_given : first_of (codes "journal") rows ≡ Some (string_bytes options.folder)

-- ## What does not fit

-- what was given is no group, or has not this replica
abbrev pub IsGroupUnfit : (rows : List Row) → Unfit → Type 0
IsGroupUnfit rows (unfit.Votes counts replicas) =
    IsGiven rows (codes "replicas") replicas
    × (votes_option : List ℕ) × AreVotes (many_of (codes "votes") rows) replicas votes_option
    × (counts ≡ length votes_option) × (counts ≢ replicas)
IsGroupUnfit rows unfit.NoVotes = AreNoVotes (many_of (codes "votes") rows)
IsGroupUnfit rows (unfit.Own own replicas) =
    IsGiven rows (codes "own") own × IsGiven rows (codes "replicas") replicas × (replicas ≤ own)
IsGroupUnfit rows (unfit.Objects why) = ⊥

-- what was given says no objects
abbrev pub AreObjectsUnfit : (rows : List Row) → Unfit → Type 0
AreObjectsUnfit rows (unfit.Objects why) =
    (text : Text) × (first_of (codes "objects") rows ≡ Some text) × (objects_in text ≡ None) × IsFirstUnfit text why
AreObjectsUnfit rows _ = ⊥

-- the options, or what does not fit
abbrev pub SaysOptions : (rows : List Row) → Result Options Unfit → Type 0
SaysOptions rows (Ok options) = AreOptions rows options
SaysOptions rows (Err why) = IsGroupUnfit rows why ⊎ AreObjectsUnfit rows why

-- nothing is wrong with the words, and they name a node, of which they say this
pub record IsSaid (words : List Text) (said : Result Options Unfit) : Type 0 where
  pub faultless : fault_of lattice_node words ≡ []
  pub rows : List Row
  pub named : subcommand_of lattice_node words ≡ Some (codes "node", rows)
  pub says : SaysOptions rows said
