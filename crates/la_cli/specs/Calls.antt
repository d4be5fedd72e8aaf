-- What the words of a command line call for, the program's name first, by what `clap` makes of them.
use Rattle.std.specs.Prelude.{◌≡◌, ◌⊎◌, ℕ, ◌≤◌, List, [], ◌∷◌, codes, pos, Some, true}
use Rattle.std.specs.Str.Parse.{IsNumeral, without_leading_plus, digits_value}
use Rattle.clap.specs.Words.{App, Row, Rule, Text, new_app, new_rule, with_rule, with_subcommand}
use Rattle.clap.specs.Words.{IsAmong, IsSignedIn, fault_of, one_of, subcommand_of, without_minus}
use Rattle.clap.specs.declared.builder.value_parser.ValueParser.TheVariants.{Signed}
use Rattle.clap.specs.declared.error.kind.ErrorKind.{ErrorKind}
use Rattle.clap.specs.declared.error.kind.ErrorKind.TheVariants.{DisplayHelp, DisplayVersion}
use Rattle.la_cli.specs.declared.call.Task.{Task}
use Rattle.la_cli.specs.declared.call.Task.TheVariants.{Play, Random, Threads}

-- ## The command lines of the program

-- an option `--NAME N`, with a number from `least` to `most`, and one for where it is left out
abbrev pub option : (name : Text) → (least most : ℕ) → (otherwise : Text) → Rule
option name least most otherwise = record (new_rule name) {
  long = Some name;
  value_names = 1;
  parser = Some (Signed (pos least) (pos most));
  defaults = otherwise ∷ [];
}

abbrev pub play : App
play = new_app (codes "play")

abbrev pub random : App
random = with_rule
    (with_rule
    (with_rule (new_app (codes "random")) (option (codes "seed") 0 4294967295 (codes "1")))
    (option (codes "replicas") 1 8 (codes "3")))
    (option (codes "events") 1 10000 (codes "100"))

abbrev pub threads : App
threads = with_rule
    (with_rule (new_app (codes "threads")) (option (codes "replicas") 1 8 (codes "3")))
    (option (codes "each") 1 1000 (codes "10"))

-- a replica that keeps its state is listed, but never a task: whoever hands in its words is shown its help
abbrev pub node_app : App
node_app =
    let top = (new_app (codes "node")).top in
    record {
      top = record top {
        subcommand_required = true;
        arg_required_else_help = true;
      };
      subs = [];
    }

-- the program without subcommands
abbrev pub lattice_alone : App
lattice_alone =
    let top = (new_app (codes "lattice")).top in
    record {
      top = record top {
        has_version = true;
        subcommand_required = true;
      };
      subs = [];
    }

-- the name alone calls for nothing; `--help`, `--version` and the word `help` are there
abbrev pub lattice : App
lattice =
    with_subcommand
    (with_subcommand
    (with_subcommand (with_subcommand lattice_alone play.top) random.top) threads.top)
    node_app.top

-- ## What they call for

-- this number was given by an option, or stands for it where it is left out
pub record IsGiven (rows : List Row) (name : Text) (n : ℕ) : Type 0 where
  pub text : Text
  pub given : one_of name rows ≡ Some text
  pub numeral : IsNumeral 10 (without_leading_plus text)
  pub value : n ≡ digits_value 10 (without_leading_plus text)

-- a text stands for this number, and its number is from `least` to `most`
pub record IsNumberTaken (rows : List Row) (name : Text) (least most : ℕ) : Type 0 where
  pub text : Text
  pub given : one_of name rows ≡ Some (without_minus text)
  pub passed : IsSignedIn (pos least) (pos most) text

-- a text in its range stands for each number of a draw
pub record AreDrawOptions (rows : List Row) : Type 0 where
  pub seed : IsNumberTaken rows (codes "seed") 0 4294967295
  pub replicas : IsNumberTaken rows (codes "replicas") 1 8
  pub events : IsNumberTaken rows (codes "events") 1 10000

-- the same for each number of a run
pub record AreSizesTaken (rows : List Row) : Type 0 where
  pub replicas : IsNumberTaken rows (codes "replicas") 1 8
  pub each : IsNumberTaken rows (codes "each") 1 1000

-- the numbers of a draw are in their ranges
pub record AreDrawNumbers (replicas events : ℕ) : Type 0 where
  pub some_replicas : 1 ≤ replicas
  pub few_replicas : replicas ≤ 8
  pub some_events : 1 ≤ events
  pub few_events : events ≤ 10000

-- these numbers were given, each in its range
pub record AreGiven (rows : List Row) (seed replicas events : ℕ) : Type 0 where
  pub seed_given : IsGiven rows (codes "seed") seed
  pub replicas_given : IsGiven rows (codes "replicas") replicas
  pub events_given : IsGiven rows (codes "events") events
  pub in_range : AreDrawNumbers replicas events

-- the numbers of a run are in their ranges
pub record AreSizes (replicas each : ℕ) : Type 0 where
  pub some_replicas : 1 ≤ replicas
  pub few_replicas : replicas ≤ 8
  pub some_each : 1 ≤ each
  pub few_each : each ≤ 1000

-- these numbers were given, each in its range
pub record AreSizesGiven (rows : List Row) (replicas each : ℕ) : Type 0 where
  pub replicas_given : IsGiven rows (codes "replicas") replicas
  pub each_given : IsGiven rows (codes "each") each
  pub in_range : AreSizes replicas each

abbrev pub IsInRange : Task → Type 0
IsInRange Play = Unit {0}
IsInRange (Random seed replicas events) = AreDrawNumbers replicas events
IsInRange (Threads replicas each) = AreSizes replicas each

-- the task is a draw with the numbers that were given
abbrev pub IsDraw : (rows : List Row) → Task → Type 0
IsDraw rows Play = ⊥
IsDraw rows (Random seed replicas events) = AreGiven rows seed replicas events
IsDraw rows (Threads replicas each) = ⊥

-- the task is a run with the numbers that were given
abbrev pub IsRunTask : (rows : List Row) → Task → Type 0
IsRunTask rows Play = ⊥
IsRunTask rows (Random seed replicas events) = ⊥
IsRunTask rows (Threads replicas each) = AreSizesGiven rows replicas each

-- the words name this subcommand, with these options
abbrev pub NamesCommand : (words : List Text) → (name : Text) → List Row → Type 0
NamesCommand words name rows = subcommand_of lattice words ≡ Some (name, rows)

-- the words name the task's subcommand
abbrev pub IsNamedTask : (words : List Text) → Task → Type 0
IsNamedTask words Play = (rows : List Row) × NamesCommand words (codes "play") rows
IsNamedTask words (Random seed replicas events) =
    (rows : List Row)
    × NamesCommand words (codes "random") rows
    × IsDraw rows (Random seed replicas events)
IsNamedTask words (Threads replicas each) =
    (rows : List Row)
    × NamesCommand words (codes "threads") rows
    × IsRunTask rows (Threads replicas each)

-- the words call for a task: nothing is wrong with them, and they name it
pub record Calls (words : List Text) (task : Task) : Type 0 where
  pub faultless : fault_of lattice words ≡ []
  pub named : IsNamedTask words task

-- ## What they call for else

-- help and the version are texts to show
abbrev pub IsText : ErrorKind → Type 0
IsText kind = (kind ≡ DisplayHelp) ⊎ (kind ≡ DisplayVersion)

-- words of which this is found ask for help or for the version
abbrev pub AsksForText : (found : List ErrorKind) → Type 0
AsksForText found = (kind : ErrorKind) × IsAmong kind found × IsText kind

-- something is wrong with them
abbrev pub IsMistaken : (found : List ErrorKind) → Type 0
IsMistaken found = (kind : ErrorKind) × IsAmong kind found × ¬ IsText kind
