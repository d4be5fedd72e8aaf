-- What the words of `lattice init` say, the program's name first, by what `clap` makes of them.
use Rattle.std.specs.Prelude.{◌≡◌, List, [], Some, Result, Ok, Err, true, codes, string_bytes}
use Rattle.clap.specs.Words.{App, Row, Rule, Text, new_app, new_rule, with_rule, with_subcommand}
use Rattle.clap.specs.Words.{fault_of, first_of, one_of, subcommand_of}
use Rattle.la_cli.specs.Calls.{lattice_alone, option}
use Rattle.la_serve.specs.declared.first.Making.{Making}
use Rattle.la_serve.specs.declared.unfit.Unfit.{Unfit}
use Rattle.la_serve.specs.Options.{own, votes_option, AreGroupOptions, IsGroupGiven, IsGroupUnfit}

-- ## The command line

-- the folder, which must be said, without a name before it
abbrev pub folder_option : Rule
folder_option = record (new_rule (codes "folder")) { value_names = 1; required = true }

abbrev pub making_named : App
making_named =
    let top = (new_app (codes "init")).top in
    record {
      top = record top { has_version = true };
      subs = [];
    }

abbrev pub making : App
making = with_rule
    (with_rule
    (with_rule
    (with_rule
    (with_rule
    (with_rule making_named (option (codes "replicas") 1 8 (codes "3")))
    own)
    (option (codes "commits") 0 16 (codes "0")))
    (option (codes "cap") 1 1000000 (codes "1000000")))
    votes_option)
    folder_option

-- the program `lattice`, of whose subcommands this is the one that is read here
abbrev pub lattice_init : App
lattice_init = with_subcommand lattice_alone making.top

-- ## What it says

-- a text in its range stands for each number, and there is one for the folder
pub record AreMakingOptions (rows : List Row) : Type 0 where
  pub group : AreGroupOptions rows
  pub folder : (text : Text) × (one_of (codes "folder") rows ≡ Some text)

-- the parts are those that were given, or their defaults, each in its range
pub record IsMaking (rows : List Row) (m : Making) : Type 0 where
  pub group_given : IsGroupGiven rows m.config m.own
  pub folder_given : first_of (codes "folder") rows ≡ Some (string_bytes m.folder)

-- the same, or what does not fit
abbrev pub SaysMaking : (rows : List Row) → Result Making Unfit → Type 0
SaysMaking rows (Ok m) = IsMaking rows m
SaysMaking rows (Err why) = IsGroupUnfit rows why

-- nothing is wrong with the words, and they name a folder to be made, of which they say this
pub record IsMakingSaid (words : List Text) (said : Result Making Unfit) : Type 0 where
  pub faultless : fault_of lattice_init words ≡ []
  pub rows : List Row
  pub named : subcommand_of lattice_init words ≡ Some (codes "init", rows)
  pub says : SaysMaking rows said
