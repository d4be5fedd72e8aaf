-- What the words of `lattice call` say, the program's name first, by what `clap` makes of them.
use Rattle.std.specs.Prelude.{◌≡◌, ◌⊎◌, ◌≤◌, Bool, true, false, List, [], ◌∷◌, ◌++◌, Option, Some, None, codes}
use Rattle.std.specs.Prelude.{option_map, string_bytes}
use Rattle.std.specs.Option.{option_map_or}
use Rattle.clap.specs.Words.{App, Row, Rule, Text, new_app, new_rule, with_rule, with_subcommand}
use Rattle.clap.specs.Words.{all_of, fault_of, first_of, one_of, subcommand_of}
use Rattle.clap.specs.Lexer.{usize_max}
use Rattle.clap.specs.declared.builder.action.ArgAction.TheVariants.{Set}
use Rattle.la_cli.specs.Calls.{IsGiven, IsNumberTaken, lattice_alone, option}
use Rattle.la_call.specs.declared.options.CallOptions.{CallOptions}
use Rattle.la_call.specs.Words.{is_request_name, is_request}

-- ## The command line

-- an option `--NAME TEXT`, which may be left out
abbrev pub text_option : (name : Text) → Rule
text_option name = record (new_rule name) {
  long = Some name;
  value_names = 1;
}

-- the words of the request, of which there must be one
abbrev pub words_rule : Rule
words_rule = record (new_rule (codes "word")) {
  action = Some Set;
  range = Some (record { start_inclusive = 1; end_inclusive = usize_max });
  value_names = 1;
  required = true;
}

abbrev pub call_named : App
call_named =
    let top = (new_app (codes "call")).top in
    record {
      top = record top { has_version = true };
      subs = [];
    }

abbrev pub call : App
call = with_rule
    (with_rule
    (with_rule
    (with_rule
    (with_rule
    (with_rule call_named (text_option (codes "in")))
    (text_option (codes "out")))
    (option (codes "wait") 0 3600 (codes "0")))
    (option (codes "times") 1 1000 (codes "5")))
    (text_option (codes "name")))
    words_rule

-- the program `lattice`, of whose subcommands this is the one that is read here
abbrev pub lattice_call : App
lattice_call = with_subcommand lattice_alone call.top

-- ## The request

-- each word with the space before it
abbrev pub spaced_words : List Text → Text
spaced_words [] = []
spaced_words (word ∷ words) = 32 ∷ word ++ spaced_words words

-- the words with single spaces between them
abbrev pub joined_words : List Text → Text
joined_words [] = []
joined_words (word ∷ words) = word ++ spaced_words words

-- the words are this request
pub record AreRequest (rows : List Row) (request : Text) : Type 0 where
  pub words : List Text
  pub given : all_of (codes "word") rows ≡ Some words
  pub is : request ≡ joined_words words

-- a name, where one was given, is one
abbrev pub is_well_named : List Row → Bool
is_well_named rows = option_map_or is_request_name (first_of (codes "name") rows) true

-- ## What it says

-- a text in its range stands for each number, and there is a word
pub record AreCallRows (rows : List Row) : Type 0 where
  pub wait : IsNumberTaken rows (codes "wait") 0 3600
  pub times : IsNumberTaken rows (codes "times") 1 1000
  pub words : (word : Text) × (one_of (codes "word") rows ≡ Some word)

-- the options are those that were given, or their defaults, each in its range
pub record IsCallGiven (rows : List Row) (options : CallOptions) : Type 0 where
  pub input_given : option_map string_bytes options.input ≡ first_of (codes "in") rows
  pub output_given : option_map string_bytes options.output ≡ first_of (codes "out") rows
  pub wait_given : IsGiven rows (codes "wait") options.wait
  pub times_given : IsGiven rows (codes "times") options.times
  pub name_given : option_map string_bytes options.name ≡ first_of (codes "name") rows
  pub request_given : AreRequest rows (string_bytes options.request)
  pub most_wait : options.wait ≤ 3600
  pub most_times : options.times ≤ 1000

-- the words are a request, or none
abbrev pub SaysRequest : (rows : List Row) → Option Text → Type 0
SaysRequest rows None = (request : Text) × AreRequest rows request × (is_request request ≡ false)
SaysRequest rows (Some request) = AreRequest rows request × (is_request request ≡ true)

-- the same, or there are none, and the name or the request is none
abbrev pub SaysGiven : (rows : List Row) → Option CallOptions → Type 0
SaysGiven rows None = (is_well_named rows ≡ false) ⊎ SaysRequest rows None
SaysGiven rows (Some options) = IsCallGiven rows options

-- nothing is wrong with the words, and they name a call, of which they say this
pub record IsCallSaid (words : List Text) (said : Option CallOptions) : Type 0 where
  pub faultless : fault_of lattice_call words ≡ []
  pub rows : List Row
  pub named : subcommand_of lattice_call words ≡ Some (codes "call", rows)
  pub says : SaysGiven rows said
