-- What the matches of a command line of `lattice call` say of its options.
use Rattle.std.proofs.Common.{◌≡◌, ◌∙◌, ℕ, List, Option, Some, None, sym, subst, ap, ap₂, true, false, true≢false}
use Rattle.std.proofs.Common.{refl, codes, [], ◌∷◌, Bool, not, ◌&&◌, ◌||◌, cond, inl, inr, drop, is_some, option_map}
use Rattle.std.specs.Prelude.{find, option_and_then}
use Rattle.std.specs.List.{list_any, slice_index_or}
use Rattle.std.specs.Option.{IsSome, ForSome, option_map_or}
use Rattle.std.specs.Str.{bytes_eq}
use Rattle.clap.specs.Words.{AddsArg, Text, Row, Rule, all_of, fault_of, is_simple, is_simple_and_free, one_of}
use Rattle.clap.specs.Words.{subcommand_of}
use Rattle.clap.proofs.OnLiterals.{clap_on_literals}
use Rattle.clap.specs.Takes.{is_given}
use Rattle.clap.specs.Facts.{unwrap_or_range}
use Rattle.clap.specs.declared.builder.action.ArgAction.TheVariants.{Set}
use Rattle.clap.specs.Walk.{Held, action_of, answers_to, finished, has_row, nothing_held, row_text, rows_after, settled}
use Rattle.clap.specs.Walk.{stop_after, walk, walk_from}
use Rattle.clap.specs.Simple.{App, Shape, argument_words, built, entered, filled, label_of, names_of, new_shape}
use Rattle.clap.specs.Simple.{with_index}
use Rattle.clap.specs.Simple.{rows_at}
use Rattle.clap.specs.Kinds.{check_kinds}
use Rattle.clap.specs.Faults.{check_fault, defaults_fault, entered_fault, level_fault, settle_fault, walk_fault}
use Rattle.clap.specs.declared.builder.arg.Arg.{Arg}
use Rattle.clap.specs.declared.builder.command.Command.{Command}
use Rattle.clap.specs.declared.builder.command.Command.TheViews.{out-Command}
use Rattle.la_cli.proofs.lemmas.Entered.{IsNoHelp, enters_well, help_never}
use Rattle.la_cli.proofs.lemmas.GivenNumbers.{some_is, some≢none}
use Rattle.la_cli.proofs.lemmas.Faultless.{AllOne, IsOne, defaults_there, level_reads, next_none, some_kinds}
use Rattle.la_cli.specs.Calls.{option}
use Rattle.la_call.specs.Options.{AreCallRows, lattice_call, text_option, words_rule}

-- the command with a version
abbrev pub versioned : App → App
versioned a = record a { top = record a.top { has_version = true } }

-- the same, of which a subcommand is wanted
abbrev pub requires_one : App → App
requires_one a = record a {
  top = record a.top {
    has_version = true;
    subcommand_required = true;
  };
}

-- a command that takes one more argument, which is not global, has no global ones if it had none
pub stays_local : (old : Command) (a : Arg) (new : Command) → AddsArg old a new → a.global ≡ false
    → (out-Command old).has_globals ≡ false → (out-Command new).has_globals ≡ false
stays_local old a new h local none = h.globals ∙ ap₂ (λ (x y : Bool). x || y) none local

pub lattice_is_simple : is_simple lattice_call ≡ true
unfolding clap_on_literals
lattice_is_simple = refl

pub lattice_is_free : is_simple_and_free lattice_call ≡ true
unfolding clap_on_literals
lattice_is_free = refl

abbrev whole : App
whole = built lattice_call

abbrev shape_at : ℕ → Shape
shape_at i = slice_index_or whole.subs i (new_shape [])

abbrev shape : Shape
shape = shape_at 0

abbrev rules : List Rule
rules = shape.rules

abbrev wait_rule : Rule
wait_rule = filled (option (codes "wait") 0 3600 (codes "0"))

abbrev times_rule : Rule
times_rule = filled (option (codes "times") 1 1000 (codes "5"))

abbrev word_rule : Rule
word_rule = with_index 1 (filled words_rule)

abbrev before_wait : List Rule
before_wait = filled (text_option (codes "in")) ∷ filled (text_option (codes "out")) ∷ []

abbrev before_times : List Rule
before_times = filled (text_option (codes "in")) ∷ filled (text_option (codes "out")) ∷ wait_rule ∷ []

no : {X : Type 0} → false ≡ true → X
no e = absurd (true≢false (sym e))

-- another rule, and the rule itself
other : {a b : Rule} → action_of b ≡ Set → (unwrap_or_range b.range).start_inclusive ≡ 1 → bytes_eq b.id a.id ≡ false
    → IsOne a b
other set one not = inr (set, one, λ e. no (sym not ∙ e))

it : {a : Rule} → action_of a ≡ Set → (unwrap_or_range a.range).start_inclusive ≡ 1 → IsOne a a
it set one = inr (set, one, λ e. refl)

wait_alone : AllOne wait_rule rules
unfolding clap_on_literals
wait_alone = (
  other refl refl refl,
  (
    other refl refl refl,
    (
      it refl refl,
      (
        other refl refl refl,
        (other refl refl refl, (other refl refl refl, (inl refl, (inl refl, tt)))),
      ),
    ),
  ),
)

times_alone : AllOne times_rule rules
unfolding clap_on_literals
times_alone = (
  other refl refl refl,
  (
    other refl refl refl,
    (
      other refl refl refl,
      (
        it refl refl,
        (other refl refl refl, (other refl refl refl, (inl refl, (inl refl, tt)))),
      ),
    ),
  ),
)

word_alone : AllOne word_rule rules
unfolding clap_on_literals
word_alone = (
  other refl refl refl,
  (
    other refl refl refl,
    (
      other refl refl refl,
      (
        other refl refl refl,
        (other refl refl refl, (it refl refl, (inl refl, (inl refl, tt)))),
      ),
    ),
  ),
)

-- ---- what is required is there

none_wanted : (x y z : Bool) → check_kinds x y z ≡ [] → z ≡ false
none_wanted true y z e = absurd (some_kinds _ _ e)
none_wanted false true z e = absurd (some_kinds _ _ e)
none_wanted false false true e = absurd (some_kinds _ _ e)
none_wanted false false false e = refl

-- what is required was given, where a level that has no subcommand found no fault
none_missing : (s : Shape) (found : List Row) → check_fault s found false ≡ []
    → (not (s.subcommand_negates_reqs && false) && list_any (λ a. a.required && not (is_given a.id found)) s.rules)
    ≡ false
none_missing s found e = none_wanted _ _ _ e

or_first : (a b : Bool) → (a || b) ≡ false → a ≡ false
or_first true b e = e
or_first false b e = refl

pub not_false : (a : Bool) → not a ≡ false → a ≡ true
not_false true e = refl
not_false false e = absurd (true≢false e)

given_there : (id : Text) (rows : List Row) → is_given id rows ≡ true → has_row id rows ≡ true
given_there id [] e = e
given_there id (r ∷ rs) e = go (bytes_eq r.id id) (given_there id rs) e
  where
    go : (t : Bool) → (is_given id rs ≡ true → has_row id rs ≡ true)
        → option_map_or (λ x. Rattle.clap.specs.Facts.explicit_source x.source)
        (cond t (Some r) (find (λ x. bytes_eq x.id id) rs)) false ≡ true → (t || has_row id rs) ≡ true
    go true rest f = refl
    go false rest f = rest f

-- ---- what a faultless command line gives

module _ (words : List Text) (faultless : level_fault shape [] nothing_held words false [] ≡ []) where
  end : Held
  end = (walk rules [] nothing_held words).held

  rows : List Row
  rows = rows_after rules [] words

  word_given : not (is_given (codes "word") rows) ≡ false
  unfolding clap_on_literals end rows
  word_given =
      let after = next_none (walk_fault shape [] (walk_from nothing_held) words) _ faultless in
      let defaults = next_none (settle_fault rules false end) _ after in
      let check = next_none (defaults_fault (settled rules end).rows rules) _ defaults in
      or_first _ _ (none_missing shape (finished rules end) check)

  all_taken : AreCallRows (rows_after rules [] words)
  unfolding clap_on_literals end rows
  all_taken =
      let start = (settled rules end).rows in
      let wait = level_reads wait_rule shape [] words false [] wait_alone
      (defaults_there wait_rule (codes "0") [] before_wait (drop 3 rules) start refl refl) faultless in
      let times = level_reads times_rule shape [] words false [] times_alone
      (defaults_there times_rule (codes "5") [] before_times (drop 4 rules) start refl refl) faultless in
      let word = level_reads word_rule shape [] words false [] word_alone
      (given_there (codes "word") rows (not_false _ word_given)) faultless in
      record {
        wait = record { text = wait.0; given = wait.1; passed = wait.2 };
        times = record { text = times.0; given = times.1; passed = times.2 };
        words = (_, word.1);
      }

-- what is named is a call, with all that it needs
abbrev pub NamesCall : Option (Text × List Row) → Type 0
NamesCall o = (rows : List Row) × (o ≡ Some (codes "call", rows)) × AreCallRows rows

named_at : (stop : Option (Text × List Text)) → entered_fault whole stop ≡ [] → is_some (entered whole stop) ≡ true
    → IsNoHelp stop → NamesCall (entered whole stop)
unfolding clap_on_literals
named_at None e there other = no there
named_at (Some p) e there other =
    go (answers_to p.0 (label_of shape)) (answers_to p.0 (label_of (shape_at 1))) (help_never p.0 other) e there
  where
    found : (t u : Bool) → Option Shape
    found t u = cond t (Some shape) (cond u (Some (shape_at 1)) None)

    go : (t u : Bool) → (u ≡ true → ⊥)
        → option_map_or (λ s. level_fault s [] nothing_held p.1 false []) (found t u) [] ≡ []
        → is_some (option_map (λ s. rows_at s p.1) (found t u)) ≡ true
        → NamesCall (option_map (λ s. rows_at s p.1) (found t u))
    go true u never f some = (_, refl, all_taken p.1 f)
    go false true never f some = absurd (never refl)
    go false false never f some = no some

-- words in which nothing is wrong name a call
pub faultless_call : (words : List Text) → fault_of lattice_call words ≡ []
    → NamesCall (subcommand_of lattice_call words)
unfolding clap_on_literals
faultless_call words e =
    let enters = enters_well lattice_call words refl refl e in
    named_at (stop_after whole.top.rules (names_of whole) (argument_words lattice_call words)) enters.below enters.there
    enters.no_help

some_rows : (o : Option (Text × List Row)) (rows : List Row) → option_map (λ p. p.1) o ≡ Some rows → NamesCall o
    → (o ≡ Some (codes "call", rows)) × AreCallRows rows
some_rows o rows is named =
    let same : named.0 ≡ rows = some_is _ _ (ap (option_map (λ p. p.1)) (sym named.1) ∙ is) in
    (named.1 ∙ ap (λ (r : List Row). Some (codes "call", r)) same, subst AreCallRows same named.2)

-- the rows of the subcommand that was entered are a call's
pub rows_are_taken : (words : List Text) (rows : List Row) → fault_of lattice_call words ≡ []
    → option_map (λ p. p.1) (subcommand_of lattice_call words) ≡ Some rows
    → (subcommand_of lattice_call words ≡ Some (codes "call", rows)) × AreCallRows rows
rows_are_taken words rows faultless is =
    some_rows (subcommand_of lattice_call words) rows is (faultless_call words faultless)

-- and one is entered
pub some_entered : (words : List Text) → fault_of lattice_call words ≡ []
    → None ≡ option_map (λ p. p.1) (subcommand_of lattice_call words) → ⊥
some_entered words faultless none =
    let named = faultless_call words faultless in
    some≢none named.0 (sym (none ∙ ap (option_map (λ p. p.1)) named.1))

-- ---- the words

-- where a text is read there are values
pub all_there : (id : Text) (rows : List Row) (t : Text) → one_of id rows ≡ Some t
    → (ws : List Text) × (all_of id rows ≡ Some ws)
all_there id rows t e = outer (find (λ r. bytes_eq r.id id) rows) e
  where
    outer : (o : Option Row) → option_and_then row_text o ≡ Some t
        → (ws : List Text) × (option_map (λ r. r.values) o ≡ Some ws)
    outer None f = absurd (some≢none _ (sym f))
    outer (Some r) f = (r.values, refl)

pub some_of : {X Y : Type 0} (f : X → Y) (o : Option X) (y : Y) → option_map f o ≡ Some y → IsSome o
some_of f None y e = absurd (some≢none _ (sym e))
some_of f (Some x) y e = refl

-- a name that was given, and is well
pub named_well : {X : Type 0} (f : X → Text) (p : Text → Bool) (o : Option X) (given : Option Text)
    → option_map f o ≡ given → option_map_or p given true ≡ true → ForSome o (λ x. p (f x) ≡ true)
named_well f p o given is well x at =
    let there : given ≡ Some (f x) = sym is ∙ ap (option_map f) at in
    ap (λ (g : Option Text). option_map_or p g true) (sym there) ∙ well
