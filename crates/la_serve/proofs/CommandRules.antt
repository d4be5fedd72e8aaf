-- What holds of each command line that is read, whichever its subcommand is: what its options leave, and that the
-- subcommand was entered.
use Rattle.std.proofs.Common.{◌≡◌, ◌∙◌, ℕ, zero, suc, List, Option, Some, None, sym, subst, ap, ap₂, true, false}
use Rattle.std.proofs.Common.{refl, codes, [], ◌∷◌, ◌++◌, Bool, not, ◌&&◌, ◌||◌, cond, inl, inr, is_some, option_map}
use Rattle.std.proofs.Common.{true≢false}
use Rattle.std.specs.Prelude.{slice_get, find, option_and_then}
use Rattle.std.specs.Borrow.{Bor}
use Rattle.std.specs.List.{list_any, list_all}
use Rattle.std.specs.Option.{IsSome, option_map_or}
use Rattle.std.specs.Str.{bytes_eq}
use Rattle.clap.specs.Facts.{unwrap_or_range}
use Rattle.clap.specs.Values.{is_request, read_as}
use Rattle.clap.specs.Words.{AddsArg, Text, Row, Rule, fault_of, first_of, is_simple, is_simple_and_free, one_of}
use Rattle.clap.specs.Words.{subcommand_of}
use Rattle.clap.specs.Takes.{is_given}
use Rattle.clap.specs.Walk.{action_of, answers_to, has_row, nothing_held, row_text, rows_after, settled}
use Rattle.clap.specs.Walk.{stop_after, walk, walk_from}
use Rattle.clap.specs.Simple.{App, Shape, argument_words, built, entered, label_of, names_of, rows_at}
use Rattle.clap.specs.Kinds.{check_kinds}
use Rattle.clap.specs.Faults.{defaults_fault, entered_fault, level_fault, settle_fault, walk_fault}
use Rattle.clap.specs.declared.builder.action.ArgAction.{ArgAction}
use Rattle.clap.specs.declared.builder.action.ArgAction.TheVariants as action
use Rattle.clap.specs.declared.builder.arg.Arg.{Arg}
use Rattle.clap.specs.declared.builder.command.Command.{Command}
use Rattle.clap.specs.declared.builder.command.Command.TheViews.{out-Command}
use Rattle.std.proofs.lemmas.Bool.{and_parts}
use Rattle.la_cli.proofs.lemmas.Entered.{IsNoHelp, enters_well, help_never}
use Rattle.la_cli.proofs.lemmas.GivenNumbers.{some_is, some≢none}
use Rattle.la_cli.proofs.lemmas.Faultless.{AllOne, IsOne, next_none, some_kinds}

-- ## How a command is built

-- the command with a version
abbrev pub versioned : App → App
versioned a = record a { top = record a.top { has_version = true } }

-- the same, of which a subcommand is wanted
abbrev pub requires_one : App → App
requires_one a = record a {
  top = record a.top {
    has_version = true;
    subcommand_required = true;
  };
}

-- a command that takes one more argument, which is not global, has no global ones if it had none
pub stays_local : (old : Command) (a : Arg) (new : Command) → AddsArg old a new → a.global ≡ false
    → (out-Command old).has_globals ≡ false → (out-Command new).has_globals ≡ false
stays_local old a new h local none = h.globals ∙ ap₂ (λ (x y : Bool). x || y) none local

-- ## A rule among others

no : {X : Type 0} → false ≡ true → X
no e = absurd (true≢false (sym e))

abbrev pub sets : ArgAction → Bool
sets action.Set = true
sets _ = false

sets_is : (x : ArgAction) → sets x ≡ true → x ≡ action.Set
sets_is action.Set e = refl
sets_is action.Append e = no e
sets_is action.SetTrue e = no e
sets_is action.SetFalse e = no e
sets_is action.Count e = no e
sets_is action.Help e = no e
sets_is action.HelpShort e = no e
sets_is action.HelpLong e = no e
sets_is action.Version e = no e

abbrev pub is_one : ℕ → Bool
is_one zero = false
is_one (suc zero) = true
is_one (suc (suc n)) = false

one_is : (n : ℕ) → is_one n ≡ true → n ≡ 1
one_is zero e = no e
one_is (suc zero) e = refl
one_is (suc (suc n)) e = no e

-- each use of the rule sets a value
abbrev pub sets_one : Rule → Bool
sets_one a = sets (action_of a) && is_one (unwrap_or_range a.range).start_inclusive

-- no use of this rule is without a fault, or each sets a value, and it is not the one with this id
abbrev pub is_apart : (id : Text) → Rule → Bool
is_apart id a = is_request (action_of a) || (sets_one a && not (bytes_eq a.id id))

apart_is_one : (a b : Rule) → is_apart a.id b ≡ true → IsOne a b
apart_is_one a b e = go (is_request (action_of b)) refl e
  where
    go : (t : Bool) → is_request (action_of b) ≡ t → (t || (sets_one b && not (bytes_eq b.id a.id))) ≡ true → IsOne a b
    go true is f = inl is
    go false is f =
        let sets = (and_parts _ _ f).0 in
        inr (
          sets_is _ (and_parts _ _ sets).0,
          one_is _ (and_parts _ _ sets).1,
          λ same. no (sym (ap not same) ∙ (and_parts (sets_one b) _ f).1),
        )

-- a rule that sets a value stands once among its own and others apart from it
pub alone_among : (a : Rule) (before after : List Rule) → sets_one a ≡ true
    → list_all (is_apart a.id) before ≡ true → list_all (is_apart a.id) after ≡ true → AllOne a (before ++ a ∷ after)
alone_among a [] after one first rest = (
  inr (sets_is _ (and_parts _ _ one).0, one_is _ (and_parts _ _ one).1, λ e. refl),
  others after rest,
)
  where
    others : (rules : List Rule) → list_all (is_apart a.id) rules ≡ true → AllOne a rules
    others [] e = tt
    others (b ∷ bs) e = (apart_is_one a b (and_parts _ _ e).0, others bs (and_parts _ _ e).1)
alone_among a (b ∷ before) after one first rest =
    (apart_is_one a b (and_parts _ _ first).0, alone_among a before after one (and_parts _ _ first).1 rest)

-- ## What is required is there

none_wanted : (x y z : Bool) → check_kinds x y z ≡ [] → z ≡ false
none_wanted true y z e = absurd (some_kinds _ _ e)
none_wanted false true z e = absurd (some_kinds _ _ e)
none_wanted false false true e = absurd (some_kinds _ _ e)
none_wanted false false false e = refl

-- what is required was given, where a level that has no subcommand found no fault
pub none_missing : (s : Shape) (words : List Text) → level_fault s [] nothing_held words false [] ≡ []
    → (not (s.subcommand_negates_reqs && false)
    && list_any (λ a. a.required && not (is_given a.id (rows_after s.rules [] words))) s.rules) ≡ false
none_missing s words faultless =
    let end = (walk s.rules [] nothing_held words).held in
    let after = next_none (walk_fault s [] (walk_from nothing_held) words) _ faultless in
    let defaults = next_none (settle_fault s.rules s.args_override_self end) _ after in
    none_wanted _ _ _ (next_none (defaults_fault (settled s.rules end).rows s.rules) _ defaults)

pub or_first : (a b : Bool) → (a || b) ≡ false → a ≡ false
or_first true b e = e
or_first false b e = refl

pub or_second : (a b : Bool) → (a || b) ≡ false → b ≡ false
or_second true b e = absurd (true≢false e)
or_second false b e = e

not_false : (a : Bool) → not a ≡ false → a ≡ true
not_false true e = refl
not_false false e = absurd (true≢false e)

given_there : (id : Text) (rows : List Row) → is_given id rows ≡ true → has_row id rows ≡ true
given_there id [] e = e
given_there id (r ∷ rs) e = go (bytes_eq r.id id) (given_there id rs) e
  where
    go : (t : Bool) → (is_given id rs ≡ true → has_row id rs ≡ true)
        → option_map_or (λ x. Rattle.clap.specs.Facts.explicit_source x.source)
        (cond t (Some r) (find (λ x. bytes_eq x.id id) rs)) false ≡ true → (t || has_row id rs) ≡ true
    go true rest f = refl
    go false rest f = rest f

-- what is not missing has a row
pub not_missing : (id : Text) (rows : List Row) → not (is_given id rows) ≡ false → has_row id rows ≡ true
not_missing id rows e = given_there id rows (not_false _ e)

-- ## The subcommand

-- this subcommand, with rows of which this holds
abbrev pub NamesOne : (name : Text) → (Are : List Row → Type 0) → Option (Text × List Row) → Type 0
NamesOne name Are o = (rows : List Row) × (o ≡ Some (name, rows)) × Are rows

-- of two that may answer, of which the second never does, the first was entered
first_entered : (Are : List Row → Type 0) (first second : Shape) (words : List Text) (t u : Bool)
    → (level_fault first [] nothing_held words false [] ≡ [] → Are (rows_after first.rules [] words))
    → (u ≡ true → ⊥)
    → option_map_or (λ s. level_fault s [] nothing_held words false [])
    (cond t (Some first) (cond u (Some second) None)) [] ≡ []
    → is_some (option_map (λ s. rows_at s words) (cond t (Some first) (cond u (Some second) None))) ≡ true
    → NamesOne first.name Are (option_map (λ s. rows_at s words) (cond t (Some first) (cond u (Some second) None)))
first_entered Are first second words true u taken never fault there = (_, refl, taken fault)
first_entered Are first second words false true taken never fault there = absurd (never refl)
first_entered Are first second words false false taken never fault there = no there

-- the program with this one subcommand beside `help`, of whose rows this holds where nothing is wrong
module _ (a : App) (first second : Shape) (subs : (built a).subs ≡ first ∷ second ∷ [])
    (is_help : label_of second ≡ (codes "help", [])) (Are : List Row → Type 0)
    (taken : (words : List Text) → level_fault first [] nothing_held words false [] ≡ []
    → Are (rows_after first.rules [] words)) where
  named_at : (stop : Option (Text × List Text)) → entered_fault (built a) stop ≡ []
      → is_some (entered (built a) stop) ≡ true → IsNoHelp stop → NamesOne first.name Are (entered (built a) stop)
  named_at None e there other = no there
  named_at (Some p) e there other =
      let found = λ (ss : List Shape). find (λ s. answers_to p.0 (label_of s)) ss in
      let never : answers_to p.0 (label_of second) ≡ true → ⊥ =
      subst (λ (l : Text × List Text). answers_to p.0 l ≡ true → ⊥) (sym is_help) (help_never p.0 other) in
      subst (λ (ss : List Shape). NamesOne first.name Are (option_map (λ s. rows_at s p.1) (found ss))) (sym subs)
      (first_entered Are first second p.1 (answers_to p.0 (label_of first)) (answers_to p.0 (label_of second))
      (taken p.1) never
      (subst (λ (ss : List Shape). option_map_or (λ s. level_fault s [] nothing_held p.1 false []) (found ss) [] ≡ [])
      subs e)
      (subst (λ (ss : List Shape). is_some (option_map (λ s. rows_at s p.1) (found ss)) ≡ true) subs there))

  -- words in which nothing is wrong name it
  pub names_one : (built a).top.subcommand_required ≡ true → (built a).top.disable_help_subcommand ≡ false
      → (words : List Text) → fault_of a words ≡ [] → NamesOne first.name Are (subcommand_of a words)
  names_one required enabled words e =
      let enters = enters_well a words required enabled e in
      named_at (stop_after (built a).top.rules (names_of (built a)) (argument_words a words)) enters.below enters.there
      enters.no_help

-- ## What the matches say

-- what was entered has these rows
rows_of_one : (name : Text) (Are : List Row → Type 0) (o : Option (Text × List Row)) (rows : List Row)
    → option_map (λ p. p.1) o ≡ Some rows → NamesOne name Are o → (o ≡ Some (name, rows)) × Are rows
rows_of_one name Are o rows is named =
    let same : named.0 ≡ rows = some_is _ _ (ap (option_map (λ p. p.1)) (sym named.1) ∙ is) in
    (named.1 ∙ ap (λ (r : List Row). Some (name, r)) same, subst Are same named.2)

-- nothing is wrong with the words, and they name this subcommand, with these rows, of which this holds
pub record IsRead (a : App) (name : Text) (Are : List Row → Type 0) (words : List Text) (rows : List Row) : Type 0 where
  pub faultless : fault_of a words ≡ []
  pub named : subcommand_of a words ≡ Some (name, rows)
  pub are : Are rows

-- a program was made as this one, which names this subcommand where nothing is wrong
module _ (a : App) (name : Text) (Are : List Row → Type 0) (simple : is_simple a ≡ true)
    (free : is_simple_and_free a ≡ true)
    (names : (words : List Text) → fault_of a words ≡ [] → NamesOne name Are (subcommand_of a words))
    (made : App) (words : List Text) (is : made ≡ a) where
  faultless_as : (is_simple_and_free made ≡ true → fault_of made words ≡ []) → fault_of a words ≡ []
  faultless_as kinds = sym (ap (λ (x : App). fault_of x words) is) ∙ kinds (ap is_simple_and_free is ∙ free)

  module _ {X : Type 0} (o : Option (Text × List Row))
      (matches : is_simple made ≡ true → X × (o ≡ subcommand_of made words))
      (kinds : is_simple_and_free made ≡ true → fault_of made words ≡ []) where
    entered_as : o ≡ subcommand_of a words
    entered_as = (matches (ap is_simple is ∙ simple)).1 ∙ ap (λ (x : App). subcommand_of x words) is

    -- the rows of its matches are read
    pub is_read : (rows : List Row) → option_map (λ p. p.1) o ≡ Some rows → IsRead a name Are words rows
    is_read rows given =
        let faultless = faultless_as kinds in
        let read = rows_of_one name Are (subcommand_of a words) rows
        (ap (option_map (λ p. p.1)) (sym entered_as) ∙ given) (names words faultless) in
        record { faultless = faultless; named = read.0; are = read.1 }

    -- and some matches are there
    pub is_entered : None ≡ option_map (λ p. p.1) o → ⊥
    is_entered none =
        let named = names words (faultless_as kinds) in
        some≢none named.0
        (sym (none ∙ ap (option_map (λ p. p.1)) entered_as ∙ ap (option_map (λ p. p.1)) named.1))

-- ## Texts that were given

-- where a text is read there is a first value
pub first_there : (id : Text) (rows : List Row) (t : Text) → one_of id rows ≡ Some t
    → (u : Text) × (first_of id rows ≡ Some u)
first_there id rows t e = outer (find (λ r. bytes_eq r.id id) rows) e
  where
    inner : (r : Row) (o : Option Text) → option_map (read_as r.reading) o ≡ Some t → (u : Text) × (o ≡ Some u)
    inner r None f = absurd (some≢none _ (sym f))
    inner r (Some u) f = (u, refl)

    outer : (o : Option Row) → option_and_then row_text o ≡ Some t
        → (u : Text) × (option_and_then (λ r. slice_get r.values 0) o ≡ Some u)
    outer None f = absurd (some≢none _ (sym f))
    outer (Some r) f = inner r (slice_get r.values 0) f

pub some_text : (o : Option (Bor Text)) (u : Text) → option_map (λ s. s.now) o ≡ Some u → IsSome o
some_text None u e = absurd (some≢none _ (sym e))
some_text (Some s) u e = refl
