-- The subcommand that words without a fault enter: one is entered where one is required, and it is not `help`.
use Rattle.std.proofs.Common.{◌≡◌, ℕ, Bool, cond, true, false, true≢false, refl, sym, subst, List, [], ◌∷◌, Option, Some, None, is_some, ◌||◌, ◌&&◌, not, codes}
use Rattle.std.proofs.lemmas.Slice.Eq.{bytes_eq-Decides}
use Rattle.std.specs.Prelude.{⊤, fold}
use Rattle.std.specs.Str.{bytes_eq}
use Rattle.clap.specs.Faults.{check_fault, defaults_fault, entered_fault, fault_of, level_fault, other_fault, settle_fault, step_fault, turn_fault, walk_fault, word_fault}
use Rattle.clap.specs.Kinds.{Kinds, check_kinds, or_else}
use Rattle.clap.specs.Lexer.{long_of, short_of}
use Rattle.clap.specs.Simple.{App, Shape, argument_words, built, entered, names_of}
use Rattle.clap.specs.Walk.{Held, Names, Outcome, Row, Rule, Step, Text, Waiting, Walk, after_flag, after_step, arg_by_index, finished, long_or_other, nothing_held, plain_word, settled, short_or_plain, stop_after, subcommand_met, subcommand_or_other, to_positional, walk, walk_from, walked, walked_from, word_met, idle, option, positional, done, waits, plain, refused, value, next, trailing, subcommand}
use Rattle.clap.specs.declared.error.kind.ErrorKind.TheVariants as kind
use Rattle.la_cli.proofs.lemmas.Faultless.{first_none, next_none, some_kinds}

abbrev help : Text
help = codes "help"

-- no word was met that names the subcommand `help`
abbrev pub IsNoHelp : Option (Text × List Text) → Type 0
IsNoHelp None = ⊤
IsNoHelp (Some p) = bytes_eq p.0 help ≡ false

-- nor is this step one
abbrev IsOther : Step → Type 0
IsOther (subcommand name) = bytes_eq name help ≡ false
IsOther _ = ⊤

-- ---- a word

plain_other : (c : List Rule) (waiting : Waiting) (word : Text) (h : Held) → IsOther (plain_word c waiting word h).1
plain_other c (option id) word h = tt
plain_other c idle word h = tt
plain_other c positional word h = tt

after_other : (c : List Rule) (waiting : Waiting) (word : Text) (h : Held) (o : Outcome)
    → IsOther (after_flag c waiting word h o).1
after_other c waiting word h done = tt
after_other c waiting word h (waits id) = tt
after_other c waiting word h plain = plain_other c waiting word h
after_other c waiting word h refused = plain_other c waiting word h

flag_other : (c : List Rule) (waiting : Waiting) (word : Text) (o : Option (Text × Option Text)) (h : Held)
    → IsOther (long_or_other c waiting word o h).1
flag_other c waiting word (Some p) h = after_other c waiting word _ _
flag_other c waiting word None h = go (short_of word)
  where
    go : (o : Option Text) → IsOther (short_or_plain c waiting word o h).1
    go None = plain_other c waiting word h
    go (Some flags) = after_other c waiting word _ _

-- ---- the walk

module _ (s : Shape) (names : Names) (enabled : s.disable_help_subcommand ≡ false) where
  other_name : (name word : Text) (h : Held) → other_fault s (Some name) word h ≡ [] → bytes_eq name help ≡ false
  other_name name word h e =
      go (bytes_eq name help) (subst (λ (d : Bool). cond (bytes_eq name help && not d) found [] ≡ []) enabled e)
    where
      found : Kinds
      found = kind.DisplayHelp ∷ kind.InvalidSubcommand ∷ []

      go : (t : Bool) → cond (t && true) found [] ≡ [] → t ≡ false
      go true f = absurd (some_kinds _ _ f)
      go false f = refl

  other_step : (o : Option Text) (waiting : Waiting) (position : ℕ) (word : Text) (h : Held)
      → other_fault s o word h ≡ [] → IsOther (subcommand_or_other s.rules o waiting position word h).1
  other_step (Some name) waiting position word h e = other_name name word h e
  other_step None waiting position word h e = go (bytes_eq word (45 ∷ 45 ∷ []))
    where
      go : (t : Bool) → IsOther (cond t (h, trailing position) (long_or_other s.rules waiting word (long_of word) h)).1
      go true = tt
      go false = flag_other s.rules waiting word (long_of word) h

  word_other : (t : Bool) (waiting : Waiting) (position : ℕ) (word : Text) (h : Held)
      → word_fault s names t waiting word h ≡ [] → IsOther (word_met s.rules names t waiting position word h).1
  word_other true waiting position word h e = tt
  word_other false waiting position word h e = other_step (subcommand_met names waiting word) waiting position word h e

  step_other : (word : Text) (w : Walk) (h : Held) (step : Step) → IsOther step → IsNoHelp w.stopped
      → IsNoHelp (after_step s.rules word w h step).stopped
  step_other word w h (next waiting) other before = before
  step_other word w h (trailing position) other before = before
  step_other word w h (subcommand name) other before = other
  step_other word w h value other before = go (arg_by_index s.rules w.position)
    where
      go : (o : Option Rule) → IsNoHelp (to_positional s.rules o word w h).stopped
      go None = before
      go (Some a) = tt

  turn_other : (w : Walk) (word : Text) → turn_fault s names w word ≡ [] → IsNoHelp w.stopped
      → IsNoHelp (walked s.rules names w word).stopped
  unfolding walked
  turn_other w word e before = go w.stopped e before
    where
      go : (o : Option (Text × List Text))
          → cond (is_some o) [] (or_else (word_fault s names w.is_trailing w.waiting word w.held)
          (step_fault s w.position (word_met s.rules names w.is_trailing w.waiting w.position word w.held).0 (word_met s.rules names w.is_trailing w.waiting w.position word w.held).1)) ≡ []
          → IsNoHelp o → IsNoHelp (walked_from s.rules names o w word).stopped
      go (Some p) f same = same
      go None f same =
          step_other word w _ _ (word_other w.is_trailing w.waiting w.position word w.held (first_none _ _ f)) before

  walk_other : (words : List Text) (w : Walk) → walk_fault s names w words ≡ [] → IsNoHelp w.stopped
      → IsNoHelp (fold (walked s.rules names) w words).stopped
  unfolding walk_fault
  walk_other [] w e before = before
  walk_other (word ∷ rest) w e before =
      walk_other rest (walked s.rules names w word) (next_none _ _ e) (turn_other w word (first_none _ _ e) before)

-- ---- the subcommand

wanted : (t u v : Bool) → u ≡ true → check_kinds t u v ≡ [] → ⊥
wanted true u v e f = some_kinds _ _ f
wanted false true v e f = some_kinds _ _ f
wanted false false v e f = true≢false (sym e)

-- words that enter nothing have a fault where a subcommand is required
none_entered : (s : Shape) (rows : List Row) → s.subcommand_required ≡ true → check_fault s rows false ≡ [] → ⊥
none_entered s rows required e = wanted _ s.subcommand_required _ required e

-- a level of which a subcommand is required, and which has none, always has a fault
pub level_never : (s : Shape) (words : List Text) → s.subcommand_required ≡ true
    → level_fault s [] nothing_held words false [] ≡ [] → ⊥
level_never s words required e =
    let end = (walk s.rules [] nothing_held words).held in
    let after = next_none (walk_fault s [] (walk_from nothing_held) words) _ e in
    let defaults = next_none (settle_fault s.rules s.args_override_self end) _ after in
    none_entered s (finished s.rules end) required
    (next_none (defaults_fault (settled s.rules end).rows s.rules) _ defaults)

-- the words enter a subcommand, which is not `help` and finds no fault in what follows its name
pub record EntersWell (a : App) (words : List Text) : Type 0 where
  pub below : entered_fault (built a) (stop_after (built a).top.rules (names_of (built a)) (argument_words a words))
      ≡ []
  pub there : is_some (entered (built a) (stop_after (built a).top.rules (names_of (built a)) (argument_words a words)))
      ≡ true
  pub no_help : IsNoHelp (stop_after (built a).top.rules (names_of (built a)) (argument_words a words))

pub enters_well : (a : App) (words : List Text) → (built a).top.subcommand_required ≡ true
    → (built a).top.disable_help_subcommand ≡ false → fault_of a words ≡ [] → EntersWell a words
enters_well a words required enabled e =
    let s = (built a).top in
    let names = names_of (built a) in
    let rest = argument_words a words in
    let end = (walk s.rules names nothing_held rest).held in
    let stop = stop_after s.rules names rest in
    let below = next_none (walk_fault s names (walk_from nothing_held) rest) _ e in
    let after = next_none (entered_fault (built a) stop) _ below in
    let defaults = next_none (settle_fault s.rules s.args_override_self end) _ after in
    let check = next_none (defaults_fault (settled s.rules end).rows s.rules) _ defaults in
    record {
      below = first_none _ _ below;
      there = has (finished s.rules end) (is_some (entered (built a) stop)) check;
      no_help = walk_other s names enabled rest (walk_from nothing_held) (first_none _ _ e) tt;
    }
  where
    has : (rows : List Row) (t : Bool) → check_fault (built a).top rows t ≡ [] → t ≡ true
    has rows true f = refl
    has rows false f = absurd (none_entered (built a).top rows required f)

or_false : (t : Bool) → (t || false) ≡ true → t ≡ true
or_false true e = refl
or_false false e = e

-- so the name of `help` does not answer to it
pub help_never : (name : Text) → bytes_eq name help ≡ false → (bytes_eq help name || false) ≡ true → ⊥
help_never name other e =
    let same = (bytes_eq-Decides help name).0 (or_false _ e) in
    true≢false (subst (λ (t : Text). bytes_eq t help ≡ false) (sym same) other)
