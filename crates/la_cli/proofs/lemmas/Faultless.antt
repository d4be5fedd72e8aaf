-- What a parse without a fault leaves: each option's row begins with a value that its parser accepts.
use Rattle.std.proofs.Common.{◌≡◌, ◌&&◌, ◌||◌, ◌⊎◌, ℕ, Bool, cond, true, false, zero, suc, refl, sym, ap, subst, arith, List, [], ◌∷◌, ◌++◌, length, Option, Some, None, inl, inr, true≢false, unwrap_or, is_some}
use Rattle.std.specs.Prelude.{⊤, slice_get, find, fold}
use Rattle.std.proofs.lemmas.Bool.{ne_eqb}
use Rattle.std.specs.Option.{option_map_or}
use Rattle.std.specs.Str.{bytes_eq, chars}
use Rattle.clap.specs.Facts.{parser_of_value, unwrap_or_range}
use Rattle.clap.specs.Lexer.{short_of, long_of}
use Rattle.clap.specs.Values.{is_request, read_as, Accepts}
use Rattle.clap.specs.Walk.{Held, Names, Row, Rule, Step, Text, Waiting, Walk, Outcome, action_of, arg_by_id, arg_by_index, arg_by_long, arg_by_short, after_flag, after_step, at_row, attached_value, bundle_met, bundle_step, default_rows, has_row, is_empty, is_pending, long_met, long_or_other, most_values, more_values, one_of, option_met, plain_word, positional_held, reacted, reading_by, row_text, settled, settled_rows, short_met, subcommand_met, subcommand_or_other, takes_several, takes_values, to_positional, used, used_as, used_by_id, walked, walked_from, with_default, with_values, without, word_met, nothing_held, rows_after, walk, walk_from, flag_met, option_word, short_or_plain, idle, option, positional, done, waits, plain, refused, value, next, trailing, subcommand}
use Rattle.clap.proofs.ValueTestLemmas.{accepts-Accepts}
use Rattle.clap.specs.Faults.{level_fault, bundle_fault, action_fault, bundle_step_fault, default_fault, defaults_fault, flag_word_fault, flags_fault, given_default_fault, long_fault, option_fault, other_fault, positional_fault, react_fault, repeat_fault, settle_fault, short_fault, step_fault, stray_fault, turn_fault, use_fault, values_fault, walk_fault, word_fault}
use Rattle.clap.specs.declared.error.kind.ErrorKind.TheVariants as kind
use Rattle.clap.specs.declared.parser.matches.ValueSource.{ValueSource}
use Rattle.clap.specs.declared.builder.value_parser.Reading.{Reading}
use Rattle.clap.specs.Kinds.{Kinds, or_else, range_kinds, request_kinds, value_kinds}
use Rattle.clap.specs.Simple.{Shape}
use Rattle.clap.specs.declared.builder.action.ArgAction.{ArgAction}
use Rattle.clap.specs.declared.builder.action.ArgAction.TheVariants as action
use Rattle.clap.specs.declared.error.kind.ErrorKind.{ErrorKind}

-- ---- the kinds of a step and of the next one

pub some_kinds : (k : ErrorKind) (ks : Kinds) → k ∷ ks ≡ [] → ⊥
some_kinds k ks e = let n : suc (length ks) ≡ 0 = ap length e in absurd (omega arith)

pub first_none : (a b : Kinds) → or_else a b ≡ [] → a ≡ []
first_none [] b e = refl
first_none (k ∷ ks) b e = absurd (some_kinds k ks e)

pub next_none : (a b : Kinds) → or_else a b ≡ [] → b ≡ []
next_none [] b e = e
next_none (k ∷ ks) b e = absurd (some_kinds k ks e)

some_is : {X : Type 0} (x y : X) → Some x ≡ Some y → x ≡ y
some_is x y e = ap (λ o. unwrap_or o x) e

some≢none : {X : Type 0} (x : X) → Some x ≡ None → ⊥
some≢none x e = true≢false (ap (λ o. is_some o) e)

-- ---- rules and rows

-- a row begins with a value that the rule's parser accepts, and is read as that parser says
abbrev pub IsRead : Rule → Row → Type 0
IsRead a r =
    (v : Text) × (vs : List Text) × (r.values ≡ v ∷ vs) × (value_kinds a.ignore_case (parser_of_value a.parser) v ≡ [])
    × (r.reading ≡ reading_by a)

abbrev pub Holds : Rule → Row → Type 0
Holds a r = bytes_eq r.id a.id ≡ true → IsRead a r

abbrev pub AllHold : Rule → List Row → Type 0
AllHold a [] = ⊤
AllHold a (r ∷ rs) = Holds a r × AllHold a rs

-- each use of the rule b has a value, and b is the rule a where it has its id; or no use is without a fault
abbrev pub IsOne : Rule → Rule → Type 0
IsOne a b = (is_request (action_of b) ≡ true)
    ⊎ ((action_of b ≡ action.Set) × ((unwrap_or_range b.range).start_inclusive ≡ 1)
    × (bytes_eq b.id a.id ≡ true → b ≡ a))

abbrev pub AllOne : Rule → List Rule → Type 0
AllOne a [] = ⊤
AllOne a (b ∷ bs) = IsOne a b × AllOne a bs

one_found : (a : Rule) (p : Rule → Bool) (c : List Rule) (b : Rule) → AllOne a c → find p c ≡ Some b → IsOne a b
one_found a p [] b h e = absurd (some≢none b (sym e))
one_found a p (x ∷ xs) b h e = go (p x) (one_found a p xs b h.1) e
  where
    go : (t : Bool) → (find p xs ≡ Some b → IsOne a b) → cond t (Some x) (find p xs) ≡ Some b → IsOne a b
    go true rest f = subst (IsOne a) (some_is x b f) h.0
    go false rest f = rest f

append_hold : (a : Rule) (xs ys : List Row) → AllHold a xs → AllHold a ys → AllHold a (xs ++ ys)
append_hold a [] ys h k = k
append_hold a (x ∷ xs) ys h k = (h.0, append_hold a xs ys h.1 k)

at_row_hold : (a : Rule) (id : Text) (change : Row → List Row) (missing rows : List Row)
    → ((r : Row) → Holds a r → AllHold a (change r)) → AllHold a missing → AllHold a rows
    → AllHold a (at_row id change missing rows)
at_row_hold a id change missing [] f m h = m
at_row_hold a id change missing (r ∷ rs) f m h = go (bytes_eq r.id id) (at_row_hold a id change missing rs f m h.1)
  where
    go : (t : Bool) → AllHold a (at_row id change missing rs)
        → AllHold a (cond t (change r ++ rs) (r ∷ at_row id change missing rs))
    go true rest = append_hold a (change r) rs (f r h.0) h.1
    go false rest = (h.0, rest)

without_hold : (a : Rule) (id : Text) (rows : List Row) → AllHold a rows → AllHold a (without id rows)
without_hold a id rows h = at_row_hold a id (λ _. []) [] rows (λ r k. tt) tt h

-- more values leave the first one
with_values_hold : (a b : Rule) (s : ValueSource) (v : Text) (vs : List Text) (rows : List Row)
    → (bytes_eq b.id a.id ≡ true → b ≡ a) → value_kinds b.ignore_case (parser_of_value b.parser) v ≡ [] → AllHold a rows
    → AllHold a (with_values b.id (reading_by b) s (v ∷ vs) rows)
with_values_hold a b s v vs rows same passes h =
    at_row_hold a b.id (more_values s (v ∷ vs)) _ rows
    (λ r k. ((λ e. let is = k e in (is.0, is.1 ++ v ∷ vs, ap (λ xs. xs ++ v ∷ vs) is.2, is.3, is.4)), tt)) (
      (λ e. (
        v,
        vs,
        refl,
        subst (λ (x : Rule). value_kinds x.ignore_case (parser_of_value x.parser) v ≡ []) (same e) passes,
        ap reading_by (same e),
      )),
      tt,
    ) h

-- ---- one use

request_never : (x : ArgAction) (again : Bool) (b : Rule) (values : List Text) (rows : List Row) → is_request x ≡ true
    → action_fault x again b values rows ≡ [] → ⊥
request_never action.Set again b values rows e f = true≢false (sym e)
request_never action.Append again b values rows e f = true≢false (sym e)
request_never action.SetTrue again b values rows e f = true≢false (sym e)
request_never action.SetFalse again b values rows e f = true≢false (sym e)
request_never action.Count again b values rows e f = true≢false (sym e)
request_never action.Help again b values rows e f = some_kinds _ _ f
request_never action.HelpShort again b values rows e f = some_kinds _ _ f
request_never action.HelpLong again b values rows e f = some_kinds _ _ f
request_never action.Version again b values rows e f = some_kinds _ _ f

request_kinds_never : (x : ArgAction) → is_request x ≡ true → request_kinds x ≡ [] → ⊥
request_kinds_never action.Set e f = true≢false (sym e)
request_kinds_never action.Append e f = true≢false (sym e)
request_kinds_never action.SetTrue e f = true≢false (sym e)
request_kinds_never action.SetFalse e f = true≢false (sym e)
request_kinds_never action.Count e f = true≢false (sym e)
request_kinds_never action.Help e f = some_kinds _ _ f
request_kinds_never action.HelpShort e f = some_kinds _ _ f
request_kinds_never action.HelpLong e f = some_kinds _ _ f
request_kinds_never action.Version e f = some_kinds _ _ f

used_hold : (a b : Rule) (again : Bool) (values : List Text) (rows : List Row) → IsOne a b
    → use_fault again b values rows ≡ [] → AllHold a rows → AllHold a (used b values rows)
used_hold a b again values rows (inl request) e h =
    absurd (request_never (action_of b) again b _ rows request (next_none _ _ e))
used_hold a b again [] rows (inr one) e h =
    let range : range_kinds (unwrap_or_range b.range).start_inclusive (most_values b) 0 ≡ [] = first_none _ _ e in
    let none : range_kinds 1 1 0 ≡ [] = rw one.1 at range in
    absurd (some_kinds _ _ none)
used_hold a b again (v ∷ vs) rows (inr one) e h =
    let fault : action_fault action.Set again b (v ∷ vs) rows ≡ [] =
    subst (λ (x : ArgAction). action_fault x again b (v ∷ vs) rows ≡ []) one.0 (next_none _ _ e) in
    let passes = first_none _ _ (next_none (repeat_fault again b.id rows) _ fault) in
    subst (λ (x : ArgAction). AllHold a (used_as x b.id (reading_by b) (v ∷ vs) rows)) (sym one.0)
    (with_values_hold a b _ v vs _ one.2 passes (without_hold a b.id rows h))

-- ---- the walk

module _ (a : Rule) (c : List Rule) (ones : AllOne a c) (again : Bool) where
  settled_hold : (h : Held) → settle_fault c again h ≡ [] → AllHold a h.rows → AllHold a (settled c h).rows
  settled_hold h e k = outer h.pending e
    where
      inner : (p : Text × List Text) (o : Option Rule) → arg_by_id c p.0 ≡ o
          → option_map_or (λ b. use_fault again b p.1 h.rows) o [] ≡ [] → AllHold a (used_by_id o p.1 h.rows)
      inner p None is f = k
      inner p (Some b) is f = used_hold a b again p.1 h.rows (one_found a _ c b ones is) f k

      outer : (o : Option (Text × List Text))
          → option_map_or (λ p. option_map_or (λ b. use_fault again b p.1 h.rows) (arg_by_id c p.0) []) o [] ≡ []
          → AllHold a (settled_rows c o h.rows)
      outer None f = k
      outer (Some p) f = inner p (arg_by_id c p.0) refl f

  reacted_hold : (b : Rule) (values : List Text) (h : Held) → IsOne a b → react_fault c again b values h ≡ []
      → AllHold a h.rows → AllHold a (reacted c b values h).rows
  reacted_hold b values h one e k =
      used_hold a b again values (settled c h).rows one (next_none _ _ e) (settled_hold h (first_none _ _ e) k)

  option_hold : (b : Rule) (v : Option Text) (h : Held) → IsOne a b → option_fault c again b v h ≡ [] → AllHold a h.rows
      → AllHold a (option_met c b v h).0.rows
  option_hold b (Some v) h one e k = reacted_hold b (v ∷ []) h one e k
  option_hold b None h one e k = settled_hold h e k

  flag_hold : (b : Rule) (v : Option Text) (h : Held) → IsOne a b
      → cond (is_some v) (kind.TooManyValues ∷ []) (react_fault c again b [] h) ≡ [] → AllHold a h.rows
      → AllHold a (flag_met c b v h).0.rows
  flag_hold b (Some v) h one e k = k
  flag_hold b None h one e k = reacted_hold b [] h one e k

  long_hold : (o : Option Rule) (v : Option Text) (h : Held) → ((b : Rule) → o ≡ Some b → IsOne a b)
      → long_fault c again o v h ≡ [] → AllHold a h.rows → AllHold a (long_met c o v h).0.rows
  long_hold None v h one e k = k
  long_hold (Some b) v h one e k = go (takes_values b) e
    where
      go : (t : Bool)
          → cond t (option_fault c again b v h) (cond (is_some v) (kind.TooManyValues ∷ []) (react_fault c again b [] h))
          ≡ [] → AllHold a (cond t (option_met c b v h) (flag_met c b v h)).0.rows
      go true f = option_hold b v h (one b refl) f k
      go false f = flag_hold b v h (one b refl) f k

  short_hold : (o : Option Rule) (rest : Text) (h : Held) (fault : Held → Kinds) (met : Held → Held × Outcome)
      → ((b : Rule) → o ≡ Some b → IsOne a b) → ((g : Held) → fault g ≡ [] → AllHold a g.rows → AllHold a (met g).0.rows)
      → short_fault c again o rest h fault ≡ [] → AllHold a h.rows → AllHold a (short_met c o rest h met).0.rows
  short_hold None rest h fault met one after e k = k
  short_hold (Some b) rest h fault met one after e k = go (takes_values b) e
    where
      go : (t : Bool)
          → cond t (option_fault c again b (attached_value rest) h)
          (or_else (react_fault c again b [] h) (fault (reacted c b [] h))) ≡ []
          → AllHold a (cond t (option_met c b (attached_value rest) h) (met (reacted c b [] h))).0.rows
      go true f = option_hold b (attached_value rest) h (one b refl) f k
      go false f = after (reacted c b [] h) (next_none _ _ f) (reacted_hold b [] h (one b refl) (first_none _ _ f) k)

  flags_hold : (k : ℕ) (flags : Text) (skip : ℕ) (so_far : Outcome) (h : Held) → flags_fault c again k flags skip h ≡ []
      → AllHold a h.rows → AllHold a (bundle_met c k flags skip so_far h).0.rows
  unfolding bundle_met flags_fault
  flags_hold zero flags skip so_far h e hold = hold
  flags_hold (suc k) flags skip so_far h e hold =
      go (slice_get (chars flags) 0) skip (λ f n o g. flags_hold k f n o g) e
    where
      go : (o : Option ℕ) (n : ℕ)
          → ((f : Text) (m : ℕ) (q : Outcome) (g : Held) → flags_fault c again k f m g ≡ [] → AllHold a g.rows
          → AllHold a (bundle_met c k f m q g).0.rows)
          → bundle_step_fault c again o flags n h (flags_fault c again k) ≡ []
          → AllHold a (bundle_step c o flags n so_far h (bundle_met c k)).0.rows
      go None n after f = hold
      go (Some x) zero after f =
          short_hold (arg_by_short c x) _ h _ _ (λ b is. one_found a _ c b ones is) (λ g. after _ 0 done g) f hold
      go (Some x) (suc n) after f = after _ n so_far h f hold

  plain_hold : (waiting : Waiting) (word : Text) (h : Held) → AllHold a h.rows
      → AllHold a (plain_word c waiting word h).0.rows
  plain_hold (option id) word h k = go (arg_by_id c id)
    where
      go : (o : Option Rule) → AllHold a (option_word o id word h).0.rows
      go None = k
      go (Some b) = k
  plain_hold idle word h k = k
  plain_hold positional word h k = k

  after_hold : (waiting : Waiting) (word : Text) (h : Held) (o : Outcome) → AllHold a h.rows
      → AllHold a (after_flag c waiting word h o).0.rows
  after_hold waiting word h done k = k
  after_hold waiting word h (waits id) k = k
  after_hold waiting word h plain k = plain_hold waiting word h k
  after_hold waiting word h refused k = plain_hold waiting word h k

  flag_word_hold : (o : Option (Text × Option Text)) (waiting : Waiting) (word : Text) (h : Held)
      → flag_word_fault c again o word h ≡ [] → AllHold a h.rows → AllHold a (long_or_other c waiting word o h).0.rows
  flag_word_hold (Some p) waiting word h e k =
      after_hold waiting word _ _ (long_hold (arg_by_long c p.0) p.1 h (λ b is. one_found a _ c b ones is) e k)
  flag_word_hold None waiting word h e k = go (short_of word) e
    where
      go : (o : Option Text) → option_map_or (λ flags. bundle_fault c again flags h) o [] ≡ []
          → AllHold a (short_or_plain c waiting word o h).0.rows
      go None f = plain_hold waiting word h k
      go (Some flags) f =
          after_hold waiting word _ _ (flags_hold (length flags) flags h.skip plain (record h { skip = 0 }) f k)

-- ---- the words of a level, and what stands after them

module _ (a : Rule) (s : Shape) (names : Names) (ones : AllOne a s.rules) where
  other_hold : (o : Option Text) (waiting : Waiting) (position : ℕ) (word : Text) (h : Held)
      → other_fault s o word h ≡ [] → AllHold a h.rows
      → AllHold a (subcommand_or_other s.rules o waiting position word h).0.rows
  other_hold (Some name) waiting position word h e k = k
  other_hold None waiting position word h e k = go (bytes_eq word (45 ∷ 45 ∷ [])) e
    where
      go : (t : Bool) → cond t [] (flag_word_fault s.rules s.args_override_self (long_of word) word h) ≡ []
          → AllHold a (cond t (h, trailing position) (long_or_other s.rules waiting word (long_of word) h)).0.rows
      go true f = k
      go false f = flag_word_hold a s.rules ones s.args_override_self (long_of word) waiting word h f k

  word_hold : (t : Bool) (waiting : Waiting) (position : ℕ) (word : Text) (h : Held)
      → word_fault s names t waiting word h ≡ [] → AllHold a h.rows
      → AllHold a (word_met s.rules names t waiting position word h).0.rows
  word_hold true waiting position word h e k = k
  word_hold false waiting position word h e k =
      other_hold (subcommand_met names waiting word) waiting position word h e k

  positional_hold : (b : Rule) (word : Text) (h : Held) → positional_fault s.rules s.args_override_self b h ≡ []
      → AllHold a h.rows → AllHold a (positional_held s.rules b word h).rows
  positional_hold b word h e k = go (is_pending b h.pending && takes_several b) e
    where
      go : (t : Bool) → cond t [] (settle_fault s.rules s.args_override_self h) ≡ []
          → AllHold a (cond t h (settled s.rules h)).rows
      go true f = k
      go false f = settled_hold a s.rules ones s.args_override_self h f k

  step_hold : (word : Text) (w : Walk) (h : Held) (step : Step) → step_fault s w.position h step ≡ [] → AllHold a h.rows
      → AllHold a (after_step s.rules word w h step).held.rows
  step_hold word w h (next waiting) e k = k
  step_hold word w h (trailing position) e k = k
  step_hold word w h (subcommand name) e k = k
  step_hold word w h value e k = go (arg_by_index s.rules w.position) e
    where
      go : (o : Option Rule)
          → option_map_or (λ b. positional_fault s.rules s.args_override_self b h) o (stray_fault s) ≡ []
          → AllHold a (to_positional s.rules o word w h).held.rows
      go None f = k
      go (Some b) f = positional_hold b word h f k

  turn_hold : (w : Walk) (word : Text) → turn_fault s names w word ≡ [] → AllHold a w.held.rows
      → AllHold a (walked s.rules names w word).held.rows
  unfolding walked
  turn_hold w word e k = go w.stopped e
    where
      go : (o : Option (Text × List Text))
          → cond (is_some o) [] (or_else (word_fault s names w.is_trailing w.waiting word w.held)
          (step_fault s w.position (word_met s.rules names w.is_trailing w.waiting w.position word w.held).0 (word_met s.rules names w.is_trailing w.waiting w.position word w.held).1)) ≡ []
          → AllHold a (walked_from s.rules names o w word).held.rows
      go (Some p) f = k
      go None f =
          step_hold word w _ _ (next_none _ _ f)
          (word_hold w.is_trailing w.waiting w.position word w.held (first_none _ _ f) k)

  walk_hold : (words : List Text) (w : Walk) → walk_fault s names w words ≡ [] → AllHold a w.held.rows
      → AllHold a (fold (walked s.rules names) w words).held.rows
  unfolding walk_fault
  walk_hold [] w e k = k
  walk_hold (word ∷ rest) w e k =
      walk_hold rest (walked s.rules names w word) (next_none _ _ e) (turn_hold w word (first_none _ _ e) k)

not_empty : (v : Text) (vs : List Text) → is_empty (v ∷ vs) ≡ false
not_empty v vs = ne_eqb _ _ (λ e. omega arith)

default_hold : (a b : Rule) (rows : List Row) → IsOne a b → default_fault rows b ≡ [] → AllHold a rows
    → AllHold a (with_default rows b)
default_hold a b rows one e k = go (has_row b.id rows) b.defaults one e
  where
    given : (v : Text) (vs : List Text) → IsOne a b → given_default_fault b (v ∷ vs) ≡ []
        → AllHold a (default_rows b.id (reading_by b) (v ∷ vs) rows)
    given v vs (inl request) f =
        absurd
        (request_kinds_never (action_of b) request
        (first_none (request_kinds (action_of b)) (values_fault b (v ∷ vs)) f))
    given v vs (inr one) f =
        with_values_hold a b _ v vs rows one.2
        (first_none _ _ (next_none (request_kinds (action_of b)) (values_fault b (v ∷ vs)) f)) k

    go : (t : Bool) (ds : List Text) → IsOne a b → cond (t || is_empty ds) [] (given_default_fault b ds) ≡ []
        → AllHold a (cond t rows (default_rows b.id (reading_by b) ds rows))
    go true ds one f = k
    go false [] one f = k
    go false (v ∷ vs) one f =
        given v vs one (subst (λ (t : Bool). cond t [] (given_default_fault b (v ∷ vs)) ≡ []) (not_empty v vs) f)

defaults_hold : (a : Rule) (c : List Rule) (rows : List Row) → AllOne a c → defaults_fault rows c ≡ [] → AllHold a rows
    → AllHold a (fold with_default rows c)
unfolding defaults_fault
defaults_hold a [] rows ones e k = k
defaults_hold a (b ∷ bs) rows ones e k =
    defaults_hold a bs (with_default rows b) ones.1 (next_none _ _ e) (default_hold a b rows ones.0 (first_none _ _ e) k)

-- ---- a default's row is there

or_right : (b c : Bool) → c ≡ true → (b || c) ≡ true
or_right true c e = refl
or_right false c e = e

values_keep : (id other : Text) (how : Reading) (s : ValueSource) (values : List Text) (rows : List Row)
    → has_row id rows ≡ true → has_row id (with_values other how s values rows) ≡ true
values_keep id other how s values [] e = absurd (true≢false (sym e))
values_keep id other how s values (r ∷ rs) e =
    go (bytes_eq r.id other) (bytes_eq r.id id) refl (values_keep id other how s values rs) e
  where
    go : (t u : Bool) → bytes_eq r.id id ≡ u
        → (has_row id rs ≡ true → has_row id (with_values other how s values rs) ≡ true) → (u || has_row id rs) ≡ true
        → has_row id (cond t (more_values s values r ++ rs) (r ∷ with_values other how s values rs)) ≡ true
    go true u is rest f = rw is f
    go false true is rest f = rw is refl
    go false false is rest f = rw is (rest f)

default_keeps : (id : Text) (b : Rule) (rows : List Row) → has_row id rows ≡ true
    → has_row id (with_default rows b) ≡ true
default_keeps id b rows e = go (has_row b.id rows) b.defaults
  where
    go : (t : Bool) (ds : List Text) → has_row id (cond t rows (default_rows b.id (reading_by b) ds rows)) ≡ true
    go true ds = e
    go false [] = e
    go false (v ∷ vs) = values_keep id b.id (reading_by b) _ (v ∷ vs) rows e

values_there : (id : Text) (how : Reading) (s : ValueSource) (values : List Text) (rows : List Row)
    → bytes_eq id id ≡ true → has_row id (with_values id how s values rows) ≡ true
values_there id how s values [] same = rw same refl
values_there id how s values (r ∷ rs) same = go (bytes_eq r.id id) refl (values_there id how s values rs same)
  where
    go : (t : Bool) → bytes_eq r.id id ≡ t → has_row id (with_values id how s values rs) ≡ true
        → has_row id (cond t (more_values s values r ++ rs) (r ∷ with_values id how s values rs)) ≡ true
    go true is rest = rw is refl
    go false is rest = rw is rest

default_there : (b : Rule) (v : Text) (vs : List Text) (rows : List Row) → bytes_eq b.id b.id ≡ true
    → b.defaults ≡ v ∷ vs → has_row b.id (with_default rows b) ≡ true
default_there b v vs rows same is = go (has_row b.id rows) refl
  where
    go : (t : Bool) → has_row b.id rows ≡ t
        → has_row b.id (cond t rows (default_rows b.id (reading_by b) b.defaults rows)) ≡ true
    go true there = there
    go false there = rw is (values_there b.id (reading_by b) _ (v ∷ vs) rows same)

pub defaults_there : (b : Rule) (v : Text) (vs : List Text) (before after : List Rule) (rows : List Row)
    → bytes_eq b.id b.id ≡ true → b.defaults ≡ v ∷ vs → has_row b.id (fold with_default rows (before ++ b ∷ after)) ≡ true
defaults_there b v vs [] after rows same is = kept after (with_default rows b) (default_there b v vs rows same is)
  where
    kept : (c : List Rule) (now : List Row) → has_row b.id now ≡ true → has_row b.id (fold with_default now c) ≡ true
    kept [] now e = e
    kept (x ∷ xs) now e = kept xs (with_default now x) (default_keeps b.id x now e)
defaults_there b v vs (x ∷ xs) after rows same is = defaults_there b v vs xs after (with_default rows x) same is

-- ---- what is read

pub read_row : (a : Rule) (rows : List Row) → AllHold a rows → has_row a.id rows ≡ true
    → (v : Text) × (one_of a.id rows ≡ Some (read_as (reading_by a) v))
    × (value_kinds a.ignore_case (parser_of_value a.parser) v ≡ [])
read_row a [] h e = absurd (true≢false (sym e))
read_row a (r ∷ rs) h e = go (bytes_eq r.id a.id) refl (read_row a rs h.1) e
  where
    go : (t : Bool) → bytes_eq r.id a.id ≡ t
        → (has_row a.id rs ≡ true
        → (v : Text) × (one_of a.id rs ≡ Some (read_as (reading_by a) v))
        × (value_kinds a.ignore_case (parser_of_value a.parser) v ≡ [])) → (t || has_row a.id rs) ≡ true
        → (v : Text) × (one_of a.id (r ∷ rs) ≡ Some (read_as (reading_by a) v))
        × (value_kinds a.ignore_case (parser_of_value a.parser) v ≡ [])
    go true is rest f =
        let read = h.0 is in
        let text : row_text r ≡ Some (read_as (reading_by a) read.0) = rw (read.2, read.4) refl in
        (read.0, rw is text, read.3)
    go false is rest f =
        let found = rest f in
        (found.0, rw is found.1, found.2)

accepted : (b : Bool) (k : ErrorKind) → cond b [] (k ∷ []) ≡ [] → b ≡ true
accepted true k e = refl
accepted false k e = absurd (some_kinds k [] e)

-- at a level of the parse without a fault an option with a default has a text that its parser accepts
pub level_reads : (a : Rule) (s : Shape) (names : Names) (words : List Text) (has_subcommand : Bool) (below : Kinds)
    → AllOne a s.rules → has_row a.id (rows_after s.rules names words) ≡ true
    → level_fault s names nothing_held words has_subcommand below ≡ []
    → (v : Text) × (one_of a.id (rows_after s.rules names words) ≡ Some (read_as (reading_by a) v))
    × Accepts a.ignore_case (parser_of_value a.parser) v
level_reads a s names words has_subcommand below ones there e =
    let end = (walk s.rules names nothing_held words).held in
    let after_walk = next_none (walk_fault s names (walk_from nothing_held) words) _ e in
    let at_end = next_none below _ after_walk in
    let after_end = next_none (settle_fault s.rules s.args_override_self end) _ at_end in
    let held = walk_hold a s names ones words (walk_from nothing_held) (first_none _ _ e) tt in
    let rows = settled_hold a s.rules ones s.args_override_self end (first_none _ _ at_end) held in
    let all = defaults_hold a s.rules (settled s.rules end).rows ones (first_none _ _ after_end) rows in
    let read = read_row a (rows_after s.rules names words) all there in
    (read.0, read.1, accepts-Accepts a.ignore_case (parser_of_value a.parser) read.0 (accepted _ _ read.2))
