-- Lines that say what a node is called for, and may stand in a journal.
use Rattle.std.specs.Prelude.{◌≡◌, ◌≢◌, ℕ, ◌==◌, Bool, true, false, not, ◌&&◌, List, [], ◌∷◌, Option, Some, None}
use Rattle.std.specs.Prelude.{if◌then◌else◌, refl}
use Rattle.std.proofs.Common.{ap, sym, ◌∙◌}
use Rattle.std.specs.List.{list_all}
use Rattle.std.specs.Option.{is_some}
use Rattle.std.proofs.Math.Bool.{Bool-set}
use Rattle.std.proofs.lemmas.Bool.{false≢true, and_parts, not-true, eqb-false}
use Rattle.la_journal.specs.Lines.{IsClean}
use Rattle.la_journal.specs.Commits.{is_record}
use Rattle.la_journal.specs.Journal.{IsCallLine, state_in}
use Rattle.la_wire.specs.CallLines.{call_of, named_call, tick_word, is_clean_byte, is_no_mark, may_stand}

abbrev pub is_line : List ℕ → Bool
is_line line = may_stand line && is_some (named_call line)

-- a line that says a call
pub record CallLine : Type 0 where
  pub line : List ℕ
  pub says : is_line line ≡ true

abbrev pub call_line_where : (line : List ℕ) → (says : Bool) → is_line line ≡ says → Option CallLine
call_line_where line true is = Some (record { line = line; says = is })
call_line_where line false is = None

-- the call that a line says, if it says one
abbrev pub call_line : List ℕ → Option CallLine
call_line line = call_line_where line (is_line line) refl

pub tick_says : is_line tick_word ≡ true
unfolding call_of
tick_says = refl

-- `tick`, which no journal has
abbrev pub tick : CallLine
tick = record { line = tick_word; says = tick_says }

abbrev pub or_tick : Option CallLine → CallLine
or_tick None = tick
or_tick (Some c) = c

-- ## What a journal asks of such lines

pub round_trip_where : (line : List ℕ) (b : Bool) (is : is_line line ≡ b) (says : is_line line ≡ true) →
    call_line_where line b is ≡ Some (record { line = line; says = says })
round_trip_where line true is says = ap (λ e. Some (record { line = line; says = e })) (Bool-set (is_line line) true
    is says)
round_trip_where line false is says = absurd (false≢true (sym is ∙ says))

-- it is read back
pub call_round_trip : (c : CallLine) → call_line c.line ≡ Some c
call_round_trip c = round_trip_where c.line (is_line c.line) refl c.says

differs : (a b : ℕ) → not (a == b) ≡ true → a ≢ b
differs a b e = eqb-false a b (not-true (a == b) e)

pub clean_bytes : (line : List ℕ) → list_all is_clean_byte line ≡ true → IsClean line
clean_bytes [] e = tt
clean_bytes (b ∷ bytes) e =
    let parts = and_parts (is_clean_byte b) (list_all is_clean_byte bytes) e in
    let byte = and_parts (not (b == 0)) (not (b == 10)) parts.0 in
    (differs b 0 byte.0, differs b 10 byte.1, clean_bytes bytes parts.1)

no_state : (line : List ℕ) → is_no_mark line ≡ true → state_in line ≡ None
no_state [] e = refl
no_state (b ∷ bytes) e =
    ap (λ is. if is then Some bytes else None) (not-true (b == 61) (and_parts (not (b == 61)) (not (b == 126)) e).0)

no_record : (line : List ℕ) → is_no_mark line ≡ true → is_record line ≡ false
no_record [] e = refl
no_record (b ∷ bytes) e = not-true (b == 126) (and_parts (not (b == 61)) (not (b == 126)) e).1

-- and it is a call's
pub line_is_clean : (c : CallLine) → IsCallLine c.line
line_is_clean c =
    let parts = and_parts (may_stand c.line) (is_some (named_call c.line)) c.says in
    let stands = and_parts (list_all is_clean_byte c.line) (is_no_mark c.line) parts.0 in
    (clean_bytes c.line stands.0, no_state c.line stands.1, no_record c.line stands.1)
