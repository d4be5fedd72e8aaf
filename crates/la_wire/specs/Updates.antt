-- An update as a part of a line: `P.N O` and what it does, in the words of a script.
use Rattle.std.specs.Prelude.{ℕ, Bool, true, false, nat_le, List, [], ◌∷◌, map, length, codes, Option, Some, None}
use Rattle.std.specs.Prelude.{Result, Ok, Err, if◌then◌else◌}
use Rattle.std.specs.Fmt.{decimal}
use Rattle.std.specs.Str.{bytes_eq}
use Rattle.la_set.specs.declared.update.Op.{Op}
use Rattle.la_set.specs.declared.update.Op.TheVariants as op
use Rattle.la_set.specs.declared.update.UpdateId.{UpdateId}
use Rattle.la_set.specs.declared.update.Update.{Update}
use Rattle.la_set.specs.declared.tags.TheConstants.{MAX_TAGS}
use Rattle.la_script.specs.declared.forms.Keyword.TheVariants as keyword
use Rattle.la_script.specs.Forms.{spelling as word_of}
use Rattle.la_script.specs.Text.{id_text}
use Rattle.la_script.specs.Tags.{tag_words}
use Rattle.la_script.specs.Numbers.{u16_max, u32_max, u64_max}
use Rattle.la_own.specs.Own.{own, own_bytes_of}
use Rattle.la_own.specs.declared.own.TheConstants.{OWN_BYTES}
use Rattle.hex.specs.Hex.{encode_lower, decode_of}
use Rattle.hex.specs.declared.error.FromHexError.{FromHexError}
use Rattle.la_wire.specs.declared.error.LineFault.{LineFault}
use Rattle.la_wire.specs.declared.error.LineFault.TheVariants.{BadLine, BadNumber}
use Rattle.la_wire.specs.declared.updates.Verb.{Verb}
use Rattle.la_wire.specs.declared.updates.Verb.TheVariants as verb
use Rattle.la_wire.specs.Joined.{joined_by, parted}
use Rattle.la_wire.specs.Readings.{◌>>=◌, or_line_fault, number_on, first_number, first_id, at_end}

-- ## As it is written

-- the words of a script, but for votes
abbrev pub verb_spelling : Verb → List ℕ
verb_spelling verb.Inc = word_of keyword.Inc
verb_spelling verb.Dec = word_of keyword.Dec
verb_spelling verb.Raise = word_of keyword.Raise
verb_spelling verb.Put = word_of keyword.Put
verb_spelling verb.Remove = word_of keyword.Remove
verb_spelling verb.Own = codes "own"
verb_spelling verb.Mark = word_of keyword.Mark
verb_spelling verb.Vote = codes "vote"
verb_spelling verb.Sole = codes "sole"

abbrev pub vote_verb : (sole : Bool) → Verb
vote_verb true = verb.Sole
vote_verb false = verb.Vote

-- no bytes are `-`, any others hexadecimal digits, two for each
abbrev pub own_text : List ℕ → List ℕ
own_text [] = codes "-"
own_text (b ∷ bytes) = encode_lower (b ∷ bytes)

-- a remove, which is one of one's own where these are its bytes
abbrev pub remove_words : List UpdateId → Option (List ℕ) → List (List ℕ)
remove_words tags (Some bytes) = verb_spelling verb.Own ∷ own_text bytes ∷ []
remove_words tags None = verb_spelling verb.Remove ∷ map id_text tags

-- a vote for a value that its voter saw alone is `sole`
abbrev pub op_words : Op → List (List ℕ)
op_words (op.Inc x) = verb_spelling verb.Inc ∷ decimal x ∷ []
op_words (op.Dec x) = verb_spelling verb.Dec ∷ decimal x ∷ []
op_words (op.Raise x) = verb_spelling verb.Raise ∷ decimal x ∷ []
op_words (op.Put x) = verb_spelling verb.Put ∷ decimal x ∷ []
op_words (op.Remove tags) = remove_words tags (own_bytes_of (op.Remove tags))
op_words op.Mark = verb_spelling verb.Mark ∷ []
op_words (op.Vote x sole) = verb_spelling (vote_verb sole) ∷ decimal x ∷ []

abbrev pub update_words : Update → List (List ℕ)
update_words u = id_text u.id ∷ decimal u.object ∷ op_words u.op

abbrev pub update_text : Update → List ℕ
update_text u = joined_by 32 (update_words u)

-- ## As it is read

-- the verb that a word is
abbrev pub verb_of : List ℕ → Option Verb
verb_of word =
    if bytes_eq word (verb_spelling verb.Inc) then Some verb.Inc else
    if bytes_eq word (verb_spelling verb.Dec) then Some verb.Dec else
    if bytes_eq word (verb_spelling verb.Raise) then Some verb.Raise else
    if bytes_eq word (verb_spelling verb.Put) then Some verb.Put else
    if bytes_eq word (verb_spelling verb.Remove) then Some verb.Remove else
    if bytes_eq word (verb_spelling verb.Own) then Some verb.Own else
    if bytes_eq word (verb_spelling verb.Mark) then Some verb.Mark else
    if bytes_eq word (verb_spelling verb.Vote) then Some verb.Vote else
    if bytes_eq word (verb_spelling verb.Sole) then Some verb.Sole else None

-- one number up to the highest, and nothing behind it
abbrev pub only_number : (high : ℕ) → List (List ℕ) → Result ℕ LineFault
only_number high (word ∷ []) = number_on 0 high word
only_number high _ = Err BadLine

-- the tags of a remove are the rest of the words
abbrev pub line_tags : List (List ℕ) → Result (List UpdateId) LineFault
line_tags words = if nat_le (length words) MAX_TAGS then or_line_fault BadNumber (tag_words words) else Err BadLine

-- the operation of one's own of these bytes, where they are no more than one may have
abbrev pub own_made : List ℕ → Result Op LineFault
own_made bytes = if nat_le (length bytes) OWN_BYTES then Ok (own bytes) else Err BadNumber

abbrev pub own_decoded : Result (List ℕ) FromHexError → Result Op LineFault
own_decoded (Ok bytes) = own_made bytes
own_decoded (Err e) = Err BadNumber

-- that a word says: `-`, or two hexadecimal digits for each byte
abbrev pub own_on : List ℕ → Result Op LineFault
own_on word =
    if bytes_eq word (codes "-") then Ok (own []) else
    if nat_le 1 (length word) then own_decoded (decode_of word) else Err BadNumber

-- and nothing behind it
abbrev pub only_own : List (List ℕ) → Result Op LineFault
only_own (word ∷ []) = own_on word
only_own _ = Err BadLine

abbrev pub made : {A B : Type 0} → (A → B) → Result A LineFault → Result B LineFault
made make (Ok x) = Ok (make x)
made make (Err fault) = Err fault

-- what the words behind a verb say
unfoldable pub op_at : Verb → List (List ℕ) → Result Op LineFault
op_at verb.Inc words = made op.Inc (only_number u32_max words)
op_at verb.Dec words = made op.Dec (only_number u32_max words)
op_at verb.Raise words = made op.Raise (only_number u64_max words)
op_at verb.Put words = made op.Put (only_number u64_max words)
op_at verb.Remove words = made op.Remove (line_tags words)
op_at verb.Own words = only_own words
op_at verb.Mark words = made (λ end. op.Mark) (at_end words)
op_at verb.Vote words = made (λ value. op.Vote value false) (only_number u64_max words)
op_at verb.Sole words = made (λ value. op.Vote value true) (only_number u64_max words)

-- what words say is done
abbrev pub op_in : List (List ℕ) → Result Op LineFault
op_in [] = Err BadLine
op_in (word ∷ words) = or_line_fault BadLine (verb_of word) >>= (λ is. op_at is words)

-- the update that words say
unfoldable pub update_in : List (List ℕ) → Result Update LineFault
update_in words = do
  id ← first_id words
  object ← first_number 0 u16_max id.1
  does ← op_in object.1
  Ok (record { id = id.0; object = object.0; op = does })

-- the updates that parts of a line say
abbrev pub updates_in : List (List ℕ) → Result (List Update) LineFault
updates_in [] = Ok []
updates_in (part ∷ parts) = do
  u ← update_in (parted 32 part)
  us ← updates_in parts
  Ok (u ∷ us)
