-- The records of a journal's groups, by a digest of what stands before them, and the head that is a file's first line.
use Rattle.std.specs.Prelude.{◌≡◌, ◌⊎◌, ℕ, zero, suc, ◌+◌, ◌-◌, ◌*◌, ◌/◌, ◌%◌, ◌^◌, ◌<◌, ◌≤◌, ◌||◌, Bool, true, false, List, [], ◌∷◌, ◌++◌, Option, Some, None, length, take, drop, reverse, if◌then◌else◌, ◌==◌}
use Rattle.std.specs.List.{list_all}
use Rattle.std.specs.Char.{is_ascii_digit, is_ascii_hexdigit}
use Rattle.std.specs.Fmt.{decimal, digit_glyph}
use Rattle.sha2.specs.Sha256.{sha256}
use Rattle.la_journal.specs.Lines.{file_of}
use Rattle.la_journal.specs.Commits.{same_bytes, is_record, Records, groups, with_records, with_record, last_record, HasNoEnd, AreWhole, IsTorn, NoneCollides}

-- each byte as two hex digits
abbrev pub hex : List ℕ → List ℕ
hex [] = []
hex (b ∷ bytes) = digit_glyph false (b / 16 % 16) ∷ digit_glyph false (b % 16) ∷ hex bytes

-- the first 16 hex digits of the SHA-256 of bytes
unfoldable pub digest : List ℕ → List ℕ
digest bytes = hex (take 8 (sha256 bytes))

-- the digest that a line ends in, as a head and a record do
abbrev pub link : List ℕ → List ℕ
link line = let end = drop (length line - 16) line in if list_all is_ascii_hexdigit end then end else []

-- how many lines these bytes have
abbrev pub end_count : List ℕ → ℕ
end_count [] = 0
end_count (b ∷ bytes) = if b == 10 then suc (end_count bytes) else end_count bytes

-- The record of so many lines behind what ends in this digest: `~`, their number, that digest, and the digest of it and
-- of their bytes, with a space between.
abbrev pub record_of : (count : ℕ) (before group : List ℕ) → List ℕ
record_of count before group = 126 ∷ 32 ∷ (decimal count ++ 32 ∷ (before ++ 32 ∷ digest (before ++ group)))

-- the record of a group behind a line, a head or another record
abbrev pub record_line : Records
record_line before group = record_of (end_count group) (link before) group

-- the first line of a file: a text, and its digest
abbrev pub head_line : List ℕ → List ℕ
head_line text = text ++ 32 ∷ digest text

-- the text of a line that is a head
abbrev pub text_of_head : List ℕ → Option (List ℕ)
text_of_head line = let text = take (length line - 17) line in if same_bytes line (head_line text) then Some text else
    None

-- what stands behind the groups that bytes have behind a line
abbrev pub behind : (before : List ℕ) → List ℕ → List ℕ
behind before bytes = drop (length (with_records record_line before (groups record_line before bytes))) bytes

-- what a file has: its head's text, its groups, the digest that the last record ends in (the head, where no group is
-- read), and what stands behind
pub record Parts : Type 0 where
  pub text : List ℕ
  pub these : List (List ℕ)
  pub last : List ℕ
  pub rest : List ℕ

-- of the bytes behind a head
abbrev pub parts_behind : (text head : List ℕ) → List ℕ → Parts
parts_behind text head bytes =
    let these = groups record_line head bytes in
    record {
      text = text;
      these = these;
      last = link (last_record record_line head these);
      rest = behind head bytes;
    }

-- the lines that have an end, where the first line begins with what was got of it
abbrev pub ended_from : List ℕ → List ℕ → List (List ℕ)
ended_from got [] = []
ended_from got (b ∷ bytes) = if b == 10 then got ∷ ended_from [] bytes else ended_from (got ++ b ∷ []) bytes

abbrev pub ended : List ℕ → List (List ℕ)
ended bytes = ended_from [] bytes

-- what a file has, where its first line is a head
abbrev pub parts_with : (file line : List ℕ) → Option (List ℕ) → Option Parts
parts_with file line None = None
parts_with file line (Some text) = Some (parts_behind text line (drop (length line + 1) file))

abbrev pub parts_of : (file : List ℕ) → List (List ℕ) → Option Parts
parts_of file [] = None
parts_of file (line ∷ rest) = parts_with file line (text_of_head line)

abbrev pub parts : List ℕ → Option Parts
parts file = parts_of file (ended file)

-- what stands behind the last line's end
abbrev pub unended_from : List ℕ → List ℕ → List ℕ
unended_from got [] = got
unended_from got (b ∷ bytes) = if b == 10 then unended_from [] bytes else unended_from (got ++ b ∷ []) bytes

abbrev pub unended : List ℕ → List ℕ
unended bytes = unended_from [] bytes

-- the number that the digits in front spell behind those of `got`, where something stands behind them
abbrev pub number_from : (got : ℕ) → List ℕ → Option ℕ
number_from got [] = None
number_from got (b ∷ bytes) = if is_ascii_digit b then number_from (got * 10 + (b - 48)) bytes else Some got

-- the digest of what stood before, as a record states it in front of its own
abbrev pub stated_link : List ℕ → List ℕ
stated_link line = link (take (length line - 17) line)

-- A line is the record of some last lines of those before it, which come newest first: it states their number, and its
-- digest is of their bytes and of the digest before that it states.
abbrev pub IsRecordOfLast : (before : List (List ℕ)) → List ℕ → Type 0
IsRecordOfLast before line =
    (n : ℕ) × (n ≤ length before) × (line ≡ record_of n (stated_link line) (file_of (reverse (take n before))))

-- among lines stands the record of some that stand right before it
abbrev pub RecordStands : (before : List (List ℕ)) → List (List ℕ) → Type 0
RecordStands before [] = ⊥
RecordStands before (line ∷ rest) = IsRecordOfLast before line ⊎ RecordStands (line ∷ before) rest

-- Whole groups stand behind the damage: somewhere in these bytes are lines and the record of just these lines. Which
-- record stood before is not asked, since that may be the damaged one.
abbrev pub HasRecord : List ℕ → Type 0
HasRecord tail = RecordStands [] (ended tail)

-- a line that begins as a record's has a line behind it
abbrev pub IsRunOn : List (List ℕ) → Type 0
IsRunOn [] = ⊥
IsRunOn (line ∷ []) = ⊥
IsRunOn (line ∷ next ∷ rest) = (is_record line ≡ true) ⊎ IsRunOn (next ∷ rest)

-- What no crash leaves behind the groups, where one group was put there and was not synced: it has one record, as its
-- last line.
abbrev pub IsGroupDamage : List ℕ → Type 0
IsGroupDamage tail = HasRecord tail ⊎ IsRunOn (ended tail)

-- ## The same as a truth value

-- whether it is so of a number up to this one
abbrev pub any_up_to : ℕ → (ℕ → Bool) → Bool
any_up_to zero is = is 0
any_up_to (suc n) is = is (suc n) || any_up_to n is

abbrev pub is_record_of_last : (before : List (List ℕ)) → List ℕ → Bool
is_record_of_last before line =
    any_up_to (length before) (λ n. same_bytes line (record_of n (stated_link line) (file_of (reverse (take n
    before)))))

abbrev pub record_stands : (before : List (List ℕ)) → List (List ℕ) → Bool
record_stands before [] = false
record_stands before (line ∷ rest) = is_record_of_last before line || record_stands (line ∷ before) rest

abbrev pub is_run_on : List (List ℕ) → Bool
is_run_on [] = false
is_run_on (line ∷ []) = false
is_run_on (line ∷ next ∷ rest) = is_record line || is_run_on (next ∷ rest)

abbrev pub is_damage : List ℕ → Bool
is_damage tail = record_stands [] (ended tail) || is_run_on (ended tail)

-- A group with its record is read behind what has nothing behind its groups, and then has nothing behind them either.
abbrev pub GroupsGrow : Type 0
GroupsGrow =
    (before bytes group : List ℕ) → behind before bytes ≡ [] → AreWhole [] group →
    let these = groups record_line before bytes in
    let grown = bytes ++ with_record record_line (last_record record_line before these) group in
    (groups record_line before grown ≡ these ++ group ∷ []) × (behind before grown ≡ [])

-- Bytes of which no group is read stand behind the groups, and change none.
abbrev pub OthersAreBehind : Type 0
OthersAreBehind =
    (before bytes more : List ℕ) → behind before bytes ≡ [] →
    let these = groups record_line before bytes in
    groups record_line (last_record record_line before these) more ≡ [] →
    (groups record_line before (bytes ++ more) ≡ these) × (behind before (bytes ++ more) ≡ more)

-- whatever the bytes are, they are their groups, each with its record, and what stands behind
abbrev pub BytesAreGroups : Type 0
BytesAreGroups =
    (before bytes : List ℕ) →
    let these = groups record_line before bytes in
    (bytes ≡ with_records record_line before these ++ behind before bytes)
    × (groups record_line (last_record record_line before these) (behind before bytes) ≡ [])

-- a new file, which is a head alone, has its text and no group
abbrev pub HeadsAreRead : Type 0
HeadsAreRead =
    (text : List ℕ) → HasNoEnd text →
    parts (head_line text ++ 10 ∷ []) ≡ Some (record { text = text; these = []; last = digest text; rest = [] })

-- the digest that a record ends in
abbrev pub RecordsLink : Type 0
RecordsLink = (before group : List ℕ) → link (record_line before group) ≡ digest (link before ++ group)

-- A group with its record is told, whatever lines stand in front of it and whatever bytes behind.
abbrev pub GroupsAreTold : Type 0
GroupsAreTold =
    (front before group rest : List ℕ) → unended front ≡ [] → length (link before) ≡ 16 → AreWhole [] group →
    HasRecord (front ++ (with_record record_line before group ++ rest))

-- What a crash leaves of one group that was put there is no damage, or it is the whole group: where no other group that
-- a crash may leave of it has its record.
abbrev pub TornIsNoDamage : Type 0
TornIsNoDamage =
    (before next torn : List ℕ) → length next < 2 ^ 64 → AreWhole [] next → NoneCollides record_line before next →
    IsTorn (with_record record_line before next) torn →
    (torn ≡ with_record record_line before next) ⊎ (IsGroupDamage torn → ⊥)
