-- A journal of groups, each with its record behind it, and what a crash leaves of it.
use Rattle.std.specs.Prelude.{◌≡◌, ◌≢◌, ◌⊎◌, ⊤, ℕ, Bool, true, false, List, [], ◌∷◌, ◌++◌, if◌then◌else◌, ◌==◌, ◌&&◌}

-- whether the bytes are the same
abbrev pub same_bytes : List ℕ → List ℕ → Bool
same_bytes [] [] = true
same_bytes [] (y ∷ ys) = false
same_bytes (x ∷ xs) [] = false
same_bytes (x ∷ xs) (y ∷ ys) = (x == y) && same_bytes xs ys

-- a line is a record's where it begins with '~'
abbrev pub is_record : List ℕ → Bool
is_record [] = false
is_record (b ∷ line) = b == 126

-- The record of a group's bytes (its lines, each with its end), behind another record. `record_of` is a parameter: how
-- many lines, and a digest of the record before and of these bytes.
abbrev pub Records : Type 0
Records = (before group : List ℕ) → List ℕ

-- The groups that bytes have, behind a record: up to the first line that is a record's and not the one of what stands
-- before it, or up to their end. `got` is what is got of a group, `line` of a line.
abbrev pub groups_from : Records → (before got line : List ℕ) → List ℕ → List (List ℕ)
groups_from record_of before got line [] = []
groups_from record_of before got line (b ∷ bytes) =
    if b == 10
    then (if is_record line
    then (if same_bytes line (record_of before got) then got ∷ groups_from record_of line [] [] bytes else [])
    else groups_from record_of before (got ++ (line ++ 10 ∷ [])) [] bytes)
    else groups_from record_of before got (line ++ b ∷ []) bytes

-- the groups that a file has, behind its first record
abbrev pub groups : Records → (first : List ℕ) → List ℕ → List (List ℕ)
groups record_of first bytes = groups_from record_of first [] [] bytes

-- a group's bytes and its record, behind a record
abbrev pub with_record : Records → (before group : List ℕ) → List ℕ
with_record record_of before group = group ++ (record_of before group ++ 10 ∷ [])

-- the bytes of these groups, each with its record, behind a record
abbrev pub with_records : Records → (before : List ℕ) → List (List ℕ) → List ℕ
with_records record_of before [] = []
with_records record_of before (g ∷ gs) =
    g ++ (record_of before g ++ 10 ∷ with_records record_of (record_of before g) gs)

-- the record of the last one
abbrev pub last_record : Records → (before : List ℕ) → List (List ℕ) → List ℕ
last_record record_of before [] = before
last_record record_of before (g ∷ gs) = last_record record_of (record_of before g) gs

-- no line's end
abbrev pub HasNoEnd : List ℕ → Type 0
HasNoEnd [] = ⊤
HasNoEnd (b ∷ line) = ((b == 10) ≡ false) × HasNoEnd line

-- whole lines, none a record's
abbrev pub AreWhole : (line : List ℕ) → List ℕ → Type 0
AreWhole line [] = line ≡ []
AreWhole line (b ∷ bytes) =
    (((b == 10) ≡ true) × (is_record line ≡ false) × AreWhole [] bytes)
    ⊎ (((b == 10) ≡ false) × AreWhole (line ++ b ∷ []) bytes)

-- each is a group
abbrev pub AreGroups : List (List ℕ) → Type 0
AreGroups [] = ⊤
AreGroups (g ∷ gs) = AreWhole [] g × AreGroups gs

-- a record's line, whatever it is of
abbrev pub AreRecords : Records → Type 0
AreRecords record_of =
    (before group : List ℕ) → (is_record (record_of before group) ≡ true) × HasNoEnd (record_of before group)

-- The premise on a crash: what it left of a group that was not synced is the whole group, or has no whole record
-- that matches what stands before it.
abbrev pub NoneMatches : Records → (before : List ℕ) → (whole : List ℕ) → List ℕ → Type 0
NoneMatches record_of before whole torn = (torn ≡ whole) ⊎ (groups record_of before torn ≡ [])

-- the groups that were synced, or these and the next one
abbrev pub IsTheseOrOneMore : List (List ℕ) → List ℕ → List (List ℕ) → Type 0
IsTheseOrOneMore these next read = (read ≡ these) ⊎ (read ≡ these ++ next ∷ [])

-- Of groups that were put down and synced, and whatever a crash left of the next one, reading gives those, or those and
-- the whole next one.
abbrev pub ReadingGivesGroups : Type 0
ReadingGivesGroups =
    (record_of : Records) (first : List ℕ) (these : List (List ℕ)) (next torn : List ℕ) →
    AreRecords record_of → AreGroups these → AreWhole [] next →
    let last = last_record record_of first these in
    NoneMatches record_of last (with_record record_of last next) torn →
    IsTheseOrOneMore these next (groups record_of first (with_records record_of first these ++ torn))

-- What a crash leaves of bytes, each as it was written or as 0: as many as there were.
abbrev pub IsSpoilt : List ℕ → List ℕ → Type 0
IsSpoilt [] [] = ⊤
IsSpoilt [] (t ∷ torn) = ⊥
IsSpoilt (b ∷ bytes) [] = ⊥
IsSpoilt (b ∷ bytes) (t ∷ torn) = ((t ≡ b) ⊎ (t ≡ 0)) × IsSpoilt bytes torn

-- bytes of which a crash kept the first some, each as it was written or as 0
abbrev pub IsTorn : List ℕ → List ℕ → Type 0
IsTorn bytes [] = ⊤
IsTorn [] (t ∷ torn) = ⊥
IsTorn (b ∷ bytes) (t ∷ torn) = ((t ≡ b) ⊎ (t ≡ 0)) × IsTorn bytes torn

-- no byte is 0
abbrev pub HasNoZero : List ℕ → Type 0
HasNoZero [] = ⊤
HasNoZero (b ∷ line) = (b ≢ 0) × HasNoZero line

-- The premise on the digest alone: no spoilt group has the record of the group that was written.
abbrev pub NoneCollides : Records → (before group : List ℕ) → Type 0
NoneCollides record_of before group =
    (spoilt : List ℕ) → IsSpoilt group spoilt → record_of before spoilt ≡ record_of before group → spoilt ≡ group

-- So where a crash keeps the first some of the bytes that were not synced, each as it was written or as 0.
abbrev pub TornGroupsAreNotRead : Type 0
TornGroupsAreNotRead =
    (record_of : Records) (before next torn : List ℕ) →
    AreRecords record_of → ((group : List ℕ) → HasNoZero (record_of before group)) →
    AreWhole [] next → NoneCollides record_of before next →
    IsTorn (with_record record_of before next) torn →
    NoneMatches record_of before (with_record record_of before next) torn
