-- What is known of a file, as a disk sees it: all by what is noted of the past.
use Rattle.std.specs.Prelude.{ℕ, ◌≤◌, List, ◌++◌, length, take}
use Rattle.la_journal.specs.declared.contents.Contents.{Contents}
use Rattle.la_journal.specs.Disk.{Elapses}
use Rattle.la_journal.specs.Note.{now_of, bytes_in, kept_in}
use Rattle.la_journal.specs.Outcomes.{LeftAt, LeftSince, only_left, left_now, left_there}

abbrev pub held_bytes : Contents → List ℕ
held_bytes contents = bytes_in (now_of contents.past.events)

-- so many of the bytes are on the disk
abbrev pub synced_count : Contents → ℕ
synced_count contents = kept_in (now_of contents.past.events)

-- what is on the disk, with these bytes behind it
abbrev pub leaving : (torn : List ℕ) → Contents → List ℕ
leaving torn contents = take (synced_count contents) (held_bytes contents) ++ torn

-- how often the disk has failed
abbrev pub faults_of : Contents → ℕ
faults_of contents = length contents.failures.events

-- what was last cut off and set aside
abbrev pub aside_of : Contents → List ℕ
aside_of contents = bytes_in (now_of contents.cut.events)

abbrev pub moment_of : Contents → ℕ
moment_of contents = length contents.past.events

abbrev pub may_leave_of : Contents → List ℕ → Type 0
may_leave_of contents c = LeftAt (now_of contents.past.events) c

abbrev pub left_since_of : Contents → ℕ → List ℕ → Type 0
left_since_of contents t c = LeftSince contents.past.events t c

-- time went on from the one to the other
abbrev pub TimeGoesOn : Contents → Contents → Type 0
TimeGoesOn old new = Elapses (moment_of old) (moment_of new) (left_since_of old) (left_since_of new) (may_leave_of new)

-- since this moment there is no other
pub only_now_of : (contents : Contents) (c : List ℕ) → left_since_of contents (moment_of contents) c
    → may_leave_of contents c
only_now_of contents c left = only_left contents.past.events c left

-- this moment is one of those since an earlier one
pub counts_now_of : (contents : Contents) (t : ℕ) (c : List ℕ)
    → t ≤ moment_of contents → may_leave_of contents c → left_since_of contents t c
counts_now_of contents t c le left = left_now contents.past.events t c le left

-- a crash may leave what is there
pub stays_of : (contents : Contents) → may_leave_of contents (held_bytes contents)
stays_of contents = left_there (now_of contents.past.events) contents.there
