-- What a crash leaves while a group is put behind a settled file.
use Rattle.std.proofs.Common.{◌≡◌, ◌⊎◌, inl, inr, ⊎_elim, ℕ, Bool, true, false, List, [], ◌++◌, Option, Some, None, refl, sym, ◌∙◌, ap, subst}
use Rattle.std.proofs.lemmas.Bool.{false≢true}
use Rattle.std.proofs.lemmas.List.{append-nil}
use Rattle.la_journal.specs.Disk.{Elapses, CrashesFollow, Torn, LeavesOnly, MayBeTorn, Only, IsUnread}
use Rattle.la_journal.specs.Commits.{with_record, AreWhole}
use Rattle.la_journal.specs.Records.{Parts, parts, ended, link, record_line}
use Rattle.la_journal.specs.Journal.{last_in, text_in}
use Rattle.la_journal.specs.Durable.{IsSettled, unless}
use Rattle.la_journal.proofs.Moments.{started, goes_on}
use Rattle.la_journal.proofs.Files.{Keeps, grown, grows, grows_lines, stays_lines}

pub weaker : {D : Type 0} (moment : D → ℕ) (left_since : D → ℕ → List ℕ → Type 0) (old new : D) (P Q : List ℕ → Type 0)
    → ((c : List ℕ) → P c → Q c) → LeavesOnly moment left_since old new P → LeavesOnly moment left_since old new Q
weaker moment left_since old new P Q to leaves = record {
  later = leaves.later;
  each = λ c left. to c (leaves.each c left);
  before = λ t c le left. ⊎_elim (λ was. inl was) (λ p. inr (to c p)) (leaves.before t c le left);
}

-- of no byte nothing is read
unread_nothing : (o : Option Parts) → IsUnread o []
unread_nothing None = tt
unread_nothing (Some p) = (refl, λ damage. ⊎_elim (λ stands. stands) (λ runs. runs) damage)

torn_nothing : (bytes c : List ℕ) → Torn bytes c c
torn_nothing bytes c = ([], inr (unread_nothing (parts c)), sym (append-nil c))

-- an append, and then a sync or not
module _ {D : Type 0} (may_leave : D → List ℕ → Type 0) (moment : D → ℕ) (left_since : D → ℕ → List ℕ → Type 0)
    (old mid : D) (bytes : List ℕ) (only_now : (c : List ℕ) → left_since old (moment old) c → may_leave old c)
    (time : Elapses (moment old) (moment mid) (left_since old) (left_since mid) (may_leave mid))
    (crash : CrashesFollow (Torn bytes) (may_leave old) (may_leave mid)) where
  pub appended : LeavesOnly moment left_since old mid (MayBeTorn bytes (may_leave old))
  appended =
      goes_on moment left_since old old mid (MayBeTorn bytes (may_leave old)) (may_leave mid)
      (started moment left_since old (MayBeTorn bytes (may_leave old))
      (λ c left. (c, only_now c left, torn_nothing bytes c))) time (λ c now. crash c now)

  pub synced : (new : D) → Elapses (moment mid) (moment new) (left_since mid) (left_since new) (may_leave new)
      → ((c : List ℕ) → may_leave new c → may_leave mid c)
      → LeavesOnly moment left_since old new (MayBeTorn bytes (may_leave old))
  synced new more fewer =
      goes_on moment left_since old mid new (MayBeTorn bytes (may_leave old)) (may_leave new) appended more
      (λ c now. crash c (fewer c now))

-- what is known of an open journal
pub where_open : (closed : Bool) (one other : List ℕ) → closed ≡ false → unless closed one ≡ unless closed other
    → one ≡ other
where_open true one other is_open same = absurd (false≢true (sym is_open))
where_open false one other is_open same = same

pub open_is : (closed : Bool) (one other : List ℕ) → closed ≡ false → one ≡ other
    → unless closed one ≡ unless closed other
open_is closed one other is_open same = ap (unless closed) same

-- a group behind the file that a disk has, which ends in this digest
module _ {D : Type 0} (seen : D → List ℕ) (may_leave : D → List ℕ → Type 0) (old : D)
    (settled : IsSettled seen may_leave old) (last : List ℕ) (linked : last ≡ last_in (parts (seen old)))
    (group : List ℕ) (is : AreWhole [] group) where
  abbrev p : Parts
  p = settled.has

  last_is : last ≡ p.last
  last_is = linked ∙ ap last_in settled.read

  same : (new : D) → seen new ≡ seen old ++ with_record record_line last group
      → seen new ≡ seen old ++ with_record record_line p.last group
  same new written = written ∙ ap (λ (l : List ℕ). seen old ++ with_record record_line l group) last_is

  -- all of it, or nothing that is read
  pub torn_is : (c : List ℕ) → MayBeTorn (with_record record_line last group) (may_leave old) c
      → Keeps (seen old) [] c ⊎ Keeps (seen old) (ended group) c
  torn_is c left =
      let torn = left.2.0 in
      let found : left.0 ≡ seen old = settled.durable left.0 left.1 in
      let is_left : c ≡ seen old ++ torn = left.2.2 ∙ ap (λ (f : List ℕ). f ++ torn) found in
      ⊎_elim
      (λ all. inr (subst (Keeps (seen old) (ended group))
      (sym (is_left ∙ ap (λ (t : List ℕ). seen old ++ t) all
      ∙ ap (λ (l : List ℕ). seen old ++ with_record record_line l group) last_is))
      (grows_lines (seen old) p settled.read settled.whole group is)))
      (λ unread.
      let those = subst (λ o. IsUnread o torn) (ap parts found ∙ settled.read) unread in
      inl (subst (Keeps (seen old) []) (sym is_left)
      (stays_lines (seen old) p settled.read settled.whole torn those.0 those.1)))
      left.2.1

  pub takes_lines : (new : D) → seen new ≡ seen old ++ with_record record_line last group
      → Keeps (seen old) (ended group) (seen new)
  takes_lines new written =
      subst (Keeps (seen old) (ended group)) (sym (same new written))
      (grows_lines (seen old) p settled.read settled.whole group is)

  has : (new : D) → seen new ≡ seen old ++ with_record record_line last group
      → parts (seen new) ≡ Some (grown (seen old) p settled.read settled.whole group)
  has new written = ap parts (same new written) ∙ grows (seen old) p settled.read settled.whole group is

  pub takes_settled : (new : D) → seen new ≡ seen old ++ with_record record_line last group
      → Only (seen new) (may_leave new) → IsSettled seen may_leave new
  takes_settled new written only =
      record {
        has = grown (seen old) p settled.read settled.whole group;
        read = has new written;
        whole = refl;
        durable = only;
      }

  pub takes_link : (new : D) → seen new ≡ seen old ++ with_record record_line last group
      → link (record_line last group) ≡ last_in (parts (seen new))
  takes_link new written = ap (λ (l : List ℕ). link (record_line l group)) last_is ∙ sym (ap last_in (has new written))

  pub takes_text : (new : D) → seen new ≡ seen old ++ with_record record_line last group
      → text_in (parts (seen new)) ≡ text_in (parts (seen old))
  takes_text new written = ap text_in (has new written) ∙ sym (ap text_in settled.read)
