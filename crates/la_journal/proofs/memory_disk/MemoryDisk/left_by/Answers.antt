use Rattle.std.proofs.Common.{rules, ◌≡◌, ◌<◌, ◌++◌, true, length, take, drop}
use Rattle.la_journal.specs.Note.{now_of, bytes_in, kept_in}
use Rattle.la_journal.proofs.Unread.{whole_left, unread_left}
use Rattle.la_journal.proofs.memory_disk.MemoryDisk.left_by.Goals.{else-ne-via-then-ne+else-not-is_unread, then-is_empty, else-is_empty, else-ne-via-else-ne}
use Rattle.la_journal.proofs.memory_disk.MemoryDisk.left_by.Goals as goal

pub returns-clause-left : goal.returns-clause-left
returns-clause-left c =
    let m = now_of c.args.self.now.contents.past.events in
    let front = c.split_at.result.0.now in
    let back = c.split_at.result.1.now in
    let torn = c.args.torn.now in
    let left = c.extend_from_slice.new.self.items in
    let front_is : front ≡ take (kept_in m) (bytes_in m) = search rules in
    let back_is : back ≡ drop (kept_in m) (bytes_in m) = search rules in
    let is : left ≡ front ++ torn = search rules in
    elim c.else-ne.branch [
      | else-ne-via-then-ne+else-not-is_unread w ↦ elim w.if-is_empty.branch [
        | then-is_empty w' ↦ search rules
        | else-is_empty w' ↦
            let some : 0 < length back = search rules in
            let yes : w'.is_unread.result ≡ true = search rules in
            unread_left m front back torn left front_is back_is is some (w'.is_unread.ensures.0 yes)
      ]
      | else-ne-via-else-ne w ↦
          let whole : back ≡ torn = search rules in
          whole_left m front back torn left front_is back_is is c.args.self.now.contents.there whole
    ]
