use Rattle.std.proofs.Common.{refl, sym, ◌∙◌}
use Rattle.std.proofs.lemmas.Bool.{false≢true}
use Rattle.la_journal.proofs.Unread.{unread, is_read, none_is}
use Rattle.la_journal.proofs.memory_disk.is_unread.Goals as goal

pub returns-then-is_none : goal.returns-then-is_none
returns-then-is_none c =
    let head = c.in-Some.head in
    unread c.args.file.now head.text.now head.line.now head.rest.now c.args.torn.now c.loop-group.before.now
    c.loop-group.rest.now c.in-Some.ensures.some c.loop-group.invariant (c.in_default-next_group.ensures.none refl)
    c.is_damage.result c.is_damage.ensures
    (c.next_group-2.ensures.none (none_is c.next_group-2.result c.if-is_none.ensures))

pub returns-else-is_none : goal.returns-else-is_none
returns-else-is_none c =
    let head = c.in-Some.head in (
      λ t. absurd (false≢true (sym c.if-is_none.false ∙ t)),
      λ un. absurd
          (is_read c.args.file.now head.text.now head.line.now head.rest.now c.args.torn.now c.loop-group.before.now
          c.loop-group.rest.now c.in-Some.ensures.some c.loop-group.invariant
          (c.in_default-next_group.ensures.none refl) c.next_group-2.result c.if-is_none.ensures
          c.next_group-2.ensures.some un),
    )
