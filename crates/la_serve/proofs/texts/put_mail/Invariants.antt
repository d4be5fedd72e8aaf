use Rattle.std.proofs.Common.{◌≡◌, ◌++◌, ◌≤◌, length, take}
use Rattle.la_wire.specs.Notes.{letters_text}
use Rattle.la_node.specs.Links.{letters_sent, noted_all}
use Rattle.la_serve.proofs.texts.put_mail.Given as goal

abbrev pub invariant-loop-message : goal.invariant-loop-message
invariant-loop-message l = record {
  within : l.message-index ≤ length l.mail;
  so_far :
      l.out.items
      ≡ l.initial.out.items
      ++ letters_text (letters_sent l.links l.node.replica l.why (take l.message-index l.mail));
  noted : l.noted ≡ noted_all l.initial.noted (letters_sent l.links l.node.replica l.why (take l.message-index l.mail));
}
