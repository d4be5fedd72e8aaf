use Rattle.std.proofs.Common.{◌≡◌, [], ◌∷◌, ◌++◌, ℕ, List, Option, IfSome, ◌∙◌, ap, subst}
use Rattle.std.specs.Global.{Vec}
use Rattle.la_journal.specs.Commits.{with_record}
use Rattle.la_journal.specs.Records.{digest, link, head_line, record_line}
use Rattle.la_journal.specs.Snapshots.{IsSnapshot, first_link, seals, seal_link}
use Rattle.la_journal.proofs.Compacting.{in_place}
use Rattle.la_journal.proofs.compaction.compacted.Goals as goal

pub returns-clause-file : goal.returns-clause-file
returns-clause-file g c =
    let head = c.args.head.now in
    let group = c.in-Some.group.items in
    let new : c.in_ok-file.file.items ≡ head_line head ++ 10 ∷ [] = c.in_ok-file.ensures in
    let first : c.digest.result ≡ digest head = c.digest.ensures in
    let written : c.put_record.new.group.items ≡ with_record record_line (digest head) group =
    c.put_record.ensures.group ∙ ap (λ (l : List ℕ). with_record record_line l group) first in
    let linked : c.put_record.result ≡ first_link head group =
    c.put_record.ensures.last ∙ ap (λ (l : List ℕ). link (record_line l group)) first in
    let sealed : c.in_ok-seals.field-0.items ≡ seals (first_link head group) =
    c.in_ok-seals.ensures.bytes ∙ ap seals linked in
    let front : c.extend_from_slice.new.self.items
    ≡ (head_line head ++ 10 ∷ []) ++ with_record record_line (digest head) group =
    c.in_ok-extend_from_slice.ensures.items ∙ (λ i. new i ++ (c.deref.ensures.value ∙ written) i) in
    record {
      group = group;
      snapshot =
          subst (λ (o : Option (Vec ℕ)). IfSome o (λ b. IsSnapshot g.M.Machine.named_state
          (g.M.Machine.state c.args.machine.now) b.items)) c.in-Some.is c.in_ok-group.ensures.line;
      is =
          c.in_ok-extend_from_slice-2.ensures.items
          ∙ ap (λ (l : List ℕ). l ++ c.deref-2.result.now) front
          ∙ ap (λ (l : List ℕ). ((head_line head ++ 10 ∷ []) ++ with_record record_line (digest head) group) ++ l)
          (c.deref-2.ensures.value ∙ sealed)
          ∙ in_place (head_line head) (with_record record_line (digest head) group) (seals (first_link head group));
      ends = c.in_ok-seals.ensures.last ∙ ap (λ (l : List ℕ). seal_link (seal_link l)) linked;
    }
