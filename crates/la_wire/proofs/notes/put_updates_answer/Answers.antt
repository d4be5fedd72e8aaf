use Rattle.std.proofs.Common.{◌≡◌, ◌∙◌, ◌∷◌, [], ◌++◌, List, ℕ, OnOk, subst, rules}
use Rattle.std.specs.Prelude.{codes}
use Rattle.std.specs.Fmt.{decimal}
use Rattle.la_wire.specs.Joined.{spaced}
use Rattle.la_wire.specs.MessageLines.{count_words}
use Rattle.la_wire.specs.Notes.{begun_note}
use Rattle.la_wire.specs.Questions.{updates_word}
use Rattle.la_wire.specs.Requests.{name_words}
use Rattle.la_wire.proofs.NoteParts.{more_noted, noted}
use Rattle.la_wire.proofs.notes.put_updates_answer.Goals as goal

pub returns : goal.returns
returns c =
    let own : ℕ = c.args.own in
    let o : List ℕ = c.args.out.now.items in
    let front : List (List ℕ) = codes "answered" ∷ decimal c.args.object ∷ updates_word ∷ [] in
    let counts : List (List ℕ) = count_words c.args.counts in
    let name : List (List ℕ) = name_words c.args.name.now in
    let a : c.put_answering.new.out.items ≡ o ++ begun_note own front = search rules in
    let b : c.put_counts.new.out.items ≡ c.put_answering.new.out.items ++ spaced 32 counts = search rules in
    let d : c.put_name.new.out.items ≡ c.put_counts.new.out.items ++ spaced 32 name = search rules in
    let e : c.put_counts.new.out.items ≡ o ++ begun_note own (front ++ counts) =
    b ∙ more_noted own o c.put_answering.new.out.items front a counts in
    subst (λ bytes. OnOk c.put_end.result (c.put_end.new.out.items ≡ bytes))
    (noted own o c.put_name.new.out.items (front ++ counts ++ name)
    (d ∙ more_noted own o c.put_counts.new.out.items (front ++ counts) e name))
    c.put_end.ensures
