use Rattle.std.proofs.Common.{◌≡◌, ◌∙◌, ◌∷◌, [], ◌++◌, List, ℕ, map, OnOk, subst, rules}
use Rattle.std.specs.Prelude.{codes}
use Rattle.std.specs.Fmt.{decimal}
use Rattle.la_script.specs.Text.{id_text}
use Rattle.la_wire.specs.Joined.{spaced}
use Rattle.la_wire.specs.Notes.{begun_note}
use Rattle.la_wire.specs.Questions.{tags_word}
use Rattle.la_wire.specs.Requests.{name_words}
use Rattle.la_wire.proofs.NoteParts.{more_noted, noted}
use Rattle.la_wire.proofs.notes.put_tags_answer.Goals as goal

pub returns : goal.returns
returns c =
    let own : ℕ = c.args.own in
    let o : List ℕ = c.args.out.now.items in
    let front : List (List ℕ) = codes "answered" ∷ decimal c.args.object ∷ tags_word ∷ [] in
    let ids : List (List ℕ) = map id_text c.args.tags.now in
    let name : List (List ℕ) = name_words c.args.name.now in
    let a : c.put_answering.new.out.items ≡ o ++ begun_note own front = search rules in
    let b : c.put_tags.new.out.items ≡ c.put_answering.new.out.items ++ spaced 32 ids = search rules in
    let d : c.put_name.new.out.items ≡ c.put_tags.new.out.items ++ spaced 32 name = search rules in
    let e : c.put_tags.new.out.items ≡ o ++ begun_note own (front ++ ids) =
    b ∙ more_noted own o c.put_answering.new.out.items front a ids in
    subst (λ bytes. OnOk c.put_end.result (c.put_end.new.out.items ≡ bytes))
    (noted own o c.put_name.new.out.items (front ++ ids ++ name)
    (d ∙ more_noted own o c.put_tags.new.out.items (front ++ ids) e name))
    c.put_end.ensures
