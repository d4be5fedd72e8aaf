use Rattle.std.proofs.Common.{◌≡◌, ◌∙◌, ◌∷◌, [], ◌++◌, List, ℕ, OnOk, subst, rules}
use Rattle.la_wire.specs.Joined.{spaced}
use Rattle.la_wire.specs.Notes.{begun_note}
use Rattle.la_wire.specs.Questions.{update_word}
use Rattle.la_wire.specs.Requests.{name_words}
use Rattle.la_wire.specs.Updates.{update_words}
use Rattle.la_wire.proofs.NoteParts.{first_noted, more_noted, noted}
use Rattle.la_wire.proofs.notes.put_update_answer.Goals as goal

pub returns : goal.returns
returns c =
    let own : ℕ = c.args.own in
    let o : List ℕ = c.args.out.now.items in
    let front : List (List ℕ) = update_word ∷ [] in
    let words : List (List ℕ) = update_words c.args.update.now in
    let name : List (List ℕ) = name_words c.args.name.now in
    let a : c.put_front.new.out.items ≡ o ++ begun_note own front =
    first_noted own o c.put_front.new.out.items update_word (search rules) in
    let b : c.put_update_words.new.out.items ≡ c.put_front.new.out.items ++ spaced 32 words = search rules in
    let d : c.put_name.new.out.items ≡ c.put_update_words.new.out.items ++ spaced 32 name = search rules in
    let e : c.put_update_words.new.out.items ≡ o ++ begun_note own (front ++ words) =
    b ∙ more_noted own o c.put_front.new.out.items front a words in
    subst (λ bytes. OnOk c.put_end.result (c.put_end.new.out.items ≡ bytes))
    (noted own o c.put_name.new.out.items (front ++ words ++ name)
    (d ∙ more_noted own o c.put_update_words.new.out.items (front ++ words) e name))
    c.put_end.ensures
