use Rattle.std.proofs.Common.{◌≡◌, ◌∙◌, ◌∷◌, [], ◌++◌, List, ℕ, OnOk, subst, rules}
use Rattle.std.specs.Prelude.{codes}
use Rattle.std.specs.Fmt.{decimal}
use Rattle.la_wire.specs.Notes.{begun_note}
use Rattle.la_wire.specs.Questions.{status_word}
use Rattle.la_wire.proofs.NoteParts.{first_noted, word_noted}
use Rattle.la_wire.proofs.status.put_head.Goals as goal

pub returns : goal.returns
returns c =
    let own : ℕ = c.args.own in
    let o : List ℕ = c.args.out.now.items in
    let one = c.put_front.new.out.items in
    let two = c.put_word.new.out.items in
    let front : List (List ℕ) = status_word ∷ codes "version" ∷ [] in
    let a : one ≡ o ++ codes "# r" ++ decimal own ++ 32 ∷ status_word = search rules in
    let b : two ≡ one ++ 32 ∷ codes "version" = search rules in
    let d : OnOk c.put_word-2.result (c.put_word-2.new.out.items ≡ two ++ 32 ∷ c.args.version.now) = search rules in
    let e : two ≡ o ++ begun_note own front =
    b ∙ word_noted own o one (status_word ∷ []) (first_noted own o one status_word a) (codes "version") in
    subst (λ bytes. OnOk c.put_word-2.result (c.put_word-2.new.out.items ≡ bytes))
    (word_noted own o two front e c.args.version.now) d
