use Rattle.std.proofs.Common.{◌≡◌, ◌∙◌, ◌∷◌, [], ◌++◌, List, ℕ, OnOk, subst, rules}
use Rattle.std.specs.Prelude.{codes}
use Rattle.la_wire.specs.Joined.{spaced}
use Rattle.la_wire.specs.MessageLines.{progress_words}
use Rattle.la_wire.specs.Status.{counted_words, open_word, own_words}
use Rattle.la_wire.proofs.NoteParts.{more_words}
use Rattle.la_wire.proofs.status.put_own.Goals as goal

pub returns : goal.returns
unfolding own_words
returns c =
    let s = c.args.status.now in
    let o : List ℕ = c.args.out.now.items in
    let far : List (List ℕ) = progress_words s.progress in
    let submitted : List (List ℕ) = counted_words (codes "submitted") s.submitted in
    let waiting : List (List ℕ) = counted_words (codes "waiting") s.waiting in
    let ballot : List (List ℕ) = counted_words (codes "ballot") s.ballot in
    let one = c.put_progress.new.out.items in
    let two = c.put_counted.new.out.items in
    let three = c.put_counted-2.new.out.items in
    let four = c.put_counted-3.new.out.items in
    let a : one ≡ o ++ spaced 32 far = search rules in
    let b : two ≡ one ++ spaced 32 submitted = search rules in
    let d : three ≡ two ++ spaced 32 waiting = search rules in
    let e : four ≡ three ++ spaced 32 ballot = search rules in
    let f : two ≡ o ++ spaced 32 (far ++ submitted) = b ∙ more_words o one far submitted a in
    let g : three ≡ o ++ spaced 32 (far ++ submitted ++ waiting) =
    d ∙ more_words o two (far ++ submitted) waiting f in
    let h : four ≡ o ++ spaced 32 (far ++ submitted ++ waiting ++ ballot) =
    e ∙ more_words o three (far ++ submitted ++ waiting) ballot g in
    subst (λ bytes. OnOk c.put_open.result (c.put_open.new.out.items ≡ bytes))
    (more_words o four (far ++ submitted ++ waiting ++ ballot) (open_word s.asking ∷ []) h)
    c.put_open.ensures
