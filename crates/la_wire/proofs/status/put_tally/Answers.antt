use Rattle.std.proofs.Common.{◌≡◌, ◌∙◌, ◌++◌, List, ℕ, OnOk, subst, rules}
use Rattle.std.specs.Prelude.{codes}
use Rattle.la_wire.specs.Joined.{spaced}
use Rattle.la_wire.specs.Status.{counted_words, traffic_words, counts_words}
use Rattle.la_wire.proofs.NoteParts.{more_words}
use Rattle.la_wire.proofs.status.put_tally.Goals as goal

pub returns : goal.returns
unfolding counts_words
returns c =
    let t = c.args.tally.now in
    let o : List ℕ = c.args.out.now.items in
    let in_words : List (List ℕ) = traffic_words (codes "in") t.received in
    let out_words : List (List ℕ) = traffic_words (codes "out") t.sent in
    let refused : List (List ℕ) = counted_words (codes "refused") t.refused in
    let written : List (List ℕ) = counted_words (codes "written") t.written in
    let syncs : List (List ℕ) = counted_words (codes "syncs") t.syncs in
    let one = c.put_traffic.new.out.items in
    let two = c.put_traffic-2.new.out.items in
    let three = c.put_counted.new.out.items in
    let four = c.put_counted-2.new.out.items in
    let a : one ≡ o ++ spaced 32 in_words = search rules in
    let b : two ≡ one ++ spaced 32 out_words = search rules in
    let d : three ≡ two ++ spaced 32 refused = search rules in
    let e : four ≡ three ++ spaced 32 written = search rules in
    let f : two ≡ o ++ spaced 32 (in_words ++ out_words) = b ∙ more_words o one in_words out_words a in
    let g : three ≡ o ++ spaced 32 (in_words ++ out_words ++ refused) =
    d ∙ more_words o two (in_words ++ out_words) refused f in
    let h : four ≡ o ++ spaced 32 (in_words ++ out_words ++ refused ++ written) =
    e ∙ more_words o three (in_words ++ out_words ++ refused) written g in
    subst (λ bytes. OnOk c.put_counted-3.result (c.put_counted-3.new.out.items ≡ bytes))
    (more_words o four (in_words ++ out_words ++ refused ++ written) syncs h)
    c.put_counted-3.ensures
