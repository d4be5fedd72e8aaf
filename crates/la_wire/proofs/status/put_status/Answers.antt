use Rattle.std.proofs.Common.{◌≡◌, ◌∙◌, ◌∷◌, [], ◌++◌, List, ℕ, OnOk, subst, rules}
use Rattle.std.specs.Prelude.{codes}
use Rattle.la_wire.specs.Joined.{spaced}
use Rattle.la_wire.specs.Notes.{begun_note}
use Rattle.la_wire.specs.Questions.{status_word}
use Rattle.la_wire.specs.Requests.{name_words}
use Rattle.la_wire.specs.Status.{own_words, peers_from, counts_words}
use Rattle.la_wire.proofs.NoteParts.{more_noted, noted}
use Rattle.la_wire.proofs.status.put_status.Goals as goal

pub returns : goal.returns
returns c =
    let s = c.args.status.now in
    let o : List ℕ = c.args.out.now.items in
    let head : List (List ℕ) = status_word ∷ codes "version" ∷ c.args.version.now ∷ [] in
    let has : List (List ℕ) = own_words s in
    let peers : List (List ℕ) = peers_from s.known s.own 0 s.replicas in
    let counts : List (List ℕ) = counts_words s.tally in
    let name : List (List ℕ) = name_words c.args.name.now in
    let one = c.put_head.new.out.items in
    let two = c.put_own.new.out.items in
    let three = c.put_peers.new.out.items in
    let four = c.put_tally.new.out.items in
    let five = c.put_name.new.out.items in
    let a : one ≡ o ++ begun_note s.own head = search rules in
    let b : two ≡ one ++ spaced 32 has = search rules in
    let d : three ≡ two ++ spaced 32 peers = search rules in
    let e : four ≡ three ++ spaced 32 counts = search rules in
    let f : five ≡ four ++ spaced 32 name = search rules in
    let g : two ≡ o ++ begun_note s.own (head ++ has) = b ∙ more_noted s.own o one head a has in
    let h : three ≡ o ++ begun_note s.own (head ++ has ++ peers) = d ∙ more_noted s.own o two (head ++ has) g peers in
    let i : four ≡ o ++ begun_note s.own (head ++ has ++ peers ++ counts) =
    e ∙ more_noted s.own o three (head ++ has ++ peers) h counts in
    subst (λ bytes. OnOk c.put_end.result (c.put_end.new.out.items ≡ bytes))
    (noted s.own o five (head ++ has ++ peers ++ counts ++ name)
    (f ∙ more_noted s.own o four (head ++ has ++ peers ++ counts) i name))
    c.put_end.ensures
