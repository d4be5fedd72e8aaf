-- A state's text, written part by part, and its replies, read one by one.
use Rattle.std.proofs.Common.{◌≡◌, ℕ, suc, ◌+◌, ◌-◌, ◌<◌, ◌≤◌, Result, List, [], ◌∷◌, ◌++◌, length, take, drop, get_or}
use Rattle.std.proofs.Common.{map, ap, sym, ◌∙◌, append_assoc, arith, Ok, Bor}
use Rattle.std.specs.Prelude.{codes}
use Rattle.std.proofs.lemmas.List.{take_all}
use Rattle.std.proofs.Math.Seq.{drop-cons}
use Rattle.la_set.specs.declared.counts.Counts.{Counts}
use Rattle.la_set.specs.Counts.{zero_counts}
use Rattle.la_set.specs.Deltas.{over}
use Rattle.la_set.specs.Histories.{Histories, updates}
use Rattle.la_acceptor.specs.declared.reply.Reply.{Reply}
use Rattle.la_proposer.specs.declared.tally.Counted.{Counted}
use Rattle.la_replica.specs.declared.instance.Instance.{Instance}
use Rattle.la_script.specs.Numbers.{u8_max}
use Rattle.la_script.specs.Words.{bytes_of}
use Rattle.la_wire.specs.Joined.{spaced, joined_by}
use Rattle.la_wire.specs.Readings.{◌>>=◌, number_on}
use Rattle.la_wire.specs.Updates.{update_text, made}
use Rattle.la_wire.specs.States.{instance_head_of, asking_words, told_words, learnt_words, tally_words}
use Rattle.la_wire.specs.States.{section_text, reply_on, tally_on, section_on, instances_on}
use Rattle.la_wire.specs.declared.error.LineFault.{LineFault}
use Rattle.la_wire.specs.declared.states.reading.Section.{Section}
use Rattle.la_wire.specs.declared.states.heads.InstanceHead.{InstanceHead}
use Rattle.la_wire.specs.MessageLines.{counts_text}
use Rattle.la_wire.proofs.UpdateLists.{spaced_append, goes_on}
use Rattle.la_wire.proofs.StateSets.{over-nothing}

-- ## A section

joined_append : (byte : ℕ) (xs ys : List (List ℕ)) → 1 ≤ length xs
    → joined_by byte (xs ++ ys) ≡ joined_by byte xs ++ spaced byte ys
joined_append byte [] ys some = absurd (omega arith)
joined_append byte (x ∷ xs) ys some =
    ap (λ t. x ++ t) (spaced_append byte xs ys) ∙ sym (append_assoc x (spaced byte xs) (spaced byte ys))

joined_three : (byte : ℕ) (xs ys zs : List (List ℕ)) → 1 ≤ length xs
    → joined_by byte ((xs ++ ys) ++ zs) ≡ joined_by byte xs ++ (spaced byte ys ++ spaced byte zs)
joined_three byte xs ys zs some =
    ap (joined_by byte) (append_assoc xs ys zs) ∙ joined_append byte xs (ys ++ zs) some
    ∙ ap (λ t. joined_by byte xs ++ t) (spaced_append byte ys zs)

-- texts that are put one behind another
five_put : (before a b c d e v w x y z : List ℕ) → v ≡ before ++ a → w ≡ v ++ b → x ≡ w ++ c → y ≡ x ++ d → z ≡ y ++ e
    → z ≡ before ++ (a ++ ((b ++ (c ++ d)) ++ e))
five_put before a b c d e v w x y z at_v at_w at_x at_y at_z =
    at_z ∙ ap (λ t. t ++ e) (at_y ∙ ap (λ t. t ++ d) (at_x ∙ ap (λ t. t ++ c) (at_w ∙ ap (λ t. t ++ b) at_v)))
    ∙ simp append_assoc

four_put : (before a b c d v w y z : List ℕ) → v ≡ before ++ a → w ≡ v ++ b → y ≡ w ++ c → z ≡ y ++ d
    → z ≡ before ++ (a ++ (b ++ (c ++ d)))
four_put before a b c d v w y z at_v at_w at_y at_z =
    at_z ∙ ap (λ t. t ++ d) (at_y ∙ ap (λ t. t ++ c) (at_w ∙ ap (λ t. t ++ b) at_v))
    ∙ simp append_assoc

pub section_written : (x : Instance) (union : Histories) (zero : Counts) (before v w y z after : List ℕ)
    → zero ≡ zero_counts → v ≡ before ++ 124 ∷ [] → w ≡ v ++ joined_by 32 (asking_words (instance_head_of x))
    → y ≡ w ++ spaced 32 (told_words (instance_head_of x)) → z ≡ y ++ spaced 32 (tally_words x.proposer.tally)
    → after ≡ z ++ spaced 59 (map update_text (over union zero)) → after ≡ before ++ 124 ∷ section_text x union
section_written x union zero before v w y z after is_zero at_v at_w at_y at_z at_after =
    let asks : List (List ℕ) = asking_words (instance_head_of x) in
    let told : List (List ℕ) = told_words (instance_head_of x) in
    let replies : List (List ℕ) = tally_words x.proposer.tally in
    five_put before (124 ∷ []) (joined_by 32 asks) (spaced 32 told) (spaced 32 replies)
    (spaced 59 (map update_text (updates union))) v w y z after at_v at_w at_y at_z
    (at_after ∙ ap (λ us. z ++ spaced 59 (map update_text us)) (ap (over union) is_zero ∙ over-nothing union))
    ∙ ap (λ t. before ++ 124 ∷ (t ++ spaced 59 (map update_text (updates union))))
    (sym (joined_three 32 asks told replies (omega arith)))

-- ## What was told

pub told_written : (h : InstanceHead) (all : List Counts) (before v w y z : List ℕ) → all ≡ h.reported
    → v ≡ before ++ 32 ∷ codes "reported" → w ≡ v ++ spaced 32 (map counts_text all) → y ≡ w ++ 32 ∷ codes "learnt"
    → z ≡ y ++ spaced 32 (learnt_words h.learnt) → z ≡ before ++ spaced 32 (told_words h)
told_written h all before v w y z is at_v at_w at_y at_z =
    let reported : List (List ℕ) = map counts_text h.reported in
    let learnt : List (List ℕ) = codes "learnt" ∷ learnt_words h.learnt in
    let at_all : w ≡ v ++ spaced 32 reported = at_w ∙ ap (λ cs. v ++ spaced 32 (map counts_text cs)) is in
    four_put before (32 ∷ codes "reported") (spaced 32 reported) (32 ∷ codes "learnt")
    (spaced 32 (learnt_words h.learnt)) v w y z at_v at_all at_y at_z
    ∙ ap (λ t. before ++ ((32 ∷ codes "reported") ++ t)) (sym (spaced_append 32 reported learnt))

-- ## A reply

two_first : (left : List (Bor (List ℕ))) (d : Bor (List ℕ)) → 2 ≤ length left
    → bytes_of left ≡ (get_or left 0 d).now ∷ (get_or left 1 d).now ∷ bytes_of (take (length left - 2) (drop 2 left))
two_first [] d some = absurd (omega arith)
two_first (x ∷ []) d some = absurd (omega arith)
two_first (x ∷ y ∷ left) d some =
    ap (λ (zs : List (Bor (List ℕ))). x.now ∷ y.now ∷ bytes_of zs)
    (sym (take_all (length (x ∷ y ∷ left) - 2) left (omega arith)))

-- one more reply in front of those that are left
pub next_reply : (union : Histories) (done new : List Counted) (left : List (Bor (List ℕ))) (d : Bor (List ℕ))
    (high n : ℕ) (reply : Reply) (all : _)
    → high ≡ u8_max → 2 ≤ length left → Ok n ≡ number_on 0 high (get_or left 0 d).now
    → reply_on union (get_or left 1 d).now ≡ Ok reply → new ≡ done ++ record { from = n; reply = reply } ∷ []
    → made (λ more. done ++ more) (tally_on union (bytes_of left)) ≡ all
    → made (λ more. new ++ more) (tally_on union (bytes_of (take (length left - 2) (drop 2 left)))) ≡ all
next_reply union done new left d high n reply all is_high some from says is so_far =
    let rest : List (List ℕ) = bytes_of (take (length left - 2) (drop 2 left)) in
    let c : Counted = record { from = n; reply = reply } in
    let counted : ℕ → Reply → Result (List Counted) LineFault =
    λ f a. tally_on union rest >>= (λ more. Ok (record { from = f; reply = a } ∷ more)) in
    let word : number_on 0 u8_max (get_or left 0 d).now ≡ Ok n =
    ap (λ h. number_on 0 h (get_or left 0 d).now) (sym is_high) ∙ sym from in
    let read : tally_on union (bytes_of left) ≡ (tally_on union rest >>= (λ more. Ok (c ∷ more))) =
    ap (tally_on union) (two_first left d some)
    ∙ ap (λ r. r >>= (λ f. reply_on union (get_or left 1 d).now >>= counted f)) word
    ∙ ap (λ r. r >>= counted n) says in
    ap (λ xs. made (λ more. xs ++ more) (tally_on union rest)) is
    ∙ sym (goes_on done c (tally_on union rest))
    ∙ ap (made (λ more. done ++ more)) (sym read)
    ∙ so_far

-- ## A section that is read

pub next_section : (votes : List ℕ) (own : ℕ) (done new : List Instance) (sections : List (Bor (List ℕ))) (i : ℕ)
    (d : Bor (List ℕ)) (x : Section) (all : Result (List Instance) LineFault) → i < length sections
    → section_on votes own (get_or sections i d).now ≡ Ok x → new ≡ done ++ x.instance ∷ []
    → made (λ more. done ++ more) (instances_on votes own (bytes_of (drop i sections))) ≡ all
    → made (λ more. new ++ more) (instances_on votes own (bytes_of (drop (i + 1) sections))) ≡ all
next_section votes own done new sections i d x all lt said is so_far =
    let rest : List (Bor (List ℕ)) = drop (i + 1) sections in
    let after : suc i ≡ i + 1 = omega arith in
    let with_rest : Section → Result (List Instance) LineFault =
    λ y. instances_on votes own (bytes_of rest) >>= (λ xs. Ok (y.instance ∷ xs)) in
    let front : drop i sections ≡ get_or sections i d ∷ rest =
    drop-cons sections i d lt ∙ ap (λ (n : ℕ). get_or sections i d ∷ drop n sections) after in
    let read : instances_on votes own (bytes_of (drop i sections))
    ≡ (instances_on votes own (bytes_of rest) >>= (λ xs. Ok (x.instance ∷ xs))) =
    ap (λ (zs : List (Bor (List ℕ))). instances_on votes own (bytes_of zs)) front
    ∙ ap (λ (r : Result Section LineFault). r >>= with_rest) said in
    ap (λ ys. made (λ more. ys ++ more) (instances_on votes own (bytes_of rest))) is
    ∙ sym (goes_on done x.instance (instances_on votes own (bytes_of rest)))
    ∙ ap (made (λ more. done ++ more)) (sym read)
    ∙ so_far
