-- The head of a node's journal: of which replica it is, and all that its group was made with.
use Rattle.std.specs.Prelude.{◌≡◌, ℕ, zero, suc, ◌+◌, ◌/◌, ◌%◌, ◌<◌, ◌==◌, Bool, true, false, List, [], ◌∷◌, ◌++◌}
use Rattle.std.specs.Prelude.{codes, length, if◌then◌else◌, refl}
use Rattle.std.specs.Fmt.{decimal, digits, digits_onto, digit_glyph}
use Rattle.std.proofs.Common.{arith}
use Rattle.std.proofs.lemmas.Bool.Decides.{nat_tests}
use Rattle.la_journal.specs.Lines.{IsClean}
use Rattle.la_replica.specs.ReplicaState.{ReplicaState, update_cap, commits_of}
use Rattle.la_script.specs.Text.{spaced_text}
use Rattle.std.specs.List.{list_all}
use Rattle.la_wire.specs.CallLines.{is_clean_byte}
use Rattle.la_durable.specs.CallLines.{clean_bytes}

-- a number behind a word
abbrev pub word_number : (word : List ℕ) → ℕ → List ℕ
word_number word n = word ++ decimal n

-- of a group how many replicas it has, the votes of each, how many adopt-commit objects, and the cap
abbrev pub group_text : ReplicaState → List ℕ
group_text r =
    word_number (codes " of ") (length r.votes) ++ (codes " votes" ++ (spaced_text r.votes
    ++ (word_number (codes " commits ") (commits_of r) ++ word_number (codes " cap ") (update_cap r))))

-- the format and its version, the replica's number, and its group
abbrev pub node_head : ReplicaState → List ℕ
node_head r = codes "lattice 2" ++ (word_number (codes " replica ") r.own ++ group_text r)

-- ## It may stand as a line

clean_append : (a b : List ℕ) → IsClean a → IsClean b → IsClean (a ++ b)
clean_append [] b of_a of_b = of_b
clean_append (x ∷ a) b of_a of_b = (of_a.0, of_a.1, clean_append a b of_a.2 of_b)

glyph_is : (d : ℕ) → d < 10 → digit_glyph false d ≡ 48 + d
glyph_is d small = grind (arith, nat_tests)

glyph_then : (d : ℕ) (rest : List ℕ) → d < 10 → IsClean rest → IsClean (digit_glyph false d ∷ rest)
glyph_then d rest small clean =
    let is = glyph_is d small in ((λ e. absurd (omega (arith, is, e))), (λ e. absurd (omega (arith, is, e))), clean)

either : (is : Bool) (a b : List ℕ) → IsClean a → IsClean b → IsClean (if is then a else b)
either true a b of_a of_b = of_a
either false a b of_a of_b = of_b

digits_clean : (k n : ℕ) (rest : List ℕ) → IsClean rest → IsClean (digits_onto k 10 false n rest)
digits_clean zero n rest clean = clean
digits_clean (suc k) n rest clean =
    let more = digit_glyph false (n % 10) ∷ rest in
    let is = glyph_then (n % 10) rest (omega arith) clean in
    either (n / 10 == 0) more (digits_onto k 10 false (n / 10) more) is (digits_clean k (n / 10) more is)

decimal_clean : (n : ℕ) → IsClean (decimal n)
unfolding digits
decimal_clean n = digits_clean 64 n [] tt

number_clean : (word : List ℕ) (n : ℕ) → list_all is_clean_byte word ≡ true → IsClean (word_number word n)
number_clean word n clean = clean_append word (decimal n) (clean_bytes word clean) (decimal_clean n)

number_then : (word : List ℕ) (n : ℕ) (rest : List ℕ) → list_all is_clean_byte word ≡ true → IsClean rest
    → IsClean (word_number word n ++ rest)
number_then word n rest clean = clean_append (word_number word n) rest (number_clean word n clean)

spaced_clean : (ns : List ℕ) → IsClean (spaced_text ns)
spaced_clean [] = tt
spaced_clean (n ∷ ns) = number_then (codes " ") n (spaced_text ns) refl (spaced_clean ns)

group_is_clean : (r : ReplicaState) → IsClean (group_text r)
group_is_clean r =
    let cap = word_number (codes " cap ") (update_cap r) in
    let limits = word_number (codes " commits ") (commits_of r) ++ cap in
    let votes = spaced_text r.votes ++ limits in
    number_then (codes " of ") (length r.votes) (codes " votes" ++ votes) refl
    (clean_append (codes " votes") votes (clean_bytes (codes " votes") refl)
    (clean_append (spaced_text r.votes) limits (spaced_clean r.votes)
    (number_then (codes " commits ") (commits_of r) cap refl (number_clean (codes " cap ") (update_cap r) refl))))

pub head_is_clean : (r : ReplicaState) → IsClean (node_head r)
head_is_clean r =
    let own = word_number (codes " replica ") r.own ++ group_text r in
    clean_append (codes "lattice 2") own (clean_bytes (codes "lattice 2") refl)
    (number_then (codes " replica ") r.own (group_text r) refl (group_is_clean r))
