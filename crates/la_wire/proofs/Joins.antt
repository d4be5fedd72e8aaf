-- Parts that are joined are parted again.
use Rattle.std.proofs.Common.{◌≡◌, ℕ, ◌+◌, true, false, eqb, List, [], ◌∷◌, ◌++◌, length, take, drop, All, refl, ap}
use Rattle.std.proofs.Common.{◌∙◌, append-nil, arith}
use Rattle.std.specs.List.{slice_split, position_or_len, before_first, after_first}
use Rattle.std.proofs.Math.Seq.{take-append_seam, drop-append-add}
use Rattle.std.proofs.lemmas.Bool.Decides.{nat_tests}
use Rattle.std.proofs.lemmas.List.Elements.{All-nil, All-cons, All-head, All-tail, All-append, All-weaker}
use Rattle.std.proofs.lemmas.List.Splits.{slice_split_none, slice_split_at}
use Rattle.la_wire.specs.Joined.{spaced, joined_by, parted}
use Rattle.la_wire.proofs.Decimals.{is_plain, IsPlain}

-- no byte of it is this one
abbrev pub Lacks : ℕ → List ℕ → Type 0
Lacks byte w = All (λ b. eqb b byte ≡ false) w

-- parts that lack the byte between them
pub parted-joined : (byte : ℕ) (w : List ℕ) (ws : List (List ℕ)) → eqb byte byte ≡ true → Lacks byte w
    → All (Lacks byte) ws
    → parted byte (w ++ spaced byte ws) ≡ w ∷ ws
parted-joined byte w [] own one rest =
    ap (slice_split (λ b. eqb b byte)) (append-nil w) ∙ slice_split_none (λ b. eqb b byte) w one
parted-joined byte w (v ∷ vs) own one rest =
    slice_split_at (λ b. eqb b byte) w byte (v ++ spaced byte vs) one own
    ∙ ap (λ ps. w ∷ ps)
    (parted-joined byte v vs own (All-head (Lacks byte) v vs rest) (All-tail (Lacks byte) v vs rest))

pub plain-no_space : (w : List ℕ) → IsPlain w → Lacks 32 w
plain-no_space w plain =
    All-weaker (λ b. is_plain b ≡ true) (λ b. eqb b 32 ≡ false) (λ b p. grind (arith, nat_tests)) w plain

plain-one : (w : List ℕ) → IsPlain w → Lacks 59 w
plain-one w plain =
    All-weaker (λ b. is_plain b ≡ true) (λ b. eqb b 59 ≡ false) (λ b p. grind (arith, nat_tests)) w plain

-- words behind a first one
pub words-back : (w : List ℕ) (ws : List (List ℕ)) → IsPlain w → All IsPlain ws
    → parted 32 (joined_by 32 (w ∷ ws)) ≡ w ∷ ws
words-back w ws one rest =
    parted-joined 32 w ws refl (plain-no_space w one) (All-weaker IsPlain (Lacks 32) plain-no_space ws rest)

spaced-plain : (byte : ℕ) (ws : List (List ℕ)) → is_plain byte ≡ true → All IsPlain ws → IsPlain (spaced byte ws)
spaced-plain byte [] own all = All-nil (λ b. is_plain b ≡ true)
spaced-plain byte (w ∷ ws) own all =
    All-cons (λ b. is_plain b ≡ true) byte (w ++ spaced byte ws) own
    (All-append (λ b. is_plain b ≡ true) w (spaced byte ws) (All-head IsPlain w ws all)
    (spaced-plain byte ws own (All-tail IsPlain w ws all)))

-- texts that make one word
pub joined-plain : (byte : ℕ) (ws : List (List ℕ)) → is_plain byte ≡ true → All IsPlain ws → IsPlain (joined_by byte ws)
joined-plain byte [] own all = All-nil (λ b. is_plain b ≡ true)
joined-plain byte (w ∷ ws) own all =
    All-append (λ b. is_plain b ≡ true) w (spaced byte ws) (All-head IsPlain w ws all)
    (spaced-plain byte ws own (All-tail IsPlain w ws all))

spaced-one : (ws : List (List ℕ)) → All IsPlain ws → Lacks 59 (spaced 32 ws)
spaced-one [] all = All-nil (λ b. eqb b 59 ≡ false)
spaced-one (w ∷ ws) all =
    All-cons (λ b. eqb b 59 ≡ false) 32 (w ++ spaced 32 ws) refl
    (All-append (λ b. eqb b 59 ≡ false) w (spaced 32 ws) (plain-one w (All-head IsPlain w ws all))
    (spaced-one ws (All-tail IsPlain w ws all)))

-- words make one part
pub words-part : (w : List ℕ) (ws : List (List ℕ)) → IsPlain w → All IsPlain ws → Lacks 59 (joined_by 32 (w ∷ ws))
words-part w ws one rest = All-append (λ b. eqb b 59 ≡ false) w (spaced 32 ws) (plain-one w one) (spaced-one ws rest)

-- parts behind a first one
pub parts-back : (part : List ℕ) (parts : List (List ℕ)) → Lacks 59 part → All (Lacks 59) parts
    → parted 59 (joined_by 59 (part ∷ parts)) ≡ part ∷ parts
parts-back part parts one rest = parted-joined 59 part parts refl one rest

-- ## What stands before a byte, and after it

prefix-at : (byte : ℕ) (xs ys : List ℕ) → eqb byte byte ≡ true → Lacks byte xs
    → position_or_len (λ b. eqb b byte) (xs ++ byte ∷ ys) ≡ length xs
prefix-at byte [] ys own lacks = rw own refl
prefix-at byte (x ∷ xs) ys own lacks =
    rw (All-head (λ b. eqb b byte ≡ false) x xs lacks)
    (omega (arith, prefix-at byte xs ys own (All-tail (λ b. eqb b byte ≡ false) x xs lacks)))

pub before-first : (byte : ℕ) (xs ys : List ℕ) → eqb byte byte ≡ true → Lacks byte xs
    → before_first (λ b. eqb b byte) (xs ++ byte ∷ ys) ≡ xs
before-first byte xs ys own lacks =
    ap (λ n. take n (xs ++ byte ∷ ys)) (prefix-at byte xs ys own lacks) ∙ take-append_seam xs (byte ∷ ys)

pub after-first : (byte : ℕ) (xs ys : List ℕ) → eqb byte byte ≡ true → Lacks byte xs
    → after_first (λ b. eqb b byte) (xs ++ byte ∷ ys) ≡ ys
after-first byte xs ys own lacks =
    ap (λ n. drop (n + 1) (xs ++ byte ∷ ys)) (prefix-at byte xs ys own lacks) ∙ drop-append-add xs (byte ∷ ys) 1
