-- The votes that a command line gave, text by text.
use Rattle.std.proofs.Common.{◌≡◌, ◌∙◌, ℕ, suc, ◌+◌, ◌≤◌, ◌<◌, ◌^◌, List, Option, Some, None, Result, Ok, Err, sym}
use Rattle.std.proofs.Common.{subst, ap, refl, [], ◌∷◌, ◌++◌, length, arith, true, false, true≢false}
use Rattle.std.proofs.Math.Seq.{get_or-append_seam}
use Rattle.std.specs.Prelude.{All, IfOk, IsOk, OnErr, OnOk, ◌↔◌}
use Rattle.std.specs.Result.{is_err, result_ok}
use Rattle.std.specs.Str.Parse.{ParsesUnsigned}
use Rattle.clap.specs.Words.{StepsValues, Text}
use Rattle.la_proposer.specs.declared.votes.TheConstants.{MAX_VOTES}
use Rattle.la_proposer.specs.Majority.{IsGroup, votes_of}
use Rattle.la_proposer.specs.declared.votes.Votes.{Votes}
use Rattle.la_serve.specs.Options.{AreNoVotes, AreNumbers, AreVotes, IsNumber, IsVotes}

-- of the texts these numbers were read, and some texts are left
pub record IsRead (texts : List Text) (read : List ℕ) (left : List Text) : Type 0 where
  pub whole : (ns : List ℕ) → AreNumbers left ns → AreNumbers texts (read ++ ns)
  pub only : (ns : List ℕ) → AreNumbers texts ns → (rest : List ℕ) × (ns ≡ read ++ rest) × AreNumbers left rest

abbrev pub Reads : (given : Option (List Text)) → (read : List ℕ) → (left : List Text) → Type 0
Reads given read left = (texts : List Text) × (given ≡ Some texts) × IsRead texts read left

pub reads_at_first : (given : Option (List Text)) (texts : List Text) → given ≡ Some texts → Reads given [] texts
reads_at_first given texts is = (texts, is, record { whole = λ ns h. h; only = λ ns h. (ns, refl, h) })

joined : (xs : List ℕ) (n : ℕ) (ys : List ℕ) → (xs ++ n ∷ []) ++ ys ≡ xs ++ n ∷ ys
joined [] n ys = refl
joined (x ∷ xs) n ys = ap (λ zs. x ∷ zs) (joined xs n ys)

length_joined : (xs : List ℕ) (n : ℕ) (ys : List ℕ) → length (xs ++ n ∷ ys) ≡ length xs + suc (length ys)
length_joined [] n ys = omega arith
length_joined (x ∷ xs) n ys = let shorter = length_joined xs n ys in omega arith

at_join : (P : ℕ → Type 0) (xs : List ℕ) (n : ℕ) (ys : List ℕ) → All P (xs ++ n ∷ ys) → P n
at_join P xs n ys h =
    let long = length_joined xs n ys in
    let here : length xs < length (xs ++ n ∷ ys) = omega arith in
    subst P (get_or-append_seam xs n ys n) (h (length xs) n here)

with_end : (xs : List ℕ) → xs ++ [] ≡ xs
with_end [] = refl
with_end (x ∷ xs) = ap (λ zs. x ∷ zs) (with_end xs)

no_rest : (ns : List ℕ) → AreNumbers [] ns → ns ≡ []
no_rest [] h = refl
no_rest (n ∷ ns) h = absurd h

-- numbers of texts of which one is left go on after those that were read
next_number : (texts : List Text) (read : List ℕ) (t : Text) (left : List Text) → IsRead texts read (t ∷ left)
    → (ns : List ℕ) → AreNumbers texts ns
    → (n : ℕ) × (rest : List ℕ) × (ns ≡ read ++ n ∷ rest) × IsNumber t n × AreNumbers left rest
next_number texts read t left r ns h = let o = r.only ns h in go o.0 o.1 o.2
  where
    go : (rest : List ℕ) → ns ≡ read ++ rest → AreNumbers (t ∷ left) rest
        → (n : ℕ) × (rest : List ℕ) × (ns ≡ read ++ n ∷ rest) × IsNumber t n × AreNumbers left rest
    go [] e k = absurd k
    go (n ∷ rest) e k = (n, rest, e, k.0, k.1)

next_read : (texts : List Text) (read : List ℕ) (t : Text) (left : List Text) (n : ℕ) → IsNumber t n
    → IsRead texts read (t ∷ left) → IsRead texts (read ++ n ∷ []) left
next_read texts read t left n is r = record {
  whole = λ ns h. subst (AreNumbers texts) (sym (joined read n ns)) (r.whole (n ∷ ns) (is, h));
  only = λ ns h.
      let o = next_number texts read t left r ns h in
      (o.1, o.2 ∙ ap (λ m. read ++ m ∷ o.1) (o.3.value ∙ sym is.value) ∙ sym (joined read n o.1), o.4);
}

module _ {E : Type 0} (G : List ℕ → Result ℕ E → Type 0)
    (parses : (u : List ℕ) (x : Result ℕ E) → G u x → ParsesUnsigned {E = E} 16 10 u x) where
  -- a number is read
  pub reads_next : (given : Option (List Text)) (read : List ℕ) (before after : List Text) (x : Result ℕ E) (n : ℕ)
      → x ≡ Ok n → Reads given read before → StepsValues {T = ℕ} {E = E} G before after (Some x)
      → Reads given (read ++ n ∷ []) after
  reads_next given read [] after x n ok r step = absurd step
  reads_next given read (t ∷ left) after x n ok r step =
      let parsed : ParsesUnsigned {E = E} 16 10 t (Ok n) = parses t (Ok n) (subst (G t) ok step.0) in
      let is : IsNumber t n = record { numeral = parsed.0.0; value = parsed.1 } in
      (r.0, r.1, subst (IsRead r.0 (read ++ n ∷ [])) (sym step.1) (next_read r.0 read t left n is r.2))

  -- a text is no number
  pub reads_none : (given : Option (List Text)) (read : List ℕ) (before after : List Text) (x : Result ℕ E) (e : E)
      → x ≡ Err e → Reads given read before → StepsValues {T = ℕ} {E = E} G before after (Some x) → AreNoVotes given
  reads_none given read [] after x e err r step = absurd step
  reads_none given read (t ∷ left) after x e err r step =
      let parsed : ParsesUnsigned {E = E} 16 10 t (Err e) = parses t (Err e) (subst (G t) err step.0) in
      subst AreNoVotes (sym r.1) (λ ns h group.
      let o = next_number r.0 read t left r.2 ns h in
      let bound =
      at_join (λ v. (1 ≤ v) × (v ≤ MAX_VOTES)) read o.0 o.1
      (subst (All (λ v. (1 ≤ v) × (v ≤ MAX_VOTES))) o.2 group.each) in
      let most : o.0 ≤ 1000 = bound.1 in
      let fits : o.0 < 2 ^ 16 = omega arith in
      parsed (o.3.numeral, subst (λ m. m < 2 ^ 16) o.3.value fits))

  -- there are too many texts
  pub reads_too_many : (given : Option (List Text)) (read : List ℕ) (before after : List Text) (x : Result ℕ E)
      → Reads given read before → StepsValues {T = ℕ} {E = E} G before after (Some x) → length read ≡ 8
      → AreNoVotes given
  reads_too_many given read [] after x r step full = absurd step
  reads_too_many given read (t ∷ left) after x r step full =
      subst AreNoVotes (sym r.1) (λ ns h group.
      let o = next_number r.0 read t left r.2 ns h in
      let long = ap length o.2 ∙ length_joined read o.0 o.1 in
      let few = group.few in
      absurd (omega arith))

  pub reads_end : (given : Option (List Text)) (read : List ℕ) (before after : List Text) → Reads given read before
      → StepsValues {T = ℕ} {E = E} G before after None → Reads given read []
  reads_end given read [] after r step = r
  reads_end given read (t ∷ left) after r step = absurd step

-- all texts were read
pub all_read : (given : Option (List Text)) (replicas : ℕ) (read : List ℕ) → Reads given read [] → IsGroup read
    → AreVotes given replicas read
all_read given replicas read r group =
    subst (λ (g : Option (List Text)). AreVotes g replicas read) (sym r.1)
    (subst (AreNumbers r.0) (with_end read) (r.2.whole [] tt), group)

pub none_read : (given : Option (List Text)) (read : List ℕ) → Reads given read [] → (IsGroup read → ⊥)
    → AreNoVotes given
none_read given read r fails = subst AreNoVotes (sym r.1) (λ ns h group.
    let o = r.2.only ns h in
    fails (subst IsGroup (o.1 ∙ ap (λ rest. read ++ rest) (no_rest o.0 o.2) ∙ with_end read) group))

-- the votes that are made of what was read
pub votes_made : {B : Type 0} (given : Option (List Text)) (replicas : ℕ) (read slice : List ℕ) (r : Result Votes B)
    → slice ≡ read → Reads given read [] → IfOk r (λ made. votes_of made ≡ slice) → (IsOk r ↔ IsGroup slice)
    → IsVotes given replicas (result_ok r)
votes_made given replicas read slice (Ok made) same reads ok exactly =
    subst (AreVotes given replicas) (sym (ok ∙ same))
    (all_read given replicas read reads (subst IsGroup same (exactly.0 refl)))
votes_made given replicas read slice (Err e) same reads ok exactly =
    none_read given read reads (λ group. absurd (true≢false (sym (exactly.1 (subst IsGroup (sym same) group)))))

pub where_err : {T F : Type 0} (r : Result T F) (P : Type 0) → OnErr r P → is_err r ≡ true → P
where_err (Ok x) P h e = absurd (true≢false (sym e))
where_err (Err x) P h e = h

pub where_ok : {T F : Type 0} (r : Result T F) (P : Type 0) → OnOk r P → is_err r ≡ false → P
where_ok (Ok x) P h e = h
where_ok (Err x) P h e = absurd (true≢false e)
