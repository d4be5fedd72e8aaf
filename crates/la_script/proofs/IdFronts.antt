-- Fronts of the text of a replica's ids.
use Rattle.std.proofs.Common.{◌≡◌, ℕ, zero, suc, ◌+◌, ◌-◌, ◌<◌, ◌≤◌, ◌^◌, Bool, true, false, List, [], ◌∷◌, ◌++◌, length, take, drop, get_or, rules, inl, inr, subst, codes, refl, ap, sym, ◌∙◌, arith, append-nil, append_assoc, length-append}
use Rattle.std.specs.Fmt.{decimal}
use Rattle.std.specs.Str.{IsAscii, IsUtf8}
use Rattle.std.proofs.lemmas.Bool.{cases_lt}
use Rattle.std.proofs.lemmas.Fmt.{IsAscii-decimal}
use Rattle.std.proofs.lemmas.Grind.{flat_map-append}
use Rattle.std.proofs.lemmas.List.{take_at, get_or_read, get_or_append_left, get_or_push, length_push}
use Rattle.std.proofs.lemmas.Str.{IsAscii-append, IsUtf8-from_ascii}
use Rattle.std.proofs.lemmas.Str.Ascii.{IsAscii-nil, IsAscii-cons}
use Rattle.la_set.specs.declared.update.UpdateId.{UpdateId}
use Rattle.la_script.specs.Text.{id_text, others_text, ids_text}
use Rattle.la_script.specs.Pieces.{ids_from, has_ids, next_ids, front}
use Rattle.la_script.specs.Laid.{IsIdText}

pub ids_from-append : (r n a b : ℕ) → ids_from r n (a + b) ≡ ids_from r n a ++ ids_from r (n + a) b
ids_from-append r n zero b =
    let one : zero + b ≡ b = omega arith in
    let two : n + zero ≡ n = omega arith in
    rw (one, two) refl
ids_from-append r n (suc a) b =
    let one : suc a + b ≡ suc (a + b) = omega arith in
    let two : n + suc a ≡ suc n + a = omega arith in
    let id : UpdateId = record { replica = r; number = n } in
    rw (one, two) (ap (λ ids. id ∷ ids) (ids_from-append r (suc n) a b))

-- ids, and then others
pub ids_text-append : (xs ys : List UpdateId) → ids_text (xs ++ ys) ≡ ids_text xs ++ next_ids (has_ids xs) ys
ids_text-append [] ys = refl
ids_text-append (x ∷ xs) ys =
    ap (λ t. id_text x ++ t) (flat_map-append (λ id. codes " " ++ id_text id) xs ys)
    ∙ sym (append_assoc (id_text x) (others_text xs) (others_text ys))

-- one more id
pub front_more : (r n : ℕ) → front true r n ++ (codes " " ++ id_text (record { replica = r; number = n + 1 })) ≡ front true r (n + 1)
unfolding front
front_more r n =
    let next : 1 + n ≡ n + 1 = omega arith in
    sym
    (ap others_text (ids_from-append r 1 n 1) ∙ flat_map-append (λ id. codes " " ++ id_text id) (ids_from r 1 n) (ids_from r (1 + n) 1)
    ∙ ap (λ t. others_text (ids_from r 1 n) ++ t) (append-nil _ ∙ ap (λ k. codes " " ++ id_text (record { replica = r; number = k })) next))

-- a front of the text of more ids is the text of fewer ids
pub front-split : (r n m : ℕ) → n ≤ m → (rest : List ℕ) × (front true r m ≡ front true r n ++ rest)
unfolding front
front-split r n m le =
    let all : n + (m - n) ≡ m = omega arith in (
      others_text (ids_from r (1 + n) (m - n)),
      ap (λ k. others_text (ids_from r 1 k)) (sym all) ∙ ap others_text (ids_from-append r 1 n (m - n))
          ∙ flat_map-append (λ id. codes " " ++ id_text id) (ids_from r 1 n) (ids_from r (1 + n) (m - n)),
    )

pub take-front : (r n m : ℕ) → n ≤ m → take (length (front true r n)) (front true r m) ≡ front true r n
take-front r n m le =
    let s = front-split r n m le in
    ap (take (length (front true r n))) s.1 ∙ take_at (front true r n) s.0 (length (front true r n)) refl

pub length-front-le : (r n m : ℕ) → n ≤ m → length (front true r n) ≤ length (front true r m)
length-front-le r n m le =
    let s = front-split r n m le in
    let all : length (front true r m) ≡ length (front true r n ++ s.0) = ap length s.1 in
    omega (arith, length-append (front true r n) s.0)

-- behind no ids the first space is missing
pub front_first : (r n : ℕ) → drop 1 (front true r n) ≡ front false r n
unfolding front
front_first r zero = refl
front_first r (suc n) = refl

pub front_some : (b : Bool) (r n : ℕ) → 0 < n → 0 < length (front b r n)
unfolding front
front_some true r zero lt = absurd (omega arith)
front_some true r (suc n) lt = search (rules, arith)
front_some false r zero lt = absurd (omega arith)
front_some false r (suc n) lt =
    let id : UpdateId = record { replica = r; number = 1 } in
    let one : length (codes ".") ≡ 1 = omega arith in
    omega (
      arith,
      length-append (id_text id) (others_text (ids_from r 2 n)),
      length-append (decimal r ++ codes ".")
          (decimal 1),
      length-append (decimal r) (codes "."),
    )

-- ids are ASCII
ascii_id : (id : UpdateId) → id.replica < 2 ^ 64 → id.number < 2 ^ 64 → IsAscii (id_text id)
ascii_id id low high =
    IsAscii-append (decimal id.replica ++ codes ".") (decimal id.number)
    (IsAscii-append (decimal id.replica) (codes ".") (IsAscii-decimal id.replica low)
    (IsAscii-cons 46 [] (omega arith) IsAscii-nil)) (IsAscii-decimal id.number high)

ascii_others : (r n k : ℕ) → r < 2 ^ 64 → n + k ≤ 2 ^ 64 → IsAscii (others_text (ids_from r n k))
ascii_others r n zero low high = IsAscii-nil
ascii_others r n (suc k) low high =
    let id : UpdateId = record { replica = r; number = n } in
    IsAscii-append (codes " " ++ id_text id) (others_text (ids_from r (suc n) k))
    (IsAscii-cons 32 (id_text id) (omega arith) (ascii_id id low (omega arith)))
    (ascii_others r (suc n) k low (omega arith))

ascii_ids : (r n k : ℕ) → r < 2 ^ 64 → n + k ≤ 2 ^ 64 → IsAscii (ids_text (ids_from r n k))
ascii_ids r n zero low high = IsAscii-nil
ascii_ids r n (suc k) low high =
    let id : UpdateId = record { replica = r; number = n } in
    IsAscii-append (id_text id) (others_text (ids_from r (suc n) k)) (ascii_id id low (omega arith))
    (ascii_others r (suc n) k low (omega arith))

pub front-utf8 : (b : Bool) (r n : ℕ) → r < 2 ^ 64 → n < 2 ^ 64 → IsUtf8 (front b r n)
unfolding front
front-utf8 true r n low high = IsUtf8-from_ascii _ (ascii_others r 1 n low (omega arith))
front-utf8 false r n low high = IsUtf8-from_ascii _ (ascii_ids r 1 n low (omega arith))

-- ## The kept text

pub front_none : (b : Bool) (r n : ℕ) → n ≡ 0 → [] ≡ front b r n
unfolding front
front_none true r n none = rw none refl
front_none false r n none = rw none refl

pub kept_none : (r : ℕ) (text ends : List ℕ) → text ≡ [] → ends ≡ [] → IsIdText r text ends
kept_none r text ends no_text no_ends = rw (no_text, no_ends) (record { is = front_none true r 0 refl; each = λ k lt. absurd (omega arith) })

module _ (r : ℕ) (text ends : List ℕ) (is : IsIdText r text ends) where
  -- where the n-th id ends
  pub end_is : (n at : ℕ) → 0 < n → n ≤ length ends → at ≡ get_or ends (n - 1) at → at ≡ length (front true r n)
  end_is n at some le read =
      let lt : n - 1 < length ends = omega arith in
      let back : (n - 1) + 1 ≡ n = omega arith in
      get_or_read ends (n - 1) at lt read 0 ∙ is.each (n - 1) lt ∙ ap (λ k. length (front true r k)) back

  pub end_within : (n at : ℕ) → 0 < n → n ≤ length ends → at ≡ get_or ends (n - 1) at → at ≤ length text
  end_within n at some le read =
      let all : length text ≡ length (front true r (length ends)) = ap length is.is in
      omega (arith, end_is n at some le read, length-front-le r n (length ends) le)

  pub kept-front : (n at : ℕ) → 0 < n → n ≤ length ends → at ≡ get_or ends (n - 1) at → take at text ≡ front true r n
  kept-front n at some le read =
      ap (λ k. take k text) (end_is n at some le read) ∙ ap (take (length (front true r n))) is.is
      ∙ take-front r n (length ends) le

  -- one more id
  module _ (piece more ends_more : List ℕ) (is_piece : piece ≡ codes " " ++ id_text (record { replica = r; number = length ends + 1 })) (is_more : more ≡ text ++ piece) (is_ends : ends_more ≡ ends ++ length more ∷ []) where
    more_text : more ≡ front true r (length ends + 1)
    more_text =
        is_more ∙ ap (λ t. t ++ piece) is.is ∙ ap (λ t. front true r (length ends) ++ t) is_piece
        ∙ front_more r (length ends)

    each_end : (k : ℕ) → k < length ends + 1 → get_or (ends ++ length more ∷ []) k 0 ≡ length (front true r (k + 1))
    each_end k lt = elim (cases_lt k (length ends)) [
      | inl before ↦ get_or_append_left ends (length more ∷ []) 0 k before ∙ is.each k before
      | inr last ↦ (let e : length ends ≡ k = omega arith in get_or_push ends (length more) 0 k e ∙ ap length more_text ∙ ap (λ n. length (front true r (n + 1))) e)
    ]

    pub kept_more : IsIdText r more ends_more
    kept_more =
        let len : length (ends ++ length more ∷ []) ≡ length ends + 1 = length_push ends (length more) in
        subst (IsIdText r more) (sym is_ends)
        (record { is = more_text ∙ ap (front true r) (sym len); each = λ k lt. each_end k (omega arith) })
