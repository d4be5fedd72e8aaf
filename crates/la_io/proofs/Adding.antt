-- Lines that are written one behind another, and bytes of a line.
use Rattle.std.proofs.Common.{◌≡◌, ◌≢◌, ℕ, ◌+◌, ◌-◌, ◌<◌, ◌==◌, false, List, [], ◌∷◌, ◌++◌, length, take, drop, get_or, Option, ap, sym, subst, ◌∙◌, append_assoc, take-append-drop, arith}
use Rattle.std.specs.Io.KnownBytes.{Appends}
use Rattle.std.proofs.KnownBytes.{Appends-trans}
use Rattle.std.proofs.Math.Seq.{take-add}
use Rattle.std.proofs.lemmas.Bool.Decides.{nat_tests}
use Rattle.std.proofs.lemmas.List.Elements.{All-nil, All-cons, All-append}
use Rattle.la_io.specs.Streams.{AppendsPrefix}
use Rattle.la_io.proofs.lemmas.Fronts.{prefix_more, prefix_behind}
use Rattle.la_io.specs.Sources.{IsOneLine}
use Rattle.std.proofs.lemmas.List.{take_more}

module _ (a b c : Option (List ℕ)) (text : List ℕ) (d n : ℕ) (so_far : Appends a b (take d text)) where
  rest_of : take (d + n - d) (drop d text) ≡ take n (drop d text)
  rest_of = ap (λ m. take m (drop d text)) {x = d + n - d} {y = n} (omega arith)

  pub written_on : Appends b c (take (d + n - d) (drop d text)) → Appends a c (take (d + n) text)
  written_on w =
      subst (Appends a c) (sym (take-add d n text))
      (Appends-trans a b c (take d text) (take n (drop d text)) so_far (subst (Appends b c) rest_of w))

  pub prefix_on : AppendsPrefix b c (take (d + n - d) (drop d text)) → AppendsPrefix a c text
  prefix_on w =
      let front = take d text ++ take n (drop d text) in
      let whole : front ++ drop n (drop d text) ≡ text =
      append_assoc (take d text) (take n (drop d text)) (drop n (drop d text))
      ∙ ap (λ t. take d text ++ t) (take-append-drop n (drop d text)) ∙ take-append-drop d text in
      subst (AppendsPrefix a c) whole
      (prefix_more a c front (drop n (drop d text))
      (prefix_behind a b c (take d text) (take n (drop d text)) so_far (subst (AppendsPrefix b c) rest_of w)))

-- a byte more that ends no line
pub one_more_byte : (bytes : List ℕ) (n : ℕ) → n < length bytes → IsOneLine (take n bytes) → get_or bytes n 0 ≢ 10
    → IsOneLine (take (n + 1) bytes)
one_more_byte bytes n lt one not =
    subst IsOneLine (sym (take_more bytes n 0 lt))
    (All-append (λ b. (b == 10) ≡ false) (take n bytes) (get_or bytes n 0 ∷ []) one
    (All-cons (λ b. (b == 10) ≡ false) (get_or bytes n 0) [] (differs (get_or bytes n 0) not)
    (All-nil (λ b. (b == 10) ≡ false))))
  where
    differs : (b : ℕ) → b ≢ 10 → (b == 10) ≡ false
    differs b not = grind (arith, nat_tests)
