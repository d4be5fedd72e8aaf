use Rattle.std.proofs.Common.{◌≡◌, ℕ, ◌+◌, length, true, not, [], ◌∷◌, arith, ◌++◌, codes, ap, sym, ◌∙◌, Result, Ok, Err, OnOk}
use Rattle.std.specs.Result.{is_ok}
use Rattle.la_script.specs.Text.{id_text}
use Rattle.la_script.proofs.IdFronts.{kept_more}
use Rattle.la_script.proofs.id_text.IdText.add.Goals as goal

when_ok : {T E P : Type 0} (r : Result T E) → is_ok r ≡ true → OnOk r P → P
when_ok (Ok x) is h = h
when_ok (Err e) is h = absurd cc

pub invariant_of-self-else-is_err : goal.invariant_of-self-else-is_err
invariant_of-self-else-is_err c =
    let number : c.args.number ≡ length c.self.inside.ends.items + 1 =
    c.requires ∙ ap (λ (t : ℕ × ℕ). t.1 + 1) (sym c.self.view_is) in
    let pushed : is_ok c.push_end.result ≡ true = c.is_err.ensures.negation ∙ ap not c.if-is_err.false in
    let items = when_ok c.push_end.result pushed c.push_end.ensures.ok in
    let end : c.len.result ≡ length c.extend_from_slice.new.self.items =
    omega (arith, c.extend_from_slice.new.self.ok.0) in
    kept_more c.self.inside.replica c.self.inside.text.items c.self.inside.ends.items c.self.invariant
    c.as_bytes.result.now c.extend_from_slice.new.self.items c.push_end.new.ends.items
    (c.as_bytes.ensures.value ∙ c.as_str.ensures.value ∙ c.piece_of-piece.ensures ∙ ap (λ n. codes " " ++ id_text (record { replica = c.self.inside.replica; number = n })) number)
    c.in_ok-extend_from_slice.ensures.items
    (items ∙ ap (λ k. c.self.inside.ends.items ++ k ∷ []) end)
