use Rattle.std.proofs.Common.{ℕ, ◌<◌, [], ◌∷◌, ◌++◌, ap, sym, subst, ◌∙◌}
use Rattle.std.specs.Str.{IsUtf8}
use Rattle.std.proofs.lemmas.Str.{IsUtf8-from_ascii}
use Rattle.std.proofs.lemmas.Str.Ascii.{IsAscii-nil, IsAscii-cons}
use Rattle.la_script.specs.Laid.{laid_text, IsLaid}
use Rattle.la_script.proofs.Laying.{laid_words, text_words}
use Rattle.la_script.proofs.pieces.Pieces.push_ascii.Goals as goal

ascii : (letter : ℕ) → letter < 128 → IsUtf8 (letter ∷ [])
ascii letter lt = IsUtf8-from_ascii (letter ∷ []) (IsAscii-cons letter [] lt IsAscii-nil)

pub invariant_of-self-2 : goal.invariant_of-self-2
invariant_of-self-2 c =
    subst (λ ws. IsLaid c.self.inside.marks.items ws c.self.inside.numbers.items c.self.inside.marked c.self.inside.ids)
    (sym c.in_ok-push.ensures.items)
    (laid_words c.self.inside.marks.items c.self.inside.words.items (c.args.letter ∷ []) c.self.inside.numbers.items
    c.self.inside.marked c.self.inside.ids c.self.invariant (ascii c.args.letter c.requires))

pub returns : goal.returns
returns c =
    ap (λ ws. laid_text c.self.inside.marks.items ws c.self.inside.numbers.items) c.in_ok-push.ensures.items
    ∙ text_words c.self.inside.marks.items c.self.inside.words.items (c.args.letter ∷ []) c.self.inside.numbers.items
    c.self.inside.marked c.self.inside.ids c.self.invariant
    ∙ ap (λ t. t ++ c.args.letter ∷ []) c.self.view_is
