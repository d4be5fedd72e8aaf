use Rattle.std.proofs.Common.{◌≡◌, length, ap, subst, arith}
use Rattle.la_script.specs.Marks.{mark_text}
use Rattle.la_script.specs.Laid.{AreReady}
use Rattle.la_script.specs.Walks.{piece_bytes}
use Rattle.la_script.proofs.Laying.{mark_some}
use Rattle.la_script.proofs.walk.Walk.next.Goals as goal

pub returns-clause-bytes : goal.returns-clause-bytes
returns-clause-bytes c =
    let each =
    subst (λ ms. AreReady c.self.inside.ids.now ms c.self.inside.words.now c.self.inside.numbers.now)
    c.in-Some.ensures.cases.0 c.self.invariant.each in
    let is : length (piece_bytes c.take_piece-piece.result.piece) ≡ length (mark_text c.in-Some.mark.now c.self.inside.words.now c.self.inside.numbers.now) =
    ap length c.take_piece-piece.ensures.piece in
    omega (
      arith,
      mark_some c.self.inside.ids.now c.in-Some.mark.now c.self.inside.words.now c.self.inside.numbers.now
          each.0,
    )
