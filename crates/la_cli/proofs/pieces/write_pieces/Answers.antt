use Rattle.std.proofs.Common.{◌++◌, ap, sym, ◌∙◌}
use Rattle.la_io.proofs.lemmas.Written.{kept_all, prefix_all}
use Rattle.la_cli.proofs.Written.{piece_next, piece_front, held_alone, held_all, held_part}
use Rattle.la_io.proofs.lemmas.Always.{always_ok, always_err}
use Rattle.la_cli.proofs.pieces.write_pieces.Goals as goal

pub returns-in_err-gather-clause-err : goal.returns-in_err-gather-clause-err
returns-in_err-gather-clause-err g c =
    always_err c.from_residual.result
    (piece_front _ _ _ c.loop-piece.held c.loop-piece.walk c.bytes.result.now c.next.new.self c.args.pieces.now
    c.loop-piece.invariant (c.in-Some.ensures.some ∙ ap (λ t. t ++ c.next.new.self) (sym c.bytes.ensures))
    c.in_err-gather.ensures.err)

pub loop-piece-preserved : goal.loop-piece-preserved
loop-piece-preserved g c =
    piece_next _ _ _ c.loop-piece.held c.loop-piece.walk c.bytes.result.now c.next.new.self c.args.pieces.now
    c.loop-piece.invariant (c.in-Some.ensures.some ∙ ap (λ t. t ++ c.next.new.self) (sym c.bytes.ensures)) _
    c.in_ok-gather.ensures.ok

pub returns-in_err-put_held-clause-err : goal.returns-in_err-put_held-clause-err
returns-in_err-put_held-clause-err g c =
    let before =
    held_alone _ _ c.loop-piece.held c.loop-piece.walk c.args.pieces.now c.loop-piece.invariant
    c.in_default.ensures.none in
    always_err c.from_residual-in_err-put_held.result
    (held_part _ _ _ c.loop-piece.held c.args.pieces.now before c.in_err-put_held.ensures.err)

pub returns-clause-ok : goal.returns-clause-ok
returns-clause-ok g c =
    let before =
    held_alone _ _ c.loop-piece.held c.loop-piece.walk c.args.pieces.now c.loop-piece.invariant
    c.in_default.ensures.none in
    let wrote = held_all _ _ _ c.loop-piece.held c.args.pieces.now before c.in_ok-put_held.ensures.ok in
    always_ok c.flush.result (kept_all _ _ _ c.args.pieces.now wrote c.flush.ensures)

pub returns-clause-err : goal.returns-clause-err
returns-clause-err g c =
    let before =
    held_alone _ _ c.loop-piece.held c.loop-piece.walk c.args.pieces.now c.loop-piece.invariant
    c.in_default.ensures.none in
    let wrote = held_all _ _ _ c.loop-piece.held c.args.pieces.now before c.in_ok-put_held.ensures.ok in
    always_err c.flush.result
    (prefix_all _ _ c.args.pieces.now (kept_all _ _ _ c.args.pieces.now wrote c.flush.ensures))
