use Rattle.std.proofs.Common.{◌∙◌, ap, sym, take, true, false}
use Rattle.la_wire.proofs.RequestLines.{of_peer, of_none, of_some}
use Rattle.la_wire.proofs.requests.request_in.Goals as goal

pub returns-then-is_of_peer-clause-call : goal.returns-then-is_of_peer-clause-call
returns-then-is_of_peer-clause-call c =
    sym (of_peer c.args.line.now (sym c.is_of_peer.ensures ∙ c.if-is_of_peer.true)).0

pub returns-then-is_of_peer-clause-name : goal.returns-then-is_of_peer-clause-name
returns-then-is_of_peer-clause-name c =
    sym (of_peer c.args.line.now (sym c.is_of_peer.ensures ∙ c.if-is_of_peer.true)).1

pub returns-in_default-clause-call : goal.returns-in_default-clause-call
returns-in_default-clause-call c =
    sym (of_none c.args.line.now (sym c.is_of_peer.ensures ∙ c.if-is_of_peer.false)
    (sym c.at_sign.ensures ∙ c.in_default.is)).0

pub returns-in_default-clause-name : goal.returns-in_default-clause-name
returns-in_default-clause-name c =
    sym (of_none c.args.line.now (sym c.is_of_peer.ensures ∙ c.if-is_of_peer.false)
    (sym c.at_sign.ensures ∙ c.in_default.is)).1

pub returns-in-Some-apart_at-clause-call : goal.returns-in-Some-apart_at-clause-call
returns-in-Some-apart_at-clause-call c =
    let found = c.in-Some-apart_at.ensures in
    ap (λ n. take n c.args.line.now) found.0
    ∙ sym (of_some c.args.line.now c.in-Some.at true (sym c.is_of_peer.ensures ∙ c.if-is_of_peer.false)
    (sym c.at_sign.ensures ∙ c.in-Some.is) found.2).0

pub returns-in-Some-apart_at-clause-name : goal.returns-in-Some-apart_at-clause-name
returns-in-Some-apart_at-clause-name c =
    let found = c.in-Some-apart_at.ensures in
    found.1
    ∙ sym (of_some c.args.line.now c.in-Some.at true (sym c.is_of_peer.ensures ∙ c.if-is_of_peer.false)
    (sym c.at_sign.ensures ∙ c.in-Some.is) found.2).1

pub returns-in-None-clause-call : goal.returns-in-None-clause-call
returns-in-None-clause-call c =
    sym (of_some c.args.line.now c.in-Some.at false (sym c.is_of_peer.ensures ∙ c.if-is_of_peer.false)
    (sym c.at_sign.ensures ∙ c.in-Some.is) c.in-None.ensures).0

pub returns-in-None-clause-name : goal.returns-in-None-clause-name
returns-in-None-clause-name c =
    sym (of_some c.args.line.now c.in-Some.at false (sym c.is_of_peer.ensures ∙ c.if-is_of_peer.false)
    (sym c.at_sign.ensures ∙ c.in-Some.is) c.in-None.ensures).1
