use Rattle.std.proofs.Common.{◌≡◌, Option, Some, get_or, length, take, drop, ap, sym, ◌∙◌, subst, arith}
use Rattle.la_own.specs.Own.{own}
use Rattle.la_types.specs.KeyMaps.{map_values}
use Rattle.la_types.specs.KeyedObjects.{Part, part_full, with_part}
use Rattle.la_types.proofs.PartBytes.{not_own, too_short, too_long_key, is_part}
use Rattle.la_types.proofs.KeptParts.{on_ok, no_part, one_part}
use Rattle.la_shelf.proofs.lemmas.Fulls.{err_full}
use Rattle.la_types.proofs.keyed_objects.KeyedAbsorbs.absorb.Goals as goal

pub returns-in_default-clause-ok : goal.returns-in_default-clause-ok
returns-in_default-clause-ok g c =
    let u = c.args.update.now in
    ap (with_part g.T.Absorbs.meaning (map_values g.T.Absorbs.state c.args.self.now.objects))
    (sym (no_part u (not_own u.op (sym c.in_default.is ∙ c.own_bytes.ensures.value))))

pub returns-then-bytes-lt1-clause-ok : goal.returns-then-bytes-lt1-clause-ok
returns-then-bytes-lt1-clause-ok g c =
    let u = c.args.update.now in
    let bytes = c.as_slice-bytes.ensures.bytes in
    ap (with_part g.T.Absorbs.meaning (map_values g.T.Absorbs.state c.args.self.now.objects))
    (sym (no_part u (too_short u.op c.in-Some.own c.in-Some.ensures.value (omega
    (arith, ap length bytes, c.if-bytes-lt1.true)))))

pub returns-then-rest-long-clause-ok : goal.returns-then-rest-long-clause-ok
returns-then-rest-long-clause-ok g c =
    let u = c.args.update.now in
    let bytes = c.as_slice-bytes.ensures.bytes in
    let rest = c.behind-rest.ensures ∙ ap (drop 1) bytes in
    ap (with_part g.T.Absorbs.meaning (map_values g.T.Absorbs.state c.args.self.now.objects))
    (sym (no_part u (too_long_key u.op c.in-Some.own c.in-Some.ensures.value
    (omega (arith, ap length bytes, c.if-bytes-lt1.false))
    (omega (arith, c.if-rest-long.true, ap length rest, ap (λ bs. get_or bs 0 0) bytes)))))

pub returns-clause-ok : goal.returns-clause-ok
returns-clause-ok g c =
    let u = c.args.update.now in
    let o = c.in-Some.own in
    let bytes = c.as_slice-bytes.ensures.bytes in
    let rest = c.behind-rest.ensures ∙ ap (drop 1) bytes in
    let key = c.split_at.ensures.front ∙ (λ i. take (get_or (bytes i) 0 0) (rest i)) in
    let op = c.in-Ok.ensures.ok ∙ ap own (c.split_at.ensures.back ∙ (λ i. drop (get_or (bytes i) 0 0) (rest i))) in
    let same : ◌≡◌ {A = Option Part} (Some (c.split_at.result.0.now, record u { op = c.in-Ok.op }))
    (Some (take (get_or o 0 0) (drop 1 o), record u { op = own (drop (get_or o 0 0) (drop 1 o)) })) =
    λ i. Some (key i, record u { op = op i }) in
    let is = one_part u (take (get_or o 0 0) (drop 1 o)) (own (drop (get_or o 0 0) (drop 1 o)))
    (is_part u.op o c.in-Some.ensures.value
    (omega (arith, ap length bytes, c.if-bytes-lt1.false))
    (omega (arith, c.if-rest-long.false, ap length rest, ap (λ bs. get_or bs 0 0) bytes))) in
    on_ok c.absorb_under.result
    (λ e. e ∙ ap (with_part g.T.Absorbs.meaning (map_values g.T.Absorbs.state c.args.self.now.objects)) (same ∙ sym is))
    c.absorb_under.ensures.ok

pub returns-clause-full : goal.returns-clause-full
returns-clause-full g c =
    let u = c.args.update.now in
    let o = c.in-Some.own in
    let bytes = c.as_slice-bytes.ensures.bytes in
    let rest = c.behind-rest.ensures ∙ ap (drop 1) bytes in
    let key = c.split_at.ensures.front ∙ (λ i. take (get_or (bytes i) 0 0) (rest i)) in
    let op = c.in-Ok.ensures.ok ∙ ap own (c.split_at.ensures.back ∙ (λ i. drop (get_or (bytes i) 0 0) (rest i))) in
    let same : ◌≡◌ {A = Option Part} (Some (c.split_at.result.0.now, record u { op = c.in-Ok.op }))
    (Some (take (get_or o 0 0) (drop 1 o), record u { op = own (drop (get_or o 0 0) (drop 1 o)) })) =
    λ i. Some (key i, record u { op = op i }) in
    let is = one_part u (take (get_or o 0 0) (drop 1 o)) (own (drop (get_or o 0 0) (drop 1 o)))
    (is_part u.op o c.in-Some.ensures.value
    (omega (arith, ap length bytes, c.if-bytes-lt1.false))
    (omega (arith, c.if-rest-long.false, ap length rest, ap (λ bs. get_or bs 0 0) bytes))) in
    err_full c.absorb_under.result _ _
    (subst (part_full g.T.Absorbs.meaning g.T.Absorbs.full (map_values g.T.Absorbs.state c.args.self.now.objects))
    (same ∙ sym is)) c.absorb_under.ensures.full
