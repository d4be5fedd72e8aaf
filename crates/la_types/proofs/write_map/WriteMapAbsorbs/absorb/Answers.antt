use Rattle.std.proofs.Common.{◌≡◌, Option, Some, take, drop, get_or, length, ap, sym, ◌∙◌, arith}
use Rattle.std.specs.Int.{w64, from_le_bytes}
use Rattle.la_types.specs.Keyed.{Keyed, with_keyed}
use Rattle.la_types.proofs.KeyedBytes.{not_own, too_short, too_long_key, is_keyed}
use Rattle.la_types.proofs.write_map.WriteMapAbsorbs.absorb.Goals as goal

pub returns-in_default-clause-ok : goal.returns-in_default-clause-ok
returns-in_default-clause-ok c =
    let u = c.args.update.now in
    ap (with_keyed c.args.self.now.last) (sym (not_own u.id u.op (sym c.in_default.is ∙ c.own_bytes.ensures.value)))

pub returns-then-bytes-lt9-clause-ok : goal.returns-then-bytes-lt9-clause-ok
returns-then-bytes-lt9-clause-ok c =
    let u = c.args.update.now in
    let bytes = c.as_slice-bytes.ensures.bytes in
    ap (with_keyed c.args.self.now.last)
    (sym (too_short u.id u.op c.in-Some.own c.in-Some.ensures.value (omega
    (arith, ap length bytes, c.if-bytes-lt9.true))))

pub returns-then-rest-long-clause-ok : goal.returns-then-rest-long-clause-ok
returns-then-rest-long-clause-ok c =
    let u = c.args.update.now in
    let bytes = c.as_slice-bytes.ensures.bytes in
    let rest = c.behind-rest.ensures ∙ ap (drop 9) bytes in
    ap (with_keyed c.args.self.now.last)
    (sym (too_long_key u.id u.op c.in-Some.own c.in-Some.ensures.value
    (omega (arith, ap length bytes, c.if-bytes-lt9.false))
    (omega (arith, c.if-rest-long.true, ap length rest, ap (λ bs. get_or bs 8 0) bytes))))

pub returns-clause-ok : goal.returns-clause-ok
returns-clause-ok c =
    let u = c.args.update.now in
    let own = c.in-Some.own in
    let bytes = c.as_slice-bytes.ensures.bytes in
    let rest = c.behind-rest.ensures ∙ ap (drop 9) bytes in
    let key : c.in_ok-key.key ≡ take (get_or own 8 0) (drop 9 own) =
    c.in_ok-key.ensures ∙ c.split_at.ensures.front ∙ (λ i. take (get_or (bytes i) 8 0) (rest i)) in
    let value : c.in_ok-of.field-0 ≡ drop (get_or own 8 0) (drop 9 own) =
    c.in_ok-of.ensures ∙ c.split_at.ensures.back ∙ (λ i. drop (get_or (bytes i) 8 0) (rest i)) in
    let stamp : c.stamp_in.result ≡ from_le_bytes w64 own = c.stamp_in.ensures ∙ ap (from_le_bytes w64) bytes in
    let same : ◌≡◌ {A = Option Keyed} (Some
    (c.in_ok-key.key, record { stamp = c.stamp_in.result; id = u.id; value = c.in_ok-of.field-0 }))
    (Some (
      take (get_or own 8 0) (drop 9 own),
      record {
        stamp =
            from_le_bytes w64 own;
        id = u.id;
        value = drop (get_or own 8 0) (drop 9 own);
      },
    )) =
    λ i. Some (key i, record { stamp = stamp i; id = u.id; value = value i }) in
    c.in_ok-take.ensures.ok
    ∙ ap (with_keyed c.args.self.now.last)
    (same
    ∙ sym (is_keyed u.id u.op own c.in-Some.ensures.value
    (omega (arith, ap length bytes, c.if-bytes-lt9.false))
    (omega (arith, c.if-rest-long.false, ap length rest, ap (λ bs. get_or bs 8 0) bytes))))
