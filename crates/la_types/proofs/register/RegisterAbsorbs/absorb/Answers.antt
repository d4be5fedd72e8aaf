use Rattle.std.proofs.Common.{◌≡◌, Option, Some, drop, length, ap, sym, ◌∙◌, arith}
use Rattle.std.specs.Int.{w64, from_le_bytes}
use Rattle.la_types.specs.declared.write.Write.{Write}
use Rattle.la_types.specs.Writes.{with_write}
use Rattle.la_types.proofs.WriteBytes.{not_own, too_short, is_write}
use Rattle.la_types.proofs.register.RegisterAbsorbs.absorb.Goals as goal

pub returns-in_default-clause-ok : goal.returns-in_default-clause-ok
returns-in_default-clause-ok c =
    let u = c.args.update.now in
    ap (with_write c.args.self.now.last) (sym (not_own u.id u.op (sym c.in_default.is ∙ c.own_bytes.ensures.value)))

pub returns-then-bytes-lt8-clause-ok : goal.returns-then-bytes-lt8-clause-ok
returns-then-bytes-lt8-clause-ok c =
    let u = c.args.update.now in
    ap (with_write c.args.self.now.last)
    (sym (too_short u.id u.op c.in-Some.own c.in-Some.ensures.value (omega
    (arith, ap length c.as_slice-bytes.ensures.bytes, c.if-bytes-lt8.true))))

pub returns-clause-ok : goal.returns-clause-ok
returns-clause-ok c =
    let u = c.args.update.now in
    let bytes = c.as_slice-bytes.ensures.bytes in
    let same : ◌≡◌ {A = Option Write} (Some
    (record { stamp = c.stamp_in.result; id = u.id; value = c.behind.result.now }))
    (Some (record { stamp = from_le_bytes w64 c.in-Some.own; id = u.id; value = drop 8 c.in-Some.own })) =
    λ i. Some (record {
      stamp = (c.stamp_in.ensures
          ∙ ap (from_le_bytes w64) bytes) i;
      id = u.id;
      value = (c.behind.ensures ∙ ap (drop 8) bytes) i;
    }) in
    c.in_ok-take.ensures.ok
    ∙ ap (with_write c.args.self.now.last)
    (same ∙ sym (is_write u.id u.op c.in-Some.own c.in-Some.ensures.value (omega
    (arith, ap length bytes, c.if-bytes-lt8.false))))
