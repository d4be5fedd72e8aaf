use Rattle.std.proofs.Common.{◌≡◌, Some, drop, set, length, ap, sym, ◌∙◌, arith}
use Rattle.la_types.specs.declared.multi.MultiState.{MultiState}
use Rattle.la_types.specs.Seen.{seen_by_either}
use Rattle.la_types.specs.Bytes.{counts_in}
use Rattle.la_types.specs.Multis.{multi_step}
use Rattle.la_types.proofs.MultiBytes.{not_own, too_short, is_multi}
use Rattle.la_types.proofs.multi.MultiRegisterAbsorbs.absorb.Goals as goal

pub returns-in_default-clause-ok : goal.returns-in_default-clause-ok
returns-in_default-clause-ok c =
    let u = c.args.update.now in
    ap (multi_step c.args.self.now.state u.id) (sym (not_own u.op (sym c.in_default.is ∙ c.own_bytes.ensures.value)))

pub returns-then-bytes-lt32-clause-ok : goal.returns-then-bytes-lt32-clause-ok
returns-then-bytes-lt32-clause-ok c =
    let u = c.args.update.now in
    ap (multi_step c.args.self.now.state u.id)
    (sym (too_short u.op c.in-Some.own c.in-Some.ensures.value (omega
    (arith, ap length c.as_slice-bytes.ensures.bytes, c.if-bytes-lt32.true))))

pub returns-clause-ok : goal.returns-clause-ok
returns-clause-ok c =
    let u = c.args.update.now in
    let s = c.args.self.now.state in
    let own = c.in-Some.own in
    let bytes = c.as_slice-bytes.ensures.bytes in
    let value : c.in_ok-value.value ≡ drop 32 own = c.in_ok-value.ensures ∙ c.behind.ensures ∙ ap (drop 32) bytes in
    let last = c.put.ensures
    ∙ ap (λ v. set s.last u.id.replica (Some (record { number = u.id.number; value = v }))) value in
    let seen = c.max-self.ensures ∙ ap (seen_by_either s.seen) (c.counts_in.ensures ∙ ap counts_in bytes) in
    let same : ◌≡◌ {A = MultiState} (record { last = c.put.new.self; seen = c.max-self.result })
    (multi_step s u.id (Some (counts_in own, drop 32 own))) = λ i. record { last = last i; seen = seen i } in
    same ∙ ap (multi_step s u.id) (sym (is_multi u.op own c.in-Some.ensures.value (omega
    (arith, ap length bytes, c.if-bytes-lt32.false))))
