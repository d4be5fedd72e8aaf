use Rattle.std.proofs.Common.{Some, true, false, drop, ap, sym, ◌∙◌}
use Rattle.la_types.specs.Elements.{first_byte_is}
use Rattle.la_types.specs.GrowSets.{grown_by}
use Rattle.la_types.proofs.ElementBytes.{no_bytes, by_first}
use Rattle.la_types.proofs.grow_set.GrowSetAbsorbs.absorb.Goals as goal

pub returns-in_default-clause-ok : goal.returns-in_default-clause-ok
returns-in_default-clause-ok c =
    ap (grown_by c.args.self.now.elements) (sym (no_bytes 1 c.args.update.now.op (sym c.in_default.is
    ∙ c.own_bytes.ensures.value)))

pub returns-then-not-begins_with-clause-ok : goal.returns-then-not-begins_with-clause-ok
returns-then-not-begins_with-clause-ok c =
    let not = sym (c.begins_with.ensures ∙ ap (λ bs. first_byte_is bs 1) c.as_slice-bytes.ensures.bytes)
    ∙ c.if-not-begins_with.true in
    ap (grown_by c.args.self.now.elements)
    (sym (by_first 1 c.args.update.now.op c.in-Some.own false c.in-Some.ensures.value not))

pub returns-clause-ok : goal.returns-clause-ok
returns-clause-ok c =
    let s = c.args.self.now.elements in
    let bytes = c.as_slice-bytes.ensures.bytes in
    let is = sym (c.begins_with.ensures ∙ ap (λ bs. first_byte_is bs 1) bytes) ∙ c.if-not-begins_with.false in
    c.in_ok-insert.ensures.ok
    ∙ ap (λ e. grown_by s (Some e)) (c.behind.ensures ∙ ap (drop 1) bytes)
    ∙ ap (grown_by s) (sym (by_first 1 c.args.update.now.op c.in-Some.own true c.in-Some.ensures.value is))
