use Rattle.std.proofs.Common.{Some, true, false, drop, ap, sym, ◌∙◌}
use Rattle.la_types.specs.Elements.{first_byte_is}
use Rattle.la_types.specs.TwoPhaseSets.{with_insertion, with_removal}
use Rattle.la_types.proofs.ElementBytes.{no_bytes, by_first, not_both}
use Rattle.la_types.proofs.two_phase_set.TwoPhaseSetAbsorbs.absorb.Goals as goal

pub returns-in_default-clause-ok : goal.returns-in_default-clause-ok
returns-in_default-clause-ok c =
    let s = c.args.self.now.state in
    let op = c.args.update.now.op in
    let none = sym c.in_default.is ∙ c.own_bytes.ensures.value in
    λ i. with_removal (with_insertion s (sym (no_bytes 1 op none) i)) (sym (no_bytes 2 op none) i)

pub returns-then-begins_with-clause-ok : goal.returns-then-begins_with-clause-ok
returns-then-begins_with-clause-ok c =
    let s = c.args.self.now.state in
    let op = c.args.update.now.op in
    let own = c.in-Some.own in
    let bytes = c.as_slice-bytes.ensures.bytes in
    let is = sym (c.begins_with.ensures ∙ ap (λ bs. first_byte_is bs 1) bytes) ∙ c.if-begins_with.true in
    let in_by = by_first 1 op own true c.in-Some.ensures.value is in
    let out_by = by_first 2 op own false c.in-Some.ensures.value (not_both own is) in
    c.in_ok-let_in.ensures.ok
    ∙ ap (λ e. with_insertion s (Some e)) (c.behind.ensures ∙ ap (drop 1) bytes)
    ∙ (λ i. with_removal (with_insertion s (sym in_by i)) (sym out_by i))

pub returns-in_ok-take_out-clause-ok : goal.returns-in_ok-take_out-clause-ok
returns-in_ok-take_out-clause-ok c =
    let s = c.args.self.now.state in
    let op = c.args.update.now.op in
    let own = c.in-Some.own in
    let bytes = c.as_slice-bytes.ensures.bytes in
    let not = sym (c.begins_with.ensures ∙ ap (λ bs. first_byte_is bs 1) bytes) ∙ c.if-begins_with.false in
    let is = sym (c.begins_with-2.ensures ∙ ap (λ bs. first_byte_is bs 2) bytes) ∙ c.if-begins_with-2.true in
    let in_by = by_first 1 op own false c.in-Some.ensures.value not in
    let out_by = by_first 2 op own true c.in-Some.ensures.value is in
    c.in_ok-take_out.ensures.ok
    ∙ ap (λ e. with_removal s (Some e)) (c.behind-then-begins_with-2.ensures ∙ ap (drop 1) bytes)
    ∙ (λ i. with_removal (with_insertion s (sym in_by i)) (sym out_by i))

pub returns-else-begins_with-2-clause-ok : goal.returns-else-begins_with-2-clause-ok
returns-else-begins_with-2-clause-ok c =
    let s = c.args.self.now.state in
    let op = c.args.update.now.op in
    let own = c.in-Some.own in
    let bytes = c.as_slice-bytes.ensures.bytes in
    let not = sym (c.begins_with.ensures ∙ ap (λ bs. first_byte_is bs 1) bytes) ∙ c.if-begins_with.false in
    let nor = sym (c.begins_with-2.ensures ∙ ap (λ bs. first_byte_is bs 2) bytes) ∙ c.if-begins_with-2.false in
    let in_by = by_first 1 op own false c.in-Some.ensures.value not in
    let out_by = by_first 2 op own false c.in-Some.ensures.value nor in
    λ i. with_removal (with_insertion s (sym in_by i)) (sym out_by i)
