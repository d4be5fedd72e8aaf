use Rattle.std.proofs.Common.{true, false, refl, ap, sym, ◌∙◌, subst}
use Rattle.la_orset.specs.Index.{IsIndex}
use Rattle.la_orset.specs.Rows.{known_row}
use Rattle.la_orset.specs.Puts.{adds_of, gone_of}
use Rattle.la_orset.proofs.LiveTags.{either_way}
use Rattle.la_orset.proofs.Absorbed.{there_adds, adds_none, put_adds, put_gone_same, put_gone_early, index_early, index_live, index_back, no_tag}
use Rattle.la_orset.proofs.or_set.OrSet.put.Goals as goal

pub returns-then-has-clause-puts : goal.returns-then-has-clause-puts
returns-then-has-clause-puts c =
    there_adds c.args.self.now.puts c.args.id c.args.element (sym c.has.ensures ∙ c.if-has.true)

pub invariant_of-self : goal.invariant_of-self
invariant_of-self c =
    let s = c.args.self.now in let id = c.args.id in let k = known_row (record { number = id.number; gone = true; element = c.args.element }) in
    let new = sym c.has.ensures ∙ c.if-has.false in
    record {
      indexed =
          either_way c.insert.result _ _ (IsIndex (adds_of c.insert.new.self) (gone_of s.early c.insert.new.self) s.live)
          c.insert.ensures.ok c.insert.ensures.err
          (λ is.
          subst (λ p. IsIndex (adds_of p) (gone_of s.early p) s.live) (sym is)
          (index_early s.puts id k new s.early s.live s.indexed (sym c.has-2.ensures ∙ c.if-has-2.true)))
          (λ is. subst (λ p. IsIndex (adds_of p) (gone_of s.early p) s.live) (sym is) s.indexed);
    }

pub returns-then-has-2-clause-puts : goal.returns-then-has-2-clause-puts
returns-then-has-2-clause-puts c =
    let s = c.args.self.now in let id = c.args.id in let k = known_row (record { number = id.number; gone = true; element = c.args.element }) in
    ap adds_of c.in_ok-insert.ensures.ok ∙ put_adds s.puts id k (sym c.has.ensures ∙ c.if-has.false)

pub returns-then-has-2-clause-gone : goal.returns-then-has-2-clause-gone
returns-then-has-2-clause-gone c =
    let s = c.args.self.now in let id = c.args.id in let k = known_row (record { number = id.number; gone = true; element = c.args.element }) in
    ap (gone_of s.early) c.in_ok-insert.ensures.ok
    ∙ put_gone_early s.puts id k (sym c.has.ensures ∙ c.if-has.false) s.early (sym c.has-2.ensures ∙ c.if-has-2.true)

pub insert-requires-2 : goal.insert-requires-2
insert-requires-2 c =
    let s = c.args.self.now in let id = c.args.id in
    no_tag (adds_of s.puts) (gone_of s.early s.puts) id c.args.element s.live s.indexed (adds_none s.puts id (record { element = c.args.element; gone = false }) (sym c.has.ensures ∙ c.if-has.false))

pub invariant_of-self-in-Err : goal.invariant_of-self-in-Err
invariant_of-self-in-Err c =
    let s = c.args.self.now in let id = c.args.id in
    let none = adds_none s.puts id (record { element = c.args.element; gone = false }) (sym c.has.ensures ∙ c.if-has.false) in
    record {
      indexed = subst (λ p. IsIndex (adds_of p) (gone_of s.early p) c.remove.new.self) (sym c.in-Err.ensures.err)
          (index_back (adds_of s.puts) (gone_of s.early s.puts) id c.args.element s.live c.insert-2.new.self
          c.remove.new.self s.indexed none c.in_ok-place.ensures.ok c.remove.ensures);
    }

pub invariant_of-self-in_default : goal.invariant_of-self-in_default
invariant_of-self-in_default c =
    let s = c.args.self.now in let id = c.args.id in let k = known_row (record { number = id.number; gone = false; element = c.args.element }) in
    let new = sym c.has.ensures ∙ c.if-has.false in
    record {
      indexed = subst (λ p. IsIndex (adds_of p) (gone_of s.early p) c.insert-2.new.self) (sym c.in_default.ensures.ok)
          (index_live s.puts id k new s.early s.live s.indexed (sym c.has-2.ensures ∙ c.if-has-2.false)
          c.insert-2.new.self refl c.in_ok-place.ensures.ok);
    }

pub returns-clause-puts : goal.returns-clause-puts
returns-clause-puts c =
    let s = c.args.self.now in let id = c.args.id in let k = known_row (record { number = id.number; gone = false; element = c.args.element }) in
    ap adds_of c.in_default.ensures.ok ∙ put_adds s.puts id k (sym c.has.ensures ∙ c.if-has.false)

pub returns-clause-gone : goal.returns-clause-gone
returns-clause-gone c =
    let s = c.args.self.now in let id = c.args.id in let k = known_row (record { number = id.number; gone = false; element = c.args.element }) in
    ap (gone_of s.early) c.in_default.ensures.ok
    ∙ put_gone_same s.puts id k (sym c.has.ensures ∙ c.if-has.false) s.early refl
