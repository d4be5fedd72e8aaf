use Rattle.std.proofs.Common.{◌≡◌, Bool, true, false, Result, Ok, Err, OnErr, refl, ap, sym, ◌∙◌, rules}
use Rattle.std.proofs.lemmas.Bool.{false≢true}
use Rattle.la_io.specs.declared.source.SourceFault.{SourceFault}
use Rattle.la_io.specs.Sources.{pending}
use Rattle.la_io.proofs.Sources.{at_end, at_line, goes_on, gathers_read}
use Rattle.la_io.proofs.source.Source.next.Goals as goal

on_err : {T E A : Type 0} (r : Result T E) → A → OnErr r A
on_err (Ok x) a = tt
on_err (Err e) a = a

-- what was read of a line is lost with it
pub returns-in_err-ready-clause-lost : goal.returns-in_err-ready-clause-lost
returns-in_err-ready-clause-lost g c =
    let so = gathers_read _ _ _ c.loop.is_long c.loop.self.line.items c.loop.invariant.so_far
    c.in_err-ready.ensures.read in
    on_err c.from_residual.result (so.got, so.read)

apart : (b : Bool) → ◌≡◌ {A = Result Bool SourceFault} (Ok b) (Ok false) → b ≡ true → ⊥
apart true e is = absurd cc
apart false e is = absurd cc

pub returns-then-not-branch-clause-next : goal.returns-then-not-branch-clause-next
returns-then-not-branch-clause-next g c =
    let over : c.ready.new.self.over ≡ true = search rules in
    at_end _ _ _ c.loop.is_long c.loop.self.line.items c.ready.new.self.line.items c.loop.invariant.so_far
    c.in_ok-ready.ensures.read (ap (λ v. v.items) c.in_ok-ready.ensures.line) _ (c.in_ok-ready.ensures.over over)
    c.last.ensures

pub returns-then-taken-clause-next : goal.returns-then-taken-clause-next
returns-then-taken-clause-next g c =
    at_line _ _ _ c.loop.is_long c.loop.self.line.items c.ready.new.self.line.items c.loop.invariant.so_far
    c.in_ok-ready.ensures.read (ap (λ v. v.items) c.in_ok-ready.ensures.line)
    (g.R.Read.remaining c.ready.new.reader) (pending c.ready.new.self) (pending c.take.new.self) _ refl _
    c.in-Ok.ensures.part _ c.if-taken.true c.of_line.ensures

pub loop-preserved : goal.loop-preserved
loop-preserved g c =
    let some : c.ready.new.self.over ≡ false = search rules in
    record {
      so_far =
          goes_on _ _ _ c.loop.is_long c.loop.self.line.items c.ready.new.self.line.items c.loop.invariant.so_far
          c.in_ok-ready.ensures.read (ap (λ v. v.items) c.in_ok-ready.ensures.line)
          (g.R.Read.remaining c.ready.new.reader) (pending c.ready.new.self) (pending c.take.new.self) _ refl _
          c.in-Ok.ensures.part c.if-taken.false;
      over = λ e. absurd (false≢true (sym (c.in-Ok.ensures.over ∙ some) ∙ e));
      end =
          λ e.
          absurd
          (apart c.in_ok-ready.field-0 (c.in_ok-ready.ensures.still (c.loop.invariant.end e).1) c.if-not-branch.false);
    }
