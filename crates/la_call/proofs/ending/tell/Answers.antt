use Rattle.std.proofs.Common.{List, ℕ, subst, sym, ap, option_map, rules, inl}
use Rattle.std.specs.Borrow.{Bor}
use Rattle.la_io.specs.Streams.{TellsLine}
use Rattle.la_call.specs.Ends.{TellsCallFault}
use Rattle.la_call.proofs.ending.tell.Goals as goal

pub returns-in-Some : goal.returns-in-Some
returns-in-Some g c =
    subst (TellsCallFault g.E.Write.contents g.E.Listener.refuses c.args.errors.now c.tell_file.new.errors c.args.fault)
    (sym (ap (option_map {T = Bor (List ℕ)} (λ p. p.now)) c.in-Some.is)) c.tell_file.ensures

pub returns-in-None : goal.returns-in-None
returns-in-None g c =
    let told : TellsLine g.E.Write.contents g.E.Listener.refuses c.args.errors.now c.tell_all.new.errors
    c.short_line.result.now = search rules in
    subst (TellsCallFault g.E.Write.contents g.E.Listener.refuses c.args.errors.now c.tell_all.new.errors c.args.fault)
    (sym (ap (option_map {T = Bor (List ℕ)} (λ p. p.now)) c.in-None.is))
    (inl
    (subst (TellsLine g.E.Write.contents g.E.Listener.refuses c.args.errors.now c.tell_all.new.errors)
    c.short_line.ensures told))
