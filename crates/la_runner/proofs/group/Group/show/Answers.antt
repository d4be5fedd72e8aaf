use Rattle.std.proofs.Common.{map, ap, sym, ◌∙◌}
use Rattle.la_runner.specs.declared.group.Row.{Row}
use Rattle.la_runner.specs.Members.{GroupState}
use Rattle.la_runner.proofs.PassByPass.{shown_member, shown_more, shown_seen}
use Rattle.la_runner.proofs.Telling.{names_given}
use Rattle.la_runner.proofs.group.Group.show.Goals as goal

pub show_instances-requires-clause-sound : goal.show_instances-requires-clause-sound
show_instances-requires-clause-sound c i x at = (c.to.invariant.each i x at).0.sound

pub show_instances-requires-clause-from : goal.show_instances-requires-clause-from
show_instances-requires-clause-from c =
    names_given c.from.inside c.args.from.now c.args.self.now c.self.inside.rows.items c.from.view_is c.requires.from
    (ap (λ (g : GroupState). g.acceptors) c.self.view_is)
    ∙ ap (map (λ (r : Row). r.acceptors.items)) (sym c.deref.ensures.value)

pub show_instances-requires-clause-to : goal.show_instances-requires-clause-to
show_instances-requires-clause-to c =
    names_given c.to.inside c.args.to.now c.args.self.now c.self.inside.rows.items c.to.view_is c.requires.to
    (ap (λ (g : GroupState). g.acceptors) c.self.view_is)
    ∙ ap (map (λ (r : Row). r.acceptors.items)) (sym c.deref.ensures.value)

pub invariant_of-to : goal.invariant_of-to
invariant_of-to c =
    shown_member c.args.self.now c.from.inside c.to.inside c.args.from.now c.args.to.now c.from.view_is c.to.view_is
    c.to.invariant c.requires.from c.requires.to c.show_instances.new.to.items c.show_instances.ensures.met

pub returns-clause-more : goal.returns-clause-more
returns-clause-more c =
    shown_more c.args.self.now c.from.inside c.to.inside c.args.from.now c.args.to.now c.from.view_is c.to.view_is
    c.to.invariant c.requires.from c.requires.to c.show_instances.new.to.items c.show_instances.ensures.met

pub returns-clause-shown : goal.returns-clause-shown
returns-clause-shown c =
    shown_seen c.args.self.now c.from.inside c.to.inside c.args.from.now c.args.to.now c.from.view_is c.to.view_is
    c.to.invariant c.requires.from c.requires.to c.show_instances.new.to.items c.show_instances.ensures.met
