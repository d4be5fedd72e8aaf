use Rattle.std.proofs.Common.{◌∙◌, Some, ap, sym, subst}
use Rattle.la_node.specs.Steps.{Given, given_of}
use Rattle.la_wire.specs.Calls.{called}
use Rattle.la_embed.specs.Journals.{JournalsCall}
use Rattle.la_embed.specs.Keepers.{state_kept, journal_in}
use Rattle.la_embed.specs.Hosts.{HostState, IsHostStep, IsPosted}
use Rattle.la_embed.proofs.Growing.{acts_grow}
use Rattle.la_embed.proofs.host.Host.act.Goals as goal

pub invariant_of-self-2 : goal.invariant_of-self-2
invariant_of-self-2 g c = record {
  absorbed =
      λ u has.
      acts_grow (state_kept c.self.inside.keeper) (called c.args.call)
      (given_of c.in_ok-done.field-0, state_kept c.act.new.self)
      c.in_ok-done.ensures.acts u (c.self.invariant.absorbed u has);
  journaled = c.act.ensures.journaled;
}

pub returns-clause-step : goal.returns-clause-step
returns-clause-step g c =
    subst (λ (h : HostState). (x : Given) × IsHostStep h h.links (called c.args.call) x c.post.new.self)
    c.self.view_is (
      given_of c.in_ok-done.field-0,
      record {
        does =
            c.in_ok-done.ensures.acts
            ∙ ap (λ (h : HostState). Some (given_of c.in_ok-done.field-0, h.kept)) (sym c.post.ensures.same);
        mail =
            let sent = c.in_ok-done.field-0.done.mail in
            let new = c.post.new.self in
            subst (λ kept. IsPosted c.self.inside.links kept sent c.self.inside.mail.items new.mail new.links
            c.self.inside.lost new.lost)
            (sym (ap (λ (h : HostState). h.kept) c.post.ensures.same)) c.post.ensures.mail;
        shelf = ap (λ (h : HostState). h.shelf) c.post.ensures.same;
        handed = ap (λ (h : HostState). h.handed) c.post.ensures.same;
        journal =
            subst (λ (h : HostState). JournalsCall (state_kept c.self.inside.keeper) (called c.args.call)
            (given_of c.in_ok-done.field-0) h.kept (journal_in c.self.inside.keeper) h.journal)
            (sym c.post.ensures.same) c.in_ok-done.ensures.line;
      },
    )
