use Rattle.std.proofs.Common.{◌≡◌, ap, subst, ◌∙◌, rules}
use Rattle.la_node.specs.declared.link.Links.{Links}
use Rattle.la_node.specs.declared.link.Sending.TheVariants as sending
use Rattle.la_node.specs.Links.{asked_with, letters_sent}
use Rattle.la_replica.specs.Again.{again}
use Rattle.la_replica.specs.Progress.{progress_of}
use Rattle.la_replica.specs.Whole.{whole_mail}
use Rattle.la_embed.specs.Hosts.{HostState, IsPostedAgain, IsSent}
use Rattle.la_embed.specs.Keepers.{state_kept}
use Rattle.la_embed.proofs.host.Host.again.Goals as goal

pub returns-clause-ok : goal.returns-clause-ok
returns-clause-ok g c =
    let new = c.send.new.self in
    let inside = c.self.inside in
    let kept = state_kept inside.keeper in
    let mail = c.in_ok-mail.mail in
    let far : c.progress.result ≡ progress_of kept = search rules in
    let asked : c.asked-self-inside.result ≡ asked_with inside.links (progress_of kept) =
    c.asked-self-inside.ensures ∙ ap (asked_with inside.links) far in
    let whole : whole_mail mail ≡ again kept = search rules in
    subst (λ (h : HostState). IsPostedAgain h new.mail new.links) c.self.view_is (
      mail,
      whole,
      (λ offered. search rules),
      subst
          (λ (l : Links).
          IsSent l kept.own (letters_sent l kept sending.Timer mail) inside.mail.items new.mail new.links)
          asked c.in_default.ensures.ok,
    )
