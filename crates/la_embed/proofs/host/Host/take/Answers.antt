use Rattle.std.proofs.Common.{◌≡◌, true, false, sym, subst, rules}
use Rattle.la_node.specs.declared.link.Links.{Links}
use Rattle.la_node.specs.Links.{wants_standing}
use Rattle.la_wire.specs.Calls.{Receive}
use Rattle.la_wire.specs.Messages.{letter_message}
use Rattle.la_embed.specs.Hosts.{HostState, TakesCall}
use Rattle.la_embed.specs.Keepers.{state_kept, journal_in}
use Rattle.la_embed.specs.Receiving.{IsTaken, TakesLetter, is_for_host}
use Rattle.la_embed.proofs.host.Host.take.Goals as goal

pub returns-clause-ok : goal.returns-clause-ok
returns-clause-ok g c =
    let letter = c.args.letter in
    let after = c.act.new.self in
    let inside = c.self.inside in
    let kept = state_kept inside.keeper in
    let before : HostState = record {
      kept = kept;
      shelf = inside.shelf;
      links = inside.links;
      mail = inside.mail.items;
      lost = inside.lost;
      handed = inside.handed;
      journal = journal_in inside.keeper;
    } in
    let here : is_for_host kept letter.replicas letter.parcel.to ≡ true = search rules in
    let news : wants_standing kept letter.parcel ≡ false = search rules in
    let step = c.in_default.ensures.step in
    subst (λ (h : HostState). TakesLetter h letter after) c.self.view_is (record {
      here = here;
      taken =
          subst (λ b. IsTaken before letter b after) (sym news)
          (subst (λ (l : Links). TakesCall before l (Receive (letter_message letter)) after) c.hear.ensures (
            step.0,
            record {
              does = step.1.does;
              mail = step.1.mail;
              shelf = step.1.shelf;
              handed = step.1.handed;
              journal = step.1.journal;
            },
          ));
    })
