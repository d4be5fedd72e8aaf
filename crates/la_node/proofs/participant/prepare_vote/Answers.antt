use Rattle.std.proofs.Common.{◌+◌, ap, subst, sym, ◌∙◌}
use Rattle.std.proofs.lemmas.List.{map-append}
use Rattle.la_commit.specs.Instances.{commit_of}
use Rattle.la_commit.specs.Votes.{casts}
use Rattle.la_replica.specs.Whole.{whole_of, whole_mail}
use Rattle.la_replica.specs.Changes.{LeadsThere}
use Rattle.la_node.specs.declared.done.Voted.{Voted}
use Rattle.la_node.proofs.participant.prepare_vote.Goals as goal

pub returns : goal.returns
returns c =
    let sent = whole_mail c.in_ok-cast.cast.mail in
    let op = casts (commit_of c.args.instance) c.args.vote in
    record {
      sent = sent;
      last = ap whole_mail c.in_ok-voted.ensures.mail ∙ map-append whole_of c.args.mail c.in_ok-cast.cast.mail;
      leads =
          subst (λ (v : Voted). LeadsThere c.args.replica.now (c.args.instance + 1) op (record { said = v.said; mail = sent }) c.in_ok-cast.change)
          (sym c.in_ok-voted.ensures.voted) c.in_ok-cast.ensures.leads;
      added = c.in_ok-cast.cast.mail;
      adds = c.in_ok-voted.ensures.mail;
      told = c.in_ok-cast.ensures.told;
      voted_in = ap (λ (v : Voted). v.instance) c.in_ok-voted.ensures.voted;
      changes = c.in_ok-cast.ensures.change;
    }
