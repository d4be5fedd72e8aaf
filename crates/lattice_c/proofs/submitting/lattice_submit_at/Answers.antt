use Rattle.std.proofs.Common.{◌≡◌, inl, inr, subst, rules}
use Rattle.la_proposer.specs.ProposerState.{op_on}
use Rattle.la_embed.specs.Hosts.{HostState}
use Rattle.la_embed.specs.Numbers.{IsNumberRefusal}
use Rattle.lattice_c.proofs.submitting.lattice_submit_at.Goals as goal

pub returns-in-Err-submit_at : goal.returns-in-Err-submit_at
returns-in-Err-submit_at c =
    let refused = c.in-Err-submit_at.refused in
    let does = op_on c.args.object c.in-Ok.op in
    let before : c.inner-2.result.now.host ≡ c.args.handle.now.host.host = search rules in
    let same : c.submit_at.new.self ≡ c.args.handle.now.host.host = search rules in
    inl (
      c.in-Ok.op,
      c.in-Ok.ensures,
      inr (
        same,
        inr (
          refused,
          subst (λ (h : HostState). IsNumberRefusal h c.args.number does refused) before
              c.in-Err-submit_at.ensures.error,
          c.status_of_number.ensures,
        ),
      ),
    )
