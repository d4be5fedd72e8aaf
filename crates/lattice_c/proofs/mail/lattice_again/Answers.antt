use Rattle.std.proofs.Common.{◌≡◌, inl, refl, ap, subst, ◌∙◌, rules}
use Rattle.la_embed.specs.Hosts.{HostState, IsPostedAgain, with_noted}
use Rattle.lattice_c.proofs.mail.lattice_again.Goals as goal

pub returns-in-Ok-clause-again : goal.returns-in-Ok-clause-again
returns-in-Ok-clause-again c =
    let host : c.inner.result.now.host ≡ c.args.handle.now.host.host = search rules in
    let new = c.again.new.self in
    inl (refl, subst (λ (h : HostState). IsPostedAgain h new.mail new.links) host c.in-Ok.ensures.ok)

pub returns-in-Ok-clause-same : goal.returns-in-Ok-clause-same
returns-in-Ok-clause-same c =
    let host : c.inner.result.now.host ≡ c.args.handle.now.host.host = search rules in
    let new = c.again.new.self in
    c.again.ensures.same ∙ ap (λ (h : HostState). with_noted h new.mail new.links) host
