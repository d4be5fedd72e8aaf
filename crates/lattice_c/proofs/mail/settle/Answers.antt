use Rattle.std.proofs.Common.{◌∷◌, subst}
use Rattle.la_embed.specs.Receiving.{BringsOwn, own_first}
use Rattle.lattice_c.proofs.mail.settle.Goals as goal

pub loop-round-preserved : goal.loop-round-preserved
loop-round-preserved c =
    let before = c.loop-round.inner.host in
    let i = c.loop-round.invariant in (
      before ∷ i.0,
      (
        i.1,
        subst (λ b. BringsOwn before (own_first before.kept before.mail) b c.bring_own.new.self)
            c.if-not-bring_own.false c.bring_own.ensures,
      ),
    )
