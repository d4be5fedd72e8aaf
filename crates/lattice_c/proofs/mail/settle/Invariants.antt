use Rattle.std.proofs.Common.{List}
use Rattle.la_embed.specs.Hosts.{HostState}
use Rattle.lattice_c.specs.Calls.{AreBrought}
use Rattle.lattice_c.proofs.mail.settle.Given as goal

abbrev pub invariant-loop-round : goal.invariant-loop-round
invariant-loop-round l = (states : List HostState) × AreBrought states l.initial.inner.host l.inner.host
