use Rattle.std.proofs.Common.{◌<◌, ◌^◌, max, arith}
use Rattle.la_tick.proofs.Doubling.{doubles}
use Rattle.la_tick.proofs.pace.Pace.after_tick.Goals as goal

pub returns-clause-now : goal.returns-clause-now
returns-clause-now c ticks is =
    let fits : max c.args.self.first 60000 < 2 ^ 64 = omega (arith, c.max-most.ensures, c.max-most.type_inv) in
    rw (c.min.ensures, c.saturating_mul.ensures, c.max-most.ensures)
    (doubles c.args.self.first ticks c.args.self.now fits is)
