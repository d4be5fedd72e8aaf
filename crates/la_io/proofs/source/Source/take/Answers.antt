use Rattle.std.proofs.Common.{◌-◌, take, drop, ap}
use Rattle.la_io.proofs.Parts.{part_taken}
use Rattle.la_io.proofs.source.Source.take.Goals as goal

pub returns-clause-part : goal.returns-clause-part
returns-clause-part c got so =
    let start = c.args.self.now.start in
    let end = c.args.self.now.end in (
      _,
      part_taken c.args.self.now.chunk _ start end _ _ _ c.args.self.now.order
          (ap (λ xs. take (end - start) (drop start xs)) c.as_slice-chunk.ensures) c.first_end-count.ensures.part,
      c.in_ok-long.ensures.kept got so,
    )
