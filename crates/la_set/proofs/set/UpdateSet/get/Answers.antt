use Rattle.std.proofs.Common.{◌-◌, ◌∙◌, ap, sym, arith}
use Rattle.std.specs.List.{slice_get}
use Rattle.la_set.proofs.lemmas.SetHistories.{count_past}
use Rattle.la_set.proofs.lemmas.Places.{numbered-get, get_zero, get_past}
use Rattle.la_set.proofs.set.UpdateSet.get.Goals as goal
use Rattle.la_set.proofs.set.UpdateSet.get.Goals.{then-id-eq0-via-then-id-eq0, then-id-eq0-via-else-id-eq0+then-id-ge-REPLICAS}

pub returns-then-id-eq0 : goal.returns-then-id-eq0
returns-then-id-eq0 c = elim c.then-id-eq0.branch [
  | then-id-eq0-via-then-id-eq0 w ↦ sym (get_zero c.args.self.now c.args.id w.if-id-eq0.true)
  | then-id-eq0-via-else-id-eq0+then-id-ge-REPLICAS w ↦ sym (get_past c.args.self.now c.args.id (omega (arith, count_past c.args.self.now c.args.id.replica w.if-id-ge-REPLICAS.true, w.if-id-eq0.false)))
]

pub returns : goal.returns
returns c =
    c.item_at.ensures ∙ ap (λ us. slice_get us (c.args.id.number - 1)) c.history_of.ensures.updates
    ∙ numbered-get c.args.self.now c.args.id (omega arith)
