use Rattle.std.proofs.Common.{length, ap, sym, ◌∙◌}
use Rattle.std.proofs.lemmas.Bool.{eqb-true, eq-eqb}
use Rattle.la_types.proofs.Kept.{none_kept, is_start}
use Rattle.la_types.proofs.counter_map.CounterState.is_empty.Goals as goal

pub returns : goal.returns
returns c =
    let ks = c.self.inside.kept.items in
    let same = ap length c.as_slice.ensures.value in (
      λ t. sym c.self.view_is ∙ is_start ks (sym same ∙ eqb-true _ _ (sym c.is_empty.ensures ∙ t)),
      λ e. c.is_empty.ensures ∙ eq-eqb _ _ (same ∙ none_kept ks c.self.invariant.2 (c.self.view_is ∙ e)),
    )
