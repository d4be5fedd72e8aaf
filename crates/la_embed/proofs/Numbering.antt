-- What stands under a number.
use Rattle.std.proofs.Common.{◌≡◌, ℕ, ◌<◌, option_map, refl, ap, ◌∙◌}
use Rattle.la_set.specs.Histories.{Histories, empty, get, object_op_number}
use Rattle.la_set.specs.ObjectOps.{update_of}
use Rattle.la_set.proofs.lemmas.SetHistories.{history-with_same}
use Rattle.la_proposer.specs.Inputs.{all_submitted}
use Rattle.la_proposer.specs.ProposerState.{ProposerState}
use Rattle.la_proposer.specs.Resuming.{submissions_of}

-- what stands under a number among what a proposer has submitted
pub stands_under : (p : ProposerState) → p.own < 8 → (s : Histories) (r number : ℕ) → s ≡ submissions_of p → r ≡ p.own
    → get s (record { replica = r; number = number })
    ≡ option_map (update_of p.own number) (object_op_number (all_submitted p) number)
stands_under p known s r number is own =
    ap (λ t. get t (record { replica = r; number = number })) is
    ∙ ap (λ o. get (submissions_of p) (record { replica = o; number = number })) own
    ∙ ap (λ ds. option_map (update_of p.own number) (object_op_number ds number))
    (history-with_same empty p.own (all_submitted p) p.own known refl)
