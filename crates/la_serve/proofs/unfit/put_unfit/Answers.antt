use Rattle.std.proofs.Common.{◌≡◌, ◌∙◌, ◌++◌, ℕ, List, ap, append_assoc, codes, sym}
use Rattle.std.proofs.lemmas.Result.{on_ok_weaker}
use Rattle.std.specs.Fmt.{decimal}
use Rattle.la_serve.specs.Unfit.{unfit_text}
use Rattle.la_serve.proofs.UnfitTexts.{put_behind}
use Rattle.la_serve.proofs.unfit.put_unfit.Goals as goal

pub returns-in_ok-put_decimal-in-Votes-2 : goal.returns-in_ok-put_decimal-in-Votes-2
returns-in_ok-put_decimal-in-Votes-2 c =
    let line = c.args.line.now.items in
    let name = codes "--votes: " in
    let counts = decimal c.in-Votes.counts in
    let between = codes " counts for " in
    let replicas = decimal c.in-Votes.replicas in
    let end = codes " replicas" in
    let counted : c.put_decimal.new.line.items ≡ (line ++ name) ++ counts =
    c.in_ok-put_decimal-in-Votes.ensures
    ∙ ap (λ (t : List ℕ). t ++ counts) c.in_ok-extend_from_slice-in-Votes.ensures.items in
    let front : c.put_decimal-in-Votes.new.line.items ≡ (((line ++ name) ++ counts) ++ between) ++ replicas =
    c.in_ok-put_decimal-in-Votes-2.ensures
    ∙ (λ i. (c.in_ok-extend_from_slice-in-Votes-2.ensures.items ∙ ap (λ (t : List ℕ). t ++ between) counted) i
    ++ decimal (c.from.ensures i)) in
    on_ok_weaker c.extend_from_slice-in-Votes-2.result
    (λ is.
    is ∙ ap (λ (t : List ℕ). t ++ end) front
    ∙ append_assoc (((line ++ name) ++ counts) ++ between) replicas end
    ∙ append_assoc ((line ++ name) ++ counts) between (replicas ++ end)
    ∙ append_assoc (line ++ name) counts (between ++ (replicas ++ end))
    ∙ append_assoc line name (counts ++ (between ++ (replicas ++ end)))
    ∙ ap (λ (t : List ℕ). line ++ t) (sym (ap unfit_text c.in-Votes.is)))
    (put_behind c.extend_from_slice-in-Votes-2.result _ _ _ c.extend_from_slice-in-Votes-2.ensures.items)
