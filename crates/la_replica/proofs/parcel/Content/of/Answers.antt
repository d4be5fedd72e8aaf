use Rattle.std.proofs.Common.{◌≡◌, sym, ap, subst, ◌∙◌}
use Rattle.la_set.specs.declared.counts.Counts.{Counts}
use Rattle.la_set.specs.Histories.{Histories}
use Rattle.la_set.specs.Counts.{HasCounts, counts_of}
use Rattle.la_replica.specs.Bases.{smaller}
use Rattle.la_set.specs.Deltas.{delta_over}
use Rattle.la_replica.specs.declared.parcel.Content.TheVariants.{Tell}
use Rattle.la_replica.specs.Parcels.{told_base, wrapped_body}
use Rattle.la_replica.proofs.lemmas.Parcelling.{told_base_has}
use Rattle.la_replica.proofs.parcel.Content.of.Goals as goal

-- the base over which it goes
base_is : (believed : Counts) (told : Histories) (own base : Counts) → own ≡ counts_of told
    → base ≡ smaller believed own → base ≡ told_base believed told
base_is believed told own base are is = is ∙ ap (smaller believed) are

pub over-requires : goal.over-requires
over-requires c =
    subst (HasCounts c.in-Tell.told)
    (sym (base_is c.args.believed c.in-Tell.told c.counts.result c.min.result c.counts.ensures.counts c.min.ensures))
    (told_base_has c.args.believed c.in-Tell.told)

pub returns-in_ok-over-in-Tell-clause-ok : goal.returns-in_ok-over-in-Tell-clause-ok
returns-in_ok-over-in-Tell-clause-ok c =
    let told = c.in-Tell.told in
    subst (λ b. Tell c.in_ok-over-in-Tell.field-0 ≡ wrapped_body c.args.believed b) (sym c.in-Tell.is)
    (ap Tell
    (c.in_ok-over-in-Tell.ensures
    ∙ ap (delta_over told)
    (base_is c.args.believed told c.counts.result c.min.result c.counts.ensures.counts c.min.ensures)))
