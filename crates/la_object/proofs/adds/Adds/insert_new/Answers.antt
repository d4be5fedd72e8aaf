use Rattle.std.proofs.Common.{◌≡◌, Some, None, not, is_some, if◌then◌else◌, sym, ap, ◌∙◌}
use Rattle.std.specs.FinMap as map
use Rattle.la_object.proofs.lemmas.IdOrder.{id_cmp_total, id_cmp-IsAntisymmetric}
use Rattle.la_object.proofs.lemmas.Sorted.{get-lookup, one_put}
use Rattle.la_object.proofs.lemmas.IdMaps.{put_back}
use Rattle.la_object.proofs.adds.Adds.insert_new.Goals as goal

pub returns-in-None-clause-ok : goal.returns-in-None-clause-ok
returns-in-None-clause-ok c =
    let es = c.self.inside.puts.entries in let now = c.args.self.now in let id = c.args.id in let x = c.args.element in
    let none : map.get now id ≡ None =
    ap (λ m. map.get m id) (sym c.self.view_is) ∙ get-lookup id_cmp_total es id ∙ sym c.in_ok-insert.ensures.old
    ∙ c.in-None.is in
    one_put id_cmp_total id_cmp-IsAntisymmetric es c.insert.new.self.entries id x c.in_ok-insert.ensures.updates.0
    ∙ ap (λ m. map.insert m id x) c.self.view_is
    ∙ sym (ap (λ o. if is_some o then now else map.insert now id x) none)

pub returns-in-None-clause-new : goal.returns-in-None-clause-new
returns-in-None-clause-new c =
    let none : map.get c.args.self.now c.args.id ≡ None =
    ap (λ m. map.get m c.args.id) (sym c.self.view_is)
    ∙ get-lookup id_cmp_total c.self.inside.puts.entries c.args.id ∙ sym c.in_ok-insert.ensures.old
    ∙ c.in-None.is in
    sym (ap (λ o. not (is_some o)) none)

pub returns-in_ok-insert-in-Some-clause-ok : goal.returns-in_ok-insert-in-Some-clause-ok
returns-in_ok-insert-in-Some-clause-ok c =
    let es =
    c.self.inside.puts.entries in let now = c.args.self.now in let id = c.args.id in let x = c.args.element in let was
    = c.in-Some.was in
    let there : map.get now id ≡ Some was =
    ap (λ m. map.get m id) (sym c.self.view_is) ∙ get-lookup id_cmp_total es id ∙ sym c.in_ok-insert.ensures.old
    ∙ c.in-Some.is in
    one_put id_cmp_total id_cmp-IsAntisymmetric c.insert.new.self.entries c.insert-in-Some.new.self.entries id was
    c.in_ok-insert-in-Some.ensures.updates.0
    ∙ ap (λ m. map.insert m id was)
    (one_put id_cmp_total id_cmp-IsAntisymmetric es c.insert.new.self.entries id x c.in_ok-insert.ensures.updates.0
    ∙ ap (λ m. map.insert m id x) c.self.view_is)
    ∙ put_back now id x was there
    ∙ sym (ap (λ o. if is_some o then now else map.insert now id x) there)

pub returns-in_ok-insert-in-Some-clause-new : goal.returns-in_ok-insert-in-Some-clause-new
returns-in_ok-insert-in-Some-clause-new c =
    let there : map.get c.args.self.now c.args.id ≡ Some c.in-Some.was =
    ap (λ m. map.get m c.args.id) (sym c.self.view_is)
    ∙ get-lookup id_cmp_total c.self.inside.puts.entries c.args.id ∙ sym c.in_ok-insert.ensures.old
    ∙ c.in-Some.is in
    sym (ap (λ o. not (is_some o)) there)
