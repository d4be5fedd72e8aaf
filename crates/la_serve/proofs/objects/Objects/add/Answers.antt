use Rattle.std.proofs.Common.{rules, arith, ◌≡◌, ◌∙◌, sym, ap, ap₂, Bool, ◌&&◌, ◌+◌, ◌≤◌, true, false, take, length}
use Rattle.std.proofs.Common.{◌++◌, [], ◌∷◌}
use Rattle.std.specs.Prelude.{slice_set}
use Rattle.std.proofs.lemmas.Grind.{common_steps}
use Rattle.std.proofs.lemmas.List.{take_more_set}
use Rattle.std.specs.Option.{is_none}
use Rattle.la_object.specs.Shelves.{kind_at}
use Rattle.la_serve.specs.Objects.{have_own_numbers}
use Rattle.la_serve.proofs.OwnNumbers.{none_fits, one_fits, own_numbers_end, taken_fits_not}
use Rattle.la_serve.proofs.objects.Objects.add.Goals as goal

pub returns-then-len-eq-ROOM-clause-not : goal.returns-then-len-eq-ROOM-clause-not
returns-then-len-eq-ROOM-clause-not c =
    none_fits c.args.self.now c.args.number c.args.kind (sym c.len.ensures.len ∙ c.if-len-eq-ROOM.true)

pub returns-then-is_some-clause-not : goal.returns-then-is_some-clause-not
returns-then-is_some-clause-not c =
    let taken : is_none (kind_at c.args.self.now c.args.number) ≡ false = search rules in
    taken_fits_not c.args.self.now c.args.number c.args.kind taken

pub invariant_of-self : goal.invariant_of-self
invariant_of-self c =
    let new : is_none (kind_at c.args.self.now c.args.number) ≡ true = search rules in
    let own : have_own_numbers c.args.self.now ≡ true = search rules in
    let both : have_own_numbers (c.args.self.now ++ (c.args.number, c.args.kind) ∷ []) ≡ true =
    own_numbers_end c.args.self.now c.args.number c.args.kind ∙ ap₂ (λ (a b : Bool). a && b) own new in
    let rows : length c.self.inside.rows ≡ 64 = search rules in
    let fits = c.self.invariant.0 in
    let long : length c.args.self.now ≡ c.self.inside.len =
    ap length (sym c.self.view_is)
    ∙ (let known : c.self.inside.len ≤ length c.self.inside.rows = omega (arith, rows, fits) in
    grind (arith, common_steps)) in
    let room : c.self.inside.len + 1 ≤ 64 = omega (arith, c.len.ensures.len, c.if-len-eq-ROOM.false, long, fits) in
    let taken : take (c.self.inside.len + 1) (slice_set c.self.inside.rows c.self.inside.len (c.args.number, c.args.kind))
    ≡ c.args.self.now ++ (c.args.number, c.args.kind) ∷ [] =
    take_more_set c.self.inside.rows c.self.inside.len (c.args.number, c.args.kind) (omega (arith, rows, room))
    ∙ ap (λ os. os ++ (c.args.number, c.args.kind) ∷ []) c.self.view_is in
    (room, ap have_own_numbers taken ∙ both)

pub returns-clause-fits : goal.returns-clause-fits
returns-clause-fits c =
    let new : is_none (kind_at c.args.self.now c.args.number) ≡ true = search rules in
    let own : have_own_numbers c.args.self.now ≡ true = search rules in
    one_fits c.args.self.now c.args.number c.args.kind (omega (arith, c.len.ensures, c.if-len-eq-ROOM.false)) own new
