-- The register is a lawful type.
use Rattle.std.proofs.Common.{◌≡◌, ◌≢◌, Some, None, refl, ap, sym, ◌∙◌}
use Rattle.la_set.specs.declared.update.Update.{Update}
use Rattle.la_shelf.specs.Meanings.{IsLawful}
use Rattle.la_types.specs.declared.write.Write.{Write}
use Rattle.la_types.specs.Writes.{value_in, write_of}
use Rattle.la_types.specs.Registers.{register_meaning, writes}
use Rattle.la_types.specs.WriteLaws.{write_swap, write_of-id, fold_writes, last_is}

pub differ : (u v : Update) → u.id.replica ≢ v.id.replica → (x y : Write)
    → write_of u.id u.op ≡ Some x → write_of v.id v.op ≡ Some y → x.id.replica ≢ y.id.replica
differ u v ne x y one other same =
    ne (ap (λ id. id.replica) (sym (write_of-id u.id u.op x one)) ∙ same
    ∙ ap (λ id. id.replica) (write_of-id v.id v.op y other))

pub register_lawful : IsLawful register_meaning
register_lawful = record {
  commutes = λ s u v ne. write_swap s (write_of u.id u.op) (write_of v.id v.op) (differ u v ne);
  keeps = λ s u. refl;
  starts = λ kind. refl;
  means = λ kind us question order. ap value_in (fold_writes (λ u. write_of u.id u.op) None us ∙ last_is (writes us));
}
