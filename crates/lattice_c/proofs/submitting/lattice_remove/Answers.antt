use Rattle.std.proofs.Common.{inl, inr, refl}
use Rattle.lattice_c.proofs.submitting.lattice_remove.Goals as goal

pub returns-in-Ok : goal.returns-in-Ok
returns-in-Ok c = record {
  seen = c.observed.new.handle.host.host;
  same = c.observed.ensures.same;
  objects = c.observed.ensures.objects;
  done = inl (c.in-Ok.tags, c.in-Ok.ensures.ok, c.submit.ensures);
}

pub returns-in-Err : goal.returns-in-Err
returns-in-Err c = record {
  seen = c.observed.new.handle.host.host;
  same = c.observed.ensures.same;
  objects = c.observed.ensures.objects;
  done = inr ((refl, refl), inr (c.in-Err.refused, c.in-Err.ensures.error, c.status_of_shelf.ensures));
}
