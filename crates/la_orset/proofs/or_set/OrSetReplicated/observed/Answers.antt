use Rattle.std.proofs.Common.{◌≡◌, IfOk, IfErr, subst}
use Rattle.la_object.specs.Refusals.{IsObserveRefusal}
use Rattle.la_orset.specs.Puts.{adds_of, gone_of}
use Rattle.la_orset.proofs.Held.{keys-held}
use Rattle.la_orset.proofs.or_set.OrSetReplicated.observed.Goals as goal

pub returns-clause-ok : goal.returns-clause-ok
returns-clause-ok c =
    let s = c.args.self.now in
    subst (λ ids. IfOk c.tags.result (λ tags. tags ≡ ids))
    (keys-held (adds_of s.puts) (gone_of s.early s.puts) s.live s.indexed c.args.element) c.tags.ensures.ok

pub returns-clause-error : goal.returns-clause-error
returns-clause-error c =
    let s = c.args.self.now in
    subst (λ ids. IfErr c.tags.result (IsObserveRefusal ids))
    (keys-held (adds_of s.puts) (gone_of s.early s.puts) s.live s.indexed c.args.element) c.tags.ensures.error
