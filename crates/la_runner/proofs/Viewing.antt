-- Views.
use Rattle.std.proofs.Common.{⊎_elim, ◌≡◌, ◌⊎◌, inl, inr, ℕ, Bool, true, false, cond, sym, ◌∙◌, subst, List, Option, Some, None}
use Rattle.std.specs.List.{slice_get}
use Rattle.std.specs.Prelude.{Ok, IfSome}
use Rattle.la_set.specs.Histories.{Histories, empty}
use Rattle.la_set.specs.Inclusion.{IsSubset, AreComparable, is_larger, larger_of}
use Rattle.la_set.proofs.lemmas.Theorems.{subset-trans, subset-antisym}
use Rattle.la_set.proofs.lemmas.Inclusions.{contains-empty}
use Rattle.la_shared.specs.Passes.{Known}
use Rattle.la_acceptor.specs.declared.reply.Reply.TheVariants.{Yes}
use Rattle.la_proposer.proofs.lemmas.Theorems.{majorities_meet}
use Rattle.la_proposer.specs.ProposerState.{ProposerState}
use Rattle.la_runner.specs.Certificates.{HasCertificate}
use Rattle.la_runner.specs.Sound.{IsView, IsPassAt}
use Rattle.la_runner.specs.Following.{Goes, IsLearnt, IsOpenOrWhole}
use Rattle.la_runner.specs.declared.instance.Learning.{Learning}
use Rattle.la_runner.specs.declared.learned.Learned.{Learned}
use Rattle.la_runner.specs.Rounds.{IsLarger, IsOpenAfter, IsViewOf, IsLastAfter, IsLastLearned}
use Rattle.la_runner.proofs.Certified.{own_certificate, certificates_compare}
use Rattle.la_runner.proofs.Going.{view_stays}

-- the larger of two is one of them
pub larger_one : (v s w : Histories) → w ≡ larger_of v s → (w ≡ v) ⊎ (w ≡ s)
larger_one v s w e = go (is_larger v s) e
  where
    go : (b : Bool) → w ≡ cond b s v → (w ≡ v) ⊎ (w ≡ s)
    go true x = inr x
    go false x = inl x

pub is_larger_set : (v s w : Histories) → w ≡ larger_of v s → IsSubset v w → IsSubset s w → IsLarger s v w
is_larger_set v s w e grows has = record { one = larger_one v s w e; grows = grows; has = has }

pub larger_from : (v v' s s' w : Histories) → v' ≡ v → s' ≡ s → w ≡ larger_of v' s' → IsSubset v' w → IsSubset s' w
    → IsLarger s v w
larger_from v v' s s' w one other e grows has =
    subst (λ (z : Histories × Histories). IsLarger z.1 z.0 w) (λ i. (one i, other i)) (is_larger_set v' s' w e grows has)

pub empty_within : (s : Histories) → IsSubset empty s
empty_within s u e = absurd (contains-empty u e)

view_compares : (votes : List ℕ) (ps qs : List Known) (v s : Histories) → IsView votes qs v → HasCertificate votes qs s
    → ((a : ℕ) → IsPassAt (slice_get qs a)) → AreComparable v s
view_compares votes ps qs v s (inl e) c are = inl (subst (λ z. IsSubset z s) (sym e) (empty_within s))
view_compares votes ps qs v s (inr d) c are = certificates_compare votes qs v s are d c

module _ (p : ProposerState) (ps : List Known) (q : ProposerState) (qs : List Known) (n : ℕ) (v s : Histories)
    (g : Goes p ps q qs) (l : IsLearnt p ps qs n s) where
  certified : HasCertificate p.votes qs s
  certified = own_certificate p.votes qs s g.sound.are l.own

  -- a learnt set and a view are comparable
  pub view_comparable : IsView p.votes ps v → AreComparable v s
  view_comparable is =
      view_compares p.votes ps qs v s (view_stays p.votes ps qs v g.follows.passes is) certified g.sound.are

  pub larger_view : (w : Histories) → IsView p.votes ps v → (w ≡ v) ⊎ (w ≡ s) → IsView q.votes qs w
  larger_view w is (inl e) =
      subst (λ vs. IsView vs qs w) (sym g.follows.votes)
      (subst (IsView p.votes qs) (sym e) (view_stays p.votes ps qs v g.follows.passes is))
  larger_view w is (inr e) =
      subst (λ vs. IsView vs qs w) (sym g.follows.votes) (inr (subst (HasCertificate p.votes qs) (sym e) certified))

  -- an own acknowledged set lies in the last ballot's
  pub learnt_within : IsSubset s q.updates
  learnt_within =
      let there = majorities_meet p.votes l.own.0 l.own.0 l.own.1 l.own.1 in
      g.sound.within there.0 s Yes (l.own.2 there.0 there.3)

  pub view_step : (w : Histories) → (w ≡ v) ⊎ (w ≡ s) → (w ≡ v) ⊎ IsSubset w q.updates
  view_step w (inl e) = inl e
  view_step w (inr e) = inr (subst (λ z. IsSubset z q.updates) (sym e) learnt_within)

pub view_on : (p : ProposerState) (ps : List Known) (q : ProposerState) (qs : List Known) (v : Histories)
    → Goes p ps q qs → IsView p.votes ps v → IsView q.votes qs v
view_on p ps q qs v g is =
    subst (λ vs. IsView vs qs v) (sym g.follows.votes) (view_stays p.votes ps qs v g.follows.passes is)

-- over several rounds: the view is the first one, or lies in the last ballot's set
pub view_rounds : (u v w : Histories) (p q : ProposerState) → IsSubset p.updates q.updates
    → (v ≡ u) ⊎ IsSubset v p.updates → (w ≡ v) ⊎ IsSubset w q.updates → (w ≡ u) ⊎ IsSubset w q.updates
view_rounds u v w p q grows (inl d) (inl e) = inl (e ∙ d)
view_rounds u v w p q grows (inr d) (inl e) =
    inr (subst (λ z. IsSubset z q.updates) (sym e) (subset-trans v p.updates q.updates d grows))
view_rounds u v w p q grows before (inr e) = inr e

-- over several rounds, the view is the larger of the first one and what is learnt last
pub larger_later : (u v w s b : Histories) → (v ≡ u) ⊎ IsSubset v b → IsSubset b s → IsSubset u v → IsLarger s v w
    → IsLarger s u w
larger_later u v w s b (inl e) grown first larger = subst (λ z. IsLarger s z w) e larger
larger_later u v w s b (inr e) grown first larger =
    let whole : w ≡ s =
    ⊎_elim
    (λ (o : w ≡ v). subset-antisym w s (subst (λ z. IsSubset z s) (sym o) (subset-trans v b s e grown)) larger.has)
    (λ (o : w ≡ s). o) larger.one in
    record { one = inr whole; grows = subset-trans u v w first larger.grows; has = larger.has }

-- and becomes a learnt set that contains the first one
pub becomes_larger : (u w s : Histories) → IsLarger s u w → IsSubset u s → w ≡ s
becomes_larger u w s larger first =
    ⊎_elim (λ (e : w ≡ u). subset-antisym w s (subst (λ z. IsSubset z s) (sym e) first) larger.has) (λ (e : w ≡ s). e)
    larger.one

pub if_some : {A : Type 0} (o : Option A) (x : A) (P : A → Type 0) → o ≡ Some x → IfSome o P → P x
if_some o x P e h = subst (λ z. IfSome z P) e h

-- a round that learnt nothing left the ballot open
pub none_open : (end : Option Learning) (A : Type 0) (q : ProposerState) → end ≡ None → (A → IsOpenAfter (Ok end) q) → A
    → q.is_asking ≡ true
none_open end A q e h a = subst (λ z. IsOpenAfter (Ok z) q) e (h a)

pub larger_then : (end : Option Learned) (l : Learned) (v w : Histories) → end ≡ Some l → IsViewOf end v w
    → IsLarger l.updates v w
larger_then end l v w e h = subst (λ z. IsViewOf z v w) e h

pub last_then : (end : Option Learning) (l : Learning) (old new : Option Histories) → end ≡ Some l
    → IsLastAfter end old new → new ≡ Some l.updates
last_then end l old new e h = subst (λ z. IsLastAfter z old new) e h

-- the same of a round that did, by what a caller is told
pub answer_last : (end : Option Learned) (l : Learned) (old new : Option Histories) → end ≡ Some l
    → IsLastLearned end old new → new ≡ Some l.updates
answer_last end l old new e h = subst (λ z. IsLastLearned z old new) e h

-- what a round that learnt left open
pub some_open : (end : Option Learning) (l : Learning) (A : Type 0) (q : ProposerState) → end ≡ Some l
    → (A → IsOpenAfter (Ok end) q) → A → IsOpenOrWhole q l.updates
some_open end l A q e h a = subst (λ z. IsOpenAfter (Ok z) q) e (h a)
