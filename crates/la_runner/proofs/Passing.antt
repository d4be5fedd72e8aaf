-- One pass goes on, and the others stay.
use Rattle.std.proofs.Common.{◌≡◌, ◌≢◌, ◌⊎◌, inl, inr, ℕ, zero, suc, ◌<◌, List, [], ◌∷◌, ◌++◌, length, map, Option, Some, refl, ap, sym, ◌∙◌, subst, arith, append_assoc}
use mathlib.Core.List.{IsPrefix}
use Rattle.std.specs.List.{slice_get, slice_set}
use Rattle.std.proofs.lemmas.Bool.{cases_eq}
use Rattle.std.proofs.lemmas.Option.{slice_get_within}
use Rattle.std.proofs.lemmas.List.{length-set}
use Rattle.la_set.specs.Histories.{Histories}
use Rattle.la_acceptor.specs.declared.reply.Reply.{Reply}
use Rattle.la_acceptor.specs.declared.reply.Reply.TheVariants.{Yes}
use Rattle.la_shared.specs.History.{entry}
use Rattle.la_shared.specs.History.{HasEntry}
use Rattle.la_shared.specs.Passes.{Known, IsPass, Extends}
use Rattle.la_shared.proofs.lemmas.Theorems.{has-cases, entry_stands, has-right}
use Rattle.la_shared.proofs.lemmas.Theorems.{prefix_self}
use Rattle.la_runner.specs.Certificates.{seen_of, mine_of, passes_seen_at, mine_at}
use Rattle.la_runner.specs.Asking.{IsSamePass}
use Rattle.la_runner.specs.Sound.{IsPassAt}
use Rattle.la_runner.specs.Following.{GoOn, Beyond}

pub prefix_trans : {A : Type 0} (xs ys zs : List A) → IsPrefix xs ys → IsPrefix ys zs → IsPrefix xs zs
prefix_trans xs ys zs p q = (p.0 ++ q.0, sym (append_assoc xs p.0 q.0) ∙ ap (λ w. w ++ q.0) p.1 ∙ q.1)

pub get-set_same : {A : Type 0} (xs : List A) (i : ℕ) (x : A) → i < length xs → slice_get (slice_set xs i x) i ≡ Some x
get-set_same [] i x lt = absurd (omega arith)
get-set_same (y ∷ ys) zero x lt = refl
get-set_same (y ∷ ys) (suc i) x lt = get-set_same ys i x (omega arith)

pub get-set_other : {A : Type 0} (xs : List A) (i j : ℕ) (x : A) → j ≢ i
    → slice_get (slice_set xs i x) j ≡ slice_get xs j
get-set_other [] i j x ne = refl
get-set_other (y ∷ ys) zero zero x ne = absurd (ne refl)
get-set_other (y ∷ ys) zero (suc j) x ne = refl
get-set_other (y ∷ ys) (suc i) zero x ne = refl
get-set_other (y ∷ ys) (suc i) (suc j) x ne = get-set_other ys i j x (λ e. ne (ap suc e))

pub map-set_other : {A B : Type 0} (f : A → B) (xs : List A) (i : ℕ) (k w : A) → slice_get xs i ≡ Some k → f w ≡ f k
    → map f (slice_set xs i w) ≡ map f xs
map-set_other f [] i k w at e = refl
map-set_other f (x ∷ xs) zero k w at e = let same : x ≡ k = cc in ap (λ y. y ∷ map f xs) (e ∙ ap f (sym same))
map-set_other f (x ∷ xs) (suc i) k w at e = ap (λ ys. f x ∷ ys) (map-set_other f xs i k w at e)

pub on_refl : (ps : List Known) → GoOn ps ps
on_refl ps = record { acceptors = refl; seen = λ a. prefix_self (passes_seen_at ps a); mine = λ a. prefix_self (mine_at ps a) }

pub on_trans : (ps qs rs : List Known) → GoOn ps qs → GoOn qs rs → GoOn ps rs
on_trans ps qs rs f g = record {
  acceptors = g.acceptors ∙ f.acceptors;
  seen = λ a. prefix_trans (passes_seen_at ps a) (passes_seen_at qs a) (passes_seen_at rs a) (f.seen a) (g.seen a);
  mine = λ a. prefix_trans (mine_at ps a) (mine_at qs a) (mine_at rs a) (f.mine a) (g.mine a);
}

-- what an offer of the set s leaves of the passes
pub record Grown (s : Histories) (ps qs : List Known) : Type 0 where
  pub sizes : length qs ≡ length ps
  pub on : GoOn ps qs
  pub are : (a : ℕ) → IsPassAt (slice_get qs a)
  pub offered : (a : ℕ) (t : Histories) (r : Reply) → HasEntry (mine_at qs a) t r
      → HasEntry (mine_at ps a) t r ⊎ (s ≡ t)

module _ (s : Histories) (ps : List Known) (a : ℕ) (k w : Known) (at : slice_get ps a ≡ Some k) (is : IsPass w)
    (same_one : w.acceptor ≡ k.acceptor) where
  -- a fact of one pass and what it becomes
  each_pass : (R : Option Known → Option Known → Type 0) → R (Some k) (Some w) → (b : ℕ)
      → R (slice_get ps b) (slice_get ps b) → R (slice_get ps b) (slice_get (slice_set ps a w) b)
  each_pass R here b same = elim (cases_eq b a) [
    | inl e ↦ subst (λ c. R (slice_get ps c) (slice_get (slice_set ps a w) c)) (sym e)
        (subst (λ o. R o (slice_get (slice_set ps a w) a)) (sym at)
        (subst (R (Some k)) (sym (get-set_same ps a w (slice_get_within ps a k at))) here))
    | inr ne ↦ subst (R (slice_get ps b)) (sym (get-set_other ps a b w ne)) same
  ]

  pub grown : ((b : ℕ) → IsPassAt (slice_get ps b)) → IsPrefix k.seen w.seen → IsPrefix k.mine w.mine
      → ((t : Histories) (r : Reply) → HasEntry w.mine t r → HasEntry k.mine t r ⊎ (s ≡ t))
      → Grown s ps (slice_set ps a w)
  unfolding passes_seen_at mine_at
  grown are seen mine offered = record {
    sizes = length-set ps a w;
    on = record {
      acceptors = map-set_other (λ (z : Known). z.acceptor) ps a k w at same_one;
      seen = λ b. each_pass (λ o q. IsPrefix (seen_of o) (seen_of q)) seen b (prefix_self (passes_seen_at ps b));
      mine = λ b. each_pass (λ o q. IsPrefix (mine_of o) (mine_of q)) mine b (prefix_self (mine_at ps b));
    };
    are = λ b. each_pass (λ o q. IsPassAt q) is b (are b);
    offered =
        λ b t r.
        each_pass (λ o q. HasEntry (mine_of q) t r → HasEntry (mine_of o) t r ⊎ (s ≡ t)) (offered t r) b (λ e. inl e);
  }

  pub grown_same : ((b : ℕ) → IsPassAt (slice_get ps b)) → IsSamePass k w → Grown s ps (slice_set ps a w)
  grown_same are same =
      grown are (subst (IsPrefix k.seen) (sym same.0) (prefix_self k.seen))
      (subst (IsPrefix k.mine) (sym same.1) (prefix_self k.mine))
      (λ t r e. inl (subst (λ l. HasEntry l t r) same.1 e))

  extended : (n : ℕ) (r q : Reply) (t : Histories) → HasEntry (k.mine ++ entry n s r ∷ []) t q
      → HasEntry k.mine t q ⊎ (s ≡ t)
  extended n r q t e = elim (has-cases k.mine (entry n s r ∷ []) t q e) [
    | inl old ↦ inl old
    | inr (inl new) ↦ inr new.0
    | inr (inr none) ↦ absurd none
  ]

  pub grown_more : (r : Reply) → ((b : ℕ) → IsPassAt (slice_get ps b)) → Extends s r k w → Grown s ps (slice_set ps a w)
  grown_more r are x =
      grown are (x.1.0 ++ entry x.0 s r ∷ [], sym (append_assoc k.seen x.1.0 (entry x.0 s r ∷ [])) ∙ sym x.1.3)
      (entry x.0 s r ∷ [], sym x.1.4)
      (λ t q e. extended x.0 r q t (subst (λ l. HasEntry l t q) x.1.4 e))

  -- the entry stands there, after what was seen
  pub has_new : (r : Reply) → Extends s r k w → HasEntry (mine_at (slice_set ps a w) a) s r
  unfolding passes_seen_at mine_at
  has_new r x = subst (λ o. HasEntry (mine_of o) s r) (sym (get-set_same ps a w (slice_get_within ps a k at)))
      (subst (λ l. HasEntry l s r) (sym x.1.4) (entry_stands k.mine x.0 s r))

  pub beyond_new : (r : Reply) → Extends s r k w → r ≡ Yes → Beyond ps (slice_set ps a w) a s
  unfolding passes_seen_at mine_at
  beyond_new r x agreed = (
    x.1.0 ++ entry x.0 s r ∷ [],
    ap seen_of (get-set_same ps a w (slice_get_within ps a k at)) ∙ x.1.3
        ∙ append_assoc k.seen x.1.0 (entry x.0 s r ∷ []) ∙ ap (λ o. seen_of o ++ (x.1.0 ++ entry x.0 s r ∷ [])) (sym at),
    has-right x.1.0 (entry x.0 s r ∷ []) s Yes (inl (refl, agreed)),
  )
