-- A meeting, note by note from the last acceptor on.
use Rattle.std.proofs.Common.{◌≡◌, inl, inr, ℕ, zero, suc, ◌<◌, ◌≤◌, arith, List, [], ◌∷◌, ◌++◌, length, map, Some, refl, ap, sym, ◌∙◌, subst, length-append, append_assoc}
use Rattle.std.proofs.lemmas.Bool.{cases_eq}
use Rattle.std.proofs.lemmas.Option.{slice_get_within}
use Rattle.std.specs.List.{slice_get, slice_set, slice_index_or}
use mathlib.Core.List.{IsPrefix}
use Rattle.la_set.specs.Histories.{Histories}
use Rattle.la_shared.specs.History.{HasEntry}
use Rattle.la_shared.specs.Passes.{Known, ToldPass, AcceptorName, IsPass}
use Rattle.la_shared.proofs.lemmas.Theorems.{prefix_self}
use Rattle.la_runner.specs.Certificates.{seen_of, mine_of, passes_seen_at, mine_at}
use Rattle.la_runner.specs.Sound.{IsPassAt}
use Rattle.la_runner.specs.Following.{acceptors_of}
use Rattle.la_runner.specs.declared.instance.Instance.{Instance}
use Rattle.la_runner.specs.Instances.{state_of}
use Rattle.la_runner.specs.Notes.{told_seen, notes_told_at, told_names}
use Rattle.la_runner.proofs.Fresh.{item_there}
use Rattle.la_runner.proofs.Passing.{prefix_trans, on_refl, on_trans, get-set_same, get-set_other, Grown, grown}

pub grown_trans : (s : Histories) (ps qs rs : List Known) → Grown s ps qs → Grown s qs rs → Grown s ps rs
grown_trans s ps qs rs f g = record {
  sizes = g.sizes ∙ f.sizes;
  on = on_trans ps qs rs f.on g.on;
  are = g.are;
  offered = λ a t r e. elim (g.offered a t r e) [ inl old ↦ f.offered a t r old | inr new ↦ inr new ];
}

-- these notes are still to be met
pub record Meeting (s : Histories) (told : List ToldPass) (ps : List Known) (notes : List ToldPass) (qs : List Known) : Type 0
  where
    pub on : Grown s ps qs
    pub mine : (a : ℕ) → mine_at qs a ≡ mine_at ps a
    pub front : IsPrefix notes told
    pub done : (a : ℕ) → length notes ≤ a → IsPrefix (notes_told_at told a) (passes_seen_at qs a)

pub told_past : (told : List ToldPass) (a : ℕ) → length told ≤ a → told_seen (slice_get told a) ≡ []
told_past [] a past = refl
told_past (t ∷ told) zero past = absurd (omega arith)
told_past (t ∷ told) (suc a) past = told_past told a (omega arith)

pub meeting_start : (s : Histories) (told : List ToldPass) (ps : List Known) → ((a : ℕ) → IsPassAt (slice_get ps a))
    → Meeting s told ps told ps
unfolding notes_told_at
meeting_start s told ps are = record {
  on = record { sizes = refl; on = on_refl ps; are = are; offered = λ a t r e. inl e };
  mine = λ a. refl;
  front = prefix_self told;
  done = λ a past. subst (λ l. IsPrefix l (passes_seen_at ps a)) (sym (told_past told a past)) (passes_seen_at ps a, refl);
}

told_last : (notes rest : List ToldPass) (n : ToldPass) → slice_get ((notes ++ n ∷ []) ++ rest) (length notes) ≡ Some n
told_last [] rest n = refl
told_last (t ∷ notes) rest n = told_last notes rest n

-- a pass that has seen more, and is as it was otherwise
module _ (s : Histories) (qs : List Known) (i : ℕ) (k w : Known) (at : slice_get qs i ≡ Some k) (is : IsPass w)
    (same_one : w.acceptor ≡ k.acceptor) (seen : IsPrefix k.seen w.seen) (mine : w.mine ≡ k.mine)
    (are : (a : ℕ) → IsPassAt (slice_get qs a)) where
  set_here : slice_get (slice_set qs i w) i ≡ Some w
  set_here = get-set_same qs i w (slice_get_within qs i k at)

  pub pass_grown : Grown s qs (slice_set qs i w)
  pass_grown =
      grown s qs i k w at is same_one are seen (subst (IsPrefix k.mine) (sym mine) (prefix_self k.mine))
      (λ t r e. inl (subst (λ l. HasEntry l t r) mine e))

  pub pass_mine : (a : ℕ) → mine_at (slice_set qs i w) a ≡ mine_at qs a
  unfolding mine_at
  pass_mine a = elim (cases_eq a i) [
    | inl e ↦ subst (λ b. mine_of (slice_get (slice_set qs i w) b) ≡ mine_of (slice_get qs b)) (sym e) (ap mine_of set_here ∙ mine ∙ sym (ap mine_of at))
    | inr ne ↦ ap mine_of (get-set_other qs i a w ne)
  ]

  pub pass_seen : passes_seen_at (slice_set qs i w) i ≡ w.seen
  unfolding passes_seen_at
  pass_seen = ap seen_of set_here

module _ (s : Histories) (told : List ToldPass) (ps : List Known) (notes : List ToldPass) (n : ToldPass) (qs : List Known)
    (k w : Known) (m : Meeting s told ps (notes ++ n ∷ []) qs) (at : slice_get qs (length notes) ≡ Some k) (is : IsPass w)
    (same_one : w.acceptor ≡ k.acceptor) (seen : IsPrefix k.seen w.seen) (mine : w.mine ≡ k.mine)
    (heard : IsPrefix n.seen w.seen) where
  step : Grown s qs (slice_set qs (length notes) w)
  step = pass_grown s qs (length notes) k w at is same_one seen mine m.on.are

  same_mine : (a : ℕ) → mine_at (slice_set qs (length notes) w) a ≡ mine_at qs a
  same_mine = pass_mine s qs (length notes) k w at is same_one seen mine m.on.are

  told_here : notes_told_at told (length notes) ≡ n.seen
  unfolding notes_told_at
  told_here = ap told_seen (ap (λ l. slice_get l (length notes)) (sym m.front.1) ∙ told_last notes m.front.0 n)

  seen_here : passes_seen_at (slice_set qs (length notes) w) (length notes) ≡ w.seen
  seen_here = pass_seen s qs (length notes) k w at is same_one seen mine m.on.are

  done_now : (a : ℕ) → length notes ≤ a → IsPrefix (notes_told_at told a) (passes_seen_at (slice_set qs (length notes) w) a)
  done_now a past = elim (cases_eq a (length notes)) [
    | inl e ↦ subst (λ b. IsPrefix (notes_told_at told b) (passes_seen_at (slice_set qs (length notes) w) b)) (sym e)
        (subst (λ l. IsPrefix l (passes_seen_at (slice_set qs (length notes) w) (length notes))) (sym told_here)
        (subst (IsPrefix n.seen) (sym seen_here) heard))
    | inr ne ↦ prefix_trans (notes_told_at told a) (passes_seen_at qs a) (passes_seen_at (slice_set qs (length notes) w) a) (m.done a (let long = length-append notes (n ∷ []) in omega arith)) (step.on.seen a)
  ]

  pub meeting_step : Meeting s told ps notes (slice_set qs (length notes) w)
  meeting_step = record {
    on = grown_trans s ps qs (slice_set qs (length notes) w) m.on step;
    mine = λ a. same_mine a ∙ m.mine a;
    front = (n ∷ m.front.0, sym (append_assoc notes (n ∷ []) m.front.0) ∙ m.front.1);
    done = done_now;
  }

pub long_names : {A : Type 0} (f : A → AcceptorName) (xs : List A) → length (map f xs) ≡ length xs
long_names f [] = refl
long_names f (x ∷ xs) = ap suc (long_names f xs)

pub acceptor_there : (qs : List Known) (i : ℕ) (k : Known) (d : AcceptorName) → slice_get qs i ≡ Some k
    → d ≡ slice_index_or (acceptors_of qs) i d → d ≡ k.acceptor
acceptor_there [] i k d at e = absurd (cc)
acceptor_there (x ∷ qs) zero k d at e = let same : x ≡ k = cc in e ∙ ap (λ (z : Known). z.acceptor) same
acceptor_there (x ∷ qs) (suc i) k d at e = acceptor_there qs i k d at e

-- the same, by what the code knows: the pass and the acceptor at the place of the last note
pub meeting_next : (s : Histories) (told : List ToldPass) (ps : List Known) (items notes : List ToldPass) (n : ToldPass)
    (qs : List Known) (k w : Known) (names : List AcceptorName) (i : ℕ) (a : AcceptorName) → Meeting s told ps items qs
    → items ≡ notes ++ n ∷ [] → i ≡ length notes → acceptors_of ps ≡ names → told_names told ≡ names
    → k ≡ slice_index_or qs i k → a ≡ slice_index_or names i a → IsPass w → w.acceptor ≡ a → IsPrefix k.seen w.seen
    → w.mine ≡ k.mine → IsPrefix n.seen w.seen → Meeting s told ps notes (slice_set qs i w)
meeting_next s told ps items notes n qs k w names i a met items_are i_is ours theirs k_is a_is pass of seen mine heard =
    subst (λ j. Meeting s told ps notes (slice_set qs j w)) (sym i_is)
    (meeting_step s told ps notes n qs k w m at pass same_one seen mine heard)
  where
    m : Meeting s told ps (notes ++ n ∷ []) qs
    m = subst (λ l. Meeting s told ps l qs) items_are met

    as_many : length qs ≡ length told
    as_many =
        m.on.sizes ∙ sym (long_names (λ (z : Known). z.acceptor) ps) ∙ ap length (ours ∙ sym theirs)
        ∙ long_names (λ (z : ToldPass). z.acceptor) told

    within : length notes < length qs
    within =
        let front = ap length m.front.1 in
        let long = length-append (notes ++ n ∷ []) m.front.0 in
        let last = length-append notes (n ∷ []) in let same = as_many in omega arith

    at : slice_get qs (length notes) ≡ Some k
    at = item_there qs (length notes) k within (subst (λ j. k ≡ slice_index_or qs j k) i_is k_is)

    same_one : w.acceptor ≡ k.acceptor
    same_one = acceptor_there qs (length notes) k w.acceptor at
        (of ∙ subst (λ j. a ≡ slice_index_or names j a) i_is a_is
        ∙ ap (λ d. slice_index_or names (length notes) d) (sym of)
        ∙ ap (λ l. slice_index_or l (length notes) w.acceptor) (sym (m.on.on.acceptors ∙ ours)))

pub same_state : (x y : Instance) → x.passes.items ≡ y.passes.items → x.proposer ≡ y.proposer → x.learnt ≡ y.learnt
    → x.view ≡ y.view → state_of x ≡ state_of y
same_state x y passes proposer learnt view i = record { proposer = proposer i; passes = passes i; learnt = learnt i; view = view i }
