-- What a recovery leaves: a file of the groups that were found.
use Rattle.std.proofs.Common.{◌≡◌, inl, inr, ⊎_elim, ℕ, List, [], ◌∷◌, ◌++◌, Option, Some, refl, sym, ◌∙◌, ap, subst, take, drop, length, arith, suc, true}
use Rattle.std.proofs.lemmas.Bool.Decides.{nat_tests}
use Rattle.std.specs.Prelude.{◌==◌, Result, Ok, Err, IfOk, IfErr}
use Rattle.la_journal.specs.Lines.{IsClean}
use Rattle.la_journal.specs.Disk.{Only, LeavesOnly, MayBeOr}
use Rattle.la_journal.specs.Records.{parts, head_line, digest}
use Rattle.la_journal.specs.Journal.{lines, lines_in}
use Rattle.la_journal.specs.Machine.{state_after}
use Rattle.la_journal.specs.Durable.{IsSettled, IsSameOr}
use Rattle.la_journal.specs.Playing.{IsPlayed, HasNothingBehind, rest_in}
use Rattle.la_journal.proofs.Played.{front_parts, front_rest, front_lines, front_leads, new_parts}

-- of a result, by what is known of it
pub ok_both : {T E : Type 0} (r : Result T E) (P Q R : T → Type 0) → ((x : T) → P x → Q x → R x) → IfOk r P → IfOk r Q
    → IfOk r R
ok_both (Ok x) P Q R to p q = to x p q
ok_both (Err e) P Q R to p q = tt

pub ok_three : {T E : Type 0} (r : Result T E) (P Q R U : T → Type 0) → ((x : T) → P x → Q x → R x → U x) → IfOk r P
    → IfOk r Q → IfOk r R → IfOk r U
ok_three (Ok x) P Q R U to p q also = to x p q also
ok_three (Err e) P Q R U to p q also = tt

pub ok_one : {T E : Type 0} (r : Result T E) (P Q : T → Type 0) → ((x : T) → P x → Q x) → IfOk r P → IfOk r Q
ok_one (Ok x) P Q to p = to x p
ok_one (Err e) P Q to p = tt

pub err_one : {T E : Type 0} (r : Result T E) (P Q : E → Type 0) → ((x : E) → P x → Q x) → IfErr r P → IfErr r Q
err_one (Ok x) P Q to p = tt
err_one (Err e) P Q to p = to e p

-- a count that is 0
pub nothing : (items : List ℕ) (n : ℕ) → n ≡ length items → (n == 0) ≡ true → items ≡ []
nothing [] n long is = refl
nothing (x ∷ items) n long is = absurd (not_zero n (length items) long is)
  where
    not_zero : (n m : ℕ) → n ≡ suc m → (n == 0) ≡ true → ⊥
    not_zero n m long is = grind (arith, nat_tests)

-- a new file
pub new_whole : (text last file : List ℕ) → IsClean text → last ≡ digest text → file ≡ head_line text ++ 10 ∷ []
    → HasNothingBehind text last file
new_whole text last file clean digests is = record {
  these = [];
  read = ap parts is
      ∙ new_parts text clean
      ∙ ap (λ (l : List ℕ). Some (record { text = text; these = []; last = l; rest = [] })) (sym digests);
}

pub new_lines : (text file : List ℕ) → IsClean text → file ≡ head_line text ++ 10 ∷ [] → lines file ≡ []
new_lines text file clean is = ap lines is ∙ ap lines_in (new_parts text clean)

-- the front of a file that was played
module _ (text last found front : List ℕ) (end : ℕ) (played : IsPlayed text found end last)
    (is : front ≡ take end found) where
  pub played_whole : HasNothingBehind text last front
  played_whole = record {
    these = played.has.these;
    read = ap parts is
        ∙ front_parts found played.has played.read end played.up_to
        ∙ (λ i. Some (record { text = played.head i; these = played.has.these; last = sym played.ends i; rest = [] }));
  }

  pub played_lines : lines front ≡ lines found
  played_lines = ap lines is ∙ front_lines found played.has played.read end played.up_to

  pub played_rest : drop end found ≡ rest_in (parts found)
  played_rest = front_rest found played.has played.read end played.up_to ∙ sym (ap rest_in played.read)

  pub played_leads : {S C : Type 0} (head : S → List ℕ) (named_state : List ℕ → Option S) (named : List ℕ → Option C)
      (step : S → C → Option S) (start : S) → text ≡ head start
      → state_after head named_state named step start front ≡ state_after head named_state named step start found
  played_leads head named_state named step start is_head =
      ap (state_after head named_state named step start) is
      ∙ front_leads found played.has played.read end played.up_to head named_state named step start
      (played.head ∙ is_head) played.sound

-- what is put on a disk
module _ {D : Type 0} (seen : D → List ℕ) (may_leave : D → List ℕ → Type 0) where
  pub is_settled : (text last file : List ℕ) (disk : D) → HasNothingBehind text last file → seen disk ≡ file
      → Only file (may_leave disk) → IsSettled seen may_leave disk
  is_settled text last file disk whole written stored = record {
    has = record { text = text; these = whole.these; last = last; rest = [] };
    read = ap parts written ∙ whole.read;
    whole = refl;
    durable = subst (λ (f : List ℕ). Only f (may_leave disk)) (sym written) stored;
  }

pub leaves_same : {D S : Type 0} (moment : D → ℕ) (left_since : D → ℕ → List ℕ → Type 0) (old new : D)
    (before : List ℕ → Type 0) (leads : List ℕ → Option S) (found file : List ℕ) → leads file ≡ leads found
    → LeavesOnly moment left_since old new (MayBeOr before file)
    → LeavesOnly moment left_since old new (IsSameOr before leads found)
leaves_same moment left_since old new before leads found file same leaves = record {
  later = leaves.later;
  each = λ c left. to c (leaves.each c left);
  before = λ t c le left. ⊎_elim (λ was. inl was) (λ now. inr (to c now)) (leaves.before t c le left);
}
  where
    to : (c : List ℕ) → MayBeOr before file c → IsSameOr before leads found c
    to c (inl was) = inl was
    to c (inr is) = inr (ap leads is ∙ same)
