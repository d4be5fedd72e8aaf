-- The test tells what can be had.
use Rattle.std.proofs.Common.{◌≡◌, ℕ, suc, ◌≤◌, Bool, true, false, leb, eqb, ◌&&◌, List, [], ◌∷◌, length, All}
use Rattle.std.proofs.Common.{AllPairs, Decides, refl, sym, subst, arith, inl, inr}
use Rattle.std.specs.List.{list_all}
use Rattle.std.proofs.lemmas.Bool.{leb-true, le-leb, cases_lt}
use Rattle.std.proofs.lemmas.Bool.Decides.{Decides-and, Decides-like, Decides-eqb}
use Rattle.std.proofs.lemmas.List.Elements.{All-weaker, All-get_or, All-from_get_or}
use Rattle.std.proofs.lemmas.List.Kept.{AllPairs-cons}
use Rattle.std.proofs.lemmas.List.Sums.{AllPass-from_list_all, list_all-from_AllPass}
use Rattle.la_set.specs.declared.update.Op.{Op}
use Rattle.la_set.specs.declared.update.Op.TheVariants.{Inc, Dec, Raise, Put, Remove, Mark, Vote}
use Rattle.la_set.specs.declared.update.UpdateId.{UpdateId}
use Rattle.la_set.specs.declared.update.Update.{Update}
use Rattle.la_set.specs.declared.counts.Counts.{Counts}
use Rattle.la_set.specs.Ids.{IsBelow, id_below}
use Rattle.la_set.specs.Tags.{IsTags}
use Rattle.la_set.specs.Counts.{count_in}
use Rattle.la_set.proofs.lemmas.Counting.{count_in-known, count_in-past}
use Rattle.la_set.proofs.lemmas.IdOrder.{below-test, test-below}
use Rattle.la_object.specs.declared.query.Query.{Query}
use Rattle.la_object.specs.declared.query.Query.TheVariants as query
use Rattle.la_script.specs.Numbers.{u8_max, u16_max, u32_max, u64_max}
use Rattle.la_node.specs.declared.link.Standing.{Standing}
use Rattle.la_wire.specs.Messages.{WireMessage, WireBody, Offer, Yes, No, Tell}
use Rattle.la_wire.specs.Calls.{WireCall, Submit, Decide, Ask, Tick, Receive, Known}
use Rattle.la_wire.specs.Writable.{IsId, IsOp, IsUpdate, IsCounts, IsBody, IsMessage, IsStanding, IsVoteless, IsQuery}
use Rattle.la_wire.specs.Writable.{IsCall}
use Rattle.la_wire.specs.Tests.{is_id, are_ascending, are_tags, is_op, is_wire_update, are_counts, is_body}
use Rattle.la_wire.specs.Tests.{is_message, is_standing, is_voteless, is_query, is_call}

decides-le : (a b : ℕ) → Decides (leb a b) (a ≤ b)
decides-le a b = (leb-true a b, le-leb a b)

decides-yes : Decides true (Unit {0})
decides-yes = (λ e. tt, λ u. refl)

decides-no : Decides false ⊥
decides-no = (λ e. absurd cc, λ none. absurd none)

decides-all : {A : Type 0} (p : A → Bool) (P : A → Type 0) → ((x : A) → Decides (p x) (P x)) → (xs : List A)
    → Decides (list_all p xs) (All P xs)
decides-all p P each xs = (
  λ e. All-weaker (λ x. p x ≡ true) P (λ x is. (each x).0 is) xs (AllPass-from_list_all p xs e),
  λ all. list_all-from_AllPass p xs (All-weaker P (λ x. p x ≡ true) (λ x is. (each x).1 is) xs all),
)

decides-id : (id : UpdateId) → Decides (is_id id) (IsId id)
decides-id id =
    Decides-like (is_id id) (λ p. record { replica = p.0; some = p.1.0; number = p.1.1 })
    (λ is. (is.replica, (is.some, is.number)))
    (Decides-and (leb id.replica u8_max) (leb 1 id.number && leb id.number u32_max) (decides-le id.replica u8_max)
    (Decides-and (leb 1 id.number) (leb id.number u32_max) (decides-le 1 id.number) (decides-le id.number u32_max)))

decides-below : (x y : UpdateId) → Decides (id_below x y) (IsBelow x y)
decides-below x y = (test-below x y, below-test x y)

decides-ascending : (ids : List UpdateId) → Decides (are_ascending ids) (AllPairs IsBelow ids)
decides-ascending [] = (λ e i j d low lt. absurd (omega arith), λ pairs. refl)
decides-ascending (id ∷ ids) =
    Decides-like (list_all (λ other. id_below id other) ids && are_ascending ids)
    (λ p. AllPairs-cons IsBelow id ids p.0 p.1)
    (λ pairs. (
      (λ k d lt. pairs 0 (suc k) d (omega arith) (omega arith)),
      (λ i j d low lt. pairs (suc i) (suc j) d (omega arith) (omega arith)),
    ))
    (Decides-and (list_all (λ other. id_below id other) ids) (are_ascending ids)
    (decides-all (λ other. id_below id other) (IsBelow id) (decides-below id) ids) (decides-ascending ids))

decides-tags : (ids : List UpdateId) → Decides (are_tags ids) (IsTags ids)
decides-tags ids =
    Decides-like (are_tags ids) (λ p. record { ascending = p.0; within = p.1 }) (λ is. (is.ascending, is.within))
    (Decides-and (are_ascending ids) (leb (length ids) 64) (decides-ascending ids) (decides-le (length ids) 64))

decides-op : (op : Op) → Decides (is_op op) (IsOp op)
decides-op (Inc x) = decides-le x u32_max
decides-op (Dec x) = decides-le x u32_max
decides-op (Raise x) = decides-le x u64_max
decides-op (Put x) = decides-le x u64_max
decides-op (Remove tags) =
    Decides-and (are_tags tags) (list_all is_id tags) (decides-tags tags) (decides-all is_id IsId decides-id tags)
decides-op Mark = decides-yes
decides-op (Vote x sole) = decides-le x u64_max

decides-update : (u : Update) → Decides (is_wire_update u) (IsUpdate u)
decides-update u =
    Decides-like (is_wire_update u) (λ p. record { id = p.0; object = p.1.0; op = p.1.1 })
    (λ is. (is.id, (is.object, is.op)))
    (Decides-and (is_id u.id) (leb u.object u16_max && is_op u.op) (decides-id u.id)
    (Decides-and (leb u.object u16_max) (is_op u.op) (decides-le u.object u16_max) (decides-op u.op)))

decides-updates : (us : List Update) → Decides (list_all is_wire_update us) (All IsUpdate us)
decides-updates us = decides-all is_wire_update IsUpdate decides-update us

counts-from : (c : Counts) → length c.of ≡ 8 → All (λ n. n ≤ u32_max) c.of → (r : ℕ) → count_in c r ≤ u32_max
counts-from c eight all r = elim (cases_lt r 8) [
  | inl lt ↦
      subst (λ n. n ≤ u32_max) (sym (count_in-known c r lt))
      (All-get_or (λ n. n ≤ u32_max) c.of r 0 (omega (arith, lt, eight)) all)
  | inr le ↦ subst (λ n. n ≤ u32_max) (sym (count_in-past c r le)) (omega arith)
]

counts-to : (c : Counts) → IsCounts c → All (λ n. n ≤ u32_max) c.of
counts-to c is =
    All-from_get_or (λ n. n ≤ u32_max) c.of 0
    (λ i lt. subst (λ n. n ≤ u32_max) (count_in-known c i (omega (arith, lt, is.eight))) (is.each i))

decides-counts : (c : Counts) → Decides (are_counts c) (IsCounts c)
decides-counts c =
    Decides-like (are_counts c) (λ p. record { eight = p.0; each = counts-from c p.0 p.1 })
    (λ is. (is.eight, counts-to c is))
    (Decides-and (eqb (length c.of) 8) (list_all (λ n. leb n u32_max) c.of) (Decides-eqb (length c.of) 8)
    (decides-all (λ n. leb n u32_max) (λ n. n ≤ u32_max) (λ n. decides-le n u32_max) c.of))

decides-body : (body : WireBody) → Decides (is_body body) (IsBody body)
decides-body (Offer base more) =
    Decides-and (are_counts base) (list_all is_wire_update more) (decides-counts base) (decides-updates more)
decides-body Yes = decides-yes
decides-body (No base more) =
    Decides-and (are_counts base) (list_all is_wire_update more) (decides-counts base) (decides-updates more)
decides-body (Tell base more) =
    Decides-and (are_counts base) (list_all is_wire_update more) (decides-counts base) (decides-updates more)

decides-two : (a b c d : ℕ) → Decides (leb a b && leb c d) ((a ≤ b) × (c ≤ d))
decides-two a b c d = Decides-and (leb a b) (leb c d) (decides-le a b) (decides-le c d)

decides-both : (c d : Counts) → Decides (are_counts c && are_counts d) (IsCounts c × IsCounts d)
decides-both c d = Decides-and (are_counts c) (are_counts d) (decides-counts c) (decides-counts d)

decides-message : (m : WireMessage) → Decides (is_message m) (IsMessage m)
decides-message m =
    let content : Bool = (are_counts m.progress.accepted && are_counts m.progress.view) && is_body m.body in
    Decides-like (is_message m)
    (λ p. record { some = p.0.0; few = p.0.1; from = p.1.0.0; to = p.1.0.1; instance = p.1.1.0.0; ballot = p.1.1.0.1; accepted = p.1.1.1.0.0; view = p.1.1.1.0.1; body = p.1.1.1.1 })
    (λ is. ((is.some, is.few), ((is.from, is.to), ((is.instance, is.ballot), ((is.accepted, is.view), is.body)))))
    (Decides-and (leb 1 m.replicas && leb m.replicas 8) ((leb m.from u8_max && leb m.to u8_max) && ((leb m.instance u8_max && leb m.ballot u32_max) && content)) (decides-two 1 m.replicas m.replicas 8)
    (Decides-and (leb m.from u8_max && leb m.to u8_max) ((leb m.instance u8_max && leb m.ballot u32_max) && content) (decides-two m.from u8_max m.to u8_max)
    (Decides-and (leb m.instance u8_max && leb m.ballot u32_max) content (decides-two m.instance u8_max m.ballot u32_max)
    (Decides-and (are_counts m.progress.accepted && are_counts m.progress.view) (is_body m.body) (decides-both m.progress.accepted m.progress.view) (decides-body m.body)))))

decides-standing : (s : Standing) → Decides (is_standing s) (IsStanding s)
decides-standing s =
    let far = are_counts s.progress.accepted && are_counts s.progress.view in
    let over = are_counts s.over.accepted && are_counts s.over.view in
    let counts = far && over in
    Decides-like (is_standing s)
    (λ p.
    record {
      some = p.0.0;
      few = p.0.1;
      from = p.1.0.0;
      to = p.1.0.1;
      accepted = p.1.1.0.0;
      view = p.1.1.0.1;
      offer = p.1.1.1.0;
      tell = p.1.1.1.1;
    })
    (λ is. ((is.some, is.few), ((is.from, is.to), ((is.accepted, is.view), (is.offer, is.tell)))))
    (Decides-and (leb 1 s.replicas && leb s.replicas 8) ((leb s.from u8_max && leb s.to u8_max) && counts)
    (decides-two 1 s.replicas s.replicas 8)
    (Decides-and (leb s.from u8_max && leb s.to u8_max) counts (decides-two s.from u8_max s.to u8_max)
    (Decides-and far over (decides-both s.progress.accepted s.progress.view)
    (decides-both s.over.accepted s.over.view))))

decides-voteless : (op : Op) → Decides (is_voteless op) (IsVoteless op)
decides-voteless (Inc x) = decides-yes
decides-voteless (Dec x) = decides-yes
decides-voteless (Raise x) = decides-yes
decides-voteless (Put x) = decides-yes
decides-voteless (Remove tags) = decides-yes
decides-voteless Mark = decides-yes
decides-voteless (Vote x sole) = decides-no

decides-query : (q : Query) → Decides (is_query q) (IsQuery q)
decides-query query.Total = decides-yes
decides-query (query.AtLeast x) = decides-le x u64_max
decides-query query.Largest = decides-yes
decides-query (query.Has x) = decides-le x u64_max
decides-query query.Size = decides-yes
decides-query query.Items = decides-yes

pub decides-call : (c : WireCall) → Decides (is_call c) (IsCall c)
decides-call (Submit r o op) =
    Decides-like (is_call (Submit r o op)) (λ p. (p.0.0, p.0.1, p.1.0, p.1.1)) (λ is. ((is.0, is.1), (is.2, is.3)))
    (Decides-and (leb r u8_max && leb o u16_max) (is_op op && is_voteless op) (decides-two r u8_max o u16_max)
    (Decides-and (is_op op) (is_voteless op) (decides-op op) (decides-voteless op)))
decides-call (Decide r c v) =
    Decides-like (is_call (Decide r c v)) (λ p. (p.0, p.1.0, p.1.1)) (λ is. (is.0, (is.1, is.2)))
    (Decides-and (leb r u8_max) (leb c u8_max && leb v u64_max) (decides-le r u8_max) (decides-two c u8_max v u64_max))
decides-call (Ask r o q) =
    Decides-like (is_call (Ask r o q)) (λ p. (p.0, p.1.0, p.1.1)) (λ is. (is.0, (is.1, is.2)))
    (Decides-and (leb r u8_max) (leb o u16_max && is_query q) (decides-le r u8_max)
    (Decides-and (leb o u16_max) (is_query q) (decides-le o u16_max) (decides-query q)))
decides-call Tick = decides-yes
decides-call (Receive m) = decides-message m
decides-call (Known s) = decides-standing s
