-- How long the lines of letters are.
use Rattle.std.proofs.Common.{◌≡◌, ℕ, ◌+◌, ◌*◌, ◌<◌, ◌≤◌, true, false, List, [], ◌∷◌, ◌++◌, length, map, All, refl, ap}
use Rattle.std.proofs.Common.{Ok, Option, Some, None, subst, arith, length-append}
use Rattle.std.specs.Fmt.{decimal}
use Rattle.std.proofs.lemmas.Bool.{leb-true, le-ltb}
use Rattle.std.proofs.lemmas.Fmt.{length-decimal-le}
use Rattle.std.proofs.lemmas.List.{length-map, length-take-le}
use Rattle.std.proofs.lemmas.List.Elements.{All-head, All-tail, All-map, All-weaker}
use Rattle.la_io.specs.Limits.{is_too_long, limit_of}
use Rattle.la_set.specs.declared.update.UpdateId.{UpdateId}
use Rattle.la_set.specs.declared.update.Update.{Update}
use Rattle.la_set.specs.declared.update.Op.{Op}
use Rattle.la_set.specs.declared.update.Op.TheVariants.{Inc, Dec, Raise, Put, Remove, Mark, Vote}
use Rattle.la_set.specs.declared.counts.Counts.{Counts}
use Rattle.la_script.specs.Numbers.{u32_max, u64_max}
use Rattle.la_script.specs.Text.{id_text}
use Rattle.la_wire.specs.declared.messages.Kind.{Kind}
use Rattle.la_wire.specs.declared.messages.Kind.TheVariants as kind
use Rattle.la_wire.specs.declared.updates.Verb.TheVariants as verb
use Rattle.la_wire.specs.Joined.{spaced, joined_by}
use Rattle.la_wire.specs.Updates.{verb_spelling, own_text, remove_words, op_words, update_text}
use Rattle.la_wire.specs.Messages.{WireMessage, WireBody, Offer, Yes, No, Tell}
use Rattle.la_wire.specs.MessageLines.{kind_text, has_word, view_word, base_word, numbers_in, used, counts_text}
use Rattle.la_wire.specs.MessageLines.{kind_in, base_words, carried, head_words, message_text}
use Rattle.la_wire.specs.Calls.{Receive}
use Rattle.la_wire.specs.CallLines.{bounded_call_of}
use Rattle.la_wire.specs.Writable.{IsIdFrom, IsOpFrom, IsUpdateFrom, IsBodyFrom, IsCounts, IsMessage, IsTypedMessage}
use Rattle.la_wire.specs.Writable.{IsTagless}
use Rattle.la_own.specs.Own.{own_bytes_of}
use Rattle.la_own.proofs.lemmas.OwnTags.{bytes_of-made}
use Rattle.la_wire.proofs.OwnTexts.{own-length}
use Rattle.la_wire.proofs.Ids.{id-text}
use Rattle.la_wire.proofs.Typed.{typed-message}
use Rattle.la_wire.proofs.CountTexts.{written, written-few, used-low, used-high}
use Rattle.la_wire.proofs.MessagesBack.{behind, carried-updates}
use Rattle.la_wire.proofs.CallsBack.{receive-back}

-- ## Parts with a byte between them

length-spaced : (byte : ℕ) (w : List ℕ) (ws : List (List ℕ))
    → length (spaced byte (w ∷ ws)) ≡ length w + length (spaced byte ws) + 1
length-spaced byte w ws = omega (arith, length-append w (spaced byte ws))

spaced-le : (byte k : ℕ) (ws : List (List ℕ)) → All (λ w. length w < k) ws → length (spaced byte ws) ≤ k * length ws
spaced-le byte k [] all = omega arith
spaced-le byte k (w ∷ ws) all =
    omega (
      arith,
      length-append w (spaced byte ws),
      All-head (λ v. length v < k) w ws all,
      spaced-le byte k ws (All-tail (λ v. length v < k) w ws all),
    )

joined-le : (byte k : ℕ) (ws : List (List ℕ)) → 1 ≤ length ws → All (λ w. length w < k) ws
    → length (joined_by byte ws) < k * length ws
joined-le byte k [] some all = absurd (omega (arith, some))
joined-le byte k (w ∷ ws) some all =
    omega (
      arith,
      length-append w (spaced byte ws),
      All-head (λ v. length v < k) w ws all,
      spaced-le byte k ws (All-tail (λ v. length v < k) w ws all),
    )

-- ## Updates

id-length : (id : UpdateId) → IsIdFrom 0 id → length (id_text id) < 15
id-length id is =
    omega (
      arith,
      ap length (id-text id),
      length-append (decimal id.replica) (46 ∷ decimal id.number),
      length-decimal-le 3 id.replica (omega arith) (omega (arith, is.replica)) (omega (arith, is.replica)),
      length-decimal-le 10 id.number (omega arith) (omega (arith, is.number)) (omega (arith, is.number)),
    )

tags-length : (tags : List UpdateId) → length tags ≤ 64 → All (IsIdFrom 0) tags
    → length (spaced 32 (map id_text tags)) ≤ 960
tags-length tags few all =
    omega (
      arith,
      length-map tags id_text,
      spaced-le 32 15 (map id_text tags)
          (All-map (λ w. length w < 15) id_text tags
          (All-weaker (IsIdFrom 0) (λ id. length (id_text id) < 15) id-length tags all)),
    )

-- a verb of at most five letters and its number
one-length : (w : List ℕ) (x : ℕ) → length w ≤ 5 → x ≤ u64_max → length (spaced 32 (w ∷ decimal x ∷ [])) ≤ 27
one-length w x few small =
    omega (
      arith,
      length-spaced 32 w (decimal x ∷ []),
      length-spaced 32 (decimal x) [],
      length-decimal-le 20 x (omega arith) (omega (arith, small)) (omega (arith, small)),
    )

short-op : (op : Op) → IsOpFrom 0 op → IsTagless op → length (spaced 32 (op_words op)) ≤ 27
short-op (Inc x) is none = one-length (verb_spelling verb.Inc) x (leb-true 3 5 refl) (omega (arith, is))
short-op (Dec x) is none = one-length (verb_spelling verb.Dec) x (leb-true 3 5 refl) (omega (arith, is))
short-op (Raise x) is none = one-length (verb_spelling verb.Raise) x (leb-true 5 5 refl) is
short-op (Put x) is none = one-length (verb_spelling verb.Put) x (leb-true 3 5 refl) is
short-op (Remove tags) is none = absurd none
short-op Mark is none = leb-true 5 27 refl
short-op (Vote x true) is none = one-length (verb_spelling verb.Sole) x (leb-true 4 5 refl) is
short-op (Vote x false) is none = one-length (verb_spelling verb.Vote) x (leb-true 4 5 refl) is

remove-length : (tags : List UpdateId) → length tags ≤ 64 → All (IsIdFrom 0) tags
    → length (spaced 32 (verb_spelling verb.Remove ∷ map id_text tags)) ≤ 967
remove-length tags few all = omega (arith, tags-length tags few all)

any-remove : (tags : List UpdateId) (o : Option (List ℕ)) → own_bytes_of (Remove tags) ≡ o → IsOpFrom 0 (Remove tags)
    → length (spaced 32 (remove_words tags o)) ≤ 967
any-remove tags None none is = remove-length tags is.0.within is.1
any-remove tags (Some bytes) some is =
    let own = own-length bytes (bytes_of-made (Remove tags) bytes some).0 in
    omega (
      arith,
      own.1,
      length-spaced 32 (verb_spelling verb.Own) (own_text bytes ∷ []),
      length-spaced 32 (own_text bytes) [],
    )

any-op : (op : Op) → IsOpFrom 0 op → length (spaced 32 (op_words op)) ≤ 967
any-op (Inc x) is = omega (arith, short-op (Inc x) is tt)
any-op (Dec x) is = omega (arith, short-op (Dec x) is tt)
any-op (Raise x) is = omega (arith, short-op (Raise x) is tt)
any-op (Put x) is = omega (arith, short-op (Put x) is tt)
any-op (Remove tags) is = any-remove tags (own_bytes_of (Remove tags)) refl is
any-op Mark is = omega (arith, short-op Mark is tt)
any-op (Vote x sole) is = omega (arith, short-op (Vote x sole) is tt)

-- an update, by what its operation takes
update-length : (k : ℕ) (u : Update) → IsUpdateFrom 0 u → length (spaced 32 (op_words u.op)) ≤ k
    → length (update_text u) < k + 21
update-length k u is few =
    omega (
      arith,
      id-length u.id is.id,
      length-append (id_text u.id) (spaced 32 (decimal u.object ∷ op_words u.op)),
      length-spaced 32 (decimal u.object) (op_words u.op),
      length-decimal-le 5 u.object (omega arith) (omega (arith, is.object)) (omega (arith, is.object)),
      few,
    )

updates-length : (k : ℕ) (us : List Update) → All (λ u. length (update_text u) < k) us
    → length (spaced 59 (map update_text us)) ≤ k * length us
updates-length k us all =
    subst (λ n. length (spaced 59 (map update_text us)) ≤ k * n) (length-map us update_text)
    (spaced-le 59 k (map update_text us) (All-map (λ w. length w < k) update_text us all))

-- ## Heads

counts-length : (c : Counts) → IsCounts c → length (counts_text c) ≤ 87
unfolding counts_text
counts-length c is =
    omega (
      arith,
      length-map (written c) decimal,
      length-take-le (used c) (numbers_in c) (used-high c),
      used-high c,
      joined-le 44 11 (map decimal (written c))
          (omega (
            arith,
            length-map (written c) decimal,
            length-take-le (used c) (numbers_in c) (used-high c),
            used-low c,
          ))
          (All-map (λ w. length w < 11) decimal (written c)
          (All-weaker (λ n. n ≤ u32_max) (λ n. length (decimal n) < 11) number-length (written c) (written-few c is))),
    )
  where
    number-length : (n : ℕ) → n ≤ u32_max → length (decimal n) < 11
    number-length n few = omega (arith, length-decimal-le 10 n (omega arith) (omega (arith, few)) (omega (arith, few)))

-- a word of at most four letters, and counts
labelled-length : (w : List ℕ) (c : Counts) (ws : List (List ℕ)) → length w ≤ 4 → IsCounts c
    → length (spaced 32 (w ∷ counts_text c ∷ ws)) ≤ length w + 89 + length (spaced 32 ws)
labelled-length w c ws few is =
    omega (arith, length-spaced 32 w (counts_text c ∷ ws), length-spaced 32 (counts_text c) ws, counts-length c is)

base-length : (body : WireBody) → IsBodyFrom 0 body → length (spaced 32 (base_words body)) ≤ 93
base-length (Offer base more) is = omega (arith, labelled-length base_word base [] (leb-true 4 4 refl) is.0)
base-length Yes is = omega arith
base-length (No base more) is = omega (arith, labelled-length base_word base [] (leb-true 4 4 refl) is.0)
base-length (Tell base more) is = omega (arith, labelled-length base_word base [] (leb-true 4 4 refl) is.0)

kind-length : (k : Kind) → length (kind_text k) ≤ 5
kind-length kind.Offer = leb-true 5 5 refl
kind-length kind.Yes = leb-true 3 5 refl
kind-length kind.No = leb-true 2 5 refl
kind-length kind.Tell = leb-true 4 5 refl

small-length : (n : ℕ) (ws : List (List ℕ)) → n ≤ 255 → length (spaced 32 (decimal n ∷ ws)) ≤ length (spaced 32 ws) + 4
small-length n ws few =
    omega (
      arith,
      length-spaced 32 (decimal n) ws,
      length-decimal-le 3 n (omega arith) (omega (arith, few)) (omega (arith, few)),
    )

behind-length : (m : WireMessage) → IsTypedMessage m → length (spaced 32 (behind m)) ≤ 305
unfolding behind
behind-length m is =
    let base : List (List ℕ) = base_words m.body in
    let view : List (List ℕ) = view_word ∷ counts_text m.progress.view ∷ base in
    let w5 : List (List ℕ) = has_word ∷ counts_text m.progress.accepted ∷ view in
    let w4 : List (List ℕ) = decimal m.ballot ∷ w5 in
    let w3 : List (List ℕ) = decimal m.instance ∷ w4 in
    let w2 : List (List ℕ) = decimal m.to ∷ w3 in
    let w1 : List (List ℕ) = decimal m.from ∷ w2 in
    omega (
      arith,
      small-length m.replicas w1 is.few,
      small-length m.from w2 is.from,
      small-length m.to w3 is.to,
      small-length m.instance w4 is.instance,
      length-spaced 32 (decimal m.ballot) w5,
      length-decimal-le 10 m.ballot (omega arith) (omega (arith, is.ballot)) (omega (arith, is.ballot)),
      labelled-length has_word m.progress.accepted view (leb-true 3 4 refl) is.accepted,
      labelled-length view_word m.progress.view base (leb-true 4 4 refl) is.view,
      base-length m.body is.body,
    )

head-length : (m : WireMessage) → IsTypedMessage m → length (joined_by 32 (head_words m)) ≤ 310
unfolding behind
head-length m is =
    omega (
      arith,
      length-append (kind_text (kind_in m.body)) (spaced 32 (behind m)),
      kind-length (kind_in m.body),
      behind-length m is,
    )

message-length : (k : ℕ) (m : WireMessage) → IsTypedMessage m → All (λ u. length (update_text u) < k) (carried m.body)
    → length (message_text m) ≤ 310 + k * length (carried m.body)
message-length k m is all =
    omega (
      arith,
      length-append (joined_by 32 (head_words m)) (spaced 59 (map update_text (carried m.body))),
      head-length m is,
      updates-length k (carried m.body) all,
    )

-- ## Lines

any-update : (u : Update) → IsUpdateFrom 0 u → length (update_text u) < 988
any-update u is = update-length 967 u is (any-op u.op is.op)

-- whatever the updates do
pub line-bound : (m : WireMessage) → IsTypedMessage m → length (message_text m) ≤ 320 + 1000 * length (carried m.body)
line-bound m is =
    omega (
      arith,
      message-length 988 m is
          (All-weaker (IsUpdateFrom 0) (λ u. length (update_text u) < 988) any-update (carried m.body)
          (carried-updates m.body is.body)),
    )

-- where none is a remove
pub tagless-bound : (m : WireMessage) → IsTypedMessage m → All (λ u. IsTagless u.op) (carried m.body)
    → length (message_text m) ≤ 320 + 48 * length (carried m.body)
tagless-bound m is none =
    omega (
      arith,
      message-length 48 m is
          (λ k d lt.
          let typed = carried-updates m.body is.body k d lt in
          update-length 27 _ typed (short-op _ typed.op (none k d lt))),
    )

in-limit : (line : List ℕ) → length line ≤ limit_of line → is_too_long line ≡ false
in-limit line few = le-ltb (limit_of line) (length line) few

set-limit : (body : WireBody) (a b : List ℕ) (k : ℕ) → k ≤ 320 + 1000 * length (carried body)
    → length (carried body) ≤ 268000
    → k ≤ limit_of ((kind_text (kind_in body) ++ a) ++ b)
set-limit (Offer base more) a b k le few = let fits : k ≤ 268435455 = omega (arith, le, few) in fits
set-limit Yes a b k le few = let fits : k ≤ 16777216 = omega (arith, le) in fits
set-limit (No base more) a b k le few = let fits : k ≤ 268435455 = omega (arith, le, few) in fits
set-limit (Tell base more) a b k le few = let fits : k ≤ 268435455 = omega (arith, le, few) in fits

-- with so many updates none is too long
pub line-taken : (m : WireMessage) → IsTypedMessage m → length (carried m.body) ≤ 268000
    → is_too_long (message_text m) ≡ false
unfolding behind
line-taken m is few =
    in-limit (message_text m)
    (set-limit m.body (spaced 32 (behind m)) (spaced 59 (map update_text (carried m.body))) (length (message_text m))
    (line-bound m is) few)

-- and it is read as it was written
pub taken-back : (m : WireMessage) → IsMessage m → length (carried m.body) ≤ 268000
    → bounded_call_of (message_text m) ≡ Ok (Receive m)
taken-back m is few = rw (line-taken m (typed-message m is) few) (receive-back m is)
