-- What is read of a letter's line can be had: no id has number 0 there, and the group has 1 to 8 replicas.
use Rattle.std.proofs.Common.{◌≡◌, ℕ, ◌≤◌, ◌<◌, ◌^◌, Bool, true, false, leb, ◌&&◌, cond, List, [], ◌∷◌, map, All, refl}
use Rattle.std.proofs.Common.{Option, Some, None, IsSome, option_map, Result, Ok, Err, IsOk, ◌∙◌, ap, sym, subst, arith}
use Rattle.std.specs.Fmt.{decimal}
use Rattle.std.specs.Option.{option_and_then}
use Rattle.std.specs.Str.Parse.{digits_value}
use Rattle.std.proofs.lemmas.Bool.{leb-true}
use Rattle.std.proofs.lemmas.Fmt.{decimal_is_IsNumeral}
use Rattle.std.proofs.lemmas.List.Elements.{All-nil, All-cons, All-head, All-tail}
use Rattle.la_set.specs.declared.update.UpdateId.{UpdateId}
use Rattle.la_set.specs.declared.update.Update.{Update}
use Rattle.la_set.specs.declared.update.Op.{Op}
use Rattle.la_set.specs.declared.update.Op.TheVariants.{Inc, Dec, Raise, Put, Remove, Mark, Vote}
use Rattle.la_set.specs.declared.counts.Counts.{Counts}
use Rattle.la_script.specs.Numbers.{u8_max, u32_max, is_canonical, number}
use Rattle.la_script.specs.Words.{each_word}
use Rattle.la_script.specs.Tags.{tag_in, tag_of, with_tags, tag_words}
use Rattle.la_script.specs.Text.{id_text}
use Rattle.la_wire.specs.declared.error.LineFault.{LineFault}
use Rattle.la_wire.specs.declared.error.LineFault.TheVariants.{BadLine, BadNumber}
use Rattle.la_wire.specs.declared.messages.Kind.{Kind}
use Rattle.la_wire.specs.Joined.{parted}
use Rattle.la_wire.specs.Readings.{◌>>=◌, or_line_fault, with_rest, first_number}
use Rattle.la_own.specs.Own.{own_bytes_of}
use Rattle.la_own.proofs.lemmas.OwnTags.{bytes_of-made}
use Rattle.la_wire.specs.Updates.{made, line_tags, remove_words, op_words, op_at, op_in, update_words, update_text}
use Rattle.la_wire.specs.Updates.{update_in}
use Rattle.la_wire.specs.Updates.{updates_in}
use Rattle.la_wire.specs.Messages.{WireMessage, WireBody, Offer, Yes, No, Tell}
use Rattle.la_wire.specs.MessageLines.{base_word, counts_text, kind_in, base_words, carried, message_text}
use Rattle.la_wire.specs.MessageLines.{message_header, delta_in, body_in, message_at, line_message}
use Rattle.la_wire.specs.Calls.{Receive}
use Rattle.la_wire.specs.CallLines.{said_ok, named_call}
use Rattle.la_wire.specs.Writable.{IsIdFrom, IsOpFrom, IsUpdateFrom, IsBodyFrom, IsCounts, IsId, IsOp, IsUpdate, IsBody}
use Rattle.la_wire.specs.Writable.{IsMessage, IsTypedMessage}
use Rattle.la_wire.proofs.OwnTexts.{own-ids}
use Rattle.la_wire.proofs.Ids.{id-parts}
use Rattle.la_wire.proofs.UpdatesBack.{op-left, update-line, update-back}
use Rattle.la_wire.proofs.MessagesBack.{behind, base-back, body-left, line-read, message-back}
use Rattle.la_wire.proofs.CallsBack.{received}

-- ## What is read by parts

first-ok : {A B : Type 0} (r : Result A LineFault) (f : A → Result B LineFault) → IsOk (r >>= f) → IsOk r
first-ok (Ok x) f ok = refl
first-ok (Err fault) f ok = ok

made-ok : {A B : Type 0} (make : A → B) (r : Result A LineFault) → IsOk (made make r) → IsOk r
made-ok make (Ok x) ok = refl
made-ok make (Err fault) ok = ok

rest-ok : {A B : Type 0} (rest : B) (r : Result A LineFault) → IsOk (with_rest rest r) → IsOk r
rest-ok rest (Ok x) ok = refl
rest-ok rest (Err fault) ok = ok

some-ok : {A : Type 0} (fault : LineFault) (o : Option A) → IsOk (or_line_fault fault o) → IsSome o
some-ok fault (Some x) ok = refl
some-ok fault None ok = ok

some-if : {A : Type 0} (few : Bool) (o : Option A)
    → IsOk (cond few (or_line_fault BadNumber o) (Err BadLine)) → IsSome o
some-if true o ok = some-ok BadNumber o ok
some-if false o ok = absurd cc

map-some : {A B : Type 0} (f : A → B) (o : Option A) → IsSome (option_map f o) → IsSome o
map-some f (Some x) some = refl
map-some f None some = some

then-some : {A B : Type 0} (f : A → Option B) (o : Option A) → IsSome (option_and_then f o) → IsSome o
then-some f (Some x) some = refl
then-some f None some = some

then-last : {A B C : Type 0} (f : A → B → C) (o : Option A) (p : Option B)
    → IsSome (option_and_then (λ x. option_map (f x) p) o) → IsSome p
then-last f o (Some y) some = refl
then-last f (Some x) None some = some
then-last f None None some = some

-- ## Numbers, ids and tags

range-from : (c a b : Bool) (v : ℕ) → IsSome (cond (c && a && b) (Some v) None) → (a ≡ true) × (b ≡ true)
range-from true true true v some = (refl, refl)
range-from true true false v some = absurd cc
range-from true false b v some = absurd cc
range-from false a b v some = absurd cc

-- a number that is read is in the range
in-range : (low high n : ℕ) → n < 2 ^ 64 → IsSome (number low high (decimal n)) → (low ≤ n) × (n ≤ high)
in-range low high n small some =
    let v : ℕ = digits_value 10 (decimal n) in
    let is : digits_value 10 (decimal n) ≡ n = (decimal_is_IsNumeral n small).1 in
    let both : (leb v high ≡ true) × (leb low v ≡ true) =
    range-from (is_canonical (decimal n)) (leb v high) (leb low v) v some in
    (omega (arith, is, leb-true low v both.1), omega (arith, is, leb-true v high both.0))

id-read : (id : UpdateId) → IsIdFrom 0 id → IsSome (tag_of (id_text id)) → IsId id
id-read id is some =
    let two : IsSome (tag_in (decimal id.replica) (decimal id.number)) =
    subst (λ (o : Option UpdateId). IsSome o) (id-parts id is) some in
    let read : IsSome (number 1 u32_max (decimal id.number)) =
    then-last (λ r n. record { replica = r; number = n }) (number 0 u8_max (decimal id.replica))
    (number 1 u32_max (decimal id.number)) two in
    record {
      replica = is.replica;
      some = (in-range 1 u32_max id.number (omega (arith, is.number)) read).0;
      number = is.number;
    }

ids-read : (ids : List UpdateId) → All (IsIdFrom 0) ids → IsSome (each_word tag_of (map id_text ids)) → All IsId ids
ids-read [] all some = All-nil IsId
ids-read (id ∷ ids) all some =
    let rest : Option (List UpdateId) = each_word tag_of (map id_text ids) in
    All-cons IsId id ids
    (id-read id (All-head (IsIdFrom 0) id ids all)
    (then-some (λ x. option_map (λ xs. x ∷ xs) rest) (tag_of (id_text id)) some))
    (ids-read ids (All-tail (IsIdFrom 0) id ids all)
    (then-last (λ x xs. x ∷ xs) (tag_of (id_text id)) rest some))

-- ## Updates

remove-read : (tags : List UpdateId) (o : Option (List ℕ)) → own_bytes_of (Remove tags) ≡ o → IsOpFrom 0 (Remove tags)
    → IsOk (op_in (remove_words tags o)) → IsOp (Remove tags)
unfolding op_at
remove-read tags None none is ok =
    let words : List (List ℕ) = map id_text tags in
    let some : IsSome (tag_words words) = some-if _ (tag_words words) (made-ok Remove (line_tags words) ok) in
    (is.0, ids-read tags is.1 (map-some (with_tags []) (each_word tag_of words) some))
remove-read tags (Some bytes) some is ok =
    let made = bytes_of-made (Remove tags) bytes some in (is.0, own-ids 1 tags bytes (omega arith) made.0 made.1)

op-read : (op : Op) → IsOpFrom 0 op → IsOk (op_in (op_words op)) → IsOp op
unfolding op_at
op-read (Inc x) is ok = is
op-read (Dec x) is ok = is
op-read (Raise x) is ok = is
op-read (Put x) is ok = is
op-read (Remove tags) is ok = remove-read tags (own_bytes_of (Remove tags)) refl is ok
op-read Mark is ok = is
op-read (Vote x sole) is ok = is

id-first : (u : Update) → IsOk (update_in (update_words u)) → IsSome (tag_of (id_text u.id))
unfolding update_in
id-first u ok =
    let id : Option UpdateId = tag_of (id_text u.id) in
    some-ok BadNumber id (rest-ok _ (or_line_fault BadNumber id) (first-ok _ _ ok))

update-read : (u : Update) → IsUpdateFrom 0 u → IsOk (update_in (parted 32 (update_text u))) → IsUpdate u
update-read u is ok =
    let words : IsOk (update_in (update_words u)) =
    subst (λ ws. IsOk (update_in ws)) (update-line u is) ok in
    let id : IsId u.id = id-read u.id is.id (id-first u words) in
    let left : IsOk (op_in (op_words u.op) >>= (λ does. Ok (record { id = u.id; object = u.object; op = does }))) =
    subst (λ (r : Result Update LineFault). IsOk r) (op-left u is id) ok in
    record { id = id; object = is.object; op = op-read u.op is.op (first-ok (op_in (op_words u.op)) _ left) }

updates-read : (us : List Update) → All (IsUpdateFrom 0) us → IsOk (updates_in (map update_text us)) → All IsUpdate us
updates-read [] all ok = All-nil IsUpdate
updates-read (u ∷ us) all ok =
    let parts : List (List ℕ) = map update_text us in
    let goes_on : Update → Result (List Update) LineFault =
    λ v. updates_in parts >>= (λ vs. Ok (v ∷ vs)) in
    let one : IsUpdate u =
    update-read u (All-head (IsUpdateFrom 0) u us all)
    (first-ok (update_in (parted 32 (update_text u))) goes_on ok) in
    let left : IsOk (goes_on u) =
    subst (λ (r : Result Update LineFault). IsOk (r >>= goes_on)) (update-back u one) ok in
    All-cons IsUpdate u us one
    (updates-read us (All-tail (IsUpdateFrom 0) u us all) (first-ok (updates_in parts) (λ vs. Ok (u ∷ vs)) left))

-- ## Messages

delta-read : (base : Counts) (more : List Update) → IsCounts base → All (IsUpdateFrom 0) more
    → IsOk (delta_in (base_word ∷ counts_text base ∷ []) (map update_text more)) → All IsUpdate more
delta-read base more is all ok =
    let goes_on : Counts → Result (Counts × List Update) LineFault =
    λ c. updates_in (map update_text more) >>= (λ us. Ok (c, us)) in
    let left : IsOk (goes_on base) =
    subst (λ (r : Result Counts LineFault). IsOk (r >>= goes_on)) (base-back base is) ok in
    updates-read more all (first-ok (updates_in (map update_text more)) (λ us. Ok (base, us)) left)

body-read : (body : WireBody) → IsBodyFrom 0 body
    → IsOk (body_in (kind_in body) (base_words body) (map update_text (carried body))) → IsBody body
unfolding body_in
body-read (Offer base more) is ok = (is.0, delta-read base more is.0 is.1 (made-ok _ _ ok))
body-read Yes is ok = is
body-read (No base more) is ok = (is.0, delta-read base more is.0 is.1 (made-ok _ _ ok))
body-read (Tell base more) is ok = (is.0, delta-read base more is.0 is.1 (made-ok _ _ ok))

header-first : (kind : Kind) (words parts : List (List ℕ)) → IsOk (message_at kind words parts)
    → IsOk (message_header words)
unfolding message_at
header-first kind words parts ok = first-ok (message_header words) _ ok

size-first : (w : List ℕ) (words : List (List ℕ)) → IsOk (message_header (w ∷ words)) → IsSome (number 1 8 w)
unfolding message_header
size-first w words ok =
    some-ok BadNumber (number 1 8 w)
    (rest-ok words (or_line_fault BadNumber (number 1 8 w)) (first-ok (first_number 1 8 (w ∷ words)) _ ok))

size-read : (m : WireMessage) → IsTypedMessage m → IsOk (message_header (behind m))
    → (1 ≤ m.replicas) × (m.replicas ≤ 8)
unfolding behind
size-read m is ok = in-range 1 8 m.replicas (omega (arith, is.few)) (size-first (decimal m.replicas) _ ok)

message-read : (m : WireMessage) → IsTypedMessage m → IsOk (line_message (message_text m)) → IsMessage m
message-read m is ok =
    let at : IsOk (message_at (kind_in m.body) (behind m) (map update_text (carried m.body))) =
    subst (λ (r : Result WireMessage LineFault). IsOk r) (line-read m is) ok in
    let size = size-read m is (header-first (kind_in m.body) (behind m) (map update_text (carried m.body)) at) in
    let left = subst (λ (r : Result WireMessage LineFault). IsOk r) (body-left m size.0 size.1 is) at in
    record {
      some = size.0;
      few = size.1;
      from = is.from;
      to = is.to;
      instance = is.instance;
      ballot = is.ballot;
      accepted = is.accepted;
      view = is.view;
      body = body-read m.body is.body (first-ok _ _ left);
    }

-- ## Letters

said-message : (r : Result WireMessage LineFault) (n : WireMessage) → said_ok (made Receive r) ≡ Some (Receive n)
    → r ≡ Ok n
said-message (Ok m) n e = cc
said-message (Err fault) n e = absurd cc

same-read : (r : Result WireMessage LineFault) (m n : WireMessage) → r ≡ Ok m → r ≡ Ok n → n ≡ m
same-read r m n a b = cc

-- the message that a line is read as is the one that it was written of
pub read-or-not : (m n : WireMessage) → IsTypedMessage m → named_call (message_text m) ≡ Some (Receive n) → n ≡ m
read-or-not m n is e =
    let read : line_message (message_text m) ≡ Ok n =
    said-message (line_message (message_text m)) n (ap said_ok (sym (received m)) ∙ e) in
    let ok : IsOk (line_message (message_text m)) =
    subst (λ (r : Result WireMessage LineFault). IsOk r) (sym read) refl in
    same-read (line_message (message_text m)) m n (message-back m (message-read m is ok)) read
