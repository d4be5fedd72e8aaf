-- Lines of calls have no byte 0 and no line's end, and begin as no state's line does and no record.
use Rattle.std.proofs.Common.{◌≡◌, ◌≢◌, ℕ, ◌≤◌, ◌==◌, true, false, not, ◌&&◌, leb, List, [], ◌∷◌, ◌++◌, map, All}
use Rattle.std.proofs.Common.{refl, ap, ◌∙◌, arith}
use Rattle.std.specs.Fmt.{decimal}
use Rattle.std.specs.List.{list_all}
use Rattle.std.proofs.lemmas.Bool.{leb-true}
use Rattle.std.proofs.lemmas.Bool.Decides.{nat_tests}
use Rattle.std.proofs.lemmas.List.Elements.{All-nil, All-cons, All-head, All-tail, All-append, All-map, All-weaker}
use Rattle.std.proofs.lemmas.List.Sums.{AllPass-from_list_all}
use Rattle.la_set.specs.declared.update.Update.{Update}
use Rattle.la_script.specs.declared.forms.Keyword.TheVariants as keyword
use Rattle.la_script.specs.Forms.{spelling}
use Rattle.la_wire.specs.declared.messages.Kind.{Kind}
use Rattle.la_wire.specs.declared.messages.Kind.TheVariants as kind
use Rattle.la_wire.specs.Joined.{spaced, joined_by}
use Rattle.la_wire.specs.Updates.{update_words, update_text, op_words}
use Rattle.la_wire.specs.Messages.{WireMessage}
use Rattle.la_wire.specs.MessageLines.{kind_text as kind_word, kind_in, progress_words, base_words, carried}
use Rattle.la_wire.specs.MessageLines.{head_words, message_text, known_word, standing_words}
use Rattle.la_wire.specs.Calls.{WireCall, Submit, Decide, Ask, Tick, Receive, Known}
use Rattle.la_wire.specs.CallLines.{query_words, tick_word, call_line_text, is_clean_byte, is_no_mark, may_stand}
use Rattle.la_wire.specs.Writable.{IsUpdateFrom, IsTypedMessage, IsCall}
use Rattle.la_wire.proofs.Decimals.{is_plain, IsPlain}
use Rattle.la_wire.proofs.Typed.{typed-op, typed-message}
use Rattle.la_wire.proofs.UpdatesBack.{update-plain, op-plain}
use Rattle.la_wire.proofs.MessagesBack.{head-plain, carried-updates, standing-plain}
use Rattle.la_wire.proofs.CallsBack.{front-plain, decide-plain, query-plain}

-- each byte is a space or above it
abbrev IsPrinted : List ℕ → Type 0
IsPrinted w = All (λ b. leb 32 b ≡ true) w

plain-printed : (w : List ℕ) → IsPlain w → IsPrinted w
plain-printed w plain =
    All-weaker (λ b. is_plain b ≡ true) (λ b. leb 32 b ≡ true) (λ b p. grind (arith, nat_tests)) w plain

spaced-printed : (byte : ℕ) (parts : List (List ℕ)) → leb 32 byte ≡ true → All IsPrinted parts
    → IsPrinted (spaced byte parts)
spaced-printed byte [] own all = All-nil (λ b. leb 32 b ≡ true)
spaced-printed byte (part ∷ parts) own all =
    All-cons (λ b. leb 32 b ≡ true) byte (part ++ spaced byte parts) own
    (All-append (λ b. leb 32 b ≡ true) part (spaced byte parts) (All-head IsPrinted part parts all)
    (spaced-printed byte parts own (All-tail IsPrinted part parts all)))

joined-printed : (byte : ℕ) (parts : List (List ℕ)) → leb 32 byte ≡ true → All IsPrinted parts
    → IsPrinted (joined_by byte parts)
joined-printed byte [] own all = All-nil (λ b. leb 32 b ≡ true)
joined-printed byte (part ∷ parts) own all =
    All-append (λ b. leb 32 b ≡ true) part (spaced byte parts) (All-head IsPrinted part parts all)
    (spaced-printed byte parts own (All-tail IsPrinted part parts all))

words-printed : (words : List (List ℕ)) → All IsPlain words → IsPrinted (joined_by 32 words)
words-printed words all = joined-printed 32 words refl (All-weaker IsPlain IsPrinted plain-printed words all)

is-clean : (b : ℕ) → 32 ≤ b → is_clean_byte b ≡ true
is-clean b high =
    ap (λ is. not is && not (b == 10)) (differs b 0 (λ e. omega (arith, e, high)))
    ∙ ap not (differs b 10 (λ e. omega (arith, e, high)))
  where
    differs : (b c : ℕ) → b ≢ c → (b == c) ≡ false
    differs b c not = grind (arith, nat_tests)

clean : (w : List ℕ) → IsPrinted w → list_all is_clean_byte w ≡ true
clean [] printed = refl
clean (b ∷ w) printed =
    ap (λ is. is && list_all is_clean_byte w) (is-clean b (leb-true 32 b (All-head (λ c. leb 32 c ≡ true) b w printed)))
    ∙ clean w (All-tail (λ c. leb 32 c ≡ true) b w printed)

update-printed : (u : Update) → IsUpdateFrom 0 u → IsPrinted (update_text u)
update-printed u is = words-printed (update_words u) (update-plain u is)

message-printed : (m : WireMessage) → IsTypedMessage m → IsPrinted (message_text m)
message-printed m is =
    let us = carried m.body in
    joined-printed 59 (joined_by 32 (head_words m) ∷ map update_text us) refl
    (All-cons IsPrinted (joined_by 32 (head_words m)) (map update_text us) (words-printed (head_words m) (head-plain m
    is))
    (All-map IsPrinted update_text us (All-weaker (IsUpdateFrom 0) (λ u. IsPrinted (update_text u)) update-printed us
    (carried-updates m.body is.body))))

keyword-words : (word : List ℕ) (words : List (List ℕ)) → IsPlain word → All IsPlain words
    → IsPrinted (joined_by 32 (word ∷ words))
keyword-words word words first rest = words-printed (word ∷ words) (All-cons IsPlain word words first rest)

text-printed : (c : WireCall) → IsCall c → IsPrinted (call_line_text c)
text-printed (Submit r o does) is =
    keyword-words (spelling keyword.Submit) (decimal r ∷ decimal o ∷ op_words does)
    (AllPass-from_list_all is_plain (spelling keyword.Submit) refl)
    (front-plain r o is.0 is.1 (op_words does) (op-plain does (typed-op does is.2)))
text-printed (Decide r c v) is =
    keyword-words (spelling keyword.Decide) (decimal r ∷ decimal c ∷ decimal v ∷ [])
    (AllPass-from_list_all is_plain (spelling keyword.Decide) refl) (decide-plain r c v is)
text-printed (Ask r o q) is =
    keyword-words (spelling keyword.Ask) (decimal r ∷ decimal o ∷ query_words q)
    (AllPass-from_list_all is_plain (spelling keyword.Ask) refl)
    (front-plain r o is.0 is.1 (query_words q) (query-plain q is.2))
text-printed Tick is = plain-printed tick_word (AllPass-from_list_all is_plain tick_word refl)
text-printed (Receive m) is = message-printed m (typed-message m is)
text-printed (Known s) is =
    keyword-words known_word (standing_words s) (AllPass-from_list_all is_plain known_word refl) (standing-plain s is)

kind-first : (k : Kind) (a b : List ℕ) → is_no_mark ((kind_word k ++ a) ++ b) ≡ true
kind-first kind.Offer a b = refl
kind-first kind.Yes a b = refl
kind-first kind.No a b = refl
kind-first kind.Tell a b = refl

no-mark : (c : WireCall) → is_no_mark (call_line_text c) ≡ true
no-mark (Submit r o does) = refl
no-mark (Decide r c v) = refl
no-mark (Ask r o q) = refl
no-mark Tick = refl
no-mark (Known s) = refl
no-mark (Receive m) =
    kind-first (kind_in m.body)
    (spaced 32
    (decimal m.replicas ∷ decimal m.from ∷ decimal m.to ∷ decimal m.instance ∷ decimal m.ballot
    ∷ progress_words m.progress ++ base_words m.body))
    (spaced 59 (map update_text (carried m.body)))

-- the line of a call that can be had may stand in a file of lines
pub call-stands : (c : WireCall) → IsCall c → may_stand (call_line_text c) ≡ true
call-stands c is = ap (λ b. b && is_no_mark (call_line_text c)) (clean (call_line_text c) (text-printed c is)) ∙
    no-mark c
