-- Messages are read back from their lines.
use Rattle.std.proofs.Common.{◌≡◌, ℕ, ◌≤◌, ◌<◌, ◌^◌, List, [], ◌∷◌, ◌++◌, map, All, Some, Ok, refl, ap, ◌∙◌, arith}
use Rattle.std.specs.Fmt.{decimal}
use Rattle.std.proofs.lemmas.List.Elements.{All-nil, All-cons}
use Rattle.std.proofs.lemmas.List.Sums.{AllPass-from_list_all}
use Rattle.la_set.specs.declared.counts.Counts.{Counts}
use Rattle.la_replica.specs.declared.progress.Progress.{Progress}
use Rattle.la_node.specs.declared.link.Standing.{Standing}
use Rattle.la_script.specs.Numbers.{u8_max, u32_max, u64_max}
use Rattle.la_wire.specs.declared.messages.Header.{Header}
use Rattle.la_wire.specs.declared.messages.Kind.{Kind}
use Rattle.la_wire.specs.declared.messages.Kind.TheVariants as kind
use Rattle.la_wire.specs.Joined.{joined_by}
use Rattle.la_wire.specs.Readings.{◌>>=◌, first_number}
use Rattle.la_wire.specs.Updates.{update_text}
use Rattle.la_wire.specs.Messages.{WireMessage, WireBody, Offer, Yes, No, Tell}
use Rattle.la_wire.specs.MessageLines.{kind_text, has_word, view_word, base_word, counts_text, progress_words}
use Rattle.la_wire.specs.MessageLines.{over_words}
use Rattle.la_wire.specs.MessageLines.{kind_in, base_words, carried, head_words, message_text, kind_word}
use Rattle.la_wire.specs.MessageLines.{message_header, progress_in, base_on, body_in, message_at, message_in, letter}
use Rattle.la_wire.specs.MessageLines.{message_of_parts, line_message, standing_words, standing_in, over_in}
use Rattle.la_wire.specs.Writable.{IsUpdateFrom, IsBodyFrom, IsCounts, IsBody, IsMessage, IsTypedMessage, IsStanding}
use Rattle.la_wire.proofs.Decimals.{number-decimal, decimal-plain, is_plain, IsPlain}
use Rattle.la_wire.proofs.Joins.{words-back, words-part, parts-back}
use Rattle.la_wire.proofs.Typed.{typed-message}
use Rattle.la_wire.proofs.UpdatesBack.{updates-back, updates-parts}
use Rattle.la_wire.proofs.CountTexts.{counts-back, counts-plain}

first-back : (low high n : ℕ) (rest : List (List ℕ)) → low ≤ n → n ≤ high → high < 2 ^ 64
    → first_number low high (decimal n ∷ rest) ≡ Ok (n, rest)
first-back low high n rest l h few = rw (number-decimal low high n l h few) refl

abbrev header_of : WireMessage → Header
header_of m = record { replicas = m.replicas; from = m.from; to = m.to; instance = m.instance; ballot = m.ballot }

header-back : (m : WireMessage) (rest : List (List ℕ)) → 1 ≤ m.replicas → m.replicas ≤ 8 → IsTypedMessage m
    → message_header (decimal m.replicas ∷ decimal m.from ∷ decimal m.to ∷ decimal m.instance ∷ decimal m.ballot ∷ rest)
    ≡ Ok (header_of m, rest)
unfolding message_header
header-back m rest some few is =
    rw (
      number-decimal 1 8 m.replicas some few (omega arith),
      number-decimal 0 u8_max m.from (omega arith) is.from (omega arith),
      number-decimal 0 u8_max m.to (omega arith) is.to (omega arith),
      number-decimal 0 u8_max m.instance (omega arith) is.instance (omega arith),
      number-decimal 0 u32_max m.ballot (omega arith) is.ballot (omega arith),
    ) refl

progress-back : (p : Progress) (rest : List (List ℕ)) → IsCounts p.accepted → IsCounts p.view
    → progress_in (progress_words p ++ rest) ≡ Ok (p, rest)
unfolding progress_in
progress-back p rest has view = rw (counts-back p.accepted has, counts-back p.view view) refl

pub base-back : (c : Counts) → IsCounts c → base_on (base_word ∷ counts_text c ∷ []) ≡ Ok c
unfolding base_on
base-back c is = rw (counts-back c is) refl

body-back : (body : WireBody) → IsBody body
    → body_in (kind_in body) (base_words body) (map update_text (carried body)) ≡ Ok body
unfolding body_in
body-back (Offer base more) is = rw (base-back base is.0, updates-back more is.1) refl
body-back Yes is = refl
body-back (No base more) is = rw (base-back base is.0, updates-back more is.1) refl
body-back (Tell base more) is = rw (base-back base is.0, updates-back more is.1) refl

-- the words behind the kind
unfoldable pub behind : WireMessage → List (List ℕ)
behind m =
    decimal m.replicas ∷ decimal m.from ∷ decimal m.to ∷ decimal m.instance ∷ decimal m.ballot
    ∷ progress_words m.progress ++ base_words m.body

-- what is left to read of a message whose group's size can be had
pub body-left : (m : WireMessage) → 1 ≤ m.replicas → m.replicas ≤ 8 → IsTypedMessage m
    → message_at (kind_in m.body) (behind m) (map update_text (carried m.body))
    ≡ (body_in (kind_in m.body) (base_words m.body) (map update_text (carried m.body))
    >>= (λ body. Ok (letter (header_of m) m.progress body)))
unfolding message_at behind
body-left m some few is =
    rw (
      header-back m (progress_words m.progress ++ base_words m.body) some few is,
      progress-back m.progress (base_words m.body) is.accepted is.view,
    ) refl

-- ## How far a replica is

pub standing-back : (s : Standing) → IsStanding s → standing_in (standing_words s) ≡ Ok s
unfolding standing_in progress_in over_in
standing-back s is =
    rw (
      number-decimal 1 8 s.replicas is.some is.few (omega arith),
      number-decimal 0 u8_max s.from (omega arith) is.from (omega arith),
      number-decimal 0 u8_max s.to (omega arith) is.to (omega arith),
      counts-back s.progress.accepted is.accepted,
      counts-back s.progress.view is.view,
      counts-back s.over.accepted is.offer,
      counts-back s.over.view is.tell,
    ) refl

kind-back : (k : Kind) → kind_word (kind_text k) ≡ Some k
kind-back kind.Offer = refl
kind-back kind.Yes = refl
kind-back kind.No = refl
kind-back kind.Tell = refl

in-back : (word : List ℕ) (k : Kind) (words parts : List (List ℕ)) → kind_word word ≡ Some k
    → message_in (word ∷ words) parts ≡ message_at k words parts
in-back word k words parts e = rw e refl

-- ## Words without a byte that parts

kind-plain : (k : Kind) → IsPlain (kind_text k)
kind-plain kind.Offer = AllPass-from_list_all is_plain (kind_text kind.Offer) refl
kind-plain kind.Yes = AllPass-from_list_all is_plain (kind_text kind.Yes) refl
kind-plain kind.No = AllPass-from_list_all is_plain (kind_text kind.No) refl
kind-plain kind.Tell = AllPass-from_list_all is_plain (kind_text kind.Tell) refl

and-number : (n : ℕ) (words : List (List ℕ)) → n ≤ u64_max → All IsPlain words → All IsPlain (decimal n ∷ words)
and-number n words few rest = All-cons IsPlain (decimal n) words (decimal-plain n (omega arith)) rest

-- counts behind a word
labelled : (label : List ℕ) (c : Counts) (words : List (List ℕ)) → IsPlain label → IsCounts c → All IsPlain words
    → All IsPlain (label ∷ counts_text c ∷ words)
labelled label c words first is rest =
    All-cons IsPlain label (counts_text c ∷ words) first
    (All-cons IsPlain (counts_text c) words (counts-plain c is) rest)

base-plain-of : (c : Counts) → IsCounts c → All IsPlain (base_word ∷ counts_text c ∷ [])
base-plain-of c is = labelled base_word c [] (AllPass-from_list_all is_plain base_word refl) is (All-nil IsPlain)

base-plain : (body : WireBody) → IsBodyFrom 0 body → All IsPlain (base_words body)
base-plain (Offer base more) is = base-plain-of base is.0
base-plain Yes is = All-nil IsPlain
base-plain (No base more) is = base-plain-of base is.0
base-plain (Tell base more) is = base-plain-of base is.0

pub carried-updates : (body : WireBody) → IsBodyFrom 0 body → All (IsUpdateFrom 0) (carried body)
carried-updates (Offer base more) is = is.1
carried-updates Yes is = All-nil (IsUpdateFrom 0)
carried-updates (No base more) is = is.1
carried-updates (Tell base more) is = is.1

progress-plain : (m : WireMessage) → IsTypedMessage m → All IsPlain (progress_words m.progress ++ base_words m.body)
progress-plain m is =
    let rest : List (List ℕ) = base_words m.body in
    labelled has_word m.progress.accepted (view_word ∷ counts_text m.progress.view ∷ rest)
    (AllPass-from_list_all is_plain has_word refl) is.accepted
    (labelled view_word m.progress.view rest (AllPass-from_list_all is_plain view_word refl) is.view
    (base-plain m.body is.body))

behind-plain : (m : WireMessage) → IsTypedMessage m → All IsPlain (behind m)
unfolding behind
behind-plain m is =
    let w5 : List (List ℕ) = progress_words m.progress ++ base_words m.body in
    let w4 : List (List ℕ) = decimal m.ballot ∷ w5 in
    let w3 : List (List ℕ) = decimal m.instance ∷ w4 in
    let w2 : List (List ℕ) = decimal m.to ∷ w3 in
    let w1 : List (List ℕ) = decimal m.from ∷ w2 in
    and-number m.replicas w1 (omega (arith, is.few))
    (and-number m.from w2 (omega (arith, is.from)) (and-number m.to w3 (omega (arith, is.to))
    (and-number m.instance w4 (omega (arith, is.instance)) (and-number m.ballot w5 (omega (arith, is.ballot)) (progress-plain m is)))))

over-plain : (p : Progress) → IsCounts p.accepted → IsCounts p.view → All IsPlain (over_words p)
over-plain p offer tell =
    labelled (kind_text kind.Offer) p.accepted (kind_text kind.Tell ∷ counts_text p.view ∷ []) (kind-plain kind.Offer)
    offer (labelled (kind_text kind.Tell) p.view [] (kind-plain kind.Tell) tell (All-nil IsPlain))

pub standing-plain : (s : Standing) → IsStanding s → All IsPlain (standing_words s)
standing-plain s is =
    let over : List (List ℕ) = over_words s.over in
    let words : List (List ℕ) = progress_words s.progress ++ over in
    and-number s.replicas (decimal s.from ∷ decimal s.to ∷ words) (omega (arith, is.few))
    (and-number s.from (decimal s.to ∷ words) (omega (arith, is.from))
    (and-number s.to words (omega (arith, is.to))
    (labelled has_word s.progress.accepted (view_word ∷ counts_text s.progress.view ∷ over)
    (AllPass-from_list_all is_plain has_word refl) is.accepted
    (labelled view_word s.progress.view over (AllPass-from_list_all is_plain view_word refl) is.view
    (over-plain s.over is.offer is.tell)))))

pub head-plain : (m : WireMessage) → IsTypedMessage m → All IsPlain (head_words m)
unfolding behind
head-plain m is =
    All-cons IsPlain (kind_text (kind_in m.body)) (behind m) (kind-plain (kind_in m.body)) (behind-plain m is)

-- what is read of a message's line
pub line-read : (m : WireMessage) → IsTypedMessage m
    → line_message (message_text m) ≡ message_at (kind_in m.body) (behind m) (map update_text (carried m.body))
unfolding behind
line-read m is =
    let first = kind-plain (kind_in m.body) in
    let rest = behind-plain m is in
    ap message_of_parts
    (parts-back (joined_by 32 (head_words m)) (map update_text (carried m.body))
    (words-part (kind_text (kind_in m.body)) (behind m) first rest)
    (updates-parts (carried m.body) (carried-updates m.body is.body)))
    ∙ ap (λ words. message_in words (map update_text (carried m.body)))
    (words-back (kind_text (kind_in m.body)) (behind m) first rest)
    ∙ in-back (kind_text (kind_in m.body)) (kind_in m.body) (behind m) (map update_text (carried m.body))
    (kind-back (kind_in m.body))

-- what is written of a message is read as it
pub message-back : (m : WireMessage) → IsMessage m → line_message (message_text m) ≡ Ok m
message-back m is =
    let typed = typed-message m is in
    line-read m typed
    ∙ body-left m is.some is.few typed
    ∙ ap (λ r. r >>= (λ body. Ok (letter (header_of m) m.progress body))) (body-back m.body is.body)
