-- A letter as a line: a head, and behind it, each with `;` before it, the updates.
use Rattle.std.specs.Prelude.{ℕ, zero, suc, nat_le, ◌==◌, List, [], ◌∷◌, ◌++◌, map, take, length, codes}
use Rattle.std.specs.Prelude.{slice_index_or, Option, Some, None, Result, Ok, Err, if◌then◌else◌}
use Rattle.std.specs.Borrow.{Bor}
use Rattle.std.specs.Fmt.{decimal}
use Rattle.std.specs.Str.{bytes_eq}
use Rattle.la_set.specs.declared.update.Update.{Update}
use Rattle.la_set.specs.declared.set.TheConstants.{REPLICAS}
use Rattle.la_set.specs.declared.counts.Counts.{Counts}
use Rattle.la_set.specs.Counts.{count_in, from_counts}
use Rattle.la_replica.specs.declared.progress.Progress.{Progress}
use Rattle.la_script.specs.Numbers.{u8_max, u32_max}
use Rattle.la_wire.specs.declared.error.LineFault.{LineFault}
use Rattle.la_wire.specs.declared.error.LineFault.TheVariants.{BadLine, BadNumber}
use Rattle.la_node.specs.declared.link.Standing.{Standing}
use Rattle.la_wire.specs.declared.messages.Kind.{Kind}
use Rattle.la_wire.specs.declared.messages.Kind.TheVariants as kind
use Rattle.la_wire.specs.declared.messages.Header.{Header}
use Rattle.la_wire.specs.Joined.{joined_by, parted}
use Rattle.la_wire.specs.Readings.{◌>>=◌, or_line_fault, with_rest, number_on, first_number, at_end}
use Rattle.la_wire.specs.Updates.{update_text, made, updates_in}
use Rattle.la_wire.specs.Messages.{WireMessage, WireBody, Offer, Yes, No, Tell}

-- ## As it is written

abbrev pub kind_text : Kind → List ℕ
kind_text kind.Offer = codes "offer"
kind_text kind.Yes = codes "yes"
kind_text kind.No = codes "no"
kind_text kind.Tell = codes "tell"

abbrev pub has_word : List ℕ
has_word = codes "has"

abbrev pub view_word : List ℕ
view_word = codes "view"

abbrev pub base_word : List ℕ
base_word = codes "base"

-- how many updates of each replica, from 0 on
abbrev pub numbers_in : Counts → List ℕ
numbers_in c =
    count_in c 0 ∷ count_in c 1 ∷ count_in c 2 ∷ count_in c 3 ∷
    count_in c 4 ∷ count_in c 5 ∷ count_in c 6 ∷ count_in c 7 ∷ []

-- a word for each of them, as notes have them
abbrev pub count_words : Counts → List (List ℕ)
count_words c = map decimal (numbers_in c)

-- how many of the numbers up to this replica's are written: without the zeros at the end, but at least one
abbrev pub used_from : Counts → (last : ℕ) → ℕ
used_from c zero = 1
used_from c (suc r) = if count_in c (suc r) == 0 then used_from c r else suc (suc r)

-- how many numbers are written: 1 to 8, up to the last that is not 0
unfoldable pub used : Counts → ℕ
used c = used_from c 7

-- counts as one word: these numbers, with `,` between them
unfoldable pub counts_text : Counts → List ℕ
counts_text c = joined_by 44 (map decimal (take (used c) (numbers_in c)))

abbrev pub kind_in : WireBody → Kind
kind_in (Offer base more) = kind.Offer
kind_in Yes = kind.Yes
kind_in (No base more) = kind.No
kind_in (Tell base more) = kind.Tell

abbrev pub base_words : WireBody → List (List ℕ)
base_words (Offer base more) = base_word ∷ counts_text base ∷ []
base_words Yes = []
base_words (No base more) = base_word ∷ counts_text base ∷ []
base_words (Tell base more) = base_word ∷ counts_text base ∷ []

-- the updates that a message carries
abbrev pub carried : WireBody → List Update
carried (Offer base more) = more
carried Yes = []
carried (No base more) = more
carried (Tell base more) = more

-- how far the sender is: by what it has accepted, and by its view
abbrev pub progress_words : Progress → List (List ℕ)
progress_words p = has_word ∷ counts_text p.accepted ∷ view_word ∷ counts_text p.view ∷ []

-- `offer`, `yes`, `no` or `tell`, then the group's size, sender, receiver, instance and ballot
abbrev pub header_words : WireMessage → List (List ℕ)
header_words m =
    kind_text (kind_in m.body) ∷ decimal m.replicas ∷ decimal m.from ∷ decimal m.to ∷ decimal m.instance ∷
    decimal m.ballot ∷ []

-- then how far the sender is, and then the base
abbrev pub head_words : WireMessage → List (List ℕ)
head_words m = header_words m ++ progress_words m.progress ++ base_words m.body

abbrev pub message_text : WireMessage → List ℕ
message_text m = joined_by 59 (joined_by 32 (head_words m) ∷ map update_text (carried m.body))

-- ## How far a replica is

abbrev pub known_word : List ℕ
known_word = codes "known"

-- over what the letter was told that it answers: an offer, or a told set
abbrev pub over_words : Progress → List (List ℕ)
over_words p = kind_text kind.Offer ∷ counts_text p.accepted ∷ kind_text kind.Tell ∷ counts_text p.view ∷ []

-- `known`, then the group's size, whose it is and for whom, how far it is, and what it answers
abbrev pub standing_words : Standing → List (List ℕ)
standing_words s =
    decimal s.replicas ∷ decimal s.from ∷ decimal s.to ∷ progress_words s.progress ++ over_words s.over

abbrev pub standing_text : Standing → List ℕ
standing_text s = joined_by 32 (known_word ∷ standing_words s)

-- ## As it is read

abbrev pub kind_word : List ℕ → Option Kind
kind_word word =
    if bytes_eq word (kind_text kind.Offer) then Some kind.Offer else
    if bytes_eq word (kind_text kind.Yes) then Some kind.Yes else
    if bytes_eq word (kind_text kind.No) then Some kind.No else
    if bytes_eq word (kind_text kind.Tell) then Some kind.Tell else None

-- the five numbers that a head begins with, and the words behind them
unfoldable pub message_header : List (List ℕ) → Result (Header × List (List ℕ)) LineFault
message_header words = do
  replicas ← first_number 1 8 words
  from ← first_number 0 u8_max replicas.1
  to ← first_number 0 u8_max from.1
  instance ← first_number 0 u8_max to.1
  ballot ← first_number 0 u32_max instance.1
  Ok (record { replicas = replicas.0; from = from.0; to = to.0; instance = instance.0; ballot = ballot.0 }, ballot.1)

-- the numbers that these texts are
abbrev pub numbers_on : List (List ℕ) → Result (List ℕ) LineFault
numbers_on [] = Ok []
numbers_on (text ∷ texts) = do
  n ← number_on 0 u32_max text
  ns ← numbers_on texts
  Ok (n ∷ ns)

-- the counts with these numbers: of a replica that has none, 0
abbrev pub counts_with : List ℕ → Counts
counts_with numbers = from_counts (λ r. slice_index_or numbers r 0)

-- the counts that a word is: at most eight numbers, with `,` between them
unfoldable pub counts_on : List ℕ → Result Counts LineFault
counts_on word =
    if nat_le (length (parted 44 word)) REPLICAS then made counts_with (numbers_on (parted 44 word)) else Err BadNumber

-- the texts in what is left of such a word: none, where nothing is left
abbrev pub texts_left : Option (Bor (List ℕ)) → List (List ℕ)
texts_left None = []
texts_left (Some texts) = parted 44 texts.now

-- the first of the words, as counts, and the words behind it
abbrev pub first_counts : List (List ℕ) → Result (Counts × List (List ℕ)) LineFault
first_counts [] = Err BadLine
first_counts (word ∷ words) = with_rest words (counts_on word)

-- the same, behind this word
abbrev pub counts_behind : (label : List ℕ) → List (List ℕ) → Result (Counts × List (List ℕ)) LineFault
counts_behind label [] = Err BadLine
counts_behind label (word ∷ words) = if bytes_eq word label then first_counts words else Err BadLine

-- how far the sender is, and the words behind it
unfoldable pub progress_in : List (List ℕ) → Result (Progress × List (List ℕ)) LineFault
progress_in words = do
  accepted ← counts_behind has_word words
  view ← counts_behind view_word accepted.1
  Ok (record { accepted = accepted.0; view = view.0 }, view.1)

-- over what the letter was told that is answered, and the words behind it
unfoldable pub over_in : List (List ℕ) → Result (Progress × List (List ℕ)) LineFault
over_in words = do
  accepted ← counts_behind (kind_text kind.Offer) words
  view ← counts_behind (kind_text kind.Tell) accepted.1
  Ok (record { accepted = accepted.0; view = view.0 }, view.1)

-- how far a replica is, by the words behind `known`
unfoldable pub standing_in : List (List ℕ) → Result Standing LineFault
standing_in words = do
  replicas ← first_number 1 8 words
  from ← first_number 0 u8_max replicas.1
  to ← first_number 0 u8_max from.1
  progress ← progress_in to.1
  over ← over_in progress.1
  end ← at_end over.1
  Ok
      (record {
        replicas = replicas.0;
        from = from.0;
        to = to.0;
        progress = progress.0;
        over = over.0;
      })

-- the base, and nothing behind it
unfoldable pub base_on : List (List ℕ) → Result Counts LineFault
base_on words = do
  base ← counts_behind base_word words
  end ← at_end base.1
  Ok base.0

-- a base, and the updates over it
abbrev pub delta_in : List (List ℕ) → List (List ℕ) → Result (Counts × List Update) LineFault
delta_in words parts = do
  base ← base_on words
  more ← updates_in parts
  Ok (base, more)

-- what stands behind the progress, and the parts behind the head
unfoldable pub body_in : Kind → List (List ℕ) → List (List ℕ) → Result WireBody LineFault
body_in kind.Offer words parts = made (λ d. Offer d.0 d.1) (delta_in words parts)
body_in kind.Yes words parts = do
  end ← at_end words
  last ← at_end parts
  Ok Yes
body_in kind.No words parts = made (λ d. No d.0 d.1) (delta_in words parts)
body_in kind.Tell words parts = made (λ d. Tell d.0 d.1) (delta_in words parts)

abbrev pub letter : Header → Progress → WireBody → WireMessage
letter h progress body = record {
  replicas = h.replicas;
  from = h.from;
  to = h.to;
  instance = h.instance;
  ballot = h.ballot;
  progress = progress;
  body = body;
}

-- a message of a kind, by the words behind it
unfoldable pub message_at : Kind → List (List ℕ) → List (List ℕ) → Result WireMessage LineFault
message_at kind words parts = do
  header ← message_header words
  progress ← progress_in header.1
  body ← body_in kind progress.1 parts
  Ok (letter header.0 progress.0 body)

-- the message that a head's words and the parts behind it say
abbrev pub message_in : List (List ℕ) → List (List ℕ) → Result WireMessage LineFault
message_in [] parts = Err BadLine
message_in (word ∷ words) parts = or_line_fault BadLine (kind_word word) >>= (λ kind. message_at kind words parts)

abbrev pub message_of_parts : List (List ℕ) → Result WireMessage LineFault
message_of_parts [] = Err BadLine
message_of_parts (head ∷ parts) = message_in (parted 32 head) parts

-- the message that a line says, or its first fault
abbrev pub line_message : List ℕ → Result WireMessage LineFault
line_message line = message_of_parts (parted 59 line)
