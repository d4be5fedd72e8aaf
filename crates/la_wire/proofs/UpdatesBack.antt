-- Updates are read back from their parts.
use Rattle.std.proofs.Common.{◌≡◌, ℕ, ◌≤◌, true, false, List, [], ◌∷◌, length, map, All, Option, Some, None, Ok, refl}
use Rattle.std.proofs.Common.{sym}
use Rattle.std.proofs.Common.{ap, ◌∙◌, arith}
use Rattle.std.specs.Fmt.{decimal}
use Rattle.std.proofs.lemmas.Bool.{le-leb}
use Rattle.std.proofs.lemmas.List.{length-map}
use Rattle.std.proofs.lemmas.List.Elements.{All-nil, All-cons, All-head, All-tail, All-map, All-weaker}
use Rattle.std.proofs.lemmas.List.Sums.{AllPass-from_list_all}
use Rattle.la_set.specs.declared.update.UpdateId.{UpdateId}
use Rattle.la_set.specs.declared.update.Update.{Update}
use Rattle.la_set.specs.declared.update.Op.{Op}
use Rattle.la_set.specs.declared.update.Op.TheVariants.{Inc, Dec, Raise, Put, Remove, Mark, Vote}
use Rattle.la_own.specs.Own.{own_bytes_of}
use Rattle.la_own.proofs.lemmas.OwnTags.{bytes_of-made}
use Rattle.la_script.specs.Numbers.{u16_max, u32_max, u64_max, number}
use Rattle.la_script.specs.Tags.{tag_of, tag_words}
use Rattle.la_script.specs.Text.{id_text}
use Rattle.la_wire.specs.declared.updates.Verb.{Verb}
use Rattle.la_wire.specs.declared.updates.Verb.TheVariants as verb
use Rattle.la_wire.specs.Joined.{parted}
use Rattle.la_wire.specs.Readings.{◌>>=◌}
use Rattle.la_wire.specs.Updates.{update_words, verb_spelling, vote_verb, own_text, remove_words, op_words, update_text}
use Rattle.la_wire.specs.Updates.{line_tags, op_at, op_in, update_in, updates_in}
use Rattle.la_wire.specs.Writable.{IsIdFrom, IsOpFrom, IsUpdateFrom, IsId, IsOp, IsUpdate}
use Rattle.la_wire.proofs.Decimals.{number-decimal, decimal-plain, is_plain, IsPlain}
use Rattle.la_wire.proofs.Joins.{Lacks, words-back, words-part}
use Rattle.la_wire.proofs.Typed.{typed-update}
use Rattle.la_wire.proofs.OwnTexts.{own-text-back, own-plain}
use Rattle.la_wire.proofs.Ids.{id-plain, id-back, tags-back}

tags_at-back : (tags : List UpdateId) → length tags ≤ 64 → tag_words (map id_text tags) ≡ Some tags
    → line_tags (map id_text tags) ≡ Ok tags
tags_at-back tags few back =
    rw (le-leb (length (map id_text tags)) 64 (omega (arith, length-map tags id_text)), back) refl

remove-back : (tags : List UpdateId) (o : Option (List ℕ)) → own_bytes_of (Remove tags) ≡ o → IsOp (Remove tags)
    → op_in (remove_words tags o) ≡ Ok (Remove tags)
unfolding op_at
remove-back tags None none is = rw (tags_at-back tags is.0.within (tags-back tags is.0.ascending is.1)) refl
remove-back tags (Some bytes) some is =
    let made = bytes_of-made (Remove tags) bytes some in
    own-text-back bytes made.0 ∙ ap Ok (sym made.1)

pub op-back : (op : Op) → IsOp op → op_in (op_words op) ≡ Ok op
unfolding op_at
op-back (Inc x) is = rw (number-decimal 0 u32_max x (omega arith) is (omega arith)) refl
op-back (Dec x) is = rw (number-decimal 0 u32_max x (omega arith) is (omega arith)) refl
op-back (Raise x) is = rw (number-decimal 0 u64_max x (omega arith) is (omega arith)) refl
op-back (Put x) is = rw (number-decimal 0 u64_max x (omega arith) is (omega arith)) refl
op-back (Remove tags) is = remove-back tags (own_bytes_of (Remove tags)) refl is
op-back Mark is = refl
op-back (Vote x true) is = rw (number-decimal 0 u64_max x (omega arith) is (omega arith)) refl
op-back (Vote x false) is = rw (number-decimal 0 u64_max x (omega arith) is (omega arith)) refl

-- an update whose id and object are read
pub update-parts : (name object : List ℕ) (words : List (List ℕ)) (u : Update) → tag_of name ≡ Some u.id
    → number 0 u16_max object ≡ Some u.object
    → update_in (name ∷ object ∷ words)
    ≡ (op_in words >>= (λ does. Ok (record { id = u.id; object = u.object; op = does })))
unfolding update_in
update-parts name object words u a b = rw (a, b) refl

-- ## Words without a byte that parts

one-number : (w : List ℕ) (x : ℕ) → IsPlain w → x ≤ u64_max → All IsPlain (w ∷ decimal x ∷ [])
one-number w x plain few =
    All-cons IsPlain w (decimal x ∷ []) plain
    (All-cons IsPlain (decimal x) [] (decimal-plain x (omega arith)) (All-nil IsPlain))

verb-plain : (v : Verb) → IsPlain (verb_spelling v)
verb-plain verb.Inc = AllPass-from_list_all is_plain (verb_spelling verb.Inc) refl
verb-plain verb.Dec = AllPass-from_list_all is_plain (verb_spelling verb.Dec) refl
verb-plain verb.Raise = AllPass-from_list_all is_plain (verb_spelling verb.Raise) refl
verb-plain verb.Put = AllPass-from_list_all is_plain (verb_spelling verb.Put) refl
verb-plain verb.Remove = AllPass-from_list_all is_plain (verb_spelling verb.Remove) refl
verb-plain verb.Own = AllPass-from_list_all is_plain (verb_spelling verb.Own) refl
verb-plain verb.Mark = AllPass-from_list_all is_plain (verb_spelling verb.Mark) refl
verb-plain verb.Vote = AllPass-from_list_all is_plain (verb_spelling verb.Vote) refl
verb-plain verb.Sole = AllPass-from_list_all is_plain (verb_spelling verb.Sole) refl

remove-plain : (tags : List UpdateId) (o : Option (List ℕ)) → own_bytes_of (Remove tags) ≡ o → IsOpFrom 0 (Remove tags)
    → All IsPlain (remove_words tags o)
remove-plain tags None none is =
    All-cons IsPlain (verb_spelling verb.Remove) (map id_text tags) (verb-plain verb.Remove)
    (All-map IsPlain id_text tags (All-weaker (IsIdFrom 0) (λ id. IsPlain (id_text id)) id-plain tags is.1))
remove-plain tags (Some bytes) some is =
    All-cons IsPlain (verb_spelling verb.Own) (own_text bytes ∷ []) (verb-plain verb.Own)
    (All-cons IsPlain (own_text bytes) [] (own-plain bytes (bytes_of-made (Remove tags) bytes some).0)
    (All-nil IsPlain))

pub op-plain : (op : Op) → IsOpFrom 0 op → All IsPlain (op_words op)
op-plain (Inc x) is = one-number (verb_spelling verb.Inc) x (verb-plain verb.Inc) (omega arith)
op-plain (Dec x) is = one-number (verb_spelling verb.Dec) x (verb-plain verb.Dec) (omega arith)
op-plain (Raise x) is = one-number (verb_spelling verb.Raise) x (verb-plain verb.Raise) is
op-plain (Put x) is = one-number (verb_spelling verb.Put) x (verb-plain verb.Put) is
op-plain (Remove tags) is = remove-plain tags (own_bytes_of (Remove tags)) refl is
op-plain Mark is = All-cons IsPlain (verb_spelling verb.Mark) [] (verb-plain verb.Mark) (All-nil IsPlain)
op-plain (Vote x sole) is = one-number (verb_spelling (vote_verb sole)) x (verb-plain (vote_verb sole)) is

rest-plain : (u : Update) → IsUpdateFrom 0 u → All IsPlain (decimal u.object ∷ op_words u.op)
rest-plain u is =
    All-cons IsPlain (decimal u.object) (op_words u.op) (decimal-plain u.object (omega (arith, is.object)))
    (op-plain u.op is.op)

pub update-plain : (u : Update) → IsUpdateFrom 0 u → All IsPlain (update_words u)
update-plain u is =
    All-cons IsPlain (id_text u.id) (decimal u.object ∷ op_words u.op) (id-plain u.id is.id) (rest-plain u is)

pub update-part : (u : Update) → IsUpdateFrom 0 u → Lacks 59 (update_text u)
update-part u is = words-part (id_text u.id) (decimal u.object ∷ op_words u.op) (id-plain u.id is.id) (rest-plain u is)

-- the words of its part
pub update-line : (u : Update) → IsUpdateFrom 0 u → parted 32 (update_text u) ≡ update_words u
update-line u is = words-back (id_text u.id) (decimal u.object ∷ op_words u.op) (id-plain u.id is.id) (rest-plain u is)

-- what is left to read of one whose id can be had
pub op-left : (u : Update) → IsUpdateFrom 0 u → IsId u.id
    → update_in (parted 32 (update_text u))
    ≡ (op_in (op_words u.op) >>= (λ does. Ok (record { id = u.id; object = u.object; op = does })))
op-left u is id =
    ap update_in (update-line u is)
    ∙ update-parts (id_text u.id) (decimal u.object) (op_words u.op) u (id-back u.id id)
    (number-decimal 0 u16_max u.object (omega arith) is.object (omega arith))

pub update-back : (u : Update) → IsUpdate u → update_in (parted 32 (update_text u)) ≡ Ok u
update-back u is =
    op-left u (typed-update u is) is.id
    ∙ ap (λ r. r >>= (λ does. Ok (record { id = u.id; object = u.object; op = does }))) (op-back u.op is.op)

pub updates-back : (us : List Update) → All IsUpdate us → updates_in (map update_text us) ≡ Ok us
updates-back [] all = refl
updates-back (u ∷ us) all =
    rw (update-back u (All-head IsUpdate u us all), updates-back us (All-tail IsUpdate u us all)) refl

pub updates-parts : (us : List Update) → All (IsUpdateFrom 0) us → All (Lacks 59) (map update_text us)
updates-parts us all =
    All-map (Lacks 59) update_text us (All-weaker (IsUpdateFrom 0) (λ u. Lacks 59 (update_text u)) update-part us all)
