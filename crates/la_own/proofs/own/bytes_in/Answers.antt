use Rattle.std.proofs.Common.{◌≡◌, ◌+◌, ◌*◌, ◌++◌, length, take, get_or, ap, sym, ◌∙◌, arith}
use Rattle.std.specs.Int.{w32, to_le_bytes}
use Rattle.std.proofs.lemmas.List.FromFn.{length-map-range_with_len, take-map-range_with_len}
use Rattle.la_own.specs.Own.{byte_at, word_of, no_tag}
use Rattle.la_own.proofs.Words.{word_more}
use Rattle.la_own.proofs.own.bytes_in.Goals as goal

pub put_word-requires : goal.put_word-requires
put_word-requires c =
    let place = c.loop-place.place in
    omega
    (arith, ap length c.loop-place.invariant, length-map-range_with_len (byte_at c.args.tags.now) 0 (4 * place))

pub loop-place-preserved : goal.loop-place-preserved
loop-place-preserved c =
    let place = c.loop-place.place in
    let word : c.word_of.result ≡ word_of (get_or c.args.tags.now (place + 1) no_tag) =
    c.word_of.ensures ∙ ap word_of c.tag_at.ensures in
    c.put_word.ensures
    ∙ (λ i. c.loop-place.invariant i ++ to_le_bytes w32 (word i))
    ∙ sym (word_more c.args.tags.now place)

pub returns : goal.returns
returns c =
    c.truncate.ensures.items
    ∙ ap (take c.args.told) c.loop-place.invariant
    ∙ take-map-range_with_len (byte_at c.args.tags.now) 0 (4 * c.loop-place.place) c.args.told (omega arith)
