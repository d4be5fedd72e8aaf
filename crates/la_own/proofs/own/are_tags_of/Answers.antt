use Rattle.std.proofs.Common.{◌+◌, ◌<◌, length, get_or, ap, sym, ◌∙◌, refl, arith}
use Rattle.std.proofs.lemmas.Bool.{false≢true}
use Rattle.la_own.specs.Own.{word_count, no_tag}
use Rattle.la_own.proofs.Tags.{same_by_places, own_tags-length, own_tags-at}
use Rattle.la_own.proofs.own.are_tags_of.Goals as goal

pub returns-then-len-words : goal.returns-then-len-words
returns-then-len-words c = (
  λ e. absurd (false≢true e),
  λ same. absurd (c.if-len-words.true (omega (arith, ap length same, own_tags-length c.args.bytes.now))),
)

pub returns-then-not-is_at : goal.returns-then-not-is_at
returns-then-not-is_at c = (
  λ e. absurd (false≢true e),
  λ same. sym c.if-not-is_at.true
      ∙ c.is_at.ensures.1 (ap (λ tags. get_or tags 0 no_tag) same ∙ sym c.length_tag.ensures),
)

pub returns-then-not-is_at-2 : goal.returns-then-not-is_at-2
returns-then-not-is_at-2 c = (
  λ e. absurd (false≢true e),
  λ same.
      let within : c.loop-place.place < word_count c.args.bytes.now = omega (arith, c.word_count-words.ensures.words) in
      sym c.if-not-is_at-2.true
      ∙ c.is_at-in-loop-place.ensures.1 (ap (λ tags. get_or tags (c.loop-place.place + 1) no_tag) same
      ∙ own_tags-at c.args.bytes.now c.loop-place.place within ∙ sym c.word_tag.ensures),
)

pub returns : goal.returns
returns c = (
  λ e.
      same_by_places c.args.bytes.now c.args.tags.now
      (omega (arith, c.if-len-words.false, c.word_count-words.ensures.words, c.len.ensures.len))
      (c.is_at.ensures.0 c.if-not-is_at.false ∙ c.length_tag.ensures)
      (λ k lt. c.loop-place.invariant k (omega (arith, c.word_count-words.ensures.words, c.loop-place-test.false))),
  λ same. refl,
)
