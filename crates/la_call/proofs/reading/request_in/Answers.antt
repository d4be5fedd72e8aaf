use Rattle.std.proofs.Common.{◌∙◌, ap, codes, sym, map, option_map}
use Rattle.clap.specs.Words.{found_of, rows_of}
use Rattle.clap.proofs.WalkLemmas.{raw_values-rows}
use Rattle.la_call.specs.Words.{is_request}
use Rattle.la_call.proofs.OptionLines.{all_there, some_of}
use Rattle.la_call.proofs.reading.request_in.Goals as goal

pub unwrap-words-requires : goal.unwrap-words-requires
unwrap-words-requires c =
    let found = found_of c.args.given.now in
    let all = all_there (codes "word") (rows_of found) c.requires.words.0 c.requires.words.1 in
    some_of (λ s. map (λ v. v.now) s.now) c.get_strs.result all.0
    (c.get_strs.ensures ∙ raw_values-rows found (codes "word") ∙ all.1)

pub returns-then-is_request : goal.returns-then-is_request
returns-then-is_request c =
    let found = found_of c.args.given.now in (
      record {
        words = map (λ v. v.now) c.unwrap-words.result.now;
        given =
            sym (raw_values-rows found (codes "word")) ∙ sym c.get_strs.ensures
            ∙ ap (option_map (λ s. map (λ v. v.now) s.now)) c.unwrap-words.ensures;
        is = c.in_ok-request.ensures;
      },
      ap is_request (sym c.as_bytes.ensures.value) ∙ sym c.is_request.ensures ∙ c.if-is_request.true,
    )

pub returns-else-is_request : goal.returns-else-is_request
returns-else-is_request c =
    let found = found_of c.args.given.now in (
      _,
      record {
        words = map (λ v. v.now) c.unwrap-words.result.now;
        given =
            sym (raw_values-rows found (codes "word")) ∙ sym c.get_strs.ensures
            ∙ ap (option_map (λ s. map (λ v. v.now) s.now)) c.unwrap-words.ensures;
        is = c.in_ok-request.ensures;
      },
      ap is_request (sym c.as_bytes.ensures.value) ∙ sym c.is_request.ensures ∙ c.if-is_request.false,
    )
