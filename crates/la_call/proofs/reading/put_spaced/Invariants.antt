use Rattle.std.proofs.Common.{◌≡◌, ◌++◌, map, take, string_bytes}
use Rattle.la_call.specs.Options.{spaced_words}
use Rattle.la_call.proofs.reading.put_spaced.Given as goal

abbrev pub invariant-loop-word : goal.invariant-loop-word
invariant-loop-word l = record {
  so_far : string_bytes l.request
      ≡ string_bytes l.initial.request ++ spaced_words (map (λ w. w.now) (take l.word-index l.words));
}
