use Rattle.std.proofs.Common.{◌≡◌, ◌++◌, ◌∷◌, [], string_bytes, rules}
use Rattle.la_call.proofs.Joining.{puts_word}
use Rattle.la_call.proofs.reading.put_spaced.Goals as goal

pub loop-word-preserved : goal.loop-word-preserved
loop-word-preserved c =
    let pushed : string_bytes c.push.new.self ≡ string_bytes c.loop-word.request ++ 32 ∷ [] = search rules in
    record {
      so_far =
          puts_word (λ w. w.now) c.args.words.now c.loop-word.word-index _ c.loop-word-test.true
          (string_bytes c.args.request.now) (string_bytes c.loop-word.request) (string_bytes c.push.new.self)
          (string_bytes c.push_str.new.self) c.loop-word.invariant.so_far pushed c.in_ok-push_str.ensures.bytes;
    }
