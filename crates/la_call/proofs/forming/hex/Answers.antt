use Rattle.std.proofs.Common.{◌≡◌, ◌∙◌, ◌++◌, ◌∷◌, [], ℕ, List, ap, get_or, rules, ◌/◌, ◌%◌}
use Rattle.la_call.specs.Names.{hex_digit}
use Rattle.la_call.proofs.Digits.{hex_more}
use Rattle.la_call.proofs.forming.hex.Goals as goal

pub loop-byte-preserved : goal.loop-byte-preserved
loop-byte-preserved c =
    let byte = get_or c.args.bytes.now c.loop-byte.byte-index 0 in
    let first : c.push.new.self.items ≡ c.loop-byte.digits.items ++ hex_digit (byte / 16) ∷ [] = search rules in
    let second : c.push-in-loop-byte.new.self.items ≡ c.push.new.self.items ++ hex_digit (byte % 16) ∷ [] =
    search rules in
    record {
      so_far =
          second ∙ ap (λ (t : List ℕ). t ++ hex_digit (byte % 16) ∷ []) first
          ∙ ap (λ (t : List ℕ). (t ++ hex_digit (byte / 16) ∷ []) ++ hex_digit (byte % 16) ∷ [])
          c.loop-byte.invariant.so_far
          ∙ hex_more c.args.bytes.now c.loop-byte.byte-index c.loop-byte-test.true;
    }
