use Rattle.std.proofs.Common.{◌≡◌, ◌≤◌, ◌++◌, drop, map, length, option_map, All}
use Rattle.la_proposer.specs.declared.votes.TheConstants.{MAX_VOTES}
use Rattle.la_script.specs.Words.{each_word}
use Rattle.la_script.specs.Headers.{vote_word}
use Rattle.la_script.proofs.headers.votes_of.Given as goal

abbrev pub invariant-loop-word : goal.invariant-loop-word
invariant-loop-word l = record {
  so_far : option_map (λ vs. l.votes.items ++ vs) (each_word vote_word (map (λ w. w.now) (drop l.word-index l.words)))
      ≡ each_word vote_word (map (λ w. w.now) l.words);
  len : length l.votes.items ≡ l.word-index;
  each : All (λ v. (1 ≤ v) × (v ≤ MAX_VOTES)) l.votes.items;
}
