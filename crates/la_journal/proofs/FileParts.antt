-- What a file has, by its first line.
use Rattle.std.proofs.Common.{◌≡◌, arith, ℕ, ◌+◌, List, [], ◌∷◌, ◌++◌, Some, None, sym, ◌∙◌, ap, drop, length, append_assoc}
use Rattle.std.proofs.lemmas.List.{length-append, drop_at}
use Rattle.la_journal.specs.Commits.{HasNoEnd}
use Rattle.la_journal.specs.Records.{ended, text_of_head, parts, parts_of, parts_with, parts_behind}
use Rattle.la_journal.proofs.Ended.{one_ended, none_ended}

pub no_parts : (file : List ℕ) → HasNoEnd file → parts file ≡ None
no_parts file has = ap (parts_of file) (none_ended [] file has)

module _ (file line rest : List ℕ) (split : file ≡ line ++ 10 ∷ rest) (has : HasNoEnd line) where
  first : parts file ≡ parts_with file line (text_of_head line)
  first = ap (parts_of file) (ap ended split ∙ one_ended [] line rest has)

  pub no_head : text_of_head line ≡ None → parts file ≡ None
  no_head none = first ∙ ap (parts_with file line) none

  pub head_is : (text : List ℕ) → text_of_head line ≡ Some text → parts file ≡ Some (parts_behind text line rest)
  head_is text is =
      first
      ∙ ap (parts_with file line) is
      ∙ ap (λ (l : List ℕ). Some (parts_behind text line l))
      (ap (drop (length line + 1)) (split ∙ sym (append_assoc line (10 ∷ []) rest))
      ∙ drop_at (line ++ 10 ∷ []) rest (length line + 1) (omega (arith, length-append line (10 ∷ []))))
