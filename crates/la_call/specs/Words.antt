-- Requests, their names, and which lines answer them.
use Rattle.std.specs.Prelude.{ℕ, nat_le, ◌==◌, ◌-◌, Bool, not, ◌&&◌, ◌||◌, List, [], ◌∷◌, length, take, drop, codes}
use Rattle.std.specs.List.{list_all, list_any, before_first, after_first}
use Rattle.std.specs.Char.{is_ascii_alphanumeric}
use Rattle.std.specs.Str.{bytes_eq}
use Rattle.la_call.specs.declared.words.TheConstants.{MAX_NAME}

-- ## Names

-- a letter, a digit, or one of `_.:-`
abbrev pub is_request_name_byte : ℕ → Bool
is_request_name_byte b = is_ascii_alphanumeric b || ((b == 95) || ((b == 46) || ((b == 58) || (b == 45))))

abbrev pub is_request_name : List ℕ → Bool
is_request_name bytes =
    (nat_le 1 (length bytes) && nat_le (length bytes) MAX_NAME) && list_all is_request_name_byte bytes

-- what stands behind a request of this name, and behind what answers it
abbrev pub mark_of : (name : List ℕ) → List ℕ
mark_of name = 32 ∷ 64 ∷ name

-- ## Requests

-- one byte at least, none of which ends the line or begins a name
abbrev pub is_request : List ℕ → Bool
is_request request = nat_le 1 (length request) && list_all (λ b. not ((b == 10) || (b == 64))) request

-- a line's first word, and what stands behind it
abbrev pub first_word : List ℕ → List ℕ
first_word line = before_first (λ b. b == 32) line

abbrev pub past_first : List ℕ → List ℕ
past_first line = after_first (λ b. b == 32) line

-- it begins with this word
abbrev pub is_first_word : (word line : List ℕ) → Bool
is_first_word word line = bytes_eq (first_word line) word

-- a submission under a number, by the full stop in its second word
abbrev pub is_numbered : List ℕ → Bool
is_numbered request =
    is_first_word (codes "submit") request && list_any (λ b. b == 46) (first_word (past_first request))

-- written twice, it does no more than once: a question, a proposal, or a submission under a number
abbrev pub may_repeat : List ℕ → Bool
may_repeat request =
    is_first_word (codes "ask") request || (is_first_word (codes "update") request
    || (is_first_word (codes "status") request || (is_first_word (codes "decide") request || is_numbered request)))

-- ## TakesAnswer

-- the line ends in these bytes
abbrev pub ends_in : (mark line : List ℕ) → Bool
ends_in mark line = bytes_eq mark (drop (length line - length mark) line)

-- a note whose last word is the name's
abbrev pub is_answer : (mark line : List ℕ) → Bool
is_answer mark line = bytes_eq (take 1 line) (35 ∷ []) && ends_in mark line

-- what a note says, behind `#` and who says it
abbrev pub third_word : List ℕ → List ℕ
third_word line = first_word (past_first (past_first line))

-- `# rR refused ..`
abbrev pub is_refusal : List ℕ → Bool
is_refusal line = bytes_eq (third_word line) (codes "refused")

-- `# rR waiting ..`: an answer is still to come
abbrev pub is_waiting : List ℕ → Bool
is_waiting line = bytes_eq (third_word line) (codes "waiting")
