-- The lines before the events: the version, the group, and in version 2 the votes.
use Rattle.std.specs.Prelude.{ℕ, List, [], ◌∷◌, length, codes, Option, Some, None, option_map, ◌==◌, ◌&&◌, if◌then◌else◌}
use Rattle.std.specs.Str.{bytes_eq}
use Rattle.la_proposer.specs.declared.votes.TheConstants.{MAX_VOTES}
use Rattle.la_script.specs.declared.forms.Keyword.TheVariants as keyword
use Rattle.la_script.specs.declared.script.Version.{Version}
use Rattle.la_script.specs.declared.script.Version.TheVariants.{One, Two}
use Rattle.la_script.specs.Words.{each_word}
use Rattle.la_script.specs.Numbers.{number}
use Rattle.la_script.specs.Forms.{spelling, header, fits}
use Rattle.la_script.specs.Values.{HeaderGroup, no_values, values, values_group}
use Rattle.la_script.specs.Lines.{words_of}

-- the first line
abbrev pub version_line : Version → List ℕ
version_line One = codes "lattice 1"
version_line Two = codes "lattice 2"

-- the version that a first line says
abbrev pub version_of : List ℕ → Option Version
version_of line =
    if bytes_eq line (version_line One) then Some One else
    if bytes_eq line (version_line Two) then Some Two else None

-- the group that a header's words say
abbrev pub header_in : List (List ℕ) → Option HeaderGroup
header_in words = if fits header words then option_map values_group (values header words no_values) else None

-- the group that a header's line says
abbrev pub header_of : List ℕ → Option HeaderGroup
header_of line = header_in (words_of line)

-- the votes that a word says
abbrev pub vote_word : List ℕ → Option ℕ
vote_word word = number 1 MAX_VOTES word

-- the votes that a line's words say: `votes`, and a number for each of n replicas
abbrev pub votes_in : (n : ℕ) → List (List ℕ) → Option (List ℕ)
votes_in n [] = None
votes_in n (first ∷ words) =
    if bytes_eq first (spelling keyword.Votes) && (length words == n) then each_word vote_word words
    else None

-- the votes that a line says
abbrev pub votes_said : (n : ℕ) → List ℕ → Option (List ℕ)
votes_said n line = votes_in n (words_of line)
