-- Lines of few words: they are ASCII, and not empty.
use Rattle.std.proofs.Common.{◌≡◌, ℕ, ◌<◌, ◌^◌, [], ◌++◌, length, codes, ap, arith, length-append}
use Rattle.std.specs.Fmt.{decimal}
use Rattle.std.specs.Str.{IsAscii, IsUtf8}
use Rattle.std.proofs.lemmas.Fmt.{IsAscii-decimal}
use Rattle.std.proofs.lemmas.Str.{IsAscii-append, IsUtf8-from_ascii}
use Rattle.std.proofs.lemmas.Str.Ascii.{IsAscii-nil, IsAscii-cons}
use Rattle.la_script.specs.declared.marks.Plain.{Plain}
use Rattle.la_script.specs.declared.marks.Plain.TheVariants.{Counted, Ignored, Kept, Yes}
use Rattle.la_world.specs.declared.report.Line.{Line}
use Rattle.la_script.specs.Text.{line_text, numbered_text}
use Rattle.la_script.specs.Plain.{plain_text, plain_line}

ascii_kept : IsAscii (codes "kept")
ascii_kept =
    IsAscii-cons 107 (codes "ept") (omega arith)
    (IsAscii-cons 101 (codes "pt") (omega arith)
    (IsAscii-cons 112 (codes "t") (omega arith) (IsAscii-cons 116 [] (omega arith) IsAscii-nil)))

ascii_counted : IsAscii (codes "counted")
ascii_counted =
    IsAscii-cons 99 (codes "ounted") (omega arith)
    (IsAscii-cons 111 (codes "unted") (omega arith)
    (IsAscii-cons 117 (codes "nted") (omega arith)
    (IsAscii-cons 110 (codes "ted") (omega arith)
    (IsAscii-cons 116 (codes "ed") (omega arith)
    (IsAscii-cons 101 (codes "d") (omega arith) (IsAscii-cons 100 [] (omega arith) IsAscii-nil))))))

ascii_ignored : IsAscii (codes "ignored")
ascii_ignored =
    IsAscii-cons 105 (codes "gnored") (omega arith)
    (IsAscii-cons 103 (codes "nored") (omega arith)
    (IsAscii-cons 110 (codes "ored") (omega arith)
    (IsAscii-cons 111 (codes "red") (omega arith)
    (IsAscii-cons 114 (codes "ed") (omega arith)
    (IsAscii-cons 101 (codes "d") (omega arith) (IsAscii-cons 100 [] (omega arith) IsAscii-nil))))))

ascii_yes : IsAscii (codes "yes m")
ascii_yes =
    IsAscii-cons 121 (codes "es m") (omega arith)
    (IsAscii-cons 101 (codes "s m") (omega arith)
    (IsAscii-cons 115 (codes " m") (omega arith)
    (IsAscii-cons 32 (codes "m") (omega arith) (IsAscii-cons 109 [] (omega arith) IsAscii-nil))))

utf8_line : (n : ℕ) (line : Plain) → n < 2 ^ 64 → IsAscii (plain_text line) → IsUtf8 (plain_line n line)
unfolding plain_line
utf8_line n line low text =
    IsUtf8-from_ascii _
    (IsAscii-append ((decimal n ++ codes " ") ++ plain_text line) (codes "\n")
    (IsAscii-append (decimal n ++ codes " ") (plain_text line)
    (IsAscii-append (decimal n) (codes " ") (IsAscii-decimal n low) (IsAscii-cons 32 [] (omega arith) IsAscii-nil))
    text)
    (IsAscii-cons 10 [] (omega arith) IsAscii-nil))

pub counted_utf8 : (n : ℕ) → n < 2 ^ 64 → IsUtf8 (plain_line n Counted)
counted_utf8 n low = utf8_line n Counted low ascii_counted

pub ignored_utf8 : (n : ℕ) → n < 2 ^ 64 → IsUtf8 (plain_line n Ignored)
ignored_utf8 n low = utf8_line n Ignored low ascii_ignored

pub kept_utf8 : (n : ℕ) → n < 2 ^ 64 → IsUtf8 (plain_line n Kept)
kept_utf8 n low = utf8_line n Kept low ascii_kept

pub yes_utf8 : (n m : ℕ) → n < 2 ^ 64 → m < 2 ^ 64 → IsUtf8 (plain_line n (Yes m))
yes_utf8 n m low high =
    utf8_line n (Yes m) low (IsAscii-append (codes "yes m") (decimal m) ascii_yes (IsAscii-decimal m high))

pub line_some : (n : ℕ) (line : Plain) → 0 < length (plain_line n line)
unfolding plain_line
line_some n line =
    let one : length (codes "\n") ≡ 1 = omega arith in
    omega (arith, length-append ((decimal n ++ codes " ") ++ plain_text line) (codes "\n"))

-- a line of few words that says the same
pub numbered_plain : (n : ℕ) (plain : Plain) (line : Line) → plain_text plain ≡ line_text line
    → plain_line n plain ≡ numbered_text n line
unfolding plain_line
numbered_plain n plain line is = ap (λ t. decimal n ++ codes " " ++ t ++ codes "\n") is
