use Rattle.std.proofs.Common.{◌++◌, codes, ap, ◌∙◌}
use Rattle.la_script.specs.Plain.{plain_text, plain_line}
use Rattle.la_script.proofs.walk.line_of.Goals as goal

pub returns : goal.returns
unfolding plain_line
returns c =
    c.push_str-3.ensures.bytes
    ∙ ap (λ t. t ++ codes "\n")
    (c.put_plain.ensures.text
    ∙ ap (λ t. t ++ plain_text c.args.plain)
    (c.push_str-2.ensures.bytes
    ∙ ap (λ t. t ++ codes " ")
    (c.push_str.ensures.bytes ∙ ap (λ t. t ++ c.format.result.now) c.new-line.ensures
    ∙ c.format.ensures.text)))
