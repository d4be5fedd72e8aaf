use Rattle.std.proofs.Common.{◌∙◌, ap, sym, option_map, Some}
use Rattle.clap.specs.Words.{found_of}
use Rattle.clap.proofs.WalkLemmas.{first_value-rows}
use Rattle.la_call.proofs.reading.text_in.Goals as goal

pub returns-in_ok-from_str-in-Some : goal.returns-in_ok-from_str-in-Some
returns-in_ok-from_str-in-Some c =
    ap Some c.in_ok-from_str-in-Some.ensures.ok ∙ sym (ap (option_map (λ s. s.now)) c.in-Some.is) ∙ c.get_str.ensures
    ∙ first_value-rows (found_of c.args.given.now) c.args.name.now

pub returns-in-None : goal.returns-in-None
returns-in-None c =
    sym (ap (option_map (λ s. s.now)) c.in-None.is) ∙ c.get_str.ensures
    ∙ first_value-rows (found_of c.args.given.now) c.args.name.now
