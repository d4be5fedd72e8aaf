use Rattle.std.proofs.Common.{◌≡◌, ◌∙◌, ap, codes, sym, option_map, Option, Some, None, List, ℕ, true}
use Rattle.std.specs.Option.{option_map_or}
use Rattle.clap.specs.Words.{first_of, found_of, rows_of}
use Rattle.clap.proofs.WalkLemmas.{first_value-rows}
use Rattle.la_call.specs.Words.{is_request_name}
use Rattle.la_call.proofs.reading.is_well_named.Goals as goal

pub returns-in-Some : goal.returns-in-Some
returns-in-Some c =
    let found = found_of c.args.given.now in
    let first : first_of (codes "name") (rows_of found) ≡ Some c.in-Some.name.now =
    sym (first_value-rows found (codes "name")) ∙ sym c.get_str.ensures ∙ ap (option_map (λ s. s.now)) c.in-Some.is in
    c.is_name.ensures ∙ ap is_request_name c.as_bytes.ensures.value
    ∙ sym (ap (λ (o : Option (List ℕ)). option_map_or is_request_name o true) first)

pub returns-in-None : goal.returns-in-None
returns-in-None c =
    let found = found_of c.args.given.now in
    let first : first_of (codes "name") (rows_of found) ≡ None =
    sym (first_value-rows found (codes "name")) ∙ sym c.get_str.ensures ∙ ap (option_map (λ s. s.now)) c.in-None.is in
    sym (ap (λ (o : Option (List ℕ)). option_map_or is_request_name o true) first)
