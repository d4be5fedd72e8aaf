use Rattle.std.proofs.Common.{◌∙◌, ap, codes, sym, option_map, Some}
use Rattle.clap.specs.Words.{found_of, rows_of}
use Rattle.clap.proofs.WalkLemmas.{first_value-rows}
use Rattle.la_serve.proofs.CommandRules.{first_there, some_text}
use Rattle.la_serve.proofs.making.making_in.Goals as goal

pub unwrap-folder-requires : goal.unwrap-folder-requires
unwrap-folder-requires c =
    let found = found_of c.args.given.now in
    let first = first_there (codes "folder") (rows_of found) c.requires.folder.0 c.requires.folder.1 in
    some_text c.get_str.result first.0 (c.get_str.ensures ∙ first_value-rows found (codes "folder") ∙ first.1)

pub returns : goal.returns
returns c =
    let found = found_of c.args.given.now in
    record {
      group_given = c.in-Ok.ensures.ok;
      folder_given =
          sym (first_value-rows found (codes "folder")) ∙ sym c.get_str.ensures
          ∙ ap (option_map (λ s. s.now)) c.unwrap-folder.ensures
          ∙ ap Some (sym c.in_ok-folder.ensures.ok);
    }
