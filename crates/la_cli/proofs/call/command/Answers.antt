use Rattle.std.proofs.Common.{rules, ◌≡◌, ◌∙◌, ap, sym, codes, Some, map, option_map, string_bytes}
use Rattle.clap.specs.Words.{App, app_of, is_simple_and_free, is_simple, subcommand_of, fault_of, found_of, rows_of, subcommand_name_of}
use Rattle.la_cli.specs.Calls.{lattice}
use Rattle.la_cli.proofs.CommandLines.{lattice_is_simple, lattice_is_free, names_of_parse, no_other, some_entered, draw_is_named, draw_is_taken, run_is_named, run_is_taken}
use Rattle.la_cli.proofs.call.command.Goals.{in_default-via-in-Some-3+else-eq-3, in_default-via-in_default}
use Rattle.la_cli.proofs.call.command.Goals as goal

pub returns-in-Some-clause-ok : goal.returns-in-Some-clause-ok
returns-in-Some-clause-ok c =
    let words = map string_bytes c.args.words.now in
    let is : app_of c.in_ok-program.field-0 ≡ lattice = c.in_ok-program.ensures.app in
    let matches = c.in_ok-matches.ensures.matches (ap is_simple is ∙ lattice_is_simple) in
    let faultless = c.in_ok-matches.ensures.kinds (ap is_simple_and_free is ∙ lattice_is_free) in
    let name : subcommand_name_of c.in_ok-matches.matches ≡ Some (codes "play") =
    sym c.subcommand.ensures.name ∙ ap (option_map (λ p. p.0.now)) c.in-Some.is ∙ ap Some (search rules) in
    let rows = sym c.subcommand.ensures.rows ∙ ap (option_map (λ p. rows_of (found_of p.1.now))) c.in-Some.is in
    record {
      faultless = sym (ap (λ (a : App). fault_of a words) is) ∙ faultless;
      named = (
        _,
        names_of_parse words c.in_ok-matches.matches (codes "play") _ name rows
            (matches.1 ∙ ap (λ (a : App). subcommand_of a words) is),
      );
    }

pub drawn-requires : goal.drawn-requires
drawn-requires c =
    let words = map string_bytes c.args.words.now in
    let is : app_of c.in_ok-program.field-0 ≡ lattice = c.in_ok-program.ensures.app in
    let matches = c.in_ok-matches.ensures.matches (ap is_simple is ∙ lattice_is_simple) in
    let faultless = c.in_ok-matches.ensures.kinds (ap is_simple_and_free is ∙ lattice_is_free) in
    let name : subcommand_name_of c.in_ok-matches.matches ≡ Some (codes "random") =
    sym c.subcommand.ensures.name ∙ ap (option_map (λ p. p.0.now)) c.in-Some-2.is ∙ ap Some (search rules) in
    let rows = sym c.subcommand.ensures.rows ∙ ap (option_map (λ p. rows_of (found_of p.1.now))) c.in-Some.is in
    let named =
    names_of_parse words c.in_ok-matches.matches (codes "random") _ name rows
    (matches.1 ∙ ap (λ (a : App). subcommand_of a words) is) in
    draw_is_taken words _ (sym (ap (λ (a : App). fault_of a words) is) ∙ faultless) named

pub returns-in-Some-2-clause-ok : goal.returns-in-Some-2-clause-ok
returns-in-Some-2-clause-ok c =
    let words = map string_bytes c.args.words.now in
    let is : app_of c.in_ok-program.field-0 ≡ lattice = c.in_ok-program.ensures.app in
    let matches = c.in_ok-matches.ensures.matches (ap is_simple is ∙ lattice_is_simple) in
    let faultless = c.in_ok-matches.ensures.kinds (ap is_simple_and_free is ∙ lattice_is_free) in
    let name : subcommand_name_of c.in_ok-matches.matches ≡ Some (codes "random") =
    sym c.subcommand.ensures.name ∙ ap (option_map (λ p. p.0.now)) c.in-Some-2.is ∙ ap Some (search rules) in
    let rows = sym c.subcommand.ensures.rows ∙ ap (option_map (λ p. rows_of (found_of p.1.now))) c.in-Some.is in
    let named =
    names_of_parse words c.in_ok-matches.matches (codes "random") _ name rows
    (matches.1 ∙ ap (λ (a : App). subcommand_of a words) is) in
    record {
      faultless = sym (ap (λ (a : App). fault_of a words) is) ∙ faultless;
      named = draw_is_named words _ c.drawn.result named c.drawn.ensures;
    }

pub run_of-requires : goal.run_of-requires
run_of-requires c =
    let words = map string_bytes c.args.words.now in
    let is : app_of c.in_ok-program.field-0 ≡ lattice = c.in_ok-program.ensures.app in
    let matches = c.in_ok-matches.ensures.matches (ap is_simple is ∙ lattice_is_simple) in
    let faultless = c.in_ok-matches.ensures.kinds (ap is_simple_and_free is ∙ lattice_is_free) in
    let name : subcommand_name_of c.in_ok-matches.matches ≡ Some (codes "threads") =
    sym c.subcommand.ensures.name ∙ ap (option_map (λ p. p.0.now)) c.in-Some-3.is ∙ ap Some (search rules) in
    let rows = sym c.subcommand.ensures.rows ∙ ap (option_map (λ p. rows_of (found_of p.1.now))) c.in-Some.is in
    let named =
    names_of_parse words c.in_ok-matches.matches (codes "threads") _ name rows
    (matches.1 ∙ ap (λ (a : App). subcommand_of a words) is) in
    run_is_taken words _ (sym (ap (λ (a : App). fault_of a words) is) ∙ faultless) named

pub returns-in-Some-3-clause-ok : goal.returns-in-Some-3-clause-ok
returns-in-Some-3-clause-ok c =
    let words = map string_bytes c.args.words.now in
    let is : app_of c.in_ok-program.field-0 ≡ lattice = c.in_ok-program.ensures.app in
    let matches = c.in_ok-matches.ensures.matches (ap is_simple is ∙ lattice_is_simple) in
    let faultless = c.in_ok-matches.ensures.kinds (ap is_simple_and_free is ∙ lattice_is_free) in
    let name : subcommand_name_of c.in_ok-matches.matches ≡ Some (codes "threads") =
    sym c.subcommand.ensures.name ∙ ap (option_map (λ p. p.0.now)) c.in-Some-3.is ∙ ap Some (search rules) in
    let rows = sym c.subcommand.ensures.rows ∙ ap (option_map (λ p. rows_of (found_of p.1.now))) c.in-Some.is in
    let named =
    names_of_parse words c.in_ok-matches.matches (codes "threads") _ name rows
    (matches.1 ∙ ap (λ (a : App). subcommand_of a words) is) in
    record {
      faultless = sym (ap (λ (a : App). fault_of a words) is) ∙ faultless;
      named = run_is_named words _ c.run_of.result named c.run_of.ensures;
    }

pub unreachable-requires : goal.unreachable-requires
unreachable-requires c =
    let words = map string_bytes c.args.words.now in
    let is : app_of c.in_ok-program.field-0 ≡ lattice = c.in_ok-program.ensures.app in
    let matches = c.in_ok-matches.ensures.matches (ap is_simple is ∙ lattice_is_simple) in
    let kinds = c.in_ok-matches.ensures.kinds (ap is_simple_and_free is ∙ lattice_is_free) in
    let faultless = sym (ap (λ (a : App). fault_of a words) is) ∙ kinds in
    let entered = matches.1 ∙ ap (λ (a : App). subcommand_of a words) is in
    elim c.in_default.branch [
      | in_default-via-in-Some-3+else-eq-3 w ↦
          let name = sym c.subcommand.ensures.name ∙ ap (option_map (λ p. p.0.now)) w.in-Some.is in
          let rows = sym c.subcommand.ensures.rows ∙ ap (option_map (λ p. rows_of (found_of p.1.now))) w.in-Some.is in
          let named = names_of_parse words c.in_ok-matches.matches w.in-Some.name.now _ name rows entered in
          no_other words _ _ faultless named (sym w.eq.ensures ∙ w.if-eq.false) (search rules) (search rules)
      | in_default-via-in_default w ↦
          some_entered words faultless
          (sym (ap (option_map (λ p. rows_of (found_of p.1.now))) w.in_default.is) ∙ c.subcommand.ensures.rows
          ∙ ap (option_map (λ p. p.1)) entered)
    ]
