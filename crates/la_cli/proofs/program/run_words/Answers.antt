use Rattle.la_cli.proofs.program.run_words.Goals as goal

pub returns : goal.returns
returns g c = record { told = c.carry_out.result.told; ended = c.carry_out.ensures }
