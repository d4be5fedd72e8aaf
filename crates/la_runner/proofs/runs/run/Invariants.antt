use Rattle.la_runner.proofs.runs.run.Given as goal

abbrev pub ghosts-run_in : goal.ghosts-run_in
ghosts-run_in g a = record { group = a.group.now }
