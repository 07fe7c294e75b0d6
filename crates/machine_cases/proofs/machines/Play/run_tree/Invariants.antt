use Rattle.machine_cases.proofs.machines.Play.run_tree.Given as goal

-- the ledger of the counter that is made for the line
abbrev pub ghosts-run : goal.ghosts-run
ghosts-run a = record { name = a.blank.name; parts = a.blank.parts }
