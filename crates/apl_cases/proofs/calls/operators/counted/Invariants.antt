use Rattle.apl_cases.proofs.calls.operators.counted.Given as goal

-- the ledger of the counter that is made for the calls
abbrev pub ghosts-verbs : goal.ghosts-verbs
ghosts-verbs a = record { name = a.blank.name; parts = a.blank.parts }
