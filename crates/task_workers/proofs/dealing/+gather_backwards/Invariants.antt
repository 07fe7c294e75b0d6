use Rattle.task_workers.proofs.dealing.+gather_backwards.Given as goal

abbrev pub decreases-gather_backwards : goal.decreases-gather_backwards
decreases-gather_backwards g l = l.count
