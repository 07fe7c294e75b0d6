use Rattle.apl_io.proofs.Members.{any_from_contains}
use Rattle.apl_io.proofs.call_numbers.CallNumbers.counts.Goals as goal

pub returns-clause-listed : goal.returns-clause-listed
returns-clause-listed c =
    rw (← c.saturating_add.ensures) (any_from_contains c.args.self.now.items c.saturating_add.result c.contains.result c.contains.ensures)
