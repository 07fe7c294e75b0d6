use Rattle.std.proofs.Common.{rules}
use Rattle.turn_cases.proofs.Journal.{party_at_is}
use Rattle.turn_cases.proofs.log.LogHistory.party_at.Goals as goal

pub returns : goal.returns
returns c = party_at_is c.args.self.now.parties.items c.args.place c.index.result.now c.requires.0 c.requires.1 (search rules)
