use Rattle.std.proofs.Common.{rules}
use Rattle.sv_turn.proofs.Turns.{draws}
use Rattle.sv_turn.proofs.steps.draw.Goals as goal

pub fetch_add-requires : goal.fetch_add-requires
fetch_add-requires g c = (
  search rules,
  search rules,
  draws g.S.History.entries g.S.History.members_of g.S.History.party_of _ _ _ _ c.args.place.now.me c.requires.outside.0 c.requires.outside.1,
)
