use Rattle.std.proofs.Common.{rules}
use Rattle.sv_turn.proofs.Numbering.{numbers}
use Rattle.sv_turn.proofs.steps.number.Goals as goal

pub fetch_max-requires : goal.fetch_max-requires
fetch_max-requires g c = (
  search rules,
  search rules,
  numbers g.S.History.entries g.S.History.members_of g.S.History.party_of _ _ _ _ _ c.args.place.now.me c.requires.maker.0 c.requires.maker.1 c.requires.maker.2 c.requires.free.0 c.requires.free.1,
)
