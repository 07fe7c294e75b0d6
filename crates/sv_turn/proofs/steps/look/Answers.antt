use Rattle.std.proofs.Common.{rules}
use Rattle.sv_turn.proofs.Turns.{looks}
use Rattle.sv_turn.proofs.steps.look.Goals as goal

pub load-requires : goal.load-requires
load-requires g c = (
  search rules,
  search rules,
  looks g.S.History.entries g.S.History.members_of g.S.History.party_of _ _ _ _ c.requires.waits.0 c.args.place.now.me c.requires.waits.1,
)
