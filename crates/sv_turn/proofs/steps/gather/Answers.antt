use Rattle.std.proofs.Common.{rules}
use Rattle.sv_turn.proofs.Numbering.{joins}
use Rattle.sv_turn.proofs.steps.gather.Goals as goal

pub join_seat-requires : goal.join_seat-requires
join_seat-requires g c = (
  search rules,
  search rules,
  search rules,
  search rules,
  joins g.S.History.entries g.S.History.members_of g.S.History.party_of _ _ _ c.args.place.now.me.0 _ c.args.other.me.0 c.requires.outside.0 c.requires.outside.1 c.requires.numbered.0 c.requires.numbered.1,
)
