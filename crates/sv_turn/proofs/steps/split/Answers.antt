use Rattle.std.proofs.Common.{rules}
use Rattle.sv_turn.proofs.Numbering.{splits}
use Rattle.sv_turn.proofs.steps.split.Goals as goal

pub split_seat-requires : goal.split_seat-requires
split_seat-requires g c = (search rules, search rules, splits g.S.History.entries g.S.History.members_of g.S.History.party_of _ _ _ c.args.place.now.me.0 c.requires.maker.0 c.requires.maker.1 c.requires.maker.2 c.requires.numbered)
