use Rattle.std.proofs.Common.{rules, ap, sym}
use Rattle.sv_turn.proofs.Numbering.{starts}
use Rattle.sv_turn.proofs.opening.lay.Goals as goal

pub new-requires : goal.new-requires
new-requires g c = rw c.in_ok-slots.ensures (starts g.S.History.entries g.S.History.members_of g.S.History.party_of c.args.count _ c.args.start (ap g.S.History.members_of (sym c.of.ensures)) c.requires (search rules))
