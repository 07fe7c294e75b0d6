use Rattle.std.proofs.Common.{rules}
use Rattle.sv_turn.specs.Views.{ticket_of}
use Rattle.sv_turn.proofs.Turns.{releases}
use Rattle.sv_turn.proofs.steps.release.Goals as goal

pub fetch_add-requires : goal.fetch_add-requires
fetch_add-requires g c = (
  search rules,
  search rules,
  releases g.S.History.entries g.S.History.members_of g.S.History.party_of _ _ _ _ (ticket_of c.args.place.now.me.0.stage) c.args.place.now.me c.requires.state.0 c.requires.holds c.requires.state.1 c.requires.state.2 c.requires.state.3,
)
