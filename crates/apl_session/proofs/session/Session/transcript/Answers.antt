use Rattle.apl_session.proofs.Around.{shows_all}
use Rattle.apl_session.proofs.session.Session.transcript.Goals as goal

pub returns : goal.returns
returns g c =
    let inside = c.self.inside in
    shows_all g.K.Shelf.told g.K.Shelf.faults c.args.self.now inside.user inside.lines.items _ inside.receipts.items inside.progress inside.stage inside.shelf c.self.view_is c.self.invariant c.transcript.ensures
