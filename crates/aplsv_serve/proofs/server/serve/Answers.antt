use Rattle.std.proofs.Common.{subst₂, sym}
use Rattle.party_turns.specs.GivenBack.{ClockCame}
use Rattle.party_turns.proofs.GivenBack.{text_came}
use Rattle.aplsv_serve.proofs.Devices.{device_places, device_runs}
use Rattle.aplsv_serve.proofs.server.serve.Goals as goal

pub returns-clause-run : goal.returns-clause-run
returns-clause-run g c =
    device_runs g.C.Clock.told g.C.Clock.faults g.T.TextStore.told g.T.TextStore.faults g.K.Shelf.told g.K.Shelf.faults c.args.bundle c.args.devices.shelves.items c.serve_with-ended.result.shelves.items c.serve_with-ended.result.ended
    c.args.devices.clock c.into_clock.result c.new.result c.serve_with-ended.result.ten c.args.devices.text c.into_store.result
    c.new-2.result c.serve_with-ended.result.twenty c.new.ensures c.into_clock.ensures c.new-2.ensures c.into_store.ensures c.serve_with-ended.ensures.run

pub returns-clause-places : goal.returns-clause-places
returns-clause-places g c =
    device_places g.C.Clock.told g.C.Clock.faults g.T.TextStore.told g.T.TextStore.faults g.K.Shelf.told g.K.Shelf.faults c.args.bundle c.args.devices.shelves.items c.serve_with-ended.result.shelves.items c.serve_with-ended.result.ended
    c.args.devices.clock c.into_clock.result c.new.result c.serve_with-ended.result.ten c.args.devices.text c.into_store.result
    c.new-2.result c.serve_with-ended.result.twenty c.new.ensures c.into_clock.ensures c.new-2.ensures c.into_store.ensures c.serve_with-ended.ensures.run

pub returns-clause-clock : goal.returns-clause-clock
returns-clause-clock g c = subst₂ (λ (before after : g.row.C.Denot). ClockCame g.C.Clock.told g.C.Clock.faults before after) c.new.ensures (sym c.into_clock.ensures) c.serve_with-ended.ensures.ten

pub returns-clause-text : goal.returns-clause-text
returns-clause-text g c =
    text_came g.T.TextStore.told g.T.TextStore.faults c.args.devices.text c.into_store.result c.new-2.result c.serve_with-ended.result.twenty c.new-2.ensures c.into_store.ensures c.serve_with-ended.ensures.twenty

pub returns-clause-shelves : goal.returns-clause-shelves
returns-clause-shelves g c = c.serve_with-ended.ensures.shelves
