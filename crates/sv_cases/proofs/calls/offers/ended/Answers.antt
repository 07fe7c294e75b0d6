-- There is room for all that is reopened, and the next place stays above all.
use Rattle.sv_cases.proofs.TableLemmas.{room_suffices, next_after}
use Rattle.sv_cases.proofs.calls.offers.ended.Goals as goal

pub end-requires-clause-room : goal.end-requires-clause-room
end-requires-clause-room c =
    room_suffices c.args.table.now.offers c.args.table.now.coupled c.args.row.now.0 c.args.ending _ c.requires.few c.in_ok-made.ensures

pub returns-clause-next : goal.returns-clause-next
returns-clause-next c = next_after c.args.place c.args.table.now c.args.row.now.0 c.args.ending _ c.end.ensures.table c.requires.next
