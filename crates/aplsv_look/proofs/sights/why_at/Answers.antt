use Rattle.std.proofs.Common.{◌≡◌, map}
use Rattle.sv_events.specs.Entry.{plain_entry}
use Rattle.aplsv_look.proofs.Found.{entry_mapped}
use Rattle.aplsv_look.proofs.sights.why_at.Goals as goal

pub returns-in_ok-why_behind-in-Some-clause-sight : goal.returns-in_ok-why_behind-in-Some-clause-sight
returns-in_ok-why_behind-in-Some-clause-sight c = record {
  before = map plain_entry c.in-Some.before.now;
  e = plain_entry c.in-Some.entry.now;
  at = entry_mapped plain_entry c.args.place c.args.entries.now c.in-Some.before.now c.in-Some.entry.now c.in-Some.ensures;
  says = c.in_ok-why_behind-in-Some.ensures;
}
