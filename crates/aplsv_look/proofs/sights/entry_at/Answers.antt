use Rattle.std.proofs.Common.{◌≡◌, ◌-◌, ◌+◌, ◌≤◌, length, take, arith, refl}
use Rattle.aplsv_look.proofs.Found.{entry_there, is_some}
use Rattle.aplsv_look.proofs.sights.entry_at.Goals as goal

pub returns : goal.returns
returns c =
    let entries = c.args.entries.now in
    let some : 1 ≤ c.args.place = is_some c.args.place c.if-place-eq0.false in
    let last : c.args.place ≤ length entries = c.if-place-entries.false in
    entry_there c.args.place (c.args.place - 1) entries (take (c.args.place - 1) entries) c.index-entries-front.result (omega (arith, some)) (omega (arith, some, last)) refl c.index-entries-front.is
