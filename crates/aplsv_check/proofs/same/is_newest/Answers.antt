use Rattle.std.proofs.Common.{◌≡◌, ◌-◌, ◌∙◌, Some, None, ap, length, sym}
use Rattle.std.proofs.lemmas.Option.{same_Some}
use Rattle.std.specs.Option.{option_copied}
use Rattle.std.specs.Prelude.{slice_get}
use Rattle.sv_events.specs.Entry.{PlainEntry, plain_entry}
use Rattle.aplsv_check.proofs.Newest.{newest_so, none_newest, parts_same, same_parts}
use Rattle.aplsv_check.proofs.same.is_newest.Goals as goal

pub returns-in-None-clause-newest : goal.returns-in-None-clause-newest
returns-in-None-clause-newest c =
    let entries = c.journal.result.now in
    let none : slice_get entries (length entries - 1) ≡ None = sym c.last.ensures.value ∙ ap option_copied c.in-None.is in
    ((λ yes. absurd cc), (λ newest. absurd (none_newest entries c.args.core.now.journal (plain_entry c.args.entry.now) c.journal.ensures.value none newest)))

pub returns-in-Some-clause-newest : goal.returns-in-Some-clause-newest
returns-in-Some-clause-newest c =
    let entries = c.journal.result.now in
    let there : slice_get entries (length entries - 1) ≡ Some c.in-Some.newest.now = sym c.last.ensures.value ∙ ap option_copied c.in-Some.is in
    let newest = newest_so entries c.args.core.now.journal c.in-Some.newest.now c.journal.ensures.value there in (
      (λ yes. newest ∙ ap (λ (e : PlainEntry). Some e) (same_parts c.in-Some.newest.now c.args.entry.now (c.same_entry.ensures.0 yes))),
      (λ is. c.same_entry.ensures.1 (parts_same c.in-Some.newest.now c.args.entry.now (same_Some (plain_entry c.in-Some.newest.now) (plain_entry c.args.entry.now) (sym newest ∙ is)))),
    )
