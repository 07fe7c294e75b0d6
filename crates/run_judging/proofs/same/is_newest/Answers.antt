use Rattle.std.proofs.Common.{◌∙◌, ◌-◌, length, arith, sym}
use Rattle.run_judging.proofs.NewestLemmas.{newest, parts_same, same_parts}
use Rattle.run_judging.proofs.same.is_newest.Goals as goal

pub returns : goal.returns
returns c = λ e journal whole.
    let there = newest c.args.entries.now (length c.args.entries.now - 1) c.index-entries-last.result e journal (omega (arith, c.requires)) c.index-entries-last.is whole in (
      (λ yes. there ∙ same_parts c.index-entries-last.result c.args.entry.now (c.same_entry.ensures.0 yes)),
      (λ is. c.same_entry.ensures.1 (parts_same c.index-entries-last.result c.args.entry.now (sym there ∙ is))),
    )
