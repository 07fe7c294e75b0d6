use Rattle.std.proofs.Common.{◌≡◌, take}
use Rattle.sv_rules.specs.Journal.{journal_of}
use Rattle.run_reasons.specs.Placed.{placed_opening}
use Rattle.run_reasons.specs.StoryFacts.{told}
use Rattle.run_reasons.specs.Walk.{Follows}
use Rattle.run_reasons.proofs.placed.opening_told.Given as goal

-- what stands, and what is kept of the story so far
abbrev pub invariant-loop-i : goal.invariant-loop-i
invariant-loop-i l = record {
  follows : Follows l.offer.place (journal_of (take l.i l.entries)) l.walk;
  told : l.story ≡ told (placed_opening l.side (journal_of (take l.i l.entries)) l.offer);
}
