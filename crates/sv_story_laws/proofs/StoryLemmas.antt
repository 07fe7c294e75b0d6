-- The story of a coupling at the entry that made it.
use Rattle.std.proofs.Common.{◌≡◌, ◌+◌, ◌<◌, ◌≤◌, false, ltb, [], ◌∷◌, length, arith}
use Rattle.std.proofs.lemmas.Bool.{le-ltb}
use Rattle.sv_rules.specs.declared.coupling.Coupling.{Coupling}
use Rattle.sv_rules.specs.Entries.{Entries}
use Rattle.sv_rules.specs.Story.{known, story, giver_story}

-- up to the entry that made the coupling there is only the giver's story
pub story-opening : (journal : Entries) (coupling : Coupling) → 0 < length journal → length journal ≤ coupling.at → story journal coupling ≡ giver_story journal coupling (known journal coupling.a)
story-opening [] coupling some within = absurd (omega arith)
story-opening (e ∷ journal) coupling some within =
    let early : ltb coupling.at (length journal + 1) ≡ false = le-ltb coupling.at (length journal + 1) (omega arith) in rw (early, story)
