use Rattle.std.proofs.Common.{◌≡◌, take}
use Rattle.std.specs.List.{flat_map}
use Rattle.apl_meaning.specs.Queries.{filled}
use Rattle.apl_answers.proofs.lists.filled_names.Given as goal

-- the names so far
abbrev pub invariant-loop-name : goal.invariant-loop-name
invariant-loop-name l = l.glyphs.items ≡ flat_map (filled l.width) (take l.name-index l.names)
