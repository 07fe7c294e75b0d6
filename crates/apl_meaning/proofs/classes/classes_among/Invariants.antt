use Rattle.std.proofs.Common.{◌≡◌, take}
use Rattle.apl_meaning.specs.Reading.{classes_among}
use Rattle.apl_meaning.proofs.classes.classes_among.Given as goal

abbrev pub invariant-loop-name : goal.invariant-loop-name
invariant-loop-name l = l.classes.items ≡ classes_among l.ws (take l.name-index l.names)
