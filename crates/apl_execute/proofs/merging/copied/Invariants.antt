use Rattle.std.proofs.Common.{◌≡◌, take}
use Rattle.std.specs.Prelude.{filter}
use Rattle.apl_execute.specs.Merge.{is_copied}
use Rattle.apl_execute.proofs.merging.copied.Given as goal

-- those of the names so far
abbrev pub invariant-loop-name : goal.invariant-loop-name
invariant-loop-name l = l.list.items ≡ filter (is_copied l.into l.from) (take l.name-index l.asked)
