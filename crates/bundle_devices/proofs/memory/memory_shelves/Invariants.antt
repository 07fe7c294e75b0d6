use Rattle.std.proofs.Common.{◌≡◌, [], map, take}
use Rattle.apl_io.specs.Kept.{new_keeper}
use Rattle.bundle_devices.proofs.memory.memory_shelves.Given as goal

abbrev pub invariant-loop-user : goal.invariant-loop-user
invariant-loop-user l = l.shelves.items ≡ map (λ user. new_keeper [] []) (take l._user-index l.users)
