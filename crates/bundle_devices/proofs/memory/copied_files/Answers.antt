use Rattle.std.proofs.Common.{arith}
use Rattle.bundle_devices.proofs.Copies.{copied_ascends}
use Rattle.bundle_devices.proofs.memory.copied_files.Goals as goal

pub push-requires : goal.push-requires
push-requires c =
    copied_ascends c.args.files.now c.loop-file.file-index c.file-item.result c.loop-file.list.items c.in_ok-copy.field-0.items c.requires (omega arith) c.file-item.is c.in_ok-copy.ensures c.loop-file.invariant
