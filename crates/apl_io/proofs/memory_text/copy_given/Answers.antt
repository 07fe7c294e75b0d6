use Rattle.std.proofs.Common.{None, Some, refl, ap}
use Rattle.apl_io.proofs.Entries.{given_read}
use Rattle.apl_io.proofs.memory_text.copy_given.Goals as goal

pub returns-in_ok-copy-in-Some : goal.returns-in_ok-copy-in-Some
returns-in_ok-copy-in-Some c =
    given_read c.args.name.now c.as_slice.result.now c.args.files.now.items (Some c.in-Some.file.now) _ c.as_slice.ensures.value c.in-Some.ensures (ap Some c.in_ok-copy-in-Some.ensures)

pub returns-in-None : goal.returns-in-None
returns-in-None c =
    given_read c.args.name.now c.as_slice.result.now c.args.files.now.items None _ c.as_slice.ensures.value c.in-None.ensures refl
