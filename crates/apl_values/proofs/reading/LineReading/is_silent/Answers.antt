use Rattle.std.proofs.Common.{◌≡◌, ◌-◌, length, ◌∙◌, arith}
use Rattle.std.proofs.lemmas.Grind.{common_steps}
use Rattle.std.specs.Prelude.{Some, slice_get}
use Rattle.apl_values.proofs.SilentLaw.{silent_reading}
use Rattle.apl_values.proofs.reading.LineReading.is_silent.Goals as goal

pub returns-in-Some : goal.returns-in-Some
returns-in-Some c =
    let last : slice_get c.args.self.now.parts.items (length c.args.self.now.parts.items - 1) ≡ Some c.in-Some.part.now = grind (arith, common_steps) in
    c.is_assignment.ensures ∙ silent_reading c.args.self.now c.in-Some.part.now c.requires last
