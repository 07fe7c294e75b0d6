use Rattle.std.proofs.Common.{◌≤◌, ℕ, List, subst, sym, ◌∙◌}
use Rattle.std.specs.List.{All}
use Rattle.bundle_text.specs.BundleLine.{IsBundleLine, clock}
use Rattle.bundle_text.specs.Limits.{greatest_reading}
use Rattle.bundle_text.proofs.Turns.{readings_small}
use Rattle.bundle_text.proofs.draft.Draft.add_heading.Goals as goal

pub add_clock-requires-clause-readings : goal.add_clock-requires-clause-readings
add_clock-requires-clause-readings c =
    let is = rw c.in-Clock.is at c.requires.form in
    let form : IsBundleLine (clock is.1.0) = subst IsBundleLine is.1.1 is.2 in
    subst (λ (ns : List ℕ). All (λ n. n ≤ greatest_reading) ns) (sym (c.as_slice-in-Clock.ensures ∙ is.1.2)) (readings_small is.1.0 form.1)
