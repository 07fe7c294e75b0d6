use Rattle.std.proofs.Common.{subst, sym}
use Rattle.apl_arrays.specs.declared.report.Fail.{Fail}
use Rattle.line_scanner.specs.Scanning.{reading_of}
use Rattle.apl_values.specs.Parts.{IsNotScanned}
use Rattle.apl_values.proofs.Refusals.{not_scanned}
use Rattle.apl_values.proofs.reading.scanned.Goals as goal

pub returns-in-Err-clause-refused : goal.returns-in-Err-clause-refused
returns-in-Err-clause-refused c =
    let found = reading_of c.args.text.now.items in
    subst (λ (why : Fail). IsNotScanned found why) (sym c.scan_failure.ensures) (not_scanned c.in-Err.refused found c.in-Err.ensures.refused)
