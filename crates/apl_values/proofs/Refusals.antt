-- Why a text was not read, as the answer of a call.
use Rattle.std.proofs.Common.{◌≡◌, refl, sym, subst}
use Rattle.std.specs.Prelude.{Ok, Err}
use Rattle.apl_arrays.specs.declared.report.Fail.TheVariants as fail
use Rattle.apl_arrays.specs.declared.report.Report.TheVariants.{Character, Syntax}
use Rattle.line_scanner.specs.Scanning.{Scanned}
use Rattle.line_scanner.specs.Scanning as scanning
use Rattle.line_scanner.specs.declared.refused.ScanRefused.{ScanRefused}
use Rattle.line_scanner.specs.declared.refused.ScanRefused.TheVariants as scan_refused
use Rattle.line_trees.specs.Parsing.{Parsed}
use Rattle.line_trees.specs.Parsing as parsing
use Rattle.line_trees.specs.declared.refused.ParseRefused.{ParseRefused}
use Rattle.line_trees.specs.declared.refused.ParseRefused.TheVariants as parse_refused
use Rattle.apl_values.specs.Parts.{IsNotParsed, IsNotScanned, parse_failure, scan_failure}

pub not_scanned : (refused : ScanRefused) (found : Scanned) → scanning.IsRefusal refused found → IsNotScanned found (scan_failure refused)
not_scanned (scan_refused.CharacterError at) found is = subst (λ (s : Scanned). IsNotScanned s (fail.Report Character)) (sym is) refl
not_scanned (scan_refused.SyntaxError at) found is = subst (λ (s : Scanned). IsNotScanned s (fail.Report Syntax)) (sym is) refl
not_scanned scan_refused.WantOfMemory (Ok tokens) is = is
not_scanned scan_refused.WantOfMemory (Err fault) is = is

pub not_parsed : (refused : ParseRefused) (found : Parsed) → parsing.IsRefusal refused found → IsNotParsed found (parse_failure refused)
not_parsed (parse_refused.SyntaxError at) found is = subst (λ (p : Parsed). IsNotParsed p (fail.Report Syntax)) (sym is) refl
not_parsed parse_refused.WantOfMemory (Ok tree) is = tt
not_parsed parse_refused.WantOfMemory (Err at) is = tt
