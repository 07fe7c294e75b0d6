use Rattle.std.proofs.Common.{subst, sym}
use Rattle.apl_arrays.specs.declared.report.Fail.{Fail}
use Rattle.line_trees.specs.Parsing.{parsed}
use Rattle.apl_values.specs.Parts.{IsNotParsed}
use Rattle.apl_values.proofs.Refusals.{not_parsed}
use Rattle.apl_values.proofs.reading.parsed.Goals as goal

pub returns-in-Err-clause-refused : goal.returns-in-Err-clause-refused
returns-in-Err-clause-refused c =
    let found = parsed c.args.classes.now.items c.args.tokens.now.tokens.items c.args.tokens.now.length in
    subst (λ (why : Fail). IsNotParsed found why) (sym c.parse_failure.ensures) (not_parsed c.in-Err.refused found c.in-Err.ensures.refused)
