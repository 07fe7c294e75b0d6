use Rattle.std.specs.Prelude.{ℕ, List, codes}
use Rattle.apl_arrays.specs.declared.report.Report.{Report}
use Rattle.apl_arrays.specs.declared.report.Report.TheVariants.{Character, Syntax, Value, Domain, Rank, Length, Index, Defn, WsFull, Interrupt, SvInterrupt, SvFull, SvLimit}

-- the name of a report in a transcript
abbrev pub report_text : Report → List ℕ
report_text Character = codes "CHARACTER ERROR"
report_text Syntax = codes "SYNTAX ERROR"
report_text Value = codes "VALUE ERROR"
report_text Domain = codes "DOMAIN ERROR"
report_text Rank = codes "RANK ERROR"
report_text Length = codes "LENGTH ERROR"
report_text Index = codes "INDEX ERROR"
report_text Defn = codes "DEFN ERROR"
report_text WsFull = codes "WS FULL"
report_text Interrupt = codes "INTERRUPT"
report_text SvInterrupt = codes "SV INTERRUPT"
report_text SvFull = codes "SV FULL"
report_text SvLimit = codes "SV LIMIT"
