use Rattle.std.proofs.Common.{subst}
use Rattle.printed_text.specs.Departs.{DepartsAt}
use Rattle.printed_text.specs.Refused.{IsRefusal}
use Rattle.printed_text.specs.declared.refused.PrintedRefused.{PrintedRefused}
use Rattle.check_rules.specs.Verdict.{users_named}
use Rattle.aplsv_check.proofs.judging.refused_by.Goals as goal

pub returns-in-Departs : goal.returns-in-Departs
returns-in-Departs c = λ bundle text departs. subst (λ (why : PrintedRefused). IsRefusal why (DepartsAt (users_named bundle) text)) c.in-Departs.is departs
