use Rattle.std.proofs.Common.{subst}
use Rattle.std.specs.Prelude.{IfSome, List, Option, map}
use Rattle.line_scanner.specs.Token.{PlainToken, plain_token}
use Rattle.sv_events.specs.declared.event.Act.{Act}
use Rattle.apl_acts.specs.Alone.{IsActOf, IsOnShared, kinds_of}
use Rattle.apl_acts.proofs.AloneLaw.{is_alone}
use Rattle.apl_acts.proofs.reading.read_line.Goals as goal

-- a line whose tokens are one act alone
pub returns-in-Some-clause-read : goal.returns-in-Some-clause-read
returns-in-Some-clause-read c =
    let tokens : List PlainToken = map plain_token c.as_slice.result.now in
    let kinds : IsActOf (kinds_of tokens) c.in-Some.act = subst (λ (found : Option Act). IfSome found (IsActOf (kinds_of tokens))) c.in-Some.is c.in_ok-act.ensures.kinds in
    is_alone c.args.workspace.now c.args.line.now.items _ c.in-Some.act c.weight-weight.ensures.rules c.in_ok-tokens.ensures.tokens (subst (λ (list : List PlainToken). IsActOf (kinds_of list) c.in-Some.act) c.as_slice.ensures kinds)
    (subst (λ (found : Option Act). IfSome found (IsOnShared c.args.workspace.now)) c.in-Some.is c.in_ok-act.ensures.shared)
