use Rattle.std.proofs.Common.{◌≡◌, false, true, get_or}
use Rattle.std.specs.Prelude.{None, is_some}
use Rattle.apl_statements.specs.Holding.{stack_values}
use Rattle.apl_subscripts.proofs.HeldLemmas.{sub_omitted, sub_there}
use Rattle.apl_subscripts.proofs.held.sub_held.Goals as goal

pub returns-then-is_some : goal.returns-then-is_some
returns-then-is_some c =
    let given : is_some (get_or c.args.places.now c.args.axis None) ≡ true = cc in
    sub_there c.args.places.now (stack_values c.args.workspace.now c.args.e.now) c.args.axis None c.given_count.result _ c.requires.axis given c.given_count.ensures c.value_behind.ensures

pub returns-else-is_some : goal.returns-else-is_some
returns-else-is_some c =
    let omitted : is_some (get_or c.args.places.now c.args.axis None) ≡ false = cc in
    sub_omitted c.args.places.now (stack_values c.args.workspace.now c.args.e.now) c.args.axis None c.requires.axis omitted
