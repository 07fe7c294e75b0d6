use Rattle.std.proofs.Common.{◌≡◌, ◌∙◌, ◌+◌, ◌∷◌, drop, ap}
use Rattle.apl_workspace.specs.Workspace.{PlainWorkspace}
use Rattle.ws_commands.specs.Todo.{given_up, plain_change}
use Rattle.ws_cases.proofs.TakingLemmas.{next_is}
use Rattle.ws_cases.proofs.desk.take_back.Goals as goal

pub unmark_with_copy-requires : goal.unmark_with_copy-requires
unmark_with_copy-requires c =
    let change = plain_change c.args.change.now in
    let ws = c.loop-name.ws in
    let names = c.args.names.now in
    let i = c.loop-name.name-index in
    let name = c.name-item.result in
    let next : given_up change ws ≡ name ∷ drop (i + 1) names = next_is names i name (given_up change ws) c.loop-name-test.true c.name-item.is c.loop-name.invariant.left in
    c.retractions_follow_each_other.ensures.shared change ws name (drop (i + 1) names) c.weight.ensures.rules next

pub loop-name-preserved : goal.loop-name-preserved
loop-name-preserved c =
    let change = plain_change c.args.change.now in
    let ws = c.loop-name.ws in
    let names = c.args.names.now in
    let i = c.loop-name.name-index in
    let name = c.name-item.result in
    let next : given_up change ws ≡ name ∷ drop (i + 1) names = next_is names i name (given_up change ws) c.loop-name-test.true c.name-item.is c.loop-name.invariant.left in
    record {
      left = ap (λ (w : PlainWorkspace). given_up change w) c.unmark_with_copy.ensures ∙ c.retractions_follow_each_other.ensures.kept change ws name (drop (i + 1) names) c.weight.ensures.rules next;
      printed = ap (λ (w : PlainWorkspace). w.printed) c.unmark_with_copy.ensures ∙ c.loop-name.invariant.printed;
    }
