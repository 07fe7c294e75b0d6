use Rattle.std.proofs.Common.{◌≡◌, ◌∙◌, ap, false, take}
use Rattle.apl_workspace.specs.Workspace.{PlainWorkspace, is_shared}
use Rattle.ws_commands.proofs.Shares.{one_erased, still_unshared, unshared}
use Rattle.ws_commands.proofs.finishing.erase_all.Goals as goal

pub erase-requires : goal.erase-requires
erase-requires c =
    let name = c.name-item.result in
    let free : is_shared c.args.ws.now name ≡ false = ap (is_shared c.args.ws.now) c.name-item.is ∙ unshared c.args.ws.now c.args.names.now c.weight.ensures.rules c.requires c.loop-name.name-index name c.loop-name-test.true in
    ap (λ (w : PlainWorkspace). is_shared w name) c.loop-name.invariant ∙ still_unshared c.args.ws.now (take c.loop-name.name-index c.args.names.now) name c.weight.ensures.rules free

pub loop-name-preserved : goal.loop-name-preserved
loop-name-preserved c = one_erased c.args.ws.now c.loop-name.ws c.erase.new.self c.args.names.now c.loop-name.name-index c.name-item.result c.loop-name-test.true c.name-item.is c.loop-name.invariant c.erase.ensures.others
