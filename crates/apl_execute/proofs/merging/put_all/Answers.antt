use Rattle.std.proofs.Common.{sym, ap, subst, ◌∙◌, ◌+◌, ◌≤◌, drop, List, ℕ}
use Rattle.apl_workspace.specs.Meaning.{NameTable, table_weight}
use Rattle.apl_workspace.specs.Workspace.{PlainWorkspace}
use Rattle.apl_execute.specs.Copying.{MayCome}
use Rattle.apl_execute.specs.Merge.{copy_in, with_copies, with_name_copied}
use Rattle.apl_execute.proofs.Copies.{comes_on, full_later, heavier, left_at, same_step}
use Rattle.apl_execute.proofs.merging.put_all.Goals as goal

pub loop-name-preserved : goal.loop-name-preserved
loop-name-preserved c =
    let names = c.args.names.now in
    let i = c.loop-name.name-index in
    let name = c.name-item.result in
    let ws = c.loop-name.ws in
    let from = c.args.from.now in
    let left = left_at names i name c.loop-name-test.true c.name-item.is in
    let globals = ap (λ (w : PlainWorkspace). w.globals) c.in-Ok.ensures.ok in
    let may = subst (λ (list : List (List ℕ)). MayCome ws.globals list) left c.loop-name.invariant.may in
    record {
      same = same_step c.args.ws.now ws c.put_copy.new.ws (with_name_copied ws.globals name (copy_in from name)) c.loop-name.invariant.same c.in-Ok.ensures.ok;
      rest =
          ap (λ (g : NameTable). with_copies from g (drop (i + 1) names)) globals
          ∙ ap (with_copies from ws.globals) (sym left)
          ∙ c.loop-name.invariant.rest;
      may = subst (λ (g : NameTable). MayCome g (drop (i + 1) names)) (sym globals) (comes_on from ws.globals name (drop (i + 1) names) may);
    }

pub returns-in-Err-clause-full : goal.returns-in-Err-clause-full
returns-in-Err-clause-full c =
    let names = c.args.names.now in
    let i = c.loop-name.name-index in
    let name = c.name-item.result in
    let ws = c.loop-name.ws in
    let from = c.args.from.now in
    let left = left_at names i name c.loop-name-test.true c.name-item.is in
    let may = subst (λ (list : List (List ℕ)). MayCome ws.globals list) left c.loop-name.invariant.may in
    let some = with_name_copied ws.globals name (copy_in from name) in
    let rises = heavier from some (drop (i + 1) names) (comes_on from ws.globals name (drop (i + 1) names) may) in
    let all = ap (with_copies from ws.globals) (sym left) ∙ c.loop-name.invariant.rest in
    full_later c.args.ws.now ws some (with_copies from c.args.ws.now.globals names) c.in-Err.fail c.loop-name.invariant.same
    (subst (λ (g : NameTable). table_weight some ≤ table_weight g) all rises) c.in-Err.ensures.full
