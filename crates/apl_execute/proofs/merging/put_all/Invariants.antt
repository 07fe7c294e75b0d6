use Rattle.std.proofs.Common.{◌≡◌, drop}
use Rattle.apl_execute.specs.Copying.{MayCome}
use Rattle.apl_execute.specs.Merge.{with_copies}
use Rattle.apl_execute.proofs.merging.put_all.Given as goal

-- the names that are left are still to come
abbrev pub invariant-loop-name : goal.invariant-loop-name
invariant-loop-name l = record {
  same : l.ws ≡ record l.fn.ws { globals = l.ws.globals };
  rest : with_copies l.from l.ws.globals (drop l.name-index l.names) ≡ with_copies l.from l.fn.ws.globals l.names;
  may : MayCome l.ws.globals (drop l.name-index l.names);
}
