use Rattle.std.proofs.Common.{◌≡◌, ◌∷◌, ◌++◌, codes, take}
use Rattle.std.specs.List.{All, flat_map}
use Rattle.apl_arrays.specs.Name.{IsName}
use Rattle.sv_journal.proofs.answer_text.add_names.Given as goal

abbrev pub invariant-loop-name : goal.invariant-loop-name
invariant-loop-name l = record {
  text : l.line.items ≡ l.fn.line.items ++ (codes "names" ++ flat_map (λ name. 32 ∷ name) (take l.name-index l.list));
  printable : All IsName (take l.name-index l.list);
}
