use Rattle.std.proofs.Common.{◌≡◌, ◌<◌, ◌^◌, ◌∷◌, ◌++◌, codes, take}
use Rattle.std.specs.Fmt.{decimal}
use Rattle.std.specs.List.{All, flat_map}
use Rattle.sv_journal.proofs.answer_text.add_parties.Given as goal

abbrev pub invariant-loop-party : goal.invariant-loop-party
invariant-loop-party l = record {
  text : l.line.items ≡ l.fn.line.items ++ (codes "parties" ++ flat_map (λ party. 32 ∷ decimal party) (take l.party-index l.list));
  printable : All (λ party. party < 2 ^ 64) (take l.party-index l.list);
}
