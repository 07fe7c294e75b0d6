use Rattle.std.proofs.Common.{◌≡◌, drop, map}
use Rattle.sv_events.specs.Entry.{plain_entry}
use Rattle.run_picture.specs.Link.{links_behind}
use Rattle.run_picture.proofs.link.add_couplings.Given as goal

-- with the pairs that are left the lines are all
abbrev pub invariant-loop-pair : goal.invariant-loop-pair
invariant-loop-pair l = links_behind l.lanes (map plain_entry l.entries) l.links.items (drop l.pair-index l.pairs) ≡ links_behind l.lanes (map plain_entry l.entries) l.fn.links.items l.pairs
