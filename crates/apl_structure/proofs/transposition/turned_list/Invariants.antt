use Rattle.std.proofs.Common.{◌≡◌, ◌+◌, ◌*◌, length, vec_len, vec_capacity}
use Rattle.apl_items.specs.Moves.{moved_list}
use Rattle.apl_structure.specs.Transposition.{turned_place}
use Rattle.apl_structure.proofs.transposition.turned_list.Given as goal

-- the columns so far, with room for the others
abbrev pub invariant-loop-column : goal.invariant-loop-column
invariant-loop-column g l = record {
  whole : vec_len l.made ≡ l.column * l.rows;
  room : vec_capacity l.made ≡ length l.list;
  items : l.made.items ≡ moved_list l.fn.fill l.list (l.column * l.rows) (turned_place l.rows l.columns);
}

-- and the items of a column so far
abbrev pub invariant-loop-row : goal.invariant-loop-row
invariant-loop-row g l = record {
  whole : vec_len l.made ≡ l.column * l.rows + l.row;
  room : vec_capacity l.made ≡ length l.list;
  items : l.made.items ≡ moved_list l.fn.fill l.list (l.column * l.rows + l.row) (turned_place l.rows l.columns);
}
