use Rattle.std.proofs.Common.{◌≡◌, drop, map, take, vec_len}
use Rattle.std.specs.Prelude.{option_map}
use Rattle.apl_io.specs.Content.{placed}
use Rattle.aplsv_top.specs.Headline.{NoneFell}
use Rattle.aplsv_top.proofs.shelf_places.place_shelves.Given as goal

abbrev pub invariant-loop-at : goal.invariant-loop-at
invariant-loop-at g l = record {
  tell : map g.K.Shelf.told (take l.at l.shelves.items) ≡ map (λ k. option_map (placed l.fn.place) (g.K.Shelf.told k)) (take l.at l.fn.shelves.items);
  counted : NoneFell g.K.Shelf.faults l.fn.shelves.items l.shelves.items;
  others : drop l.at l.shelves.items ≡ drop l.at l.fn.shelves.items;
  many : vec_len l.shelves ≡ vec_len l.fn.shelves;
}
