use Rattle.std.proofs.Common.{◌≡◌, ◌==◌, ◌+◌, ◌≤◌, length, take, map, pos}
use Rattle.std.specs.List.{position_or_len}
use Rattle.apl_search.proofs.lookup.places_by_code.Given as goal

-- the places of the characters so far, with room for the others
abbrev pub invariant-loop-glyph : goal.invariant-loop-glyph
invariant-loop-glyph l = record {
  items : l.places.items ≡ map (λ glyph. pos (position_or_len (λ other. glyph == other) l.a + 1)) (take l.glyph-index l.b);
  room : length l.b ≤ l.places.room + l.glyph-index;
}
