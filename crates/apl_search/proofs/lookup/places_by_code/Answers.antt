use Rattle.std.proofs.Common.{◌≡◌, ◌==◌, ◌+◌, ℕ, pos, ap, ◌∙◌, rules, of_z, to_z, w64}
use Rattle.std.specs.List.{position_or_len}
use Rattle.std.proofs.lemmas.Int.{to_z-of_z}
use Rattle.apl_search.proofs.ClassLemmas.{one_place_more}
use Rattle.apl_search.proofs.lookup.places_by_code.Goals as goal

pub loop-glyph-preserved : goal.loop-glyph-preserved
loop-glyph-preserved c =
    let told : to_z w64 (of_z w64 c.place_number.result) ≡ pos (position_or_len (λ other. c.glyph-item.result == other) c.args.a.now + 1) =
    to_z-of_z w64 c.place_number.result (search rules) ∙ c.place_number.ensures ∙ ap (λ (n : ℕ). pos (n + 1)) c.first_by_code.ensures.value in
    record {
      items = c.push_reserved.ensures.items
          ∙ one_place_more (λ (glyph : ℕ). position_or_len (λ other. glyph == other) c.args.a.now) c.args.b.now c.loop-glyph.glyph-index c.glyph-item.result c.loop-glyph.places.items (to_z w64 (of_z w64 c.place_number.result))
          c.loop-glyph-test.true c.glyph-item.is c.loop-glyph.invariant.items told;
      room = search rules;
    }
