use Rattle.std.proofs.Common.{◌==◌}
use Rattle.apl_items.specs.Extension.{char_at}
use Rattle.apl_items.specs.Places.{GivesEach, HasItems}
use Rattle.apl_items.proofs.RowLemmas.{weaker_want}
use Rattle.apl_scalar.specs.Table.{item_of_chars}
use Rattle.apl_scalar.proofs.MemoryLemmas.{has_as_told}
use Rattle.apl_scalar.proofs.scalar.glyph_items_by.Goals as goal
use Rattle.apl_scalar.proofs.scalar.glyph_items_by.Given as given

pub returns-clause-memory : goal.returns-clause-memory
returns-clause-memory g c =
    let a = c.args.a.now in
    let b = c.args.b.now in
    weaker_want c.glyph_pairs.result (GivesEach c.args.count (λ place. given.F-post g c.args.rule (char_at a place == char_at b place)))
    (HasItems c.args.count (λ place. item_of_chars c.args.f (char_at a place == char_at b place)))
    (has_as_told c.args.count (λ place. given.F-post g c.args.rule (char_at a place == char_at b place)) (λ place. item_of_chars c.args.f (char_at a place == char_at b place))
    (λ place answer below told. c.requires.rule (char_at a place == char_at b place) answer told))
    c.glyph_pairs.ensures.memory
