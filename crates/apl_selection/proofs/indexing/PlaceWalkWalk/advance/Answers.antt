use Rattle.std.proofs.Common.{◌≡◌, ◌+◌, ◌-◌, ◌∙◌, map, slice_get, unsigned_abs, ap, arith}
use Rattle.apl_selection.proofs.indexing.PlaceWalkWalk.advance.Goals as goal

pub returns-clause-value : goal.returns-clause-value
returns-clause-value c =
    let at : c.args.self.now.next ≡ c.args.self.now.next + 0 = omega arith in
    c.place_at-place.ensures ∙ ap (slice_get (map (λ number. unsigned_abs number - 1) c.args.self.now.numbers.now)) at
