use Rattle.std.proofs.Common.{◌+◌, ℤ, pos, List, length, ap, arith}
use Rattle.std.proofs.lemmas.List.FromFn.{length-map-range_with_len}
use Rattle.apl_structure.proofs.counting.iota.Goals as goal

pub shaped-requires-clause-whole : goal.shaped-requires-clause-whole
shaped-requires-clause-whole c =
    omega (arith, ap (λ (xs : List ℤ). length xs) c.from.ensures, ap (λ (xs : List ℤ). length xs) c.in_ok-numbers-in-None.ensures, length-map-range_with_len (λ place. pos (place + 1)) 0 c.unsigned_abs-count.result)
