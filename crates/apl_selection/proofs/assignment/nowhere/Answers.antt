use Rattle.std.proofs.Common.{None, Option, ℕ, sym, ap, List, [], ◌∷◌, ◌++◌, ◌∙◌, arith}
use Rattle.std.proofs.lemmas.List.FromFn.{map-range_with_len_more}
use Rattle.apl_selection.proofs.assignment.nowhere.Goals as goal

pub loop-along-preserved : goal.loop-along-preserved
loop-along-preserved c = record {
  items = c.push_reserved.ensures.items ∙ ap (λ (xs : List (Option ℕ)). xs ++ None ∷ []) c.loop-along.invariant.items
      ∙ sym (map-range_with_len_more {X = Option ℕ} (λ _. None) 0 c.loop-along._along c.loop-along._along (omega arith));
  len = omega arith;
  room = omega arith;
}
