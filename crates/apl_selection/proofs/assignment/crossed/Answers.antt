use Rattle.std.proofs.Common.{◌≡◌, ◌∙◌, ◌∷◌, [], ℕ, List, Option, Some, ap, map, sym}
use Rattle.std.specs.List.{flat_map}
use Rattle.apl_items.specs.Axes.{added}
use Rattle.apl_selection.proofs.NamingLemmas.{alone_after, alone_before}
use Rattle.apl_selection.proofs.assignment.crossed.Goals as goal

pub returns-then-is_first_alone : goal.returns-then-is_first_alone
returns-then-is_first_alone c =
    let alone : c.args.after.items ≡ Some 0 ∷ [] = sym c.as_slice.ensures.value ∙ c.is_first_alone.ensures.0 c.if-is_first_alone.true in
    sym (ap (λ (after : List (Option ℕ)). flat_map (λ first. map (added first) after) c.args.here.items) alone ∙ alone_after c.args.here.items)

pub returns-then-is_first_alone-2 : goal.returns-then-is_first_alone-2
returns-then-is_first_alone-2 c =
    let alone : c.args.here.items ≡ Some 0 ∷ [] = sym c.as_slice-else-is_first_alone.ensures.value ∙ c.is_first_alone-else-is_first_alone.ensures.0 c.if-is_first_alone-2.true in
    sym (ap (λ (here : List (Option ℕ)). flat_map (λ first. map (added first) c.args.after.items) here) alone ∙ alone_before c.args.after.items)
