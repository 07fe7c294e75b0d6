use Rattle.std.proofs.Common.{◌≡◌, ℤ, SFits, pos, get_or, length, of_z, to_z, w64, ap, ◌∙◌, arith, rules}
use Rattle.std.proofs.lemmas.Int.{to_z-of_z}
use Rattle.apl_arrays.specs.Array.{plain_items, seen_items}
use Rattle.apl_selection.proofs.MoveLemmas.{array_of, made_is}
use Rattle.apl_structure.specs.Runs.{remaining_run}
use Rattle.apl_structure.proofs.RunLemmas.{drop_is_run}
use Rattle.apl_structure.proofs.taking.remaining_items.Goals as goal

pub returns-then-source-eq1 : goal.returns-then-source-eq1
returns-then-source-eq1 c =
    let numbers = c.args.numbers.now in
    let items = seen_items c.args.items in
    let one : length c.args.source.now ≡ 1 = omega arith in
    let fits : SFits w64 c.number_for.result = search rules in
    let number : to_z w64 (of_z w64 c.number_for.result) ≡ get_or numbers 0 (pos 0) = to_z-of_z w64 c.number_for.result fits ∙ c.number_for.ensures in
    let run : plain_items c.in_ok-run.run' ≡ remaining_run (get_or numbers 0 (pos 0)) items = c.in_ok-run.ensures ∙ ap (λ (n : ℤ). remaining_run n items) number in
    made_is c.shaped.result _ _ (ap (array_of c.args.shape.now) run ∙ drop_is_run numbers c.args.source.now c.args.shape.now items one c.requires.shape c.requires.whole) c.shaped.ensures.array
