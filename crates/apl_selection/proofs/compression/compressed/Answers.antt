use Rattle.std.proofs.Common.{◌≡◌, ◌≤◌, ℕ, ℤ, List, Ok, length, subst, sym, ap, ◌∙◌, arith}
use Rattle.apl_arrays.specs.Array.{seen_items}
use Rattle.apl_selection.specs.Compression.{compress_of}
use Rattle.apl_selection.proofs.FaultLemmas.{few_numbers}
use Rattle.apl_selection.proofs.FlaggedLemmas.{compress_vector}
use Rattle.apl_selection.proofs.WantLemmas.{array_is_ok}
use Rattle.apl_selection.proofs.compression.compressed.Goals as goal

pub flagged_vector-requires-clause-few : goal.flagged_vector-requires-clause-few
flagged_vector-requires-clause-few c = subst (λ (xs : List ℤ). length xs ≤ 16384) (sym c.numbers-flags.ensures) (few_numbers c.args.a.now c.requires.array)

pub returns-in-Ok : goal.returns-in-Ok
returns-in-Ok c =
    compress_vector c.args.a.now c.args.b.now c.args.way c.args.axis c.numbers-flags.result.now (seen_items c.items-items.result) c.requires.none c.numbers-flags.ensures c.items-items.ensures.value c.items-items.ensures.array
    (subst (λ (xs : List ℕ). length xs ≡ 1) c.shape.ensures.value (omega arith)) (omega arith) ∙ sym (ap (λ array. Ok array) c.in-Ok.ensures)

pub returns-in-Err : goal.returns-in-Err
returns-in-Err c =
    array_is_ok (compress_of c.args.a.now c.args.b.now c.args.way c.args.axis) _
    (compress_vector c.args.a.now c.args.b.now c.args.way c.args.axis c.numbers-flags.result.now (seen_items c.items-items.result) c.requires.none c.numbers-flags.ensures c.items-items.ensures.value c.items-items.ensures.array
    (subst (λ (xs : List ℕ). length xs ≡ 1) c.shape.ensures.value (omega arith)) (omega arith))
