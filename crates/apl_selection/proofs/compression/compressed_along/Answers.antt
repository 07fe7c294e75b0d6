use Rattle.std.proofs.Common.{◌≤◌, ℕ, ℤ, List, Option, Err, length, refl, subst, sym, ◌∙◌}
use Rattle.apl_items.specs.Answers.{ArrayResult, AnswersFirst}
use Rattle.apl_selection.specs.Compression.{compress_faults, kept_places}
use Rattle.apl_selection.proofs.CompressLemmas.{few_kept, kept_inside_of, compress_is}
use Rattle.apl_selection.proofs.FaultLemmas.{few_numbers}
use Rattle.apl_selection.proofs.compression.compressed_along.Goals as goal

pub kept-requires-clause-flags : goal.kept-requires-clause-flags
kept-requires-clause-flags c = subst (λ (xs : List ℤ). length xs ≤ 16384) (sym c.numbers-flags.ensures) (few_numbers c.args.a.now c.requires.array)

pub listed_of-requires-clause-inside : goal.listed_of-requires-clause-inside
listed_of-requires-clause-inside c =
    kept_inside_of c.args.a.now c.args.b.now c.args.way c.args.axis c.meant_axis-along.result c.meant_length-long.result c.numbers-flags.result.now c.as_slice.result.now c.requires.none
    c.numbers-flags.ensures c.meant_length-long.ensures.value c.meant_axis-along.ensures.value (c.as_slice.ensures.value ∙ c.in-Ok.ensures)

pub listed_of-requires-clause-few : goal.listed_of-requires-clause-few
listed_of-requires-clause-few c =
    let few = subst (λ (xs : List ℤ). length xs ≤ 16384) (sym c.numbers-flags.ensures) (few_numbers c.args.a.now c.requires.array) in
    subst (λ (xs : List (Option ℕ)). length xs ≤ 16384) (sym (c.as_slice.ensures.value ∙ c.in-Ok.ensures)) (few_kept c.numbers-flags.result.now c.meant_length-long.result few c.meant_length-long.ensures.small)

pub kept_count-requires-clause-flags : goal.kept_count-requires-clause-flags
kept_count-requires-clause-flags c = subst (λ (xs : List ℤ). length xs ≤ 16384) (sym c.numbers-flags.ensures) (few_numbers c.args.a.now c.requires.array)

pub listing_fail-requires-clause-few : goal.listing_fail-requires-clause-few
listing_fail-requires-clause-few c =
    let few = subst (λ (xs : List ℤ). length xs ≤ 16384) (sym c.numbers-flags.ensures) (few_numbers c.args.a.now c.requires.array) in
    subst (λ (n : ℕ). n ≤ 16384) (sym c.kept_count.ensures) (few_kept c.numbers-flags.result.now c.meant_length-long.result few c.meant_length-long.ensures.small)

pub returns-in-Ok : goal.returns-in-Ok
returns-in-Ok c =
    subst (λ (answer : ArrayResult). AnswersFirst c.listed_of.result answer)
    (compress_is c.args.a.now c.args.b.now c.args.way c.args.axis c.meant_axis-along.result c.meant_length-long.result c.numbers-flags.result.now c.as_slice.result.now c.numbers-flags.ensures c.meant_length-long.ensures.value
    c.meant_axis-along.ensures.value (c.as_slice.ensures.value ∙ c.in-Ok.ensures))
    (c.listed_of.ensures (compress_faults c.args.a.now c.args.b.now c.args.way c.args.axis) c.requires.none)

pub returns-in-Err : goal.returns-in-Err
returns-in-Err c =
    let list = kept_places c.numbers-flags.result.now c.meant_length-long.result in
    subst (λ (answer : ArrayResult). AnswersFirst (Err c.listing_fail.result) answer)
    (compress_is c.args.a.now c.args.b.now c.args.way c.args.axis c.meant_axis-along.result c.meant_length-long.result c.numbers-flags.result.now list c.numbers-flags.ensures c.meant_length-long.ensures.value
    c.meant_axis-along.ensures.value refl)
    (c.listing_fail.ensures (compress_faults c.args.a.now c.args.b.now c.args.way c.args.axis) list c.requires.none (sym c.kept_count.ensures))
