use Rattle.std.proofs.Common.{◌≡◌, ℤ, get_or, pos, set, ap, ◌∙◌, arith, rules, of_z, to_z, w64}
use Rattle.std.specs.Prelude.{int_le}
use Rattle.std.proofs.lemmas.Int.{ints, to_z-of_z}
use Rattle.std.proofs.lemmas.List.{get_or_default}
use Rattle.std.proofs.lemmas.List.Edits.{map_over_more}
use Rattle.apl_scalar.specs.Table.{truth}
use Rattle.apl_search.proofs.MemberLemmas.{all_flagged}
use Rattle.apl_search.proofs.lookup.flags_of.Goals as goal

pub loop-flag-preserved : goal.loop-flag-preserved
loop-flag-preserved c =
    let flag = λ (place : ℤ). truth (int_le place (pos c.args.count)) in
    let before = c.deref_mut-flag-items.result.now in
    let at = c.loop-flag.flag-index in
    let items = c.loop-flag.flag-items in
    let x = get_or items at (pos 0) in
    let count : to_z w64 c.args.count ≡ pos c.args.count = omega (arith, ints, c.requires) in
    let wide = c.loop-flag.auto.flag-items in
    let told : to_z w64 (of_z w64 c.truth.result) ≡ flag x =
    to_z-of_z w64 c.truth.result (record { sfits = c.truth.type_inv }) ∙ c.truth.ensures ∙ ap (λ (n : ℤ). truth (int_le n (to_z w64 c.args.count))) (to_z-of_z w64 x (search rules))
    ∙ ap (λ (n : ℤ). truth (int_le x n)) count in
    ap (λ (v : ℤ). set items at v) told ∙ map_over_more flag before items at x c.loop-flag-test.true c.loop-flag.invariant (get_or_default items at (pos 0) x (omega arith))

pub returns : goal.returns
returns c =
    c.from.ensures
    ∙ all_flagged (λ place. truth (int_le place (pos c.args.count))) c.args.places.items c.into_vec-flags.result.items c.deref_mut-flag-items.result.now c.loop-flag.flag-items c.into_vec-flags.result.len c.loop-flag.flag-index
    c.into_vec-flags.ensures c.deref_mut-flag-items.ensures.value (search rules) c.loop-flag.invariant c.loop-flag-test.false
