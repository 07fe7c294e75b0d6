use Rattle.std.proofs.Common.{◌≡◌, ◌+◌, ◌-◌, ◌*◌, ◌<◌, ℕ, Some, pos, get_or, length, sym, ap, subst, ◌∙◌, arith, rules, of_z, to_z, w64}
use Rattle.std.specs.Prelude.{◌+ℤ◌}
use Rattle.std.specs.Int.{int_wrap}
use Rattle.std.proofs.lemmas.Int.{to_z-of_z, wrapping_add_onto}
use Rattle.apl_verbs.specs.declared.verb.Dyad.TheVariants.{Plus}
use Rattle.apl_scalar.specs.Table.{dyadic_item}
use Rattle.operator_rules.specs.Reduction.{front_of_line}
use Rattle.apl_operators.proofs.SmallLemmas.{first_sum, lone_place, one_sum_more}
use Rattle.apl_operators.proofs.sums.sum_of_line.Goals as goal

pub loop-along-init : goal.loop-along-init
loop-along-init c =
    let list = c.args.list.now in
    let split = c.args.split in
    let start : ℕ = c.args.outer * split.along in
    let here : start ≡ (start + 0) * split.inner + 0 = (let none : start + 0 ≡ start = omega arith in sym none ∙ lone_place c.args.outer split.along split.inner 0 c.requires.lone) in
    first_sum list split c.args.outer (to_z w64 (of_z w64 (get_or list start (pos 0))))
    (to_z-of_z w64 (get_or list start (pos 0)) (search rules) ∙ ap (λ (k : ℕ). get_or list k (pos 0)) here)

pub loop-along-preserved : goal.loop-along-preserved
loop-along-preserved c =
    let list = c.args.list.now in
    let split = c.args.split in
    let along = c.loop-along.along in
    let place : ℕ = c.args.outer * split.along + along in
    let x = get_or list place (pos 0) in
    let before : (along - 1) + 1 ≡ along = omega (arith, c.loop-along.auto.along) in
    let after : (along + 1) - 1 ≡ along = omega arith in
    let some : 0 < split.inner = omega (arith, c.requires.lone) in
    let inside : (along - 1) + 1 < split.along = omega (arith, c.loop-along.auto.along, c.loop-along-test.true) in
    let here : place ≡ (c.args.outer * split.along + ((along - 1) + 1)) * split.inner + 0 =
    lone_place c.args.outer split.along split.inner along c.requires.lone ∙ ap (λ (k : ℕ). (c.args.outer * split.along + k) * split.inner + 0) (sym before) in
    ap Some (wrapping_add_onto w64 c.loop-along.sum-bits x (search rules) (search rules))
    ∙ one_sum_more list split c.args.outer (along - 1) (to_z w64 c.loop-along.sum-bits) x c.requires.whole some c.requires.outer inside c.requires.small c.loop-along.invariant (ap (λ (k : ℕ). get_or list k (pos 0)) here)
    ∙ ap (λ (k : ℕ). front_of_line (dyadic_item Plus) list split c.args.outer 0 k) (before ∙ sym after)

pub returns : goal.returns
returns c =
    let last : c.loop-along.along - 1 ≡ c.args.split.along - 1 = omega (arith, c.loop-along.auto.along-end, c.loop-along-test.false, c.requires.some) in
    c.loop-along.invariant ∙ ap (λ (k : ℕ). front_of_line (dyadic_item Plus) c.args.list.now c.args.split c.args.outer 0 k) last
