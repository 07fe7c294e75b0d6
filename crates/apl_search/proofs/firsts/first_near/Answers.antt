use Rattle.std.proofs.Common.{◌≡◌, ◌≤ℤ◌, ◌<ℤ◌, ◌≤◌, ℕ, ℤ, length, sym, ap, subst, ◌∙◌, arith, of_z, to_z, w64}
use Rattle.std.specs.Ordering.{int_eq}
use Rattle.std.proofs.lemmas.Int.{ints, to_z-of_z}
use Rattle.apl_search.specs.Classes.{first_from}
use Rattle.apl_search.specs.Distances.{distance}
use Rattle.apl_search.proofs.ClassLemmas.{place_at_most}
use Rattle.apl_search.proofs.NearLemmas.{first_of_number, nowhere_below, nowhere_beyond}
use Rattle.apl_search.proofs.firsts.first_near.Goals as goal

pub returns-then-number-base-clause-value : goal.returns-then-number-base-clause-value
returns-then-number-base-clause-value c =
    let less : c.args.number <ℤ c.args.base = grind (arith, ints) in
    sym (nowhere_below c.args.base c.args.number c.args.list.now less c.requires.above)

pub returns-then-far-firsts-clause-value : goal.returns-then-far-firsts-clause-value
returns-then-far-firsts-clause-value c =
    let far : c.distance-far.result ≡ distance c.args.base c.args.number =
    c.distance-far.ensures ∙ ap (λ (b : ℤ). distance b (to_z w64 (of_z w64 c.args.number))) (to_z-of_z w64 c.args.base c.ranges.base) ∙ ap (distance c.args.base) (to_z-of_z w64 c.args.number c.ranges.number) in
    let from : c.args.base ≤ℤ c.args.number = grind (arith, ints) in
    c.from.ensures ∙ c.requires.first c.distance-far.result c.if-far-firsts.true
    ∙ ap (λ (n : ℕ). first_from (distance c.args.base) c.args.list.now 0 n) far ∙ first_of_number c.args.base c.args.number c.args.list.now from c.requires.above

pub returns-then-far-firsts-clause-inside : goal.returns-then-far-firsts-clause-inside
returns-then-far-firsts-clause-inside c =
    subst (λ (n : ℕ). n ≤ length c.args.list.now) (sym (returns-then-far-firsts-clause-value c)) (place_at_most (int_eq c.args.number) c.args.list.now)

pub returns-else-far-firsts-clause-value : goal.returns-else-far-firsts-clause-value
returns-else-far-firsts-clause-value c =
    let far : c.distance-far.result ≡ distance c.args.base c.args.number =
    c.distance-far.ensures ∙ ap (λ (b : ℤ). distance b (to_z w64 (of_z w64 c.args.number))) (to_z-of_z w64 c.args.base c.ranges.base) ∙ ap (distance c.args.base) (to_z-of_z w64 c.args.number c.ranges.number) in
    let past : length c.args.firsts.now ≤ distance c.args.base c.args.number = subst (λ (n : ℕ). length c.args.firsts.now ≤ n) far c.if-far-firsts.false in
    sym (nowhere_beyond c.args.base c.args.number c.args.list.now (length c.args.firsts.now) past c.requires.near)
