use Rattle.std.proofs.Common.{ap, ◌∙◌, rules, sym, w64, SFits}
use Rattle.std.specs.Prelude.{Ok}
use Rattle.std.proofs.lemmas.Int.{to_z-of_z}
use Rattle.apl_operators.proofs.LoneLemmas.{pair_given, pair_refused}
use Rattle.apl_operators.proofs.lone.pair_of_numbers.Goals as goal

pub returns-in-Some : goal.returns-in-Some
returns-in-Some c =
    let one : SFits w64 c.args.one = c.ranges.one in
    let other : SFits w64 c.args.other = c.ranges.other in
    let item : SFits w64 c.in-Some.item = search rules in
    pair_given c.args.f c.args.one c.args.other c.in-Some.item (simp to_z-of_z at c.in-Some.ensures) ∙ ap (λ a. Ok a) (sym (simp to_z-of_z at c.of_number.ensures))

pub returns-in-None : goal.returns-in-None
returns-in-None c =
    let one : SFits w64 c.args.one = c.ranges.one in
    let other : SFits w64 c.args.other = c.ranges.other in
    pair_refused c.args.f c.args.one c.args.other (simp to_z-of_z at c.in-None.ensures)
