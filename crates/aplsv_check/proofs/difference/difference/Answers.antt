use Rattle.std.proofs.Common.{◌≡◌, true, false, arith, map, rules, tests}
use Rattle.std.proofs.lemmas.Bool.{both_ways}
use Rattle.std.proofs.lemmas.List.{length-map}
use Rattle.apl_arrays.specs.List.{glyphs_in}
use Rattle.aplsv_check.proofs.Differences.{differ_there, none_yet, one_more, same_to_the_end}
use Rattle.aplsv_check.proofs.difference.difference.Goals as goal

pub loop-at-init : goal.loop-at-init
loop-at-init c = none_yet (map glyphs_in c.args.lines.now) (map glyphs_in c.args.others.now)

pub loop-at-preserved : goal.loop-at-preserved
loop-at-preserved c =
    let is : c.same_at-same.result ≡ true = search (rules, tests) in
    one_more (map glyphs_in c.args.lines.now) (map glyphs_in c.args.others.now) c.loop-at.at (omega (arith, length-map c.args.lines.now glyphs_in, length-map c.args.others.now glyphs_in)) (c.same_at-same.ensures.0 is) c.loop-at.invariant

pub returns-then-not-same : goal.returns-then-not-same
returns-then-not-same c =
    let is : c.same_at-same.result ≡ false = search (rules, tests) in
    differ_there (map glyphs_in c.args.lines.now) (map glyphs_in c.args.others.now) c.loop-at.at (λ same. both_ways c.same_at-same.result is (c.same_at-same.ensures.1 same)) c.loop-at.invariant

pub returns : goal.returns
returns c =
    same_to_the_end (map glyphs_in c.args.lines.now) (map glyphs_in c.args.others.now) c.loop-at.at (omega (arith, length-map c.args.lines.now glyphs_in, length-map c.args.others.now glyphs_in)) c.loop-at.invariant
