use Rattle.std.proofs.Common.{◌≡◌, ◌++◌, rules, arith, pos}
use Rattle.std.proofs.lemmas.Int.{to_z-of_z}
use Rattle.std.proofs.lemmas.Grind.{common_steps}
use Rattle.std.proofs.lemmas.List.Elements.{All-more}
use Rattle.line_text.specs.Number.{number_text}
use Rattle.line_text.proofs.AllMore.{all_of_first}
use Rattle.line_text.proofs.SameNumbers.{Fits64}
use Rattle.line_text.proofs.Spaced.{spaced_after}
use Rattle.line_text.proofs.text.add_numbers.Goals as goal

pub loop-number-preserved : goal.loop-number-preserved
loop-number-preserved c = record {
  text = grind (arith, common_steps);
  printable = All-more Fits64 c.in-Some.others.now c.loop-number.number-index (pos 0) (omega arith) c.loop-number.invariant.printable (search rules);
}

pub returns-clause-text : goal.returns-clause-text
returns-clause-text c =
    let first : c.add_number.new.line.items ≡ c.args.line.now.items ++ number_text c.in-Some.first.now = grind (arith, to_z-of_z, c.in_ok-add_number.ensures.text) in
    spaced_after number_text c.in-Some.first.now c.in-Some.others.now c.args.numbers.now c.loop-number.number-index c.args.line.now.items c.add_number.new.line.items c.loop-number.line.items c.in-Some.ensures.cases.0 first (omega arith) c.loop-number.invariant.text

pub returns-clause-printable : goal.returns-clause-printable
returns-clause-printable c =
    all_of_first Fits64 c.args.numbers.now c.in-Some.first.now c.in-Some.others.now c.loop-number.number-index c.in-Some.ensures.cases.0 (search rules) (omega arith) c.loop-number.invariant.printable
