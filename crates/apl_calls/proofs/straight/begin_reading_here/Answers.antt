use Rattle.std.proofs.Common.{sym, ap, ◌∙◌}
use Rattle.std.specs.Arc.{arc_value}
use Rattle.line_trees.specs.Trees.{line_tree_of}
use Rattle.apl_values.specs.declared.place.Place.TheVariants.{InFunction}
use Rattle.apl_values.specs.declared.reading.LineReading.{LineReading}
use Rattle.apl_values.specs.Parts.{reading_statement, reading_tree}
use Rattle.apl_statements.specs.Evaluating.{purpose_in}
use Rattle.apl_calls.proofs.Begins.{begins_comes}
use Rattle.apl_calls.proofs.FollowedHere.{stands_in_function}
use Rattle.apl_calls.proofs.straight.begin_reading_here.Goals as goal

pub returns-in-Some-clause-comes : goal.returns-in-Some-clause-comes
returns-in-Some-clause-comes c =
    begins_comes c.args.interpreter.now InFunction c.in-Some.purpose (arc_value c.args.reading) c.stand-in-Some.new.e c.stand-in-Some.ensures.place c.stand-in-Some.ensures.purpose c.stand-in-Some.ensures.reading c.stand-in-Some.ensures.at c.stand-in-Some.ensures.values c.stand-in-Some.ensures.there c.requires.sound
    (stands_in_function (line_tree_of (reading_tree (arc_value c.args.reading))))
    (ap (λ (r : LineReading). purpose_in (reading_statement r)) (sym c.deref.ensures) ∙ sym c.in-Some.ensures)
