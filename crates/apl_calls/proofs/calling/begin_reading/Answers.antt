use Rattle.std.proofs.Common.{sym, ap, ◌∙◌}
use Rattle.std.specs.Arc.{arc_value}
use Rattle.line_trees.specs.Trees.{line_tree_of}
use Rattle.apl_meaning.specs.Statements.{is_misplaced}
use Rattle.apl_values.specs.declared.reading.LineReading.{LineReading}
use Rattle.apl_values.specs.Places.{plain_place}
use Rattle.apl_values.specs.Parts.{reading_statement, reading_tree}
use Rattle.apl_statements.specs.Evaluating.{purpose_in}
use Rattle.apl_calls.proofs.Begins.{begins_comes}
use Rattle.apl_calls.proofs.calling.begin_reading.Goals as goal

pub returns-in-Some-clause-comes : goal.returns-in-Some-clause-comes
returns-in-Some-clause-comes c =
    begins_comes c.args.interpreter.now c.args.place c.in-Some.purpose (arc_value c.args.reading) c.new.result c.new.ensures.place c.new.ensures.purpose c.new.ensures.reading c.new.ensures.at c.new.ensures.values c.new.ensures.there c.requires.sound
    (ap (λ (r : LineReading). is_misplaced (plain_place c.args.place) (line_tree_of (reading_tree r))) (sym c.deref.ensures) ∙ sym c.is_misplaced.ensures ∙ c.if-is_misplaced.false)
    (ap (λ (r : LineReading). purpose_in (reading_statement r)) (sym c.deref-2.ensures) ∙ sym c.in-Some.ensures)
