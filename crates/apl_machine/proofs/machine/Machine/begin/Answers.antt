use Rattle.std.proofs.Common.{◌≡◌, ℕ, List, [], length, sym, ap, subst, ◌∙◌}
use Rattle.line_trees.specs.Parsing.{PlainTree, plain_tree}
use Rattle.line_trees.specs.Trees.{line_tree_of}
use Rattle.apl_meaning.specs.Meaning.{most_statements}
use Rattle.apl_meaning.specs.Reading.{classes_of}
use Rattle.apl_values.specs.Parts.{reading_tree}
use Rattle.apl_values.proofs.ReadLaw.{is_reading}
use Rattle.apl_statements.specs.Interpreter.{PlainInterpreter}
use Rattle.apl_machine.specs.declared.machine.Machine.TheInside.{Inside}
use Rattle.apl_machine.specs.declared.machine.Stage.TheVariants as stage
use Rattle.apl_machine.specs.Machine.{PlainMachine, begins, machine_before}
use Rattle.apl_machine.specs.Runs.{MachineStands}
use Rattle.apl_machine.specs.Stages.{plain_machine}
use Rattle.apl_machine.proofs.Standing.{stands_at_its_beginning}
use Rattle.apl_machine.proofs.machine.Machine.begin.Goals as goal

pub invariant_of-self : goal.invariant_of-self
invariant_of-self c =
    is_reading (classes_of c.args.self.now.interpreter.workspace) c.requires.tree.tokens (length c.args.line.now.items) (plain_tree c.args.tree) c.in_ok-reading.reading c.requires.tree.nodes c.in_ok-reading.ensures.tree c.in_ok-reading.ensures.parts

pub returns-in-Ok-clause-stands : goal.returns-in-Ok-clause-stands
returns-in-Ok-clause-stands c =
    let m : PlainMachine = c.args.self.now in
    let i : PlainInterpreter = c.self.inside.interpreter in
    let line : List ℕ = c.args.line.now.items in
    let tree : PlainTree = plain_tree c.args.tree in
    let after : Inside = record c.self.inside { interpreter = c.begin.new.self; stage = stage.Begins c.in_ok-reading.reading } in
    let reset : PlainInterpreter → List ℕ → PlainInterpreter = λ x input. record x { statements = most_statements; input = input } in
    let made : PlainInterpreter → PlainTree → PlainMachine = λ x t. record { interpreter = x; stage = begins t } in
    let is : plain_machine after ≡ machine_before line tree m =
    ap (λ (x : PlainInterpreter). made x (reading_tree c.in_ok-reading.reading)) c.in-Ok.ensures.ok
    ∙ ap (λ (t : PlainTree). made (reset i line) t) c.in_ok-reading.ensures.tree
    ∙ ap (λ (x : PlainMachine). made (reset x.interpreter line) tree) c.self.view_is in
    subst (λ (x : PlainMachine). MachineStands x (line_tree_of tree) line m.interpreter.workspace m.interpreter.output [] 0 []) (sym is) (stands_at_its_beginning m line tree c.requires.idle.stack)
