use Rattle.std.proofs.Common.{◌≡◌, ◌∙◌, ap, subst, sym}
use Rattle.std.specs.Prelude.{map, reverse}
use Rattle.apl_arrays.specs.List.{glyphs_in}
use Rattle.apl_workspace.specs.Workspace.{PlainWorkspace}
use Rattle.apl_meaning.specs.Printing.{lines_printed}
use Rattle.apl_items.specs.Places.{OnWantOfMemory}
use Rattle.apl_statements.specs.Led.{HasLed}
use Rattle.apl_statements.specs.Interpreter.{PlainInterpreter}
use Rattle.apl_statements.specs.Sound.{plain_interpreter}
use Rattle.apl_statements.specs.Wants.{StopsAtLine}
use Rattle.apl_statements.specs.declared.interpreter.Interpreter.TheInside.{Inside}
use Rattle.apl_statements.proofs.Printed.{done_as_led, keeps_functions}
use Rattle.apl_statements.proofs.Renewing.{seen_changed, way_changed}
use Rattle.apl_statements.proofs.interpreter.Interpreter.print_lines.Goals as goal

pub invariant_of-self : goal.invariant_of-self
invariant_of-self c =
    let w : PlainWorkspace = c.self.inside.workspace in
    let v : PlainWorkspace = record w { printed = c.print_lines.new.workspace.printed } in
    way_changed w v c.print_lines.new.workspace (reverse c.self.inside.callers.items) c.print_lines.ensures.beside (keeps_functions w v.printed) c.self.invariant

-- the interpreter is as it was, with the output and the workspace that the lines left
after : (c : goal.After-print_lines) → plain_interpreter (record c.self.inside { workspace = c.print_lines.new.workspace; output = c.print_lines.new.output })
    ≡ record c.args.self.now { output = c.print_lines.new.output.items; workspace = record c.self.inside.workspace { printed = c.print_lines.new.workspace.printed } }
after c =
    let inside : Inside = record c.self.inside { output = c.print_lines.new.output } in
    let w : PlainWorkspace = c.self.inside.workspace in
    let v : PlainWorkspace = record w { printed = c.print_lines.new.workspace.printed } in
    seen_changed inside (record c.args.self.now { output = inside.output.items }) c.print_lines.new.workspace v
    (ap (λ (x : PlainInterpreter). record x { output = inside.output.items }) c.self.view_is) c.print_lines.ensures.beside (keeps_functions w v.printed)

pub returns-clause-printed : goal.returns-clause-printed
returns-clause-printed c =
    let before : PlainInterpreter = c.args.self.now in
    let u : PlainWorkspace = c.print_lines.new.workspace in
    let lines = lines_printed (map glyphs_in c.args.lines.items) in
    done_as_led c.print_lines.result before (plain_interpreter (record c.self.inside { workspace = u; output = c.print_lines.new.output })) lines
    (after c ∙ ap (λ (x : PlainWorkspace). record before { output = c.print_lines.new.output.items; workspace = x }) (sym c.print_lines.ensures.beside))
    (subst (λ (x : PlainInterpreter). HasLed x.workspace x.output lines u c.print_lines.new.output.items c.print_lines.result) c.self.view_is c.print_lines.ensures.led)

pub returns-clause-beside : goal.returns-clause-beside
returns-clause-beside c =
    after c ∙ ap (λ (x : PlainInterpreter). record c.args.self.now { output = c.print_lines.new.output.items; workspace = record x.workspace { printed = c.print_lines.new.workspace.printed } }) c.self.view_is

pub returns-clause-memory : goal.returns-clause-memory
returns-clause-memory c =
    subst (λ (x : PlainInterpreter). OnWantOfMemory c.print_lines.result (StopsAtLine (map glyphs_in c.args.lines.items) x.workspace.printed c.print_lines.new.workspace.printed)) c.self.view_is c.print_lines.ensures.memory
