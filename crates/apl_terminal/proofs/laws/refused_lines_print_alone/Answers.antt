use Rattle.std.proofs.Common.{◌++◌, ◌+◌, ◌∷◌, Bool, List, Option, Some, None, true, false, [], append_assoc, refl, subst, sym, ℕ}
use Rattle.std.proofs.lemmas.Bool.{lt-leb}
use Rattle.std.specs.Prelude.{if◌then◌else◌}
use Rattle.apl_arrays.specs.declared.report.Report.TheVariants.{Defn, Interrupt, WsFull}
use Rattle.apl_meaning.specs.Printing.{input_shown, report_lines}
use Rattle.apl_workspace.specs.Workspace.{with_printed, workspace_weight}
use Rattle.fn_editor.specs.Editing.{Edited}
use Rattle.fn_editor.specs.Prompt.{prompt_text}
use Rattle.apl_terminal.specs.Terminal.{PlainTerminal, closing, echoing, editing, glyph_count, printing, reporting, showing, with_done}
use Rattle.apl_terminal.specs.TerminalLaws.{OnlyPrints}
use Rattle.apl_terminal.proofs.laws.refused_lines_print_alone.Goals as goal

-- lines that are printed, and lines behind them
prints : (lines : List (List ℕ)) (t : PlainTerminal) → OnlyPrints t (printing lines t)
prints lines t = record { workspace = refl; id = refl; ended = refl; definition = refl; lines = lines; printed = refl }

prints_more : (first second : List (List ℕ)) (t : PlainTerminal) → OnlyPrints t (printing second (printing first t))
prints_more first second t = record { workspace = refl; id = refl; ended = refl; definition = refl; lines = first ++ second; printed = append_assoc t.transcript first second }

pub returns-clause-opening : goal.returns-clause-opening
returns-clause-opening c = λ t line none.
    subst (λ (o : Option Edited). OnlyPrints t (editing line o t)) (sym none) (prints (report_lines Defn (input_shown line)) t)

pub returns-clause-feeding : goal.returns-clause-feeding
returns-clause-feeding c = λ t editor line none.
    subst (λ (o : Option Edited). OnlyPrints t (editing line o (echoing (prompt_text editor.number) line t))) (sym none)
    (prints_more ((prompt_text editor.number ++ line) ∷ []) (report_lines Defn (input_shown line)) t)

pub returns-clause-showing : goal.returns-clause-showing
returns-clause-showing c = λ t line done stays many.
    subst (λ (b : Bool). OnlyPrints (record t { definition = Some done.editor }) (closing line done.editor b (showing line done.shown t))) (sym stays)
    (subst (λ (b : Bool). OnlyPrints (record t { definition = Some done.editor })
    (closing line done.editor false (if b then printing done.shown (record t { workspace = with_printed t.workspace (glyph_count done.shown) }) else reporting Interrupt line t)))
    (sym (lt-leb (t.workspace.printed + glyph_count done.shown) 4194304 many)) (prints (report_lines Interrupt (input_shown line)) (record t { definition = Some done.editor })))

pub returns-clause-defining : goal.returns-clause-defining
returns-clause-defining c = λ t line done closed many.
    let shown : PlainTerminal = showing line done.shown t in
    let dropped : PlainTerminal = record shown { definition = None } in
    subst (λ (b : Bool). OnlyPrints dropped (closing line done.editor b shown)) (sym closed)
    (subst (λ (b : Bool). OnlyPrints dropped (if b then record dropped { workspace = with_done shown.workspace done.editor } else reporting WsFull line dropped))
    (sym (lt-leb (workspace_weight (with_done shown.workspace done.editor)) 4194304 many)) (prints (report_lines WsFull (input_shown line)) dropped))
