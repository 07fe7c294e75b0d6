-- Which functions may be called, and their arguments.
use Rattle.std.specs.Prelude.{◌≡◌, ◌<◌, ◌≤◌, ◌&&◌, ◌⊎◌, ℕ, Bool, true, false, List, Option, Some, is_some, length, option_map}
use Rattle.apl_arrays.specs.declared.report.Report.{Report}
use Rattle.apl_arrays.specs.declared.report.Report.TheVariants.{Syntax, WsFull}
use Rattle.apl_workspace.specs.Limits.{most_depth, most_weight}
use Rattle.apl_workspace.specs.Workspace.{PlainWorkspace, look, with_frame, workspace_weight}
use Rattle.apl_workspace.specs.declared.args.Args.{Args}
use Rattle.apl_workspace.specs.declared.meaning.Meaning.{Meaning}
use Rattle.apl_workspace.specs.declared.meaning.Meaning.TheVariants as meaning
use Rattle.apl_meaning.specs.Verbs.{both_or_neither}
use Rattle.apl_values.specs.declared.values.StackValue.{StackValue}
use Rattle.apl_values.specs.Values.{stack_value}
use Rattle.apl_statements.specs.declared.evaluation.Evaluation.{Evaluation}
use Rattle.apl_statements.specs.Evaluating.{takes_by}
use Rattle.apl_statements.specs.Holding.{parts_of}

-- a name that stands for this is a function with a left and a right argument exactly where these say so
abbrev pub takes_so : Meaning → Bool → Bool → Bool
takes_so meaning.Nothing left right = false
takes_so (meaning.Value value) left right = false
takes_so (meaning.Function function) left right = both_or_neither (is_some function.header.left) left && both_or_neither (is_some function.header.right) right
takes_so (meaning.Label line) left right = false
takes_so (meaning.Shared copy) left right = false

-- a call is not refused: the name stands for a function of these arguments, fewer are under way than may be, and the workspace does not weigh too much with its frame
pub record MayBeCalled (w : PlainWorkspace) (name : List ℕ) (args : Args) : Type 0 where
  pub takes : takes_by (look w name) args ≡ true
  pub shallow : length w.frames < most_depth
  pub fits : workspace_weight (with_frame w name args) ≤ most_weight

-- why a function is not called: the name takes no such arguments, else its frame does not fit, or as many are under way as may be
abbrev pub IsNotCalled : Bool → Bool → ℕ → Report → Type 0
IsNotCalled true fits depth why = (why ≡ WsFull) × ((fits ≡ false) ⊎ (most_depth ≤ depth))
IsNotCalled false fits depth why = why ≡ Syntax

-- the values of a statement as the arguments of a call
abbrev pub arguments : PlainWorkspace → Evaluation → Option StackValue → StackValue → Args
arguments w caller left right = record { left = option_map (stack_value w (parts_of caller)) left; right = Some (stack_value w (parts_of caller) right) }
