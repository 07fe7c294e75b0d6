-- The second line of a report is that of the innermost function of which a line was begun, else the line as read.
use Rattle.std.proofs.Common.{◌≡◌, ℕ, zero, suc, ◌<◌, ◌≤◌, Bool, true, List, [], ◌∷◌, length, refl, sym, ap, subst, ◌∙◌, arith}
use Rattle.std.specs.Prelude.{Option, Some, None, IsSome, drop, nat_lt, slice_get, unwrap_or, if◌then◌else◌}
use Rattle.std.proofs.lemmas.Bool.{false≢true, le-leb}
use Rattle.apl_workspace.specs.Function.{PlainFunction}
use Rattle.apl_workspace.specs.Meaning.{NameTable, is_function_meaning}
use Rattle.apl_workspace.specs.Workspace.{PlainWorkspace, global_in}
use Rattle.apl_meaning.specs.Printing.{function_line_shown, input_shown}
use Rattle.apl_meaning.specs.Tasks.{line_numbered}
use Rattle.apl_statements.specs.declared.waiting.Waiting.{Waiting}
use Rattle.apl_statements.specs.Evaluating.{function_by, here_of, innermost_begun, shown_at, stack_of, waiting_shown}
use Rattle.apl_statements.specs.Sound.{AreUnderWay}

there : (lines : List (List ℕ)) (number : ℕ) → number < length lines → IsSome (slice_get lines number)
there [] number lt = absurd (omega (arith, lt))
there (line ∷ lines) zero lt = refl
there (line ∷ lines) (suc number) lt = there lines number (omega (arith, lt))

-- a line of which the number is not 0 and not too large is there
pub begun_there : (lines : List (List ℕ)) (number : ℕ) → 1 ≤ number → number ≤ length lines → IsSome (line_numbered lines number)
begun_there lines zero some few = absurd (omega (arith, some))
begun_there lines (suc number) some few = there lines number (omega (arith, few))

shown_there : (f : PlainFunction) (number : ℕ) (under : List ℕ) (line : Option (List ℕ)) → IsSome line → shown_at f number line under ≡ function_line_shown f.header.name number (unwrap_or line [])
shown_there f number under None is = absurd (false≢true is)
shown_there f number under (Some line) is = refl

-- what a report shows, where this is the innermost function of which a line was begun
abbrev pub shown_by : PlainWorkspace → List ℕ → Option Waiting → List ℕ
shown_by w input None = input_shown input
shown_by w input (Some waiting) = waiting_shown w waiting

pub here_is : (w : PlainWorkspace) (frames : List NameTable) (input : List ℕ) (callers : List Waiting) → AreUnderWay (record w { frames = frames }) callers → here_of input (stack_of w input callers) ≡ shown_by w input (innermost_begun callers)
here_is w frames input [] are = refl
here_is w frames input (waiting ∷ others) are = by waiting.number refl (here_is w (drop 1 frames) input others are.1)
  where
    f : PlainFunction
    f = function_by (global_in w waiting.name)

    by : (number : ℕ) → waiting.number ≡ number → here_of input (stack_of w input others) ≡ shown_by w input (innermost_begun others) → here_of input (stack_of w input (waiting ∷ others)) ≡ shown_by w input (if nat_lt 0 waiting.number then Some waiting else innermost_begun others)
    by zero e under =
        ap (λ (n : ℕ). shown_at f n (line_numbered f.lines n) (here_of input (stack_of w input others))) e
        ∙ under
        ∙ ap (λ (n : ℕ). shown_by w input (if nat_lt 0 n then Some waiting else innermost_begun others)) (sym e)
    by (suc number) e under =
        let some : 1 ≤ waiting.number = omega (arith, e) in
        shown_there f waiting.number (here_of input (stack_of w input others)) (line_numbered f.lines waiting.number) (begun_there f.lines waiting.number some are.0.number)
        ∙ ap (λ (b : Bool). shown_by w input (if b then Some waiting else innermost_begun others)) (sym (le-leb 1 waiting.number some))

-- it is a function, and its line is there
pub begun_is : (w : PlainWorkspace) (frames : List NameTable) (callers : List Waiting) (waiting : Waiting) → AreUnderWay (record w { frames = frames }) callers → innermost_begun callers ≡ Some waiting
    → (is_function_meaning (global_in w waiting.name) ≡ true) × IsSome (line_numbered (function_by (global_in w waiting.name)).lines waiting.number)
begun_is w frames [] waiting are is = absurd (let no : None ≡ Some waiting = is in cc)
begun_is w frames (first ∷ others) waiting are is = by first.number refl (begun_is w (drop 1 frames) others waiting are.1)
  where
    by : (number : ℕ) → first.number ≡ number → (innermost_begun others ≡ Some waiting → (is_function_meaning (global_in w waiting.name) ≡ true) × IsSome (line_numbered (function_by (global_in w waiting.name)).lines waiting.number)) → (is_function_meaning (global_in w waiting.name) ≡ true) × IsSome (line_numbered (function_by (global_in w waiting.name)).lines waiting.number)
    by zero e under = under (ap (λ (n : ℕ). if nat_lt 0 n then Some first else innermost_begun others) (sym e) ∙ is)
    by (suc number) e under =
        let begun : 1 ≤ first.number = omega (arith, e) in
        let some : Some first ≡ Some waiting = ap (λ (b : Bool). if b then Some first else innermost_begun others) (sym (le-leb 1 first.number begun)) ∙ is in
        let same : first ≡ waiting = cc in
        subst (λ (w2 : Waiting). (is_function_meaning (global_in w w2.name) ≡ true) × IsSome (line_numbered (function_by (global_in w w2.name)).lines w2.number)) same
        (are.0.function, begun_there (function_by (global_in w first.name)).lines first.number begun are.0.number)

-- ---- nothing waits
