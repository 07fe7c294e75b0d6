-- The line of the innermost function that is next, or none.
use Rattle.std.proofs.Common.{◌≡◌, ℕ, false, List, [], ◌∷◌, refl, sym, ap, subst, ◌∙◌, arith}
use Rattle.std.specs.Prelude.{Option, Some, None, Result, IsSome, is_some, option_map, slice_get, unwrap_or}
use Rattle.std.proofs.lemmas.Bool.{false≢true}
use Rattle.apl_arrays.specs.declared.report.Fail.{Fail}
use Rattle.apl_meaning.specs.State.{State, Outcome, and_then}
use Rattle.apl_meaning.specs.Tasks.{Next, begun, following, in_function, line_numbered}
use Rattle.apl_meaning.specs.Meaning.{ran}
use Rattle.apl_meaning.specs.Statements.{text_outcome}
use Rattle.apl_statements.specs.declared.flow.Flow.{Flow}
use Rattle.apl_statements.specs.Evaluating.{here_of, line_of_innermost, shown_at}
use Rattle.apl_statements.specs.Interpreter.{PlainInterpreter, state_at}
use Rattle.apl_statements.specs.Moves.{Coming, Comes, Moves, statement_leads}
use Rattle.apl_statements.specs.Stack.{PlainWaiting, at_line, behind, from_end, from_line}
use Rattle.apl_statements.proofs.Moving.{comes_after}
use Rattle.apl_statements.proofs.Same.{comes_as, moves_as, moves_to}
use Rattle.apl_statements.proofs.Steps.{line_begins, lines_end}
use Rattle.apl_calls.specs.Ended.{line_behind}
use Rattle.apl_calls.specs.Waitings.{standing_on}
use Rattle.apl_calls.proofs.Innermost.{line_within}

none_is : (found : Option (List ℕ)) → is_some found ≡ false → found ≡ None
none_is None is = refl
none_is (Some line) is = absurd (false≢true (sym is))

no_line : (ws : List PlainWaiting) (number : ℕ) (s : State) → line_of_innermost ws number ≡ None → from_line ws number s ≡ from_end ws s
no_line [] number s none = refl
no_line (w ∷ ws) number s none = lines_end w.function number w.caller ws s none

-- where there is no line of this number, the function is left
pub left_there : (m n : PlainInterpreter) (number : ℕ) (rest : Coming) → is_some (line_of_innermost m.stack number) ≡ false → Moves m (from_end m.stack) 0 n rest → Moves m (from_line m.stack number) 0 n rest
left_there m n number rest lacks moves =
    let none : line_of_innermost m.stack number ≡ None = none_is (line_of_innermost m.stack number) lacks in
    moves_as m n (from_line m.stack number) (from_end m.stack) rest 0 (λ asked count taken further. no_line m.stack number (state_at m asked count taken further) none) moves

-- a statement over what waits
abbrev statement_leads_on : List PlainWaiting → (State → Outcome Next) → State → Outcome Next
statement_leads_on ws statement s = and_then (statement s) (λ next t. behind ws next t)

-- where there is one, it is begun there
on_line : (ws : List PlainWaiting) (number : ℕ) (input : List ℕ) (s : State) → IsSome (line_of_innermost ws number)
    → from_line ws number s ≡ statement_leads_on (standing_on number ws) (λ s. begun (text_outcome ran in_function (unwrap_or (line_of_innermost (standing_on number ws) number) [])) s) (record s { here = here_of input (standing_on number ws) })
on_line [] number input s is = let no = line_within [] number is in absurd (omega (arith, no.0, no.1))
on_line (w ∷ ws) number input s is = by (line_numbered w.function.lines number) refl is
  where
    by : (line : Option (List ℕ)) → line_numbered w.function.lines number ≡ line → IsSome line → from_line (w ∷ ws) number s ≡ statement_leads_on (standing_on number (w ∷ ws)) (λ s. begun (text_outcome ran in_function (unwrap_or (line_of_innermost (standing_on number (w ∷ ws)) number) [])) s) (record s { here = here_of input (standing_on number (w ∷ ws)) })
    by None e some = absurd (false≢true some)
    by (Some line) e some =
        line_begins w.function number line w.caller ws s e
        ∙ sym (ap (λ (found : Option (List ℕ)). statement_leads_on (at_line w.function number w.caller ∷ ws) (λ s. begun (text_outcome ran in_function (unwrap_or found [])) s) (record s { here = shown_at w.function number found (here_of input ws) })) e)

-- an interpreter whose innermost function is at this line
abbrev pub stood_at : PlainInterpreter → ℕ → PlainInterpreter
stood_at m number = record m { stack = standing_on number m.stack }

-- what comes of the line
pub line_comes : (m n o : PlainInterpreter) (number : ℕ) (r : Result Flow Fail) → n ≡ stood_at m number → IsSome (line_of_innermost m.stack number)
    → Comes n (statement_leads n (λ s. begun (text_outcome ran in_function (unwrap_or (line_of_innermost n.stack number) [])) s)) 0 o r → Comes m (from_line m.stack number) 0 o r
line_comes m n o number r is there comes =
    let later : PlainInterpreter → Coming = λ x. statement_leads x (λ s. begun (text_outcome ran in_function (unwrap_or (line_of_innermost x.stack number) [])) s) in
    let first : Moves m (from_line m.stack number) 0 n (later n) =
    subst (λ (x : PlainInterpreter). Moves m (from_line m.stack number) 0 x (later x)) (sym is)
    (moves_to m (stood_at m number) (from_line m.stack number) (later (stood_at m number)) (λ asked count taken further. on_line m.stack number m.input (state_at m asked count taken further) there)) in
    comes_after m n o (from_line m.stack number) (later n) 0 r first comes

-- where a statement led somewhere, the line that follows is next
follows : (ws : List PlainWaiting) (number : ℕ) (next : Next) (s : State) → Some number ≡ option_map (λ (p : PlainWaiting). p.number) (slice_get ws 0) → behind ws next s ≡ from_line ws (following number next) s
follows [] number next s is = absurd (let no : Some number ≡ None = is in cc)
follows (w ∷ ws) number next s is =
    let some : Some number ≡ Some w.number = is in
    let same : w.number ≡ number = cc in
    ap (λ (n : ℕ). from_line (w ∷ ws) (following n next) s) same

pub follows_comes : (m n : PlainInterpreter) (number line : ℕ) (next : Next) (r : Result Flow Fail) → Some number ≡ option_map (λ (p : PlainWaiting). p.number) (slice_get m.stack 0) → line ≡ following number next → Comes m (from_line m.stack line) 0 n r → Comes m (λ s. behind m.stack next s) 0 n r
follows_comes m n number line next r is leads comes =
    comes_as m n (λ s. behind m.stack next s) (from_line m.stack line) 0 r (λ asked count taken further.
    let s : State = state_at m asked count taken further in
    follows m.stack number next s is ∙ ap (λ (k : ℕ). from_line m.stack k s) (sym leads)) comes

-- the line behind where the innermost function is
pub behind_is_next : (ws : List PlainWaiting) (number at : ℕ) (next : Next) → Some number ≡ option_map (λ (p : PlainWaiting). p.number) (slice_get ws 0) → at ≡ following number next
    → IsSome (line_behind ws next) → IsSome (line_of_innermost ws at)
behind_is_next [] number at next is follows some = absurd (false≢true some)
behind_is_next (w ∷ ws) number at next is follows some =
    let first : Some number ≡ Some w.number = is in
    let same : number ≡ w.number = cc in
    subst (λ (k : ℕ). IsSome (line_numbered w.function.lines k)) (sym (follows ∙ ap (λ (n : ℕ). following n next) same)) some
