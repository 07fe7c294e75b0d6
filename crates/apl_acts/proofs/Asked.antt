-- What comes of what is asked, and that no report is due where memory ran out for it.
use Rattle.std.proofs.Common.{◌≡◌, [], refl, sym, ap, subst}
use Rattle.std.specs.Prelude.{Result, Ok, Err}
use Rattle.apl_arrays.specs.Array.{PlainArray}
use Rattle.apl_arrays.specs.declared.report.Fail.{Fail}
use Rattle.apl_arrays.specs.declared.report.Fail.TheVariants as fail
use Rattle.apl_items.specs.Places.{OnWantOfMemory}
use Rattle.apl_meaning.specs.Expressions.{Found, valued}
use Rattle.apl_meaning.specs.State.{State, Outcome, refuses}
use Rattle.apl_values.specs.Pending.{names_asked, parties_asked}
use Rattle.apl_values.specs.Rows.{rows_left}
use Rattle.apl_statements.specs.declared.evaluation.Evaluation.{Evaluation}
use Rattle.apl_statements.specs.declared.flow.Flow.{Flow}
use Rattle.apl_statements.specs.Evaluating.{caller_of}
use Rattle.apl_statements.specs.Interpreter.{PlainInterpreter, here, state_at}
use Rattle.apl_statements.specs.Moves.{Comes, part_gives}
use Rattle.apl_statements.specs.Stack.{carried_on}
use Rattle.apl_statements.specs.Wants.{IsNoReport, NoReportIsDue}
use Rattle.apl_statements.proofs.Same.{at_once, comes_as}
use Rattle.apl_statements.proofs.Wants.{asked_no_report, rows_no_report}
use Rattle.apl_acts.specs.Asking.{Asks, asked_part}
use Rattle.apl_acts.specs.declared.asking.Asking.{Asking}
use Rattle.apl_acts.specs.declared.asking.Asking.TheVariants as asking
use Rattle.apl_acts.proofs.Tested.{from_valued}

-- what comes of what is asked comes of the part that asks it
pub asks_comes : (m : PlainInterpreter) (e : Evaluation) (part : State → Outcome PlainArray) (what : Asking) (r : Result Flow Fail) → Asks m part (Ok what) → Comes m (part_gives m e (asked_part what)) 0 m r → Comes m (part_gives m e (λ s. valued (part s))) 0 m r
asks_comes m e part what r asks comes =
    comes_as m m (part_gives m e (λ s. valued (part s))) (part_gives m e (asked_part what)) 0 r (λ acts count taken further.
    ap (λ (o : Outcome Found). carried_on o (caller_of m.workspace (here m) e) m.stack) (asks acts count taken further)) comes

-- a part that asks nothing ends the line
pub asks_ends : (m : PlainInterpreter) (e : Evaluation) (part : State → Outcome PlainArray) (why : Fail) → Asks m part (Err why) → Comes m (part_gives m e (λ s. valued (part s))) 0 m (Err why)
asks_ends m e part (fail.Report report) asks =
    at_once m (part_gives m e (λ s. valued (part s))) (λ s. refuses report s) (λ acts count taken further.
    ap (λ (o : Outcome PlainArray). carried_on (valued o) (caller_of m.workspace (here m) e) m.stack) (asks acts count taken further))
asks_ends m e part fail.WantOfMemory asks = tt

asked_free : (what : Asking) (s : State) → s.answers ≡ [] → IsNoReport (asked_part what s)
asked_free (asking.Rows rows) s none = rows_no_report rows.numbers.items (rows_left rows) rows.shape.items s none
asked_free asking.Parties s none = asked_no_report parties_asked s none
asked_free (asking.Names party) s none = asked_no_report (names_asked party) s none

-- no report of a part is due that asks something
pub asks_free : (m : PlainInterpreter) (part : State → Outcome PlainArray) (what : Asking) → Asks m part (Ok what) → NoReportIsDue m part
asks_free m part what asks acts count taken =
    let s : State = state_at m acts count taken [] in
    from_valued (part s) (subst (λ (o : Outcome Found). IsNoReport o) (sym (asks acts count taken [])) (asked_free what s refl))

-- nor of one for which memory ran out
pub asks_wants : (m : PlainInterpreter) (part : State → Outcome PlainArray) (why : Fail) → Asks m part (Err why) → OnWantOfMemory {T = Flow} (Err why) (NoReportIsDue m part)
asks_wants m part (fail.Report report) asks = tt
asks_wants m part fail.WantOfMemory asks = asks
