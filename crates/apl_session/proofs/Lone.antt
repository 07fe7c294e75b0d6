-- A line that is one act alone: what waits for its answer, and what the answer does.
use Rattle.std.proofs.Common.{◌≡◌, ℕ, ◌<◌, ◌≤◌, List, [], ◌∷◌, ◌++◌, drop, length, refl, sym, ap, subst, ◌∙◌, append-nil, append_assoc, arith}
use Rattle.std.proofs.lemmas.List.{drop_all}
use Rattle.std.proofs.Math.Nat.{lt_of_not-le}
use Rattle.std.specs.Prelude.{Err, None, Some}
use Rattle.apl_arrays.specs.declared.report.Fail.{Fail}
use Rattle.apl_arrays.specs.declared.report.Fail.TheVariants as fail
use Rattle.apl_arrays.specs.declared.report.Report.{Report}
use Rattle.apl_machine.specs.Alone.{EndsThere, HasLed, IsAlone, IsOnShared, Leads, act_outcome, answer_outcome}
use Rattle.apl_machine.proofs.Steps.{grouped}
use Rattle.apl_meaning.specs.Answers.{got, report_of_kind, answer_taken_from, unless_ended, with_copy}
use Rattle.apl_meaning.specs.Meaning.{closed, mean_of_line, most_statements, start_of}
use Rattle.apl_meaning.specs.Printing.{input_shown, report_lines, value_printed}
use Rattle.apl_meaning.specs.State.{Effect, State, gives, asks, and_then}
use Rattle.apl_meaning.specs.Tasks.{goes_on}
use Rattle.apl_workspace.specs.Workspace.{PlainWorkspace}
use Rattle.sv_events.specs.Answer.{PlainAnswer}
use Rattle.sv_events.specs.Row.{answer_row}
use Rattle.sv_events.specs.declared.event.Act.{Act}
use Rattle.sv_events.specs.declared.event.Act.TheVariants as act
use Rattle.apl_terminal.specs.Terminal.{PlainTerminal, reporting}
use Rattle.session_rules.specs.Course.{Course, course_behind, course_at}
use Rattle.session_rules.specs.Session.{lines_done, session_of, statement_done}
use Rattle.session_rules.specs.Shelf.{Exchange, ShelfReply, shelf_replies_in}
use Rattle.session_rules.proofs.MoreAnswers.{waits_on}
use Rattle.apl_session.specs.Standing.{FailsBy, IsAt, IsBetween, IsLastRead, IsWaitingAlone, IsWaitingFor, MayHear}

-- where a line begins, one statement of which is begun
abbrev begun_state : List ℕ → PlainWorkspace → List PlainAnswer → State
begun_state line w answers = record (start_of line w answers most_statements) { statements = 99999 }

-- the meaning of such a line
alone_means : (w : PlainWorkspace) (line : List ℕ) (asked : Act) (answers : List PlainAnswer) → IsAlone w line asked
    → mean_of_line line w answers most_statements ≡ closed (and_then (act_outcome asked (begun_state line w answers)) (λ _ t. gives goes_on t))
alone_means w line asked answers alone = alone.means answers most_statements

-- ---- it waits

-- without an answer the act waits
asks_alone : (asked : Act) (w : PlainWorkspace) (s : State) → IsOnShared w asked → s.answers ≡ [] → act_outcome asked s ≡ asks asked s
asks_alone (act.Use name) w s shared none = ap (λ (answers : List PlainAnswer). and_then (and_then (and_then (answer_taken_from answers (act.Use name) s) (λ answer t. unless_ended (report_of_kind (answer_row answer).row.kind) answer t)) (λ answer t. got name (answer_row answer).value t)) value_printed) none
asks_alone (act.Set name value) w s shared none = ap (λ (answers : List PlainAnswer). and_then (and_then (answer_taken_from answers (act.Set name value) s) (λ answer t. unless_ended (report_of_kind (answer_row answer).row.kind) answer t)) (λ _ t. with_copy name value t)) none
asks_alone (act.Offer to local surrogate value) w s shared none = absurd shared
asks_alone (act.Retract name) w s shared none = absurd shared
asks_alone (act.SetControl name control) w s shared none = absurd shared
asks_alone (act.AskControl name) w s shared none = absurd shared
asks_alone (act.AskState name) w s shared none = absurd shared
asks_alone (act.AskDegree name) w s shared none = absurd shared
asks_alone act.AskParties w s shared none = absurd shared
asks_alone (act.AskNames party) w s shared none = absurd shared
asks_alone act.Leave w s shared none = absurd shared

-- what comes of the lines where such a line waits
alone_course : (lines : List (List ℕ)) (answers : List PlainAnswer) (exchanges : List Exchange) (read : ℕ) (t : PlainTerminal) (asked : Act) → (h : IsWaitingAlone lines answers exchanges read t asked) → (more : List ShelfReply)
    → session_of lines answers (shelf_replies_in exchanges ++ more) ≡ course_behind (course_at t h.at.acts exchanges [] more) (asks asked (begun_state h.line t.workspace []))
alone_course lines answers exchanges read t asked h more =
    let c : Course = course_at t h.at.acts exchanges [] more in
    let s : State = begun_state h.line t.workspace [] in
    ap (λ given. session_of lines given (shelf_replies_in exchanges ++ more)) (sym (append-nil answers))
    ∙ h.at.same [] more
    ∙ ap (λ (end : Effect). lines_done most_statements (drop read lines) (course_behind c end)) (alone_means t.workspace h.line asked [] h.alone ∙ ap (λ (o : Effect). closed (and_then o (λ _ u. gives goes_on u))) (asks_alone asked t.workspace s h.alone.shared refl))
    ∙ waits_on most_statements (drop read lines) (course_behind c (asks asked s)) asked refl

pub alone_waiting : (lines : List (List ℕ)) (answers : List PlainAnswer) (exchanges : List Exchange) (read : ℕ) (t : PlainTerminal) (asked : Act) → IsWaitingAlone lines answers exchanges read t asked → IsWaitingFor lines answers exchanges t.transcript asked
alone_waiting lines answers exchanges read t asked h = record {
  waits = λ more. ap (λ (c : Course). c.waits) (alone_course lines answers exchanges read t asked h more);
  printed = λ more. ap (λ (c : Course). c.terminal.transcript) (alone_course lines answers exchanges read t asked h more) ∙ append-nil t.transcript;
  calls = λ more. ap (λ (c : Course). c.exchanges) (alone_course lines answers exchanges read t asked h more);
}

-- ---- its answer

-- the act takes the first answer
act_answered : (asked : Act) (w : PlainWorkspace) (answer : PlainAnswer) (further : List PlainAnswer) (s : State) → IsOnShared w asked → s.answers ≡ answer ∷ further
    → act_outcome asked s ≡ answer_outcome asked answer (record s { asked = s.asked ++ asked ∷ []; answers = further })
act_answered (act.Use name) w answer further s shared is =
    let t : State = record s { asked = s.asked ++ act.Use name ∷ []; answers = further } in
    ap (λ (answers : List PlainAnswer). and_then (and_then (and_then (answer_taken_from answers (act.Use name) s) (λ answer t. unless_ended (report_of_kind (answer_row answer).row.kind) answer t)) (λ answer t. got name (answer_row answer).value t)) value_printed) is
    ∙ grouped (unless_ended (report_of_kind (answer_row answer).row.kind) answer t) (λ answer t. got name (answer_row answer).value t) value_printed
act_answered (act.Set name value) w answer further s shared is =
    ap (λ (answers : List PlainAnswer). and_then (and_then (answer_taken_from answers (act.Set name value) s) (λ answer t. unless_ended (report_of_kind (answer_row answer).row.kind) answer t)) (λ _ t. with_copy name value t)) is
act_answered (act.Offer to local surrogate value) w answer further s shared is = absurd shared
act_answered (act.Retract name) w answer further s shared is = absurd shared
act_answered (act.SetControl name control) w answer further s shared is = absurd shared
act_answered (act.AskControl name) w answer further s shared is = absurd shared
act_answered (act.AskState name) w answer further s shared is = absurd shared
act_answered (act.AskDegree name) w answer further s shared is = absurd shared
act_answered act.AskParties w answer further s shared is = absurd shared
act_answered (act.AskNames party) w answer further s shared is = absurd shared
act_answered act.Leave w answer further s shared is = absurd shared

-- where the first answer is taken
abbrev told_state : List ℕ → PlainWorkspace → Act → List PlainAnswer → State
told_state line w asked further = record (begun_state line w further) { asked = asked ∷ [] }

-- what comes of the line with this answer, whatever answers follow
answered_means : (w : PlainWorkspace) (line : List ℕ) (asked : Act) (answer : PlainAnswer) (further : List PlainAnswer) → IsAlone w line asked
    → mean_of_line line w (answer ∷ further) most_statements ≡ closed (and_then (answer_outcome asked answer (told_state line w asked further)) (λ _ t. gives goes_on t))
answered_means w line asked answer further alone =
    alone_means w line asked (answer ∷ further) alone
    ∙ ap (λ (o : Effect). closed (and_then o (λ _ t. gives goes_on t))) (act_answered asked w answer further (begun_state line w (answer ∷ further)) alone.shared refl)

-- the lines with this answer stand behind the line, where this comes of it
goes_behind : (lines : List (List ℕ)) (answers : List PlainAnswer) (exchanges : List Exchange) (read : ℕ) (t now : PlainTerminal) (line : List ℕ) (asked : Act) (answer : PlainAnswer) → (at : IsAt lines answers exchanges read (statement_done most_statements line) t) → IsAlone t.workspace line asked
    → ((further : List PlainAnswer) (more : List ShelfReply) → course_behind (course_at t at.acts exchanges (answer ∷ further) more) (closed (and_then (answer_outcome asked answer (told_state line t.workspace asked further)) (λ _ t. gives goes_on t))) ≡ course_at now (at.acts ++ asked ∷ []) exchanges further more)
    → IsBetween lines (answers ++ answer ∷ []) exchanges read now
goes_behind lines answers exchanges read t now line asked answer at alone comes = record {
  acts = at.acts ++ asked ∷ [];
  same = λ further more.
      ap (λ given. session_of lines given (shelf_replies_in exchanges ++ more)) (append_assoc answers (answer ∷ []) further)
      ∙ at.same (answer ∷ further) more
      ∙ ap (λ (end : Effect). lines_done most_statements (drop read lines) (course_behind (course_at t at.acts exchanges (answer ∷ further) more) end)) (answered_means t.workspace line asked answer further alone)
      ∙ ap (lines_done most_statements (drop read lines)) (comes further more);
}

-- the answer did not end the line
pub heard_done : (lines : List (List ℕ)) (answers : List PlainAnswer) (exchanges : List Exchange) (read : ℕ) (t : PlainTerminal) (line : List ℕ) (asked : Act) (answer : PlainAnswer) (v : PlainWorkspace) (out : List (List ℕ)) → t.definition ≡ None → Leads t.workspace [] (answer_outcome asked answer) v out
    → IsAt lines answers exchanges read (statement_done most_statements line) t → IsAlone t.workspace line asked → IsBetween lines (answers ++ answer ∷ []) exchanges read (record t { workspace = v; transcript = t.transcript ++ out })
heard_done lines answers exchanges read t line asked answer v out free led at alone =
    goes_behind lines answers exchanges read t (record t { workspace = v; transcript = t.transcript ++ out }) line asked answer at alone (λ further more.
    ap (λ (o : Effect). course_behind (course_at t at.acts exchanges (answer ∷ further) more) (closed (and_then o (λ _ t. gives goes_on t)))) (led.same (told_state line t.workspace asked further) [] refl refl)
    ∙ ap (λ definition. course_at (record t { workspace = v; definition = definition; transcript = t.transcript ++ out }) (at.acts ++ asked ∷ []) exchanges further more) (sym free))

-- it ended the line by a report
heard_report : (lines : List (List ℕ)) (answers : List PlainAnswer) (exchanges : List Exchange) (read : ℕ) (t : PlainTerminal) (line : List ℕ) (asked : Act) (answer : PlainAnswer) (v : PlainWorkspace) (out : List (List ℕ)) (report : Report) → t.definition ≡ None
    → EndsThere t.workspace [] (answer_outcome asked answer) report v out → v.frames ≡ [] → IsAt lines answers exchanges read (statement_done most_statements line) t → IsAlone t.workspace line asked
    → IsBetween lines (answers ++ answer ∷ []) exchanges read (reporting report line (record t { workspace = v; transcript = t.transcript ++ out }))
heard_report lines answers exchanges read t line asked answer v out report free led frames at alone =
    let told : List (List ℕ) = report_lines report (input_shown line) in
    goes_behind lines answers exchanges read t (reporting report line (record t { workspace = v; transcript = t.transcript ++ out })) line asked answer at alone (λ further more.
    ap (λ (o : Effect). course_behind (course_at t at.acts exchanges (answer ∷ further) more) (closed (and_then o (λ _ t. gives goes_on t)))) (led.same (told_state line t.workspace asked further) [] refl refl)
    ∙ ap (λ none. course_at (record t { workspace = record v { frames = none }; definition = None; transcript = t.transcript ++ (out ++ told) }) (at.acts ++ asked ∷ []) exchanges further more) (sym frames)
    ∙ ap (λ definition. course_at (record t { workspace = v; definition = definition; transcript = t.transcript ++ (out ++ told) }) (at.acts ++ asked ∷ []) exchanges further more) (sym free)
    ∙ ap (λ (printed : List (List ℕ)). course_at (record t { workspace = v; transcript = printed }) (at.acts ++ asked ∷ []) exchanges further more) (sym (append_assoc t.transcript out told)))

pub heard_fail : (lines : List (List ℕ)) (answers : List PlainAnswer) (exchanges : List Exchange) (read : ℕ) (t now : PlainTerminal) (line : List ℕ) (asked : Act) (answer : PlainAnswer) (v : PlainWorkspace) (out : List (List ℕ)) (why : Fail) → t.definition ≡ None
    → HasLed {T = Unit {0}} t.workspace [] (answer_outcome asked answer) v out (Err why) → v.frames ≡ [] → FailsBy why line (record t { workspace = v; transcript = t.transcript ++ out }) now → IsAt lines answers exchanges read (statement_done most_statements line) t → IsAlone t.workspace line asked
    → IsBetween lines (answers ++ answer ∷ []) exchanges read now
heard_fail lines answers exchanges read t now line asked answer v out (fail.Report report) free led frames ends at alone =
    subst (λ (s : PlainTerminal). IsBetween lines (answers ++ answer ∷ []) exchanges read s) (sym ends) (heard_report lines answers exchanges read t line asked answer v out report free led frames at alone)
heard_fail lines answers exchanges read t now line asked answer v out fail.WantOfMemory free led frames ends at alone = absurd ends

-- ---- the line that was read last

-- it is one of the lines
pub last_is_within : (lines : List (List ℕ)) (read : ℕ) (line : List ℕ) → IsLastRead lines read line → (0 < read) × (read ≤ length lines)
last_is_within lines read line last =
    let within : last.before < length lines = lt_of_not-le (λ beyond. let no : [] ≡ line ∷ last.rest = sym (drop_all last.before lines beyond) ∙ last.here in cc) in
    (omega (arith, last.read_is), omega (arith, within, last.read_is))

pub may_hear : (lines : List (List ℕ)) (answers : List PlainAnswer) (exchanges : List Exchange) (read : ℕ) (t : PlainTerminal) (asked : Act) → IsWaitingAlone lines answers exchanges read t asked → MayHear (length lines) read t asked
may_hear lines answers exchanges read t asked h = let place = last_is_within lines read h.line h.last in record { free = h.free; shared = h.alone.shared; some = place.0; within = place.1 }
