-- How the inside of a session goes on: from one line to the next, and within a line.
use Rattle.std.proofs.Common.{◌≡◌, ℕ, ◌+◌, Bool, false, List, [], ◌∷◌, ◌++◌, drop, refl, sym, ap, subst, ◌∙◌, append-nil, append_assoc}
use Rattle.std.specs.Prelude.{Option, None, Err, length}
use Rattle.apl_arrays.specs.declared.report.Report.{Report}
use Rattle.apl_machine.specs.Interpreter.{state_at}
use Rattle.apl_machine.specs.Machine.{PlainMachine, silent}
use Rattle.apl_machine.specs.Runs.{AsksThere, EndsBy, EndsDone, IsTreeOf, MachineStands, StandsOn}
use Rattle.apl_meaning.specs.Laws.{IsOver, and_more}
use Rattle.apl_meaning.specs.Meaning.{mean, mean_of_line, mean_of_read, most_statements}
use Rattle.apl_meaning.specs.Printing.{input_shown, report_lines}
use Rattle.apl_meaning.specs.Reading.{Read, classes_of, read_parsed, read_scanned, read_with}
use Rattle.apl_meaning.specs.State.{Effect, State, gives, refuses, asks, state_of}
use Rattle.apl_meaning.proofs.Lines.{rest_comes_back}
use Rattle.apl_workspace.specs.Workspace.{PlainWorkspace, empty_workspace}
use Rattle.line_scanner.specs.Scanning.{Scanned}
use Rattle.line_trees.specs.Parsing.{PlainTree}
use Rattle.line_trees.specs.Trees.{LineTree, line_tree_of}
use Rattle.sv_events.specs.Answer.{PlainAnswer}
use Rattle.sv_events.specs.declared.event.Act.{Act}
use Rattle.apl_terminal.specs.Terminal.{PlainTerminal, printing, reporting}
use Rattle.session_rules.specs.Course.{Course, course_behind, course_at, with_terminal}
use Rattle.session_rules.specs.Session.{line_done_by, lines_done, next_line, session_of, statement_done}
use Rattle.session_rules.specs.Shelf.{Exchange, ShelfReply, shelf_replies_in}
use Rattle.session_rules.proofs.MoreAnswers.{waits_on}
use Rattle.apl_session.specs.Standing.{IsAsking, IsAt, IsBetween, IsUnderWay}

-- ---- between lines

-- the next line is begun, unless the user has ended the session
pub one_line : (lines rest : List (List ℕ)) (line : List ℕ) (answers : List PlainAnswer) (exchanges : List Exchange) (read : ℕ) (t : PlainTerminal) → drop read lines ≡ line ∷ rest → drop (read + 1) lines ≡ rest → t.ended ≡ false → IsBetween lines answers exchanges read t
    → IsAt lines answers exchanges (read + 1) (λ c. line_done_by most_statements line t.definition c) t
one_line lines rest line answers exchanges read t here then goes h = record {
  acts = h.acts;
  same = λ further more.
      h.same further more
      ∙ ap (λ left. lines_done most_statements left (course_at t h.acts exchanges further more)) here
      ∙ ap (λ ended. lines_done most_statements rest (next_line most_statements None ended line (course_at t h.acts exchanges further more))) goes
      ∙ ap (λ left. lines_done most_statements left (line_done_by most_statements line t.definition (course_at t h.acts exchanges further more))) (sym then);
}

-- a line that asked nothing is done
pub at_terminal : (lines : List (List ℕ)) (answers : List PlainAnswer) (exchanges : List Exchange) (read : ℕ) (t : PlainTerminal) (g : PlainTerminal → PlainTerminal) → IsAt lines answers exchanges read (λ c. with_terminal (g c.terminal) c) t → IsBetween lines answers exchanges read (g t)
at_terminal lines answers exchanges read t g h = record { acts = h.acts; same = h.same }

-- ---- a statement is begun

-- a line that was read is evaluated
pub statement_read : (w : PlainWorkspace) (line : List ℕ) (tree : PlainTree) (answers : List PlainAnswer) (left : ℕ) → IsTreeOf w line tree → mean_of_line line w answers left ≡ mean (line_tree_of tree) line w answers left
statement_read w line tree answers left is =
    ap (λ (found : Scanned). mean_of_read (read_scanned (classes_of w) (length line) found) line w answers left) is.scanned
    ∙ ap (λ found. mean_of_read (read_parsed found) line w answers left) is.nodes

pub begun_at : (lines : List (List ℕ)) (line : List ℕ) (answers : List PlainAnswer) (exchanges : List Exchange) (read : ℕ) (t lent : PlainTerminal) (tree : PlainTree) (m : PlainMachine) → lent ≡ record t { workspace = empty_workspace } → IsAt lines answers exchanges read (statement_done most_statements line) t → IsTreeOf t.workspace line tree
    → MachineStands m (line_tree_of tree) line t.workspace [] [] 0 [] → IsUnderWay lines answers exchanges read lent m
begun_at lines line answers exchanges read t lent tree m left h is stands = record {
  before = t;
  tree = line_tree_of tree;
  line = line;
  earlier = answers;
  here = [];
  given = sym (append-nil answers);
  begun = record {
    acts = h.acts;
    same = λ further more. h.same further more ∙ ap (λ (end : Effect). lines_done most_statements (drop read lines) (course_behind (course_at t h.acts exchanges further more) end)) (statement_read t.workspace line tree further most_statements is);
  };
  count = 0;
  taken = [];
  stands = stands;
  printed = ap (λ (s : PlainTerminal). s.transcript) left ∙ sym (append-nil t.transcript);
  id = ap (λ (s : PlainTerminal). s.id) left;
  ended = ap (λ (s : PlainTerminal). s.ended) left;
}

-- a line that is no statement is reported
whole_again : (w : PlainWorkspace) → w.frames ≡ [] → record w { frames = [] } ≡ w
whole_again w none = ap (λ frames. record w { frames = frames }) (sym none)

pub refused_at : (lines : List (List ℕ)) (line : List ℕ) (answers : List PlainAnswer) (exchanges : List Exchange) (read : ℕ) (t : PlainTerminal) (report : Report) → IsAt lines answers exchanges read (statement_done most_statements line) t → read_with t.workspace line ≡ Err report
    → t.workspace.frames ≡ [] → t.definition ≡ None → IsBetween lines answers exchanges read (reporting report line t)
refused_at lines line answers exchanges read t report h is frames free = record {
  acts = h.acts ++ [];
  same = λ further more.
      h.same further more
      ∙ ap (λ (found : Read). lines_done most_statements (drop read lines) (course_behind (course_at t h.acts exchanges further more) (mean_of_read found line t.workspace further most_statements))) is
      ∙ ap (λ (w : PlainWorkspace). lines_done most_statements (drop read lines) (course_at (record t { workspace = w; definition = None; transcript = t.transcript ++ report_lines report (input_shown line) }) (h.acts ++ []) exchanges further more)) (whole_again t.workspace frames)
      ∙ ap (λ definition. lines_done most_statements (drop read lines) (course_at (record (reporting report line t) { definition = definition }) (h.acts ++ []) exchanges further more)) (sym free);
}

-- ---- a line goes on

-- all that came of a line that is over, with further answers
over_with_more : (tree : LineTree) (line : List ℕ) (w : PlainWorkspace) (here further : List PlainAnswer) (end : Effect) → mean tree line w here most_statements ≡ end → IsOver end → mean tree line w (here ++ further) most_statements ≡ and_more further end
over_with_more tree line w here further end is over =
    rest_comes_back tree line w here further most_statements (subst IsOver (sym is) over) ∙ ap (and_more further) is

-- a line that is over leaves the session between lines
goes_over : (lines : List (List ℕ)) (answers : List PlainAnswer) (exchanges : List Exchange) (read : ℕ) (t now : PlainTerminal) (m : PlainMachine) (s : State) (end : Effect) → (h : IsUnderWay lines answers exchanges read t m)
    → mean h.tree h.line h.before.workspace h.here most_statements ≡ end → IsOver end
    → ((further : List PlainAnswer) (more : List ShelfReply) → course_behind (course_at h.before h.begun.acts exchanges (h.here ++ further) more) (and_more further end) ≡ course_at now (h.begun.acts ++ s.asked) exchanges further more)
    → IsBetween lines answers exchanges read now
goes_over lines answers exchanges read t now m s end h is over comes = record {
  acts = h.begun.acts ++ s.asked;
  same = λ further more.
      ap (λ (given : List PlainAnswer). session_of lines (given ++ further) (shelf_replies_in exchanges ++ more)) h.given
      ∙ ap (λ given. session_of lines given (shelf_replies_in exchanges ++ more)) (append_assoc h.earlier h.here further)
      ∙ h.begun.same (h.here ++ further) more
      ∙ ap (λ (e : Effect). lines_done most_statements (drop read lines) (course_behind (course_at h.before h.begun.acts exchanges (h.here ++ further) more) e)) (over_with_more h.tree h.line h.before.workspace h.here further end is over)
      ∙ ap (lines_done most_statements (drop read lines)) (comes further more);
}

-- a terminal where no definition is open
abbrev free_terminal : PlainWorkspace → Option (List ℕ) → List (List ℕ) → Bool → PlainTerminal
free_terminal w id transcript ended = record { workspace = w; id = id; definition = None; transcript = transcript; ended = ended }

-- behind a line that is over stands this terminal
abbrev pub over_there : PlainMachine → PlainTerminal → PlainTerminal
over_there n t = record t { workspace = n.interpreter.workspace; definition = None; transcript = t.transcript ++ n.interpreter.output }

-- it is the one before the line, with what the line left
there_again : (lines : List (List ℕ)) (answers : List PlainAnswer) (exchanges : List Exchange) (read : ℕ) (t : PlainTerminal) (m n : PlainMachine) → (h : IsUnderWay lines answers exchanges read t m) → (acts : List Act) (further : List PlainAnswer) (more : List ShelfReply)
    → course_at (record h.before { workspace = n.interpreter.workspace; definition = None; transcript = h.before.transcript ++ (h.taken ++ n.interpreter.output) }) acts exchanges further more ≡ course_at (over_there n t) acts exchanges further more
there_again lines answers exchanges read t m n h acts further more =
    ap (λ printed. course_at (free_terminal n.interpreter.workspace h.before.id printed h.before.ended) acts exchanges further more)
    (sym (append_assoc h.before.transcript h.taken n.interpreter.output) ∙ ap (λ lines. lines ++ n.interpreter.output) (sym h.printed))
    ∙ ap (λ id. course_at (free_terminal n.interpreter.workspace id (t.transcript ++ n.interpreter.output) h.before.ended) acts exchanges further more) (sym h.id)
    ∙ ap (λ ended. course_at (free_terminal n.interpreter.workspace t.id (t.transcript ++ n.interpreter.output) ended) acts exchanges further more) (sym h.ended)

-- where a run counted and ended without a report
pub goes_done : (lines : List (List ℕ)) (answers : List PlainAnswer) (exchanges : List Exchange) (read counted : ℕ) (t : PlainTerminal) (m n : PlainMachine) → IsUnderWay lines answers exchanges read t m → EndsDone m counted n
    → IsBetween lines answers exchanges read (over_there n t)
goes_done lines answers exchanges read counted t m n h ends =
    let come = ends.comes h.tree h.line h.before.workspace [] h.here h.count h.taken h.stands in
    let s : State = state_at n.interpreter come.0 (h.count + counted) h.taken [] in
    goes_over lines answers exchanges read t (over_there n t) m s (gives tt s) h come.1 tt (λ further more. there_again lines answers exchanges read t m n h (h.begun.acts ++ come.0) further more)

-- or by one
pub goes_reported : (lines : List (List ℕ)) (answers : List PlainAnswer) (exchanges : List Exchange) (read counted : ℕ) (t : PlainTerminal) (report : Report) (m n : PlainMachine) → IsUnderWay lines answers exchanges read t m → EndsBy report m counted n
    → IsBetween lines answers exchanges read (over_there n t)
goes_reported lines answers exchanges read counted t report m n h ends =
    let come = ends.comes h.tree h.line h.before.workspace [] h.here h.count h.taken h.stands in
    let s : State = record (state_at n.interpreter come.0 (h.count + counted) h.taken []) { here = ends.shown } in
    goes_over lines answers exchanges read t (over_there n t) m s (refuses report s) h come.1 tt (λ further more. there_again lines answers exchanges read t m n h (h.begun.acts ++ come.0) further more)

-- a line that asks an act stays under way, and what it printed is taken
pub taken_on : (lines : List (List ℕ)) (answers more : List PlainAnswer) (exchanges : List Exchange) (read counted : ℕ) (t : PlainTerminal) (output : List (List ℕ)) (m n : PlainMachine) → IsUnderWay lines answers exchanges read t m → StandsOn m counted more output n
    → IsUnderWay lines (answers ++ more) exchanges read (printing output t) n
taken_on lines answers more exchanges read counted t output m n h stands = record {
  before = h.before;
  tree = h.tree;
  line = h.line;
  earlier = h.earlier;
  here = h.here ++ more;
  given = ap (λ given. given ++ more) h.given ∙ append_assoc h.earlier h.here more;
  begun = h.begun;
  count = h.count + counted;
  taken = h.taken ++ output;
  stands = stands h.tree h.line h.before.workspace [] h.here h.count h.taken h.stands;
  printed = ap (λ lines. lines ++ output) h.printed ∙ append_assoc h.before.transcript h.taken output;
  id = h.id;
  ended = h.ended;
}

-- what comes of the lines where an act waits
asks_now : (lines : List (List ℕ)) (answers : List PlainAnswer) (exchanges : List Exchange) (read : ℕ) (t : PlainTerminal) (m : PlainMachine) (h : IsUnderWay lines answers exchanges read t m) (act : Act) (s : State)
    → mean h.tree h.line h.before.workspace h.here most_statements ≡ asks act s → (more : List ShelfReply) → session_of lines answers (shelf_replies_in exchanges ++ more) ≡ course_behind (course_at h.before h.begun.acts exchanges h.here more) (asks act s)
asks_now lines answers exchanges read t m h act s is more =
    ap (λ given. session_of lines given (shelf_replies_in exchanges ++ more)) h.given
    ∙ h.begun.same h.here more
    ∙ ap (λ (e : Effect). lines_done most_statements (drop read lines) (course_behind (course_at h.before h.begun.acts exchanges h.here more) e)) is
    ∙ waits_on most_statements (drop read lines) (course_behind (course_at h.before h.begun.acts exchanges h.here more) (asks act s)) act refl

pub goes_asking : (lines : List (List ℕ)) (answers : List PlainAnswer) (exchanges : List Exchange) (read counted : ℕ) (t : PlainTerminal) (act : Act) (m n : PlainMachine) → IsUnderWay lines answers exchanges read t m → AsksThere act m counted n
    → IsAsking lines answers exchanges (t.transcript ++ n.interpreter.output) (silent n) act
goes_asking lines answers exchanges read counted t act m n h asked =
    let come = asked.comes h.tree h.line h.before.workspace [] h.here h.count h.taken h.stands in
    let s : State = state_at n.interpreter come.0 (h.count + counted) h.taken [] in
    record {
      waiting = record {
        waits = λ more. ap (λ (c : Course). c.waits) (asks_now lines answers exchanges read t m h act s come.1 more);
        printed = λ more. ap (λ (c : Course). c.terminal.transcript) (asks_now lines answers exchanges read t m h act s come.1 more) ∙ sym (append_assoc h.before.transcript h.taken n.interpreter.output) ∙ ap (λ lines. lines ++ n.interpreter.output) (sym h.printed);
        calls = λ more. ap (λ (c : Course). c.exchanges) (asks_now lines answers exchanges read t m h act s come.1 more);
      };
      is_open = asked.is_open;
    }
