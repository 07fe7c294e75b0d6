-- A session knows the replies of its shelf by its exchanges alone; and with more answers it has had these exchanges, and perhaps more.
use Rattle.std.proofs.Common.{◌≡◌, ℕ, Bool, true, false, List, [], ◌∷◌, ◌++◌, refl, sym, ap, subst, ◌∙◌, append_assoc}
use Rattle.std.specs.Prelude.{Option, Some, None, drop, if◌then◌else◌}
use Rattle.apl_arrays.specs.declared.report.Report.{Report}
use Rattle.apl_meaning.specs.Meaning.{most_statements}
use Rattle.apl_terminal.specs.Commands.{finishing, naming_alone, telling, unsharing}
use Rattle.apl_terminal.specs.LineKind.{is_command, is_opening}
use Rattle.apl_terminal.specs.Terminal.{PlainTerminal, echoing, editing, free_prompt}
use Rattle.apl_workspace.specs.declared.remake.Remake.{Remake}
use Rattle.fn_editor.specs.Editing.{fed}
use Rattle.fn_editor.specs.Editor.{PlainEditor}
use Rattle.fn_editor.specs.Opening.{opened}
use Rattle.fn_editor.specs.Prompt.{prompt_text}
use Rattle.session_rules.proofs.MoreAnswers.{next_more, waits_on}
use Rattle.session_rules.proofs.Tame.{and_further}
use Rattle.session_rules.specs.Commands.{asking_act_by, asking_act, shelf_called, change_made, command_done, command_end, lines_told, offer_again, remaking, retracting, shared_again, shelf_step_done, todo_done, unless_reported}
use Rattle.session_rules.specs.Course.{Course, course_beginning, with_terminal}
use Rattle.session_rules.specs.Session.{free_line, line_done_by, lines_done, next_line, opening_done, session_of, statement_done}
use Rattle.session_rules.specs.Shelf.{Call, Exchange, ShelfReply, browse, by_browsed, by_discarded, by_fetched, by_stored, call_of, discard, fetch, next_reply, store, todo_by}
use Rattle.sv_events.specs.Answer.{PlainAnswer}
use Rattle.sv_events.specs.Row.{answer_row}
use Rattle.sv_events.specs.declared.event.Act.{Act}
use Rattle.sv_events.specs.declared.event.Act.TheVariants as act
use Rattle.ws_commands.specs.Reading.{step_of}
use Rattle.ws_commands.specs.Step.{Step, does, lists, reads, removes, writes}
use Rattle.ws_commands.specs.Todo.{PlainTodo}

-- exchanges that came before others
pub record AreEarlier (before after : List Exchange) : Type 0 where
  pub more : List Exchange
  pub same : after ≡ more ++ before

pub none_since : (exchanges : List Exchange) → AreEarlier exchanges exchanges
none_since exchanges = record { more = []; same = refl }

pub earlier_still : (before between after : List Exchange) → AreEarlier before between → AreEarlier between after → AreEarlier before after
earlier_still before between after h k = record { more = k.more ++ h.more; same = k.same ∙ (ap (λ (e : List Exchange). k.more ++ e) h.same ∙ sym (append_assoc k.more h.more before)) }

-- a course with other replies left
abbrev pub with_replies : List ShelfReply → Course → Course
with_replies replies c = record c { replies = replies }

-- two courses differ in the replies that are left, and in nothing else
pub record AreLevel (c d : Course) : Type 0 where
  pub rest : List ShelfReply
  pub same : d ≡ with_replies rest c

-- ---- parts that make no call

record IsDeaf (f : Course → Course) : Type 0 where
  same : (c : Course) (replies : List ShelfReply) → f (with_replies replies c) ≡ with_replies replies (f c)
  calls : (c : Course) → (f c).exchanges ≡ c.exchanges

deaf_nothing : IsDeaf (λ c. c)
deaf_nothing = record { same = λ c replies. refl; calls = λ c. refl }

deaf_terminal : (g : PlainTerminal → PlainTerminal) → IsDeaf (λ c. with_terminal (g c.terminal) c)
deaf_terminal g = record { same = λ c replies. refl; calls = λ c. refl }

deaf_after : (g : PlainTerminal → PlainTerminal) (f : Course → Course) → IsDeaf f → IsDeaf (λ c. f (with_terminal (g c.terminal) c))
deaf_after g f h = record {
  same = λ c replies. h.same (with_terminal (g c.terminal) c) replies;
  calls = λ c. h.calls (with_terminal (g c.terminal) c);
}

deaf_by_terminal : (f : PlainTerminal → Course → Course) → ((t : PlainTerminal) → IsDeaf (f t)) → IsDeaf (λ c. f c.terminal c)
deaf_by_terminal f h = record { same = λ c replies. (h c.terminal).same c replies; calls = λ c. (h c.terminal).calls c }

deaf_unless : (ended : Option Report) (next : Course → Course) → IsDeaf next → IsDeaf (unless_reported ended next)
deaf_unless None next h = record { same = h.same; calls = h.calls }
deaf_unless (Some report) next h = let k = deaf_terminal (naming_alone report) in record { same = k.same; calls = k.calls }

module _ (asked : Act) (leaves : PlainAnswer → PlainTerminal → PlainTerminal) (next : Course → Course) (h : IsDeaf next) where
  -- with the act asked, and these answers left
  abbrev taking : List PlainAnswer → Course → Course
  taking answers c = record c { acts = c.acts ++ asked ∷ []; answers = answers }

  deaf_told : (answer : PlainAnswer) → IsDeaf (unless_reported (command_end (answer_row answer).row.kind) (λ d. next (with_terminal (leaves answer d.terminal) d)))
  deaf_told answer = deaf_unless (command_end (answer_row answer).row.kind) (λ d. next (with_terminal (leaves answer d.terminal) d)) (deaf_after (leaves answer) next h)

  same_by : (list : List PlainAnswer) (c : Course) (replies : List ShelfReply) → asking_act_by list asked leaves next (with_replies replies c) ≡ with_replies replies (asking_act_by list asked leaves next c)
  same_by [] c replies = refl
  same_by (answer ∷ list) c replies = (deaf_told answer).same (taking list c) replies

  calls_by : (list : List PlainAnswer) (c : Course) → (asking_act_by list asked leaves next c).exchanges ≡ c.exchanges
  calls_by [] c = refl
  calls_by (answer ∷ list) c = (deaf_told answer).calls (taking list c)

  deaf_asking : IsDeaf (asking_act asked leaves next)
  deaf_asking = record { same = λ c replies. same_by c.answers c replies; calls = λ c. calls_by c.answers c }

deaf_retracting : (names : List (List ℕ)) (next : Course → Course) → IsDeaf next → IsDeaf (retracting names next)
deaf_retracting [] next h = record { same = h.same; calls = h.calls }
deaf_retracting (name ∷ names) next h =
    let k = deaf_asking (act.Retract name) (unsharing name) (retracting names next) (deaf_retracting names next h) in record { same = k.same; calls = k.calls }

deaf_remaking : (offers : List Remake) (next : Course → Course) → IsDeaf next → IsDeaf (remaking offers next)
deaf_remaking [] next h = record { same = h.same; calls = h.calls }
deaf_remaking (offer ∷ offers) next h =
    let k = deaf_by_terminal (λ t. asking_act (offer_again offer t.workspace) (λ _ t. shared_again offer t) (remaking offers next))
    (λ t. deaf_asking (offer_again offer t.workspace) (λ _ t. shared_again offer t) (remaking offers next) (deaf_remaking offers next h)) in
    record { same = k.same; calls = k.calls }

deaf_lines : (line : List ℕ) (todo : PlainTodo) → IsDeaf (lines_told line todo)
deaf_lines line todo = deaf_terminal (telling line todo.counted todo.lines)

deaf_change : (line : List ℕ) (todo : PlainTodo) → IsDeaf (change_made line todo)
deaf_change line todo = deaf_after (finishing todo.change) (remaking todo.remakes (lines_told line todo)) (deaf_remaking todo.remakes (lines_told line todo) (deaf_lines line todo))

deaf_todo : (line : List ℕ) (todo : PlainTodo) → IsDeaf (todo_done line todo)
deaf_todo line todo = deaf_retracting todo.retract (change_made line todo) (deaf_change line todo)

deaf_opening : (line : List ℕ) → IsDeaf (opening_done line)
deaf_opening line = deaf_terminal (λ t. editing line (opened t.workspace line) t)

deaf_statement : (left : ℕ) (line : List ℕ) → IsDeaf (statement_done left line)
deaf_statement left line = record { same = λ c replies. refl; calls = λ c. refl }

deaf_edited : (line : List ℕ) (editor : PlainEditor) → IsDeaf (λ c. with_terminal (editing line (fed editor line) (echoing (prompt_text editor.number) line c.terminal)) c)
deaf_edited line editor = deaf_terminal (λ t. editing line (fed editor line) (echoing (prompt_text editor.number) line t))

-- ---- exchanges

-- a part makes calls behind those that were made, and with more answers no fewer
record CallsMore (f : Course → Course) : Type 0 where
  calls : (c : Course) → AreEarlier c.exchanges (f c).exchanges
  further : (c : Course) (more : List PlainAnswer) → AreEarlier (f c).exchanges (f (and_further more c)).exchanges

calls_none : (f : Course → Course) → IsDeaf f → CallsMore f
calls_none f h = record {
  calls = λ c. record { more = []; same = h.calls c };
  further = λ c more. record { more = []; same = h.calls (and_further more c) ∙ sym (h.calls c) };
}

one_call : (call : Option Call) (c : Course) → AreEarlier c.exchanges (shelf_called call c).exchanges
one_call None c = none_since c.exchanges
one_call (Some call) c = record { more = record { call = call; reply = next_reply c.replies } ∷ []; same = refl }

same_call : (call : Option Call) (c : Course) (more : List PlainAnswer) → (shelf_called call (and_further more c)).exchanges ≡ (shelf_called call c).exchanges
same_call None c more = refl
same_call (Some call) c more = refl

step_calls : (line : List ℕ) (step : Step) → CallsMore (shelf_step_done line step)
step_calls line step = record {
  calls = λ c. let one = one_call (call_of step) c in record { more = one.more; same = (deaf_todo line (todo_by step (next_reply c.replies))).calls (shelf_called (call_of step) c) ∙ one.same };
  further = λ c more. record {
    more = [];
    same = (deaf_todo line (todo_by step (next_reply c.replies))).calls (shelf_called (call_of step) (and_further more c)) ∙ (same_call (call_of step) c more
        ∙ sym ((deaf_todo line (todo_by step (next_reply c.replies))).calls (shelf_called (call_of step) c)));
  };
}

command_calls : (line : List ℕ) → CallsMore (command_done line)
command_calls line = record {
  calls = λ c. (step_calls line (step_of line c.terminal.workspace c.terminal.id)).calls c;
  further = λ c more. (step_calls line (step_of line c.terminal.workspace c.terminal.id)).further c more;
}

either_calls : (b : Bool) (f g : Course → Course) → CallsMore f → CallsMore g → CallsMore (λ c. if b then f c else g c)
either_calls true f g h k = record { calls = h.calls; further = h.further }
either_calls false f g h k = record { calls = k.calls; further = k.further }

free_calls : (left : ℕ) (line : List ℕ) → CallsMore (free_line left line)
free_calls left line =
    either_calls (is_opening line) (opening_done line) (λ c. if is_command line then command_done line c else statement_done left line c) (calls_none (opening_done line) (deaf_opening line))
    (either_calls (is_command line) (command_done line) (statement_done left line) (command_calls line) (calls_none (statement_done left line) (deaf_statement left line)))

line_calls : (left : ℕ) (line : List ℕ) (definition : Option PlainEditor) → CallsMore (line_done_by left line definition)
line_calls left line None = record {
  calls = λ c. (free_calls left line).calls (with_terminal (echoing free_prompt line c.terminal) c);
  further = λ c more. (free_calls left line).further (with_terminal (echoing free_prompt line c.terminal) c) more;
}
line_calls left line (Some editor) =
    let h = calls_none (λ c. with_terminal (editing line (fed editor line) (echoing (prompt_text editor.number) line c.terminal)) c) (deaf_edited line editor) in record { calls = h.calls; further = h.further }

next_calls : (left : ℕ) (waits : Option Act) (ended : Bool) (line : List ℕ) → CallsMore (next_line left waits ended line)
next_calls left (Some asked) ended line = let h = calls_none (λ c. c) deaf_nothing in record { calls = h.calls; further = h.further }
next_calls left None true line = let h = calls_none (λ c. c) deaf_nothing in record { calls = h.calls; further = h.further }
next_calls left None false line = record {
  calls = λ c. (line_calls left line c.terminal.definition).calls c;
  further = λ c more. (line_calls left line c.terminal.definition).further c more;
}

lines_call : (left : ℕ) (lines : List (List ℕ)) (c : Course) → AreEarlier c.exchanges (lines_done left lines c).exchanges
lines_call left [] c = none_since c.exchanges
lines_call left (line ∷ lines) c =
    let d : Course = next_line left c.waits c.terminal.ended line c in
    earlier_still c.exchanges d.exchanges (lines_done left lines d).exchanges ((next_calls left c.waits c.terminal.ended line).calls c) (lines_call left lines d)

-- the lines behind one that was begun with fewer answers and with more
behind_call : (left : ℕ) (lines : List (List ℕ)) (d e : Course) (more : List PlainAnswer) → ((f : Course) → AreEarlier (lines_done left lines f).exchanges (lines_done left lines (and_further more f)).exchanges)
    → (waits : Option Act) → d.waits ≡ waits → (d.waits ≡ None → e ≡ and_further more d) → AreEarlier d.exchanges e.exchanges → AreEarlier (lines_done left lines d).exchanges (lines_done left lines e).exchanges
behind_call left lines d e more later None is same h = subst (λ (f : Course). AreEarlier (lines_done left lines d).exchanges (lines_done left lines f).exchanges) (sym (same is)) (later d)
behind_call left lines d e more later (Some asked) is same h =
    subst (λ (f : Course). AreEarlier f.exchanges (lines_done left lines e).exchanges) (sym (waits_on left lines d asked is)) (earlier_still d.exchanges e.exchanges (lines_done left lines e).exchanges h (lines_call left lines e))

next_same : (left : ℕ) (line : List ℕ) (c : Course) (more : List PlainAnswer) (waits : Option Act) (ended : Bool) → c.waits ≡ waits → (next_line left waits ended line c).waits ≡ None
    → next_line left waits ended line (and_further more c) ≡ and_further more (next_line left waits ended line c)
next_same left line c more None ended is over = next_more left line c more None ended refl over
next_same left line c more (Some asked) ended is over = absurd (let no : None ≡ Some asked = sym over ∙ is in cc)

lines_call_more : (left : ℕ) (lines : List (List ℕ)) (more : List PlainAnswer) (c : Course) → AreEarlier (lines_done left lines c).exchanges (lines_done left lines (and_further more c)).exchanges
lines_call_more left [] more c = none_since c.exchanges
lines_call_more left (line ∷ lines) more c =
    let d : Course = next_line left c.waits c.terminal.ended line c in
    let e : Course = next_line left c.waits c.terminal.ended line (and_further more c) in
    behind_call left lines d e more (lines_call_more left lines more) d.waits refl (λ over. next_same left line c more c.waits c.terminal.ended refl over) ((next_calls left c.waits c.terminal.ended line).further c more)

-- with more answers a session has had the exchanges that it had with fewer, and perhaps more behind them
pub more_calls : (lines : List (List ℕ)) (answers more : List PlainAnswer) (replies : List ShelfReply) → AreEarlier (session_of lines answers replies).exchanges (session_of lines (answers ++ more) replies).exchanges
more_calls lines answers more replies = lines_call_more most_statements lines more (course_beginning answers replies)

-- ---- side by side

module _ (Fits : List Exchange → Type 0) (older : (more earlier : List Exchange) → Fits (more ++ earlier) → Fits earlier)
    (one_reply : (call : Call) (reply other : ShelfReply) (earlier : List Exchange) → Fits (record { call = call; reply = reply } ∷ earlier) → Fits (record { call = call; reply = other } ∷ earlier) → reply ≡ other) where
  -- where the exchanges fit that a part leaves with some replies and with others, it leaves two courses level
  abbrev KeepsLevel : (Course → Course) → Type 0
  KeepsLevel f = (c : Course) (rest : List ShelfReply) → Fits (f c).exchanges → Fits (f (with_replies rest c)).exchanges → AreLevel (f c) (f (with_replies rest c))

  deaf_level : (f : Course → Course) → IsDeaf f → KeepsLevel f
  deaf_level f h c rest fits other = record { rest = rest; same = h.same c rest }

  -- what is done by the reply to a call
  call_level : (line : List ℕ) (call : Call) (todo : ShelfReply → PlainTodo) (c : Course) (rest : List ShelfReply) → Fits (todo_done line (todo (next_reply c.replies)) (shelf_called (Some call) c)).exchanges
      → Fits (todo_done line (todo (next_reply rest)) (shelf_called (Some call) (with_replies rest c))).exchanges
      → AreLevel (todo_done line (todo (next_reply c.replies)) (shelf_called (Some call) c)) (todo_done line (todo (next_reply rest)) (shelf_called (Some call) (with_replies rest c)))
  call_level line call todo c rest fits other = record {
    rest = drop 1 rest;
    same = (deaf_todo line (todo (next_reply rest))).same (behind (next_reply rest)) (drop 1 rest) ∙ ap (λ (reply : ShelfReply). with_replies (drop 1 rest) (todo_done line (todo reply) (behind reply))) (sym one);
  } where
    behind : ShelfReply → Course
    behind reply = record c { exchanges = record { call = call; reply = reply } ∷ c.exchanges; replies = drop 1 c.replies }

    one : next_reply c.replies ≡ next_reply rest
    one = one_reply call (next_reply c.replies) (next_reply rest) c.exchanges (subst Fits ((deaf_todo line (todo (next_reply c.replies))).calls (shelf_called (Some call) c)) fits)
        (subst Fits ((deaf_todo line (todo (next_reply rest))).calls (shelf_called (Some call) (with_replies rest c))) other)

  step_level : (line : List ℕ) (step : Step) → KeepsLevel (shelf_step_done line step)
  step_level line (does todo) c rest fits other = record { rest = rest; same = (deaf_todo line todo).same c rest }
  step_level line (reads name next) c rest fits other = call_level line (fetch name) (by_fetched next) c rest fits other
  step_level line (writes name bytes todo) c rest fits other = call_level line (store name bytes) (by_stored todo) c rest fits other
  step_level line (removes name next) c rest fits other = call_level line (discard name) (by_discarded next) c rest fits other
  step_level line (lists next) c rest fits other = call_level line browse (by_browsed next) c rest fits other

  either_level : (b : Bool) (f g : Course → Course) → KeepsLevel f → KeepsLevel g → KeepsLevel (λ c. if b then f c else g c)
  either_level true f g h k c rest fits other = h c rest fits other
  either_level false f g h k c rest fits other = k c rest fits other

  free_level : (left : ℕ) (line : List ℕ) → KeepsLevel (free_line left line)
  free_level left line =
      either_level (is_opening line) (opening_done line) (λ c. if is_command line then command_done line c else statement_done left line c) (deaf_level (opening_done line) (deaf_opening line))
      (either_level (is_command line) (command_done line) (statement_done left line) (λ c rest fits other. step_level line (step_of line c.terminal.workspace c.terminal.id) c rest fits other)
      (deaf_level (statement_done left line) (deaf_statement left line)))

  line_level : (left : ℕ) (line : List ℕ) (definition : Option PlainEditor) → KeepsLevel (line_done_by left line definition)
  line_level left line None c rest fits other = free_level left line (with_terminal (echoing free_prompt line c.terminal) c) rest fits other
  line_level left line (Some editor) c rest fits other = record { rest = rest; same = (deaf_edited line editor).same c rest }

  next_level : (left : ℕ) (waits : Option Act) (ended : Bool) (line : List ℕ) → KeepsLevel (next_line left waits ended line)
  next_level left (Some asked) ended line c rest fits other = record { rest = rest; same = refl }
  next_level left None true line c rest fits other = record { rest = rest; same = refl }
  next_level left None false line c rest fits other = line_level left line c.terminal.definition c rest fits other

  -- the exchanges before some lines fit where those behind them do
  fit_before : (left : ℕ) (lines : List (List ℕ)) (c : Course) → Fits (lines_done left lines c).exchanges → Fits c.exchanges
  fit_before left lines c fits = let calls = lines_call left lines c in older calls.more c.exchanges (subst Fits calls.same fits)

  lines_level : (left : ℕ) (lines : List (List ℕ)) → KeepsLevel (lines_done left lines)
  lines_level left [] c rest fits other = record { rest = rest; same = refl }
  lines_level left (line ∷ lines) c rest fits other =
      let d : Course = next_line left c.waits c.terminal.ended line c in
      let e : Course = next_line left c.waits c.terminal.ended line (with_replies rest c) in
      let level : AreLevel d e = next_level left c.waits c.terminal.ended line c rest (fit_before left lines d fits) (fit_before left lines e other) in
      subst (λ (f : Course). AreLevel (lines_done left lines d) (lines_done left lines f)) (sym level.same)
      (lines_level left lines d level.rest fits (subst (λ (f : Course). Fits (lines_done left lines f).exchanges) level.same other))

  -- two sessions of the same lines with the same answers, whose exchanges fit, are level
  pub same_session : (lines : List (List ℕ)) (answers : List PlainAnswer) (replies others : List ShelfReply) → Fits (session_of lines answers replies).exchanges → Fits (session_of lines answers others).exchanges
      → AreLevel (session_of lines answers replies) (session_of lines answers others)
  same_session lines answers replies others fits other = lines_level most_statements lines (course_beginning answers replies) others fits other
