-- Each line is tame: those of the editor, commands and statements.
use Rattle.std.proofs.Common.{◌≡◌, ℕ, ◌+◌, ◌≤◌, Bool, true, false, cond, List, [], ◌∷◌, ◌++◌, refl, sym, ap, ◌∙◌, arith, append_assoc}
use Rattle.std.proofs.lemmas.List.Sums.{sum_by-cons}
use Rattle.std.specs.Prelude.{Option, Some, None, Ok, Err, count_by, is_some, nat_le, if◌then◌else◌}
use Rattle.apl_arrays.specs.declared.report.Report.TheVariants.{Defn, Interrupt, WsFull}
use Rattle.apl_workspace.specs.Limits.{most_printed, most_weight}
use Rattle.apl_workspace.specs.Workspace.{PlainWorkspace, with_global, with_printed, workspace_weight}
use Rattle.apl_workspace.specs.declared.meaning.Meaning.TheVariants.{Function}
use Rattle.apl_workspace.specs.declared.remake.Remake.{Remake}
use Rattle.fn_editor.specs.Editing.{Edited, fed}
use Rattle.fn_editor.specs.Editor.{PlainEditor, defined_function}
use Rattle.fn_editor.specs.Opening.{opened}
use Rattle.fn_editor.specs.Prompt.{prompt_text}
use Rattle.sv_events.specs.Answer.{PlainAnswer}
use Rattle.sv_events.specs.Fits.{is_full_kind}
use Rattle.sv_events.specs.Row.{answer_row}
use Rattle.sv_events.specs.declared.event.Act.{Act}
use Rattle.sv_events.specs.declared.event.Act.TheVariants as act
use Rattle.sv_events.specs.declared.row.AnswerKind.{AnswerKind}
use Rattle.sv_events.specs.declared.row.AnswerKind.TheVariants as kind
use Rattle.apl_meaning.specs.Answers.{report_of_kind}
use Rattle.apl_meaning.specs.Laws.{GoesOnIn, IsOver, Takes, and_more, is_reported, waiting_act}
use Rattle.apl_meaning.specs.Meaning.{mean_of_line, mean_of_read, start_of}
use Rattle.apl_meaning.specs.Printing.{input_shown, report_lines}
use Rattle.apl_meaning.specs.Reading.{Read, read_with}
use Rattle.apl_meaning.specs.State.{Effect, gives, refuses, asks, state_of}
use Rattle.apl_meaning.proofs.Lines.{comes_first, line_next, line_takes, rest_comes_back}
use Rattle.ws_commands.specs.Reading.{step_of}
use Rattle.ws_commands.specs.Step.{Step}
use Rattle.ws_commands.specs.Todo.{PlainTodo}
use Rattle.apl_terminal.specs.Commands.{finishing, telling, unsharing}
use Rattle.apl_terminal.specs.LineKind.{is_command, is_opening}
use Rattle.apl_terminal.specs.Terminal.{PlainTerminal, closing, taking_definition, echoing, editing, free_prompt, glyph_count, printing, reporting, showing}
use Rattle.session_rules.specs.Commands.{asking_act, shelf_called, change_made, command_done, lines_told, offer_again, remaking, retracting, shared_again, shelf_step_done, todo_done}
use Rattle.session_rules.specs.Course.{Course, course_behind, with_terminal}
use Rattle.session_rules.specs.Session.{free_line, line_done_by, next_line, opening_done, statement_done}
use Rattle.session_rules.specs.SessionLaws.{tells_full}
use Rattle.session_rules.specs.Shelf.{ShelfReply, call_of, next_reply, todo_by}
use Rattle.session_rules.proofs.Tame.{Grows, InNeed, IsTame, NextIs, OnlyAdds, Took, and_further, by, grows_on, stays, tame_after, tame_asking, tame_by, tame_by_replies, tame_by_terminal, tame_called, tame_nothing, tame_terminal, waiting_count}

-- ---- the editor

shown_grows : (fits : Bool) (line : List ℕ) (shown : List (List ℕ)) (t u : PlainTerminal) → u.transcript ≡ t.transcript → Grows t.transcript (if fits then printing shown u else reporting Interrupt line t).transcript
shown_grows true line shown t u same = record { lines = shown; same = ap (λ before. before ++ shown) same }
shown_grows false line shown t u same = by t.transcript (report_lines Interrupt (input_shown line))

showing_adds : (line : List ℕ) (shown : List (List ℕ)) → OnlyAdds (showing line shown)
showing_adds line shown t = shown_grows (nat_le (t.workspace.printed + glyph_count shown) most_printed) line shown t (record t { workspace = with_printed t.workspace (glyph_count shown) }) refl

defined_grows : (fits : Bool) (line : List ℕ) (w : PlainWorkspace) (t : PlainTerminal) → Grows t.transcript (if fits then record t { workspace = w } else reporting WsFull line t).transcript
defined_grows true line w t = stays t.transcript
defined_grows false line w t = by t.transcript (report_lines WsFull (input_shown line))

closing_adds : (line : List ℕ) (editor : PlainEditor) (closed : Bool) → OnlyAdds (closing line editor closed)
closing_adds line editor true t =
    let w : PlainWorkspace = with_global t.workspace editor.header.name (Function (defined_function editor)) in defined_grows (nat_le (workspace_weight w) most_weight) line w (record t { definition = None })
closing_adds line editor false t = stays t.transcript

editing_adds : (line : List ℕ) (done : Option Edited) → OnlyAdds (editing line done)
editing_adds line None t = by t.transcript (report_lines Defn (input_shown line))
editing_adds line (Some edit) t =
    grows_on t.transcript (showing line edit.shown t).transcript (closing line edit.editor edit.editor.closed (showing line edit.shown t)).transcript
    (showing_adds line edit.shown t) (closing_adds line edit.editor edit.editor.closed (showing line edit.shown t))

echoing_adds : (prompt line : List ℕ) → OnlyAdds (echoing prompt line)
echoing_adds prompt line t = by t.transcript ((prompt ++ line) ∷ [])

-- ---- commands

telling_adds : (line : List ℕ) (counted : Bool) (lines : List (List ℕ)) → OnlyAdds (telling line counted lines)
telling_adds line true lines t = showing_adds line lines t
telling_adds line false lines t = by t.transcript lines

tame_retracting : (names : List (List ℕ)) (next : Course → Course) → IsTame next → IsTame (retracting names next)
tame_retracting [] next h = record { more = h.more; grows = h.grows; further = h.further; took = h.took; next = h.next }
tame_retracting (name ∷ names) next h =
    let k = tame_asking (act.Retract name) (unsharing name) (retracting names next) refl (λ answer t. stays t.transcript) (tame_retracting names next h) in
    record { more = k.more; grows = k.grows; further = k.further; took = k.took; next = k.next }

tame_remaking : (offers : List Remake) (next : Course → Course) → IsTame next → IsTame (remaking offers next)
tame_remaking [] next h = record { more = h.more; grows = h.grows; further = h.further; took = h.took; next = h.next }
tame_remaking (offer ∷ offers) next h =
    let k = tame_by_terminal (λ t. asking_act (offer_again offer t.workspace) (λ _ t. shared_again offer t) (remaking offers next)) (λ t.
    tame_asking (offer_again offer t.workspace) (λ _ t. shared_again offer t) (remaking offers next) refl (λ answer t. stays t.transcript) (tame_remaking offers next h)) in
    record { more = k.more; grows = k.grows; further = k.further; took = k.took; next = k.next }

tame_told : (line : List ℕ) (todo : PlainTodo) → IsTame (lines_told line todo)
tame_told line todo = tame_terminal (telling line todo.counted todo.lines) (telling_adds line todo.counted todo.lines)

tame_change : (line : List ℕ) (todo : PlainTodo) → IsTame (change_made line todo)
tame_change line todo = tame_after (finishing todo.change) (remaking todo.remakes (lines_told line todo)) (λ t. stays t.transcript) (tame_remaking todo.remakes (lines_told line todo) (tame_told line todo))

pub tame_todo : (line : List ℕ) (todo : PlainTodo) → IsTame (todo_done line todo)
tame_todo line todo = tame_retracting todo.retract (change_made line todo) (tame_change line todo)

tame_step : (line : List ℕ) (step : Step) → IsTame (shelf_step_done line step)
tame_step line step =
    tame_by_replies (λ replies c. todo_done line (todo_by step (next_reply replies)) (shelf_called (call_of step) c)) (λ replies.
    tame_called (call_of step) (todo_done line (todo_by step (next_reply replies))) (tame_todo line (todo_by step (next_reply replies))))

tame_command : (line : List ℕ) → IsTame (command_done line)
tame_command line = tame_by_terminal (λ t. shelf_step_done line (step_of line t.workspace t.id)) (λ t. tame_step line (step_of line t.workspace t.id))

-- ---- statements

-- an effect at which no act waits is over
is_over : (end : Effect) → waiting_act end ≡ None → IsOver end
is_over (gives nothing s) e = tt
is_over (refuses report s) e = tt
is_over (asks act s) e = absurd cc

-- what a line means takes no more answers, where it is over
line_more : (read : Read) (line : List ℕ) (w : PlainWorkspace) (answers more : List PlainAnswer) (left : ℕ) → IsOver (mean_of_read read line w answers left)
    → mean_of_read read line w (answers ++ more) left ≡ and_more more (mean_of_read read line w answers left)
line_more (Ok tree) line w answers more left over = rest_comes_back tree line w answers more left over
line_more (Err report) line w answers more left over = refl

behind_more : (c : Course) (more : List PlainAnswer) (end : Effect) → IsOver end → course_behind (and_further more c) (and_more more end) ≡ and_further more (course_behind c end)
behind_more c more (gives nothing s) over = refl
behind_more c more (refuses report s) over = refl
behind_more c more (asks act s) over = absurd over

statement_more : (left : ℕ) (line : List ℕ) (c : Course) (more : List PlainAnswer) → (statement_done left line c).waits ≡ None → statement_done left line (and_further more c) ≡ and_further more (statement_done left line c)
statement_more left line c more over =
    let end : Effect = mean_of_line line c.terminal.workspace c.answers left in
    let done : IsOver end = is_over end over in
    ap (course_behind (and_further more c)) (line_more (read_with c.terminal.workspace line) line c.terminal.workspace c.answers more left done) ∙ behind_more c more end done

read_grows : (read : Read) (line : List ℕ) (w : PlainWorkspace) (answers more : List PlainAnswer) (left : ℕ)
    → Grows (state_of (mean_of_read read line w answers left)).printed (state_of (mean_of_read read line w (answers ++ more) left)).printed
read_grows (Ok tree) line w answers more left = let h = comes_first tree line w answers more left in record { lines = h.lines; same = h.printed }
read_grows (Err report) line w answers more left = stays (report_lines report (input_shown line))

behind_grows : (before earlier later : List (List ℕ)) → Grows earlier later → Grows (before ++ earlier) (before ++ later)
behind_grows before earlier later h = record { lines = h.lines; same = ap (λ lines. before ++ lines) h.same ∙ sym (append_assoc before earlier h.lines) }

read_takes : (read : Read) (line : List ℕ) (w : PlainWorkspace) (answers : List PlainAnswer) (left : ℕ) → Takes (start_of line w answers left) (mean_of_read read line w answers left)
read_takes (Ok tree) line w answers left = line_takes tree line w answers left
read_takes (Err report) line w answers left = record { taken = []; acts = []; answers = refl; asked = refl; one_by_one = refl; reported = omega arith; in_need = tt }

-- an answer that tells that the journal is full is reported
full_is_reported : (k : AnswerKind) → cond (is_full_kind k) 1 0 ≤ cond (is_some (report_of_kind k)) 1 0
full_is_reported kind.Degree = omega arith
full_is_reported kind.Granted = omega arith
full_is_reported kind.Value = omega arith
full_is_reported kind.NoValue = omega arith
full_is_reported kind.Held = omega arith
full_is_reported kind.Abandoned = omega arith
full_is_reported kind.NotShared = omega arith
full_is_reported kind.OfferLimit = omega arith
full_is_reported kind.Full = omega arith
full_is_reported kind.Vector = omega arith
full_is_reported kind.Parties = omega arith
full_is_reported kind.Names = omega arith
full_is_reported kind.Kept = omega arith
full_is_reported kind.Done = omega arith

no_more_full : (answers : List PlainAnswer) → count_by tells_full answers ≤ count_by is_reported answers
no_more_full [] = omega arith
no_more_full (answer ∷ answers) =
    omega (
      arith,
      sum_by-cons (λ (found : PlainAnswer). cond (tells_full found) 1 0) answer answers,
      sum_by-cons (λ (found : PlainAnswer). cond (is_reported found) 1 0) answer answers,
      full_is_reported (answer_row answer).row.kind,
      no_more_full answers,
    )

took_effect : (c : Course) (line : List ℕ) (left : ℕ) (end : Effect) → Takes (start_of line c.terminal.workspace c.answers left) end → Took c (course_behind c end) 1
took_effect c line left (gives nothing s) k = record { taken = k.taken; acts = k.acts; answers = k.answers; asked = ap (λ acts. c.acts ++ acts) k.asked; one_by_one = k.one_by_one; full = omega (arith, k.reported, no_more_full k.taken); in_need = tt }
took_effect c line left (refuses report s) k = record { taken = k.taken; acts = k.acts; answers = k.answers; asked = ap (λ acts. c.acts ++ acts) k.asked; one_by_one = k.one_by_one; full = omega (arith, k.reported, no_more_full k.taken); in_need = tt }
took_effect c line left (asks act s) k = record { taken = k.taken; acts = k.acts; answers = k.answers; asked = ap (λ acts. c.acts ++ acts) k.asked; one_by_one = k.one_by_one; full = omega (arith, k.reported, no_more_full k.taken); in_need = k.in_need }

read_next : (read : Read) (line : List ℕ) (w : PlainWorkspace) (answers more : List PlainAnswer) (answer : PlainAnswer) (left : ℕ)
    → GoesOnIn (mean_of_read read line w answers left) (mean_of_read read line w (answers ++ answer ∷ more) left)
read_next (Ok tree) line w answers more answer left = line_next tree line w answers more answer left
read_next (Err report) line w answers more answer left = tt

effect_next : (c d : Course) (end after : Effect) (asked : Act) → d.acts ≡ c.acts → waiting_act end ≡ Some asked → GoesOnIn end after → NextIs (course_behind c end) (course_behind d after) asked
effect_next c d (gives nothing s) after asked same is h = absurd (let no : None ≡ Some asked = is in cc)
effect_next c d (refuses report s) after asked same is h = absurd (let no : None ≡ Some asked = is in cc)
effect_next c d (asks act s) after asked same is h =
    let this : act ≡ asked = cc is in
    record {
      acts = h.0;
      same = ap (λ before. before ++ (state_of after).asked) same ∙ ap (λ acts. c.acts ++ acts) h.1 ∙ sym (append_assoc c.acts s.asked (act ∷ h.0)) ∙ ap (λ a. (c.acts ++ s.asked) ++ a ∷ h.0) this;
    }

tame_statement : (left : ℕ) (line : List ℕ) → IsTame (statement_done left line)
tame_statement left line = record {
  more = λ c more over. statement_more left line c more over;
  grows = λ c. by c.terminal.transcript (state_of (mean_of_line line c.terminal.workspace c.answers left)).printed;
  further = λ c more.
      behind_grows c.terminal.transcript (state_of (mean_of_line line c.terminal.workspace c.answers left)).printed (state_of (mean_of_line line c.terminal.workspace (c.answers ++ more) left)).printed
      (read_grows (read_with c.terminal.workspace line) line c.terminal.workspace c.answers more left);
  took = λ c none. took_effect c line left (mean_of_line line c.terminal.workspace c.answers left) (read_takes (read_with c.terminal.workspace line) line c.terminal.workspace c.answers left);
  next = λ c answer more asked none is.
      effect_next c (and_further (answer ∷ more) c) (mean_of_line line c.terminal.workspace c.answers left) (mean_of_line line c.terminal.workspace (c.answers ++ answer ∷ more) left) asked refl is
      (read_next (read_with c.terminal.workspace line) line c.terminal.workspace c.answers more answer left);
}

-- ---- lines

tame_opening : (line : List ℕ) → IsTame (opening_done line)
tame_opening line = tame_terminal (λ t. editing line (opened t.workspace line) t) (λ t. editing_adds line (opened t.workspace line) t)

tame_free : (left : ℕ) (line : List ℕ) → IsTame (free_line left line)
tame_free left line =
    tame_by (is_opening line) (opening_done line) (λ c. if is_command line then command_done line c else statement_done left line c) (tame_opening line)
    (tame_by (is_command line) (command_done line) (statement_done left line) (tame_command line) (tame_statement left line))

tame_line : (left : ℕ) (line : List ℕ) (definition : Option PlainEditor) → IsTame (line_done_by left line definition)
tame_line left line None =
    let h = tame_after (echoing free_prompt line) (free_line left line) (echoing_adds free_prompt line) (tame_free left line) in
    record { more = h.more; grows = h.grows; further = h.further; took = h.took; next = h.next }
tame_line left line (Some editor) =
    let h = tame_terminal (λ t. editing line (fed editor line) (echoing (prompt_text editor.number) line t)) (λ t.
    grows_on t.transcript (echoing (prompt_text editor.number) line t).transcript (editing line (fed editor line) (echoing (prompt_text editor.number) line t)).transcript
    (echoing_adds (prompt_text editor.number) line t) (editing_adds line (fed editor line) (echoing (prompt_text editor.number) line t))) in
    record { more = h.more; grows = h.grows; further = h.further; took = h.took; next = h.next }

-- the next line, where no act waits
pub tame_next : (left : ℕ) (ended : Bool) (line : List ℕ) → IsTame (next_line left None ended line)
tame_next left true line = let h = tame_nothing in record { more = h.more; grows = h.grows; further = h.further; took = h.took; next = h.next }
tame_next left false line =
    let h = tame_by_terminal (λ t. line_done_by left line t.definition) (λ t. tame_line left line t.definition) in
    record { more = h.more; grows = h.grows; further = h.further; took = h.took; next = h.next }
