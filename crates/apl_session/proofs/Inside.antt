-- What each call does to the inside of a session.
use Rattle.std.proofs.Common.{◌≡◌, ℕ, ◌+◌, Bool, true, false, List, [], ◌∷◌, ◌++◌, drop, length, refl, sym, ap, subst, ◌∙◌, append-nil, inl, inr}
use Rattle.std.proofs.lemmas.List.{drop-drop, drop_all, map_push}
use Rattle.std.proofs.lemmas.Option.{none-some}
use Rattle.std.specs.Prelude.{Option, Some, None, if◌then◌else◌}
use Rattle.apl_arrays.specs.declared.report.Report.{Report}
use Rattle.apl_machine.specs.Machine.{PlainMachine, silent}
use Rattle.apl_machine.specs.Runs.{AsksThere, EndsBy, EndsDone, StandsOn}
use Rattle.apl_meaning.specs.Meaning.{most_statements}
use Rattle.apl_workspace.specs.Workspace.{PlainWorkspace}
use Rattle.fn_editor.specs.Editing.{fed}
use Rattle.fn_editor.specs.Editor.{PlainEditor}
use Rattle.fn_editor.specs.Opening.{opened}
use Rattle.fn_editor.specs.Prompt.{prompt_text}
use Rattle.sv_events.specs.Answer.{PlainAnswer}
use Rattle.sv_events.specs.declared.event.Act.{Act}
use Rattle.apl_terminal.specs.LineKind.{is_command, is_opening}
use Rattle.apl_terminal.specs.Terminal.{PlainTerminal, echoing, editing, free_prompt, new_terminal, printing}
use Rattle.session_rules.specs.Course.{Course, course_at, with_terminal}
use Rattle.session_rules.specs.Commands.{command_done}
use Rattle.session_rules.specs.Session.{free_line, line_done_by, lines_done, opening_done, session_of, statement_done}
use Rattle.session_rules.specs.Shelf.{Exchange, ShelfReply, shelf_replies_in}
use Rattle.session_rules.proofs.MoreAnswers.{ended_on}
use Rattle.session_rules.proofs.Taking.{next_is_taken, none_asked}
use Rattle.apl_session.specs.Receipts.{PlainReceipt, acts_in, answers_in}
use Rattle.apl_session.specs.Standing.{SessionComesTo, IsAnswered, IsAsking, IsAt, IsBetween, IsOpenLine, LinesAreOver, IsPaused, IsSession, IsThisFar, IsUnderWay, IsWaitingFor, MayAdvance, StandsBy, StandsIn, Waits, has_open_act, open_act}
use Rattle.apl_session.specs.Wants.{HasHeardAll, MayGoOn, need_by, stage_by}
use Rattle.apl_session.specs.declared.progress.Progress.{Progress}
use Rattle.apl_session.specs.declared.session.SessionStage.{SessionStage}
use Rattle.apl_session.specs.declared.session.SessionStage.TheVariants as stage
use Rattle.apl_session.specs.declared.session.Need.TheVariants as need
use Rattle.apl_session.specs.declared.under_way.UnderWay.{UnderWay}
use Rattle.apl_session.specs.declared.under_way.UnderWay.TheVariants as under_way
use Rattle.apl_session.proofs.Commanding.{command_waiting}
use Rattle.apl_session.proofs.Lone.{alone_waiting, may_hear}
use Rattle.apl_session.proofs.Going.{at_terminal, goes_asking, goes_done, goes_reported, one_line, over_there, taken_on}

-- ---- lines

-- between lines, nothing is under way
pub rests : (lines : List (List ℕ)) (answers : List PlainAnswer) (exchanges : List Exchange) (p : Progress) → p.under_way ≡ under_way.Nothing → IsBetween lines answers exchanges p.read p.terminal → StandsIn lines answers exchanges p
rests lines answers exchanges p nothing h = subst (λ (u : UnderWay). StandsBy lines answers exchanges p.read p.terminal u) (sym nothing) h

-- where nothing is under way a session stands between two lines
pub between_of : (lines : List (List ℕ)) (answers : List PlainAnswer) (exchanges : List Exchange) (p : Progress) → p.under_way ≡ under_way.Nothing → StandsIn lines answers exchanges p → IsBetween lines answers exchanges p.read p.terminal
between_of lines answers exchanges p nothing h = subst (λ (u : UnderWay). StandsBy lines answers exchanges p.read p.terminal u) nothing h

-- the lines behind the one that is next
pub lines_behind : (lines rest : List (List ℕ)) (line : List ℕ) (read : ℕ) → drop read lines ≡ line ∷ rest → drop (read + 1) lines ≡ rest
lines_behind lines rest line read here = sym (drop-drop 1 read lines) ∙ ap (drop 1) here

-- a line that an open definition takes
pub fed_line : (lines rest : List (List ℕ)) (line : List ℕ) (answers : List PlainAnswer) (exchanges : List Exchange) (read : ℕ) (t now : PlainTerminal) (editor : PlainEditor) → drop read lines ≡ line ∷ rest → drop (read + 1) lines ≡ rest → t.ended ≡ false → t.definition ≡ Some editor
    → now ≡ editing line (fed editor line) (echoing (prompt_text editor.number) line (record (record t { definition = None }) { definition = Some editor })) → IsBetween lines answers exchanges read t → IsBetween lines answers exchanges (read + 1) now
fed_line lines rest line answers exchanges read t now editor here behind goes open_now is h =
    let again : record (record t { definition = None }) { definition = Some editor } ≡ t = ap (λ definition. record t { definition = definition }) (sym open_now) in
    let g : PlainTerminal → PlainTerminal = λ s. editing line (fed editor line) (echoing (prompt_text editor.number) line s) in
    let at : IsAt lines answers exchanges (read + 1) (λ c. line_done_by most_statements line (Some editor) c) t =
    subst (λ definition. IsAt lines answers exchanges (read + 1) (λ c. line_done_by most_statements line definition c) t) open_now (one_line lines rest line answers exchanges read t here behind goes h) in
    subst (λ (s : PlainTerminal). IsBetween lines answers exchanges (read + 1) s) (sym (is ∙ ap g again)) (at_terminal lines answers exchanges (read + 1) t g at)

-- a line that stands alone
pub free_at : (lines rest : List (List ℕ)) (line : List ℕ) (answers : List PlainAnswer) (exchanges : List Exchange) (read : ℕ) (t : PlainTerminal) → drop read lines ≡ line ∷ rest → drop (read + 1) lines ≡ rest → t.ended ≡ false → t.definition ≡ None → IsBetween lines answers exchanges read t
    → IsAt lines answers exchanges (read + 1) (λ c. free_line most_statements line (with_terminal (echoing free_prompt line c.terminal) c)) (record t { definition = None })
free_at lines rest line answers exchanges read t here behind goes free h =
    let again : t ≡ record t { definition = None } = ap (λ definition. record t { definition = definition }) free in
    let at : IsAt lines answers exchanges (read + 1) (λ c. line_done_by most_statements line None c) t =
    subst (λ definition. IsAt lines answers exchanges (read + 1) (λ c. line_done_by most_statements line definition c) t) free (one_line lines rest line answers exchanges read t here behind goes h) in
    subst (λ (s : PlainTerminal). IsAt lines answers exchanges (read + 1) (λ c. free_line most_statements line (with_terminal (echoing free_prompt line c.terminal) c)) s) again at

-- it was echoed
pub echoed_at : (lines : List (List ℕ)) (line : List ℕ) (answers : List PlainAnswer) (exchanges : List Exchange) (read : ℕ) (t : PlainTerminal) → IsAt lines answers exchanges read (λ c. free_line most_statements line (with_terminal (echoing free_prompt line c.terminal) c)) t
    → IsAt lines answers exchanges read (free_line most_statements line) (echoing free_prompt line t)
echoed_at lines line answers exchanges read t h = record { acts = h.acts; same = h.same }

-- it opens a definition, or is a command, or a statement
free_by : (opens commands : Bool) → List ℕ → Course → Course
free_by opens commands line c = if opens then opening_done line c else if commands then command_done line c else statement_done most_statements line c

pub opening_at : (lines : List (List ℕ)) (line : List ℕ) (answers : List PlainAnswer) (exchanges : List Exchange) (read : ℕ) (t : PlainTerminal) → is_opening line ≡ true → IsAt lines answers exchanges read (free_line most_statements line) t
    → IsBetween lines answers exchanges read (editing line (opened t.workspace line) t)
unfolding free_by
opening_at lines line answers exchanges read t opens h =
    at_terminal lines answers exchanges read t (λ s. editing line (opened s.workspace line) s) (subst (λ (b : Bool). IsAt lines answers exchanges read (free_by b (is_command line) line) t) opens h)

pub command_at : (lines : List (List ℕ)) (line : List ℕ) (answers : List PlainAnswer) (exchanges : List Exchange) (read : ℕ) (t : PlainTerminal) → is_opening line ≡ false → is_command line ≡ true → IsAt lines answers exchanges read (free_line most_statements line) t
    → IsAt lines answers exchanges read (command_done line) t
unfolding free_by
command_at lines line answers exchanges read t opens commands h =
    subst (λ (b : Bool). IsAt lines answers exchanges read (free_by false b line) t) commands (subst (λ (b : Bool). IsAt lines answers exchanges read (free_by b (is_command line) line) t) opens h)

pub statement_at : (lines : List (List ℕ)) (line : List ℕ) (answers : List PlainAnswer) (exchanges : List Exchange) (read : ℕ) (t : PlainTerminal) → is_opening line ≡ false → is_command line ≡ false → IsAt lines answers exchanges read (free_line most_statements line) t
    → IsAt lines answers exchanges read (statement_done most_statements line) t
unfolding free_by
statement_at lines line answers exchanges read t opens commands h =
    subst (λ (b : Bool). IsAt lines answers exchanges read (free_by false b line) t) commands (subst (λ (b : Bool). IsAt lines answers exchanges read (free_by b (is_command line) line) t) opens h)

-- ---- a run of the machine

-- where an act waits for its answer, its line stands as the machine does
asked_by : (lines : List (List ℕ)) (answers : List PlainAnswer) (exchanges : List Exchange) (read : ℕ) (t : PlainTerminal) (u : UnderWay) (m : PlainMachine) (act : Act) → Waits m act u → t.definition ≡ None → IsUnderWay lines answers exchanges read t m → IsAsking lines answers exchanges t.transcript m act
    → StandsBy lines answers exchanges read t u
asked_by lines answers exchanges read t under_way.Nothing m act waits free here asking = absurd waits
asked_by lines answers exchanges read t (under_way.Alone asked) m act waits free here asking = absurd waits
asked_by lines answers exchanges read t (under_way.Asking b asked) m act waits free here asking = (
  free,
  subst (λ (k : PlainMachine). IsUnderWay lines answers exchanges read t k) (sym waits.0) here,
  subst (λ (k : PlainMachine). IsAsking lines answers exchanges t.transcript k asked) (sym waits.0) (subst (λ (a : Act). IsAsking lines answers exchanges t.transcript m a) (sym waits.1) asking),
)
asked_by lines answers exchanges read t (under_way.Answered b) m act waits free here asking = absurd waits
asked_by lines answers exchanges read t (under_way.Commanding b asked) m act waits free here asking = absurd waits
asked_by lines answers exchanges read t (under_way.Commanded b) m act waits free here asking = absurd waits

-- a run that asked an act
pub asked_on : (lines : List (List ℕ)) (answers : List PlainAnswer) (exchanges : List Exchange) (read counted : ℕ) (act : Act) (m n after : PlainMachine) (p : Progress) (t : PlainTerminal) → t.definition ≡ None → AsksThere act m counted n → after ≡ silent n
    → StandsOn n 0 [] n.interpreter.output after → p.terminal ≡ printing n.interpreter.output t → p.read ≡ read → Waits after act p.under_way → IsUnderWay lines answers exchanges read t m → StandsIn lines answers exchanges p
asked_on lines answers exchanges read counted act m n after p t free asks is taken printed same waiting h =
    let first : IsUnderWay lines (answers ++ []) exchanges read (printing [] t) n = taken_on lines answers [] exchanges read counted t [] m n h asks.stands in
    let plain : IsUnderWay lines (answers ++ []) exchanges read t n = subst (λ before. IsUnderWay lines (answers ++ []) exchanges read (record t { transcript = before }) n) (append-nil t.transcript) first in
    let on : IsUnderWay lines ((answers ++ []) ++ []) exchanges read (printing n.interpreter.output t) after = taken_on lines (answers ++ []) [] exchanges read 0 t n.interpreter.output n after plain taken in
    let here : IsUnderWay lines answers exchanges read (printing n.interpreter.output t) after =
    subst (λ given. IsUnderWay lines given exchanges read (printing n.interpreter.output t) after) (append-nil (answers ++ []) ∙ append-nil answers) on in
    let waits : IsAsking lines answers exchanges (t.transcript ++ n.interpreter.output) after act =
    subst (λ (k : PlainMachine). IsAsking lines answers exchanges (t.transcript ++ n.interpreter.output) k act) (sym is) (goes_asking lines answers exchanges read counted t act m n h asks) in
    subst (λ (s : PlainTerminal). StandsBy lines answers exchanges p.read s p.under_way) (sym printed)
    (subst (λ (k : ℕ). StandsBy lines answers exchanges k (printing n.interpreter.output t) p.under_way) (sym same) (asked_by lines answers exchanges read (printing n.interpreter.output t) p.under_way after act waiting free here waits))

-- the terminal behind a line that is over
back_again : (t : PlainTerminal) (n : PlainMachine) → t.definition ≡ None → record (printing n.interpreter.output t) { workspace = n.interpreter.workspace } ≡ over_there n t
back_again t n free = ap (λ definition. record t { workspace = n.interpreter.workspace; definition = definition; transcript = t.transcript ++ n.interpreter.output }) free

over_on : (lines : List (List ℕ)) (answers : List PlainAnswer) (exchanges : List Exchange) (read : ℕ) (n after : PlainMachine) (p : Progress) (t : PlainTerminal) → t.definition ≡ None → after ≡ silent n
    → p.terminal ≡ record (printing n.interpreter.output t) { workspace = after.interpreter.workspace } → p.read ≡ read → p.under_way ≡ under_way.Nothing → IsBetween lines answers exchanges read (over_there n t) → StandsIn lines answers exchanges p
over_on lines answers exchanges read n after p t free is printed same nothing h =
    let there : p.terminal ≡ over_there n t = printed ∙ ap (λ (k : PlainMachine). record (printing n.interpreter.output t) { workspace = k.interpreter.workspace }) is ∙ back_again t n free in
    rests lines answers exchanges p nothing
    (subst (λ (s : PlainTerminal). IsBetween lines answers exchanges p.read s) (sym there) (subst (λ (k : ℕ). IsBetween lines answers exchanges k (over_there n t)) (sym same) h))

-- a run that came to the end of its line
pub done_on : (lines : List (List ℕ)) (answers : List PlainAnswer) (exchanges : List Exchange) (read counted : ℕ) (m n after : PlainMachine) (p : Progress) (t : PlainTerminal) → t.definition ≡ None → EndsDone m counted n → after ≡ silent n
    → p.terminal ≡ record (printing n.interpreter.output t) { workspace = after.interpreter.workspace } → p.read ≡ read → p.under_way ≡ under_way.Nothing → IsUnderWay lines answers exchanges read t m → StandsIn lines answers exchanges p
done_on lines answers exchanges read counted m n after p t free ends is printed same nothing h =
    over_on lines answers exchanges read n after p t free is printed same nothing (goes_done lines answers exchanges read counted t m n h ends)

-- or to a report
pub reported_on : (lines : List (List ℕ)) (answers : List PlainAnswer) (exchanges : List Exchange) (read counted : ℕ) (report : Report) (m n after : PlainMachine) (p : Progress) (t : PlainTerminal) → t.definition ≡ None → EndsBy report m counted n → after ≡ silent n
    → p.terminal ≡ record (printing n.interpreter.output t) { workspace = after.interpreter.workspace } → p.read ≡ read → p.under_way ≡ under_way.Nothing → IsUnderWay lines answers exchanges read t m → StandsIn lines answers exchanges p
reported_on lines answers exchanges read counted report m n after p t free ends is printed same nothing h =
    over_on lines answers exchanges read n after p t free is printed same nothing (goes_reported lines answers exchanges read counted t report m n h ends)

-- ---- the session around it

-- a session of which no line is done
pub begun_session : (lines : List (List ℕ)) (p : Progress) → p.terminal ≡ new_terminal → p.read ≡ 0 → p.under_way ≡ under_way.Nothing → IsSession lines [] [] p stage.Ready
begun_session lines p terminal read nothing =
    let first : IsBetween lines [] [] 0 new_terminal = record { acts = []; same = λ further more. refl } in
    record {
      acts = λ more. sym (none_asked lines more);
      stands = subst (λ (u : UnderWay). StandsBy lines [] [] p.read p.terminal u) (sym nothing)
          (subst (λ (t : PlainTerminal). IsBetween lines [] [] p.read t) (sym terminal) (subst (λ n. IsBetween lines [] [] n new_terminal) (sym read) first));
      far = subst (λ (u : UnderWay). IsThisFar (length lines) p.read p.terminal u stage.Ready) (sym nothing) tt;
    }

may_by : (lines : List (List ℕ)) (answers : List PlainAnswer) (exchanges : List Exchange) (read : ℕ) (t : PlainTerminal) (u : UnderWay) (at : SessionStage) → StandsBy lines answers exchanges read t u → IsThisFar (length lines) read t u at → MayGoOn at → MayAdvance t u
may_by lines answers exchanges read t under_way.Nothing at h far may = tt
may_by lines answers exchanges read t (under_way.Alone act) at h far may = subst MayGoOn far may
may_by lines answers exchanges read t (under_way.Asking b act) at h far may = subst MayGoOn far may
may_by lines answers exchanges read t (under_way.Answered b) at h far may = (h.0, h.2)
may_by lines answers exchanges read t (under_way.Commanding b act) at h far may = subst MayGoOn far may
may_by lines answers exchanges read t (under_way.Commanded b) at h far may = record { free = h.free; fit = h.fit }

-- it may go on
pub may_advance : (lines : List (List ℕ)) (receipts : List PlainReceipt) (exchanges : List Exchange) (p : Progress) (at : SessionStage) → IsSession lines receipts exchanges p at → MayGoOn at → MayAdvance p.terminal p.under_way
may_advance lines receipts exchanges p at h may = may_by lines (answers_in receipts) exchanges p.read p.terminal p.under_way at h.stands h.far may

-- all lines are done
finished_by : (lines : List (List ℕ)) (read : ℕ) (c : Course) → LinesAreOver (length lines) read c.terminal → lines_done most_statements (drop read lines) c ≡ c
finished_by lines read c (inl over) = ap (λ left. lines_done most_statements left c) (drop_all read lines over)
finished_by lines read c (inr ended) = ended_on most_statements (drop read lines) c ended

finished_course : (lines : List (List ℕ)) (answers : List PlainAnswer) (exchanges : List Exchange) (read : ℕ) (t : PlainTerminal) → LinesAreOver (length lines) read t → (h : IsBetween lines answers exchanges read t) → (more : List ShelfReply)
    → session_of lines answers (shelf_replies_in exchanges ++ more) ≡ course_at t h.acts exchanges [] more
finished_course lines answers exchanges read t over h more =
    ap (λ given. session_of lines given (shelf_replies_in exchanges ++ more)) (sym (append-nil answers)) ∙ h.same [] more ∙ finished_by lines read (course_at t h.acts exchanges [] more) over

-- where a call stopped, whatever replies follow: this act waits, or none; and these were all calls of the shelf
pub record IsThere (lines : List (List ℕ)) (answers : List PlainAnswer) (exchanges : List Exchange) (asked : Option Act) : Type 0 where
  pub waits : (more : List ShelfReply) → (session_of lines answers (shelf_replies_in exchanges ++ more)).waits ≡ asked
  pub calls : (more : List ShelfReply) → (session_of lines answers (shelf_replies_in exchanges ++ more)).exchanges ≡ exchanges

gone_by : (lines : List (List ℕ)) (answers : List PlainAnswer) (exchanges : List Exchange) (read : ℕ) (t : PlainTerminal) (u : UnderWay) → StandsBy lines answers exchanges read t u → IsPaused u → (u ≡ under_way.Nothing → LinesAreOver (length lines) read t)
    → IsThere lines answers exchanges (open_act u) × IsThisFar (length lines) read t u (stage_by (open_act u))
gone_by lines answers exchanges read t under_way.Nothing h paused over = (
  record { waits = λ more. ap (λ (c : Course). c.waits) (finished_course lines answers exchanges read t (over refl) h more); calls = λ more. ap (λ (c : Course). c.exchanges) (finished_course lines answers exchanges read t (over refl) h more) },
  over refl,
)
gone_by lines answers exchanges read t (under_way.Alone act) h paused over = let w = alone_waiting lines answers exchanges read t act h in (record { waits = w.waits; calls = w.calls }, refl)
gone_by lines answers exchanges read t (under_way.Asking b act) h paused over = (record { waits = h.2.waiting.waits; calls = h.2.waiting.calls }, refl)
gone_by lines answers exchanges read t (under_way.Answered b) h paused over = absurd paused
gone_by lines answers exchanges read t (under_way.Commanding b act) h paused over = let w = command_waiting lines answers exchanges read t b.value act h.0 h.1 in (record { waits = w.waits; calls = w.calls }, refl)
gone_by lines answers exchanges read t (under_way.Commanded b) h paused over = absurd paused

-- the act that waits is the one that the lines ask, whatever replies follow
pub open_waits : (lines : List (List ℕ)) (answers : List PlainAnswer) (exchanges : List Exchange) (read : ℕ) (t : PlainTerminal) (u : UnderWay) (act : Act) → StandsBy lines answers exchanges read t u → open_act u ≡ Some act
    → (more : List ShelfReply) → (session_of lines answers (shelf_replies_in exchanges ++ more)).waits ≡ Some act
open_waits lines answers exchanges read t under_way.Nothing act h is more = absurd (none-some act is)
open_waits lines answers exchanges read t (under_way.Alone asked) act h is more = let w = alone_waiting lines answers exchanges read t asked h in w.waits more ∙ is
open_waits lines answers exchanges read t (under_way.Asking b asked) act h is more = h.2.waiting.waits more ∙ is
open_waits lines answers exchanges read t (under_way.Answered b) act h is more = absurd (none-some act is)
open_waits lines answers exchanges read t (under_way.Commanding b asked) act h is more = let w = command_waiting lines answers exchanges read t b.value asked h.0 h.1 in w.waits more ∙ is
open_waits lines answers exchanges read t (under_way.Commanded b) act h is more = absurd (none-some act is)

-- how far a session is, and what it wants, where an act waits
pub open_far : (u : UnderWay) → has_open_act u ≡ true → (stage_by (open_act u) ≡ stage.Waiting) × (need_by (open_act u) ≡ need.Answer)
open_far under_way.Nothing is = absurd cc
open_far (under_way.Alone asked) is = (refl, refl)
open_far (under_way.Asking b asked) is = (refl, refl)
open_far (under_way.Answered b) is = absurd cc
open_far (under_way.Commanding b asked) is = (refl, refl)
open_far (under_way.Commanded b) is = absurd cc

-- and where none does
pub closed_far : (u : UnderWay) → has_open_act u ≡ false → (stage_by (open_act u) ≡ stage.Finished) × (need_by (open_act u) ≡ need.Nothing)
closed_far under_way.Nothing is = (refl, refl)
closed_far (under_way.Alone asked) is = absurd cc
closed_far (under_way.Asking b asked) is = absurd cc
closed_far (under_way.Answered b) is = (refl, refl)
closed_far (under_way.Commanding b asked) is = absurd cc
closed_far (under_way.Commanded b) is = (refl, refl)

-- a session that went on
pub gone_on : (lines : List (List ℕ)) (answers : List PlainAnswer) (exchanges : List Exchange) (p : Progress) → SessionComesTo lines answers exchanges p
    → IsThere lines answers exchanges (open_act p.under_way) × IsThisFar (length lines) p.read p.terminal p.under_way (stage_by (open_act p.under_way))
gone_on lines answers exchanges p come = gone_by lines answers exchanges p.read p.terminal p.under_way come.stands come.paused come.over

open_by : (lines : List (List ℕ)) (answers : List PlainAnswer) (exchanges : List Exchange) (read : ℕ) (t : PlainTerminal) (u : UnderWay) → StandsBy lines answers exchanges read t u → IsThisFar (length lines) read t u stage.Waiting → IsOpenLine (length lines) read t u
open_by lines answers exchanges read t under_way.Nothing h far = absurd far
open_by lines answers exchanges read t (under_way.Alone act) h far = may_hear lines answers exchanges read t act h
open_by lines answers exchanges read t (under_way.Asking b act) h far = h.2.is_open
open_by lines answers exchanges read t (under_way.Answered b) h far = absurd cc
open_by lines answers exchanges read t (under_way.Commanding b act) h far = (record { free = h.0.free; fit = h.0.fit }, h.1)
open_by lines answers exchanges read t (under_way.Commanded b) h far = absurd cc

-- a session that waits has an open act
pub is_open_line : (lines : List (List ℕ)) (receipts : List PlainReceipt) (exchanges : List Exchange) (p : Progress) (at : SessionStage) → at ≡ stage.Waiting → IsSession lines receipts exchanges p at → IsOpenLine (length lines) p.read p.terminal p.under_way
is_open_line lines receipts exchanges p at waiting h =
    open_by lines (answers_in receipts) exchanges p.read p.terminal p.under_way h.stands (subst (λ (s : SessionStage). IsThisFar (length lines) p.read p.terminal p.under_way s) waiting h.far)

ready_by : (count read : ℕ) (t : PlainTerminal) (u : UnderWay) → MayAdvance t u → IsThisFar count read t u stage.Ready
ready_by count read t under_way.Nothing may = tt
ready_by count read t (under_way.Alone act) may = absurd may
ready_by count read t (under_way.Asking b act) may = absurd may
ready_by count read t (under_way.Answered b) may = refl
ready_by count read t (under_way.Commanding b act) may = absurd may
ready_by count read t (under_way.Commanded b) may = refl

-- a session that was given an answer
pub answered_session : (lines : List (List ℕ)) (receipts : List PlainReceipt) (exchanges : List Exchange) (receipt : PlainReceipt) (after : Progress) → ((more : List ShelfReply) → acts_in receipts ≡ (session_of lines (answers_in receipts) (shelf_replies_in exchanges ++ more)).acts)
    → IsAnswered lines (answers_in receipts) exchanges receipt.act receipt.answer after → IsSession lines (receipts ++ receipt ∷ []) exchanges after stage.Ready
answered_session lines receipts exchanges receipt after acts is =
    let answers : answers_in (receipts ++ receipt ∷ []) ≡ answers_in receipts ++ receipt.answer ∷ [] = map_push (λ (r : PlainReceipt). r.answer) receipts receipt in
    record {
      acts = λ more.
          map_push (λ (r : PlainReceipt). r.act) receipts receipt
          ∙ ap (λ acts. acts ++ receipt.act ∷ []) (acts more)
          ∙ sym (next_is_taken lines (answers_in receipts) (shelf_replies_in exchanges ++ more) receipt.answer receipt.act (is.waited more))
          ∙ ap (λ given. (session_of lines given (shelf_replies_in exchanges ++ more)).acts) (sym answers);
      stands = subst (λ given. StandsIn lines given exchanges after) (sym answers) is.stands;
      far = ready_by (length lines) after.read after.terminal after.under_way is.may;
    }

heard_by : (lines : List (List ℕ)) (answers : List PlainAnswer) (exchanges : List Exchange) (read : ℕ) (t : PlainTerminal) (u : UnderWay) (at : SessionStage) → StandsBy lines answers exchanges read t u → IsThisFar (length lines) read t u at → HasHeardAll at
    → (more : List ShelfReply) → t.transcript ≡ (session_of lines answers (shelf_replies_in exchanges ++ more)).terminal.transcript
heard_by lines answers exchanges read t under_way.Nothing stage.Ready h far heard more = absurd heard
heard_by lines answers exchanges read t under_way.Nothing stage.Waiting h far heard more = absurd far
heard_by lines answers exchanges read t under_way.Nothing stage.Finished h far heard more = ap (λ (c : Course). c.terminal.transcript) (sym (finished_course lines answers exchanges read t far h more))
heard_by lines answers exchanges read t under_way.Nothing stage.Failed h far heard more = absurd far
heard_by lines answers exchanges read t (under_way.Alone act) at h far heard more = let w = alone_waiting lines answers exchanges read t act h in sym (w.printed more)
heard_by lines answers exchanges read t (under_way.Asking b act) at h far heard more = sym (h.2.waiting.printed more)
heard_by lines answers exchanges read t (under_way.Answered b) at h far heard more = absurd (subst HasHeardAll far heard)
heard_by lines answers exchanges read t (under_way.Commanding b act) at h far heard more = let w = command_waiting lines answers exchanges read t b.value act h.0 h.1 in sym (w.printed more)
heard_by lines answers exchanges read t (under_way.Commanded b) at h far heard more = absurd (subst HasHeardAll far heard)

-- what it printed, where all answers were heard
pub heard_all : (lines : List (List ℕ)) (answers : List PlainAnswer) (exchanges : List Exchange) (p : Progress) (at : SessionStage) → StandsIn lines answers exchanges p → IsThisFar (length lines) p.read p.terminal p.under_way at → HasHeardAll at
    → (more : List ShelfReply) → p.terminal.transcript ≡ (session_of lines answers (shelf_replies_in exchanges ++ more)).terminal.transcript
heard_all lines answers exchanges p at stands far heard more = heard_by lines answers exchanges p.read p.terminal p.under_way at stands far heard more
