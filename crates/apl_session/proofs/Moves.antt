-- From what the parts of a call promise to what the call does.
use Rattle.std.proofs.Common.{◌≡◌, ℕ, ◌+◌, ◌-◌, ◌<◌, ◌≤◌, true, false, List, [], ◌∷◌, ◌++◌, drop, get_or, length, refl, sym, ap, subst, ◌∙◌, append-nil, arith}
use Rattle.std.proofs.lemmas.List.{drop_more, get_or-map, length-map}
use Rattle.std.specs.Prelude.{None, Err, IfOk, Ok, OnOk, Result, map}
use Rattle.std.specs.Global.{Box}
use Rattle.apl_arrays.specs.List.{Listed, glyphs_in}
use Rattle.apl_arrays.specs.declared.report.Fail.{Fail}
use Rattle.apl_arrays.specs.declared.report.Fail.TheVariants as fail
use Rattle.apl_arrays.specs.declared.report.Report.{Report}
use Rattle.apl_machine.specs.Alone.{IsAlone}
use Rattle.apl_machine.specs.Machine.{IsIdle, IsOpenAct, IsOpenStage, MayRun, PlainMachine, idle_on, silent}
use Rattle.apl_machine.specs.Runs.{IsTreeOf, MachineStands, StandsOn, StopsAs}
use Rattle.apl_machine.specs.declared.flow.Stop.{Stop}
use Rattle.apl_machine.specs.declared.flow.Stop.TheVariants as stop
use Rattle.apl_machine.specs.Parts.{IsNotRead}
use Rattle.apl_machine.proofs.OpenStage.{open_stage}
use Rattle.apl_meaning.specs.Meaning.{most_statements}
use Rattle.apl_meaning.specs.Reading.{read_with}
use Rattle.apl_workspace.specs.Workspace.{PlainWorkspace, empty_workspace}
use Rattle.fn_editor.specs.Opening.{opened}
use Rattle.line_trees.specs.Parsing.{PlainTree}
use Rattle.line_trees.specs.Trees.{line_tree_of}
use Rattle.sv_events.specs.Answer.{PlainAnswer}
use Rattle.sv_events.specs.declared.event.Act.{Act}
use Rattle.apl_terminal.specs.LineKind.{is_command, is_opening}
use Rattle.apl_terminal.specs.Terminal.{PlainTerminal, echoing, editing, free_prompt, printing, reporting}
use Rattle.session_rules.specs.Course.{with_terminal}
use Rattle.session_rules.specs.Commands.{command_done}
use Rattle.session_rules.specs.Session.{free_line, statement_done}
use Rattle.session_rules.specs.Shelf.{Exchange}
use Rattle.apl_session.specs.Errands.{IsErrand, IsFirstAct, errand_rest}
use Rattle.apl_session.specs.Standing.{Commands, FailsBy, IsAnswered, IsAt, IsBetween, IsCommanded, IsHanded, IsIdleAt, IsLastRead, IsOpenLine, IsPaused, IsUnderWay, IsWaitingAlone, MayAdvance, CommandMayGoOn, MayGoBehind, MayHear, PausesAt, StandsBy, StandsIn, Waits, has_open_act, with_output_of}
use Rattle.apl_session.specs.declared.errand.Errand.{Errand}
use Rattle.apl_session.specs.declared.progress.Progress.{Progress}
use Rattle.apl_session.specs.declared.under_way.UnderWay.{UnderWay}
use Rattle.apl_session.specs.declared.under_way.UnderWay.TheVariants as under_way
use Rattle.apl_session.proofs.Commanding.{command_waiting}
use Rattle.apl_session.proofs.Lone.{alone_waiting}
use Rattle.apl_session.proofs.Going.{begun_at, refused_at, taken_on}
use Rattle.apl_session.proofs.Inside.{asked_on, command_at, done_on, echoed_at, opening_at, reported_on, rests, statement_at}

-- ---- what asks

-- where nothing is under way nothing was answered
pub none_answered : (u : UnderWay) → u ≡ under_way.Nothing → IsPaused u
none_answered u nothing = subst IsPaused (sym nothing) tt

-- and where no line waits nothing is under way
pub nothing_by : (u : UnderWay) → IsPaused u → has_open_act u ≡ false → u ≡ under_way.Nothing
nothing_by under_way.Nothing paused free = refl
nothing_by (under_way.Alone act) paused free = absurd cc
nothing_by (under_way.Asking b act) paused free = absurd cc
nothing_by (under_way.Answered b) paused free = absurd paused
nothing_by (under_way.Commanding b act) paused free = absurd cc
nothing_by (under_way.Commanded b) paused free = absurd paused

-- ---- lines

-- the line at a place, and those behind it
pub line_at : (lines : List (Listed ℕ)) (read : ℕ) (found : Listed ℕ) → read < length lines → found ≡ get_or lines read found → drop read (map glyphs_in lines) ≡ glyphs_in found ∷ drop (read + 1) (map glyphs_in lines)
line_at lines read found within is =
    drop_more (map glyphs_in lines) read found.items (omega (arith, within, length-map lines glyphs_in))
    ∙ ap (λ first. first ∷ drop (read + 1) (map glyphs_in lines)) (get_or-map glyphs_in lines read found found.items within ∙ sym (ap glyphs_in is))

-- a line that opens a definition
pub opened_on : (lines : List (List ℕ)) (line : List ℕ) (answers : List PlainAnswer) (exchanges : List Exchange) (t told : PlainTerminal) (p : Progress) → is_opening line ≡ true → told ≡ echoing free_prompt line t → p.terminal ≡ editing line (opened told.workspace line) told
    → p.under_way ≡ under_way.Nothing → IsAt lines answers exchanges p.read (λ c. free_line most_statements line (with_terminal (echoing free_prompt line c.terminal) c)) t → StandsIn lines answers exchanges p
opened_on lines line answers exchanges t told p opens echoed is nothing h =
    let there : p.terminal ≡ editing line (opened (echoing free_prompt line t).workspace line) (echoing free_prompt line t) = is ∙ ap (λ (s : PlainTerminal). editing line (opened s.workspace line) s) echoed in
    rests lines answers exchanges p nothing (subst (λ (s : PlainTerminal). IsAt lines answers exchanges p.read (λ c. c) s) (sym there) (opening_at lines line answers exchanges p.read (echoing free_prompt line t) opens (echoed_at lines line answers exchanges p.read t h)))

-- a line that is a statement
pub statement_on : (lines : List (List ℕ)) (line : List ℕ) (answers : List PlainAnswer) (exchanges : List Exchange) (read : ℕ) (t told : PlainTerminal) → is_opening line ≡ false → is_command line ≡ false → told ≡ echoing free_prompt line t
    → IsAt lines answers exchanges read (λ c. free_line most_statements line (with_terminal (echoing free_prompt line c.terminal) c)) t → IsAt lines answers exchanges read (statement_done most_statements line) told
statement_on lines line answers exchanges read t told opens commands echoed h =
    subst (λ (s : PlainTerminal). IsAt lines answers exchanges read (statement_done most_statements line) s) (sym echoed) (statement_at lines line answers exchanges read (echoing free_prompt line t) opens commands (echoed_at lines line answers exchanges read t h))

-- a line that is a command
pub command_on : (lines : List (List ℕ)) (line : List ℕ) (answers : List PlainAnswer) (exchanges : List Exchange) (read : ℕ) (t told : PlainTerminal) → is_opening line ≡ false → is_command line ≡ true → told ≡ echoing free_prompt line t
    → IsAt lines answers exchanges read (λ c. free_line most_statements line (with_terminal (echoing free_prompt line c.terminal) c)) t → IsAt lines answers exchanges read (command_done line) told
command_on lines line answers exchanges read t told opens commands echoed h =
    subst (λ (s : PlainTerminal). IsAt lines answers exchanges read (command_done line) s) (sym echoed) (command_at lines line answers exchanges read (echoing free_prompt line t) opens commands (echoed_at lines line answers exchanges read t h))

-- ---- the machine

-- a statement that was begun
pub evaluated_on : (lines : List (List ℕ)) (line : List ℕ) (answers : List PlainAnswer) (exchanges : List Exchange) (read : ℕ) (t lent : PlainTerminal) (w seen : PlainWorkspace) (tree : PlainTree) (fresh m : PlainMachine) → lent ≡ record t { workspace = empty_workspace } → w ≡ t.workspace
    → fresh ≡ idle_on w → seen ≡ t.workspace → IsTreeOf seen line tree → MachineStands m (line_tree_of tree) line fresh.interpreter.workspace fresh.interpreter.output [] 0 [] → IsAt lines answers exchanges read (statement_done most_statements line) t
    → IsUnderWay lines answers exchanges read lent m
evaluated_on lines line answers exchanges read t lent w seen tree fresh m left same new here is stands h =
    let tree_there : IsTreeOf t.workspace line tree = subst (λ (x : PlainWorkspace). IsTreeOf x line tree) here is in
    let there : MachineStands m (line_tree_of tree) line t.workspace [] [] 0 [] =
    subst (λ (x : PlainMachine). MachineStands m (line_tree_of tree) line x.interpreter.workspace x.interpreter.output [] 0 []) (new ∙ ap idle_on same) stands in
    begun_at lines line answers exchanges read t lent tree m left h tree_there there

-- or refused
refused_on : (lines : List (List ℕ)) (line : List ℕ) (answers : List PlainAnswer) (exchanges : List Exchange) (t : PlainTerminal) (seen : PlainWorkspace) (report : Report) (p : Progress) → p.under_way ≡ under_way.Nothing → p.terminal ≡ reporting report line t → seen ≡ t.workspace → seen.frames ≡ []
    → t.definition ≡ None → read_with seen line ≡ Err report → IsAt lines answers exchanges p.read (statement_done most_statements line) t → StandsIn lines answers exchanges p
refused_on lines line answers exchanges t seen report p nothing is here frames free refused h =
    rests lines answers exchanges p nothing
    (subst (λ (s : PlainTerminal). IsAt lines answers exchanges p.read (λ c. c) s) (sym is)
    (refused_at lines line answers exchanges p.read t report h (subst (λ (w : PlainWorkspace). read_with w line ≡ Err report) here refused) (sym (ap (λ (w : PlainWorkspace). w.frames) here) ∙ frames) free))

pub refused_by : (lines : List (List ℕ)) (line : List ℕ) (answers : List PlainAnswer) (exchanges : List Exchange) (t : PlainTerminal) (seen : PlainWorkspace) (why : Fail) (p : Progress) → p.under_way ≡ under_way.Nothing → FailsBy why line t p.terminal → seen ≡ t.workspace → seen.frames ≡ []
    → t.definition ≡ None → IsNotRead (read_with seen line) why → IsAt lines answers exchanges p.read (statement_done most_statements line) t → StandsIn lines answers exchanges p
refused_by lines line answers exchanges t seen (fail.Report report) p nothing is here frames free refused h = refused_on lines line answers exchanges t seen report p nothing is here frames free refused h
refused_by lines line answers exchanges t seen fail.WantOfMemory p nothing is here frames free refused h = absurd is

-- a machine that is idle is so without its lines
pub idle_after : (n after : PlainMachine) → IsIdle n → after ≡ silent n → IsIdle after
idle_after n after idle is = subst IsIdle (sym is) (record { stage = idle.stage; stack = idle.stack; frames = idle.frames })

-- where a run stopped, the machine is idle if the line is over
pub idle_at : (counted : ℕ) (m n after : PlainMachine) (stop : Stop) → StopsAs m counted n stop → after ≡ silent n → IsIdleAt after stop
idle_at counted m n after stop.Done ends is = idle_after n after ends.idle is
idle_at counted m n after (stop.Failed report) ends is = idle_after n after ends.idle is
idle_at counted m n after (stop.Asks act) asks is = tt

-- where no line was printed the terminal stays as it was
pub none_printed : (t : PlainTerminal) (lines : List (List ℕ)) → lines ≡ [] → t ≡ printing lines t
none_printed t lines none = ap (λ transcript. record t { transcript = transcript }) (sym (append-nil t.transcript)) ∙ ap (λ list. printing list t) (sym none)

-- where it stopped, the session went on
pub stopped_on : (lines : List (List ℕ)) (answers : List PlainAnswer) (exchanges : List Exchange) (counted : ℕ) (m n : PlainMachine) (stop : Stop) (before p : Progress) → before.under_way ≡ under_way.Nothing → before.terminal.definition ≡ None → StopsAs m counted n stop
    → StandsOn n 0 [] n.interpreter.output (silent n) → PausesAt (silent n) stop (with_output_of n before) p → IsUnderWay lines answers exchanges before.read before.terminal m → StandsIn lines answers exchanges p
stopped_on lines answers exchanges counted m n stop.Done before p none free ends on pauses h =
    done_on lines answers exchanges before.read counted m n (silent n) p before.terminal free ends refl (ap (λ (x : Progress). x.terminal) pauses) (ap (λ (x : Progress). x.read) pauses) (ap (λ (x : Progress). x.under_way) pauses ∙ none) h
stopped_on lines answers exchanges counted m n (stop.Failed report) before p none free ends on pauses h =
    reported_on lines answers exchanges before.read counted report m n (silent n) p before.terminal free ends refl (ap (λ (x : Progress). x.terminal) pauses) (ap (λ (x : Progress). x.read) pauses) (ap (λ (x : Progress). x.under_way) pauses ∙ none) h
stopped_on lines answers exchanges counted m n (stop.Asks act) before p none free asks on pauses h =
    asked_on lines answers exchanges before.read counted act m n (silent n) p before.terminal free asks refl on (ap (λ (x : Progress). x.terminal) pauses.1) (ap (λ (x : Progress). x.read) pauses.1) pauses.0 h

-- the act of a machine waits behind it
pub waits_for : (b : Box PlainMachine) (act : Act) (before after : Progress) → after.under_way ≡ under_way.Asking b act → after ≡ record before { under_way = after.under_way } → PausesAt b.value (stop.Asks act) before after
waits_for b act before after waiting rest = (subst (λ (u : UnderWay). Waits b.value act u) (sym waiting) (refl, refl), rest)

-- the act of a line that waits is open
pub open_there : (count read : ℕ) (t : PlainTerminal) (u : UnderWay) (b : Box PlainMachine) (act : Act) → u ≡ under_way.Asking b act → IsOpenLine count read t u → IsOpenStage b.value.stage
open_there count read t u b act waiting h =
    let is : IsOpenAct b.value act = subst (IsOpenLine count read t) waiting h in open_stage b.value.interpreter.workspace b.value.stage act is

-- a line whose act is answered
pub answered_on : (lines : List (List ℕ)) (answers : List PlainAnswer) (exchanges : List Exchange) (act : Act) (answer : PlainAnswer) (b : Box PlainMachine) (before after : Progress) (left : UnderWay) → before.under_way ≡ under_way.Asking b act
    → IsHanded b.value answer (record before { under_way = left }) after → StandsIn lines answers exchanges before → IsAnswered lines answers exchanges act answer after
answered_on lines answers exchanges act answer b before after left waiting is h =
    let at : StandsBy lines answers exchanges before.read before.terminal (under_way.Asking b act) = subst (λ (u : UnderWay). StandsBy lines answers exchanges before.read before.terminal u) waiting h in
    let there : IsUnderWay lines (answers ++ answer ∷ []) exchanges before.read before.terminal is.handed.value =
    subst (λ printed. IsUnderWay lines (answers ++ answer ∷ []) exchanges before.read (record before.terminal { transcript = printed }) is.handed.value) (append-nil before.terminal.transcript) (taken_on lines answers (answer ∷ []) exchanges before.read 0 before.terminal [] b.value is.handed.value at.1 is.stands) in
    subst (λ (p : Progress). IsAnswered lines answers exchanges act answer p) (sym is.rest) (record { waited = at.2.waiting.waits; stands = (at.0, there, is.may); may = (at.0, is.may) })

-- a line that was answered is under way
pub answered_there : (lines : List (List ℕ)) (answers : List PlainAnswer) (exchanges : List Exchange) (p : Progress) (b : Box PlainMachine) → p.under_way ≡ under_way.Answered b → StandsIn lines answers exchanges p → IsUnderWay lines answers exchanges p.read p.terminal b.value
answered_there lines answers exchanges p b waits h = let at : StandsBy lines answers exchanges p.read p.terminal (under_way.Answered b) = subst (λ (u : UnderWay). StandsBy lines answers exchanges p.read p.terminal u) waits h in at.1

-- and it may run
pub answered_runs : (t : PlainTerminal) (u : UnderWay) (b : Box PlainMachine) → u ≡ under_way.Answered b → MayAdvance t u → (t.definition ≡ None) × MayRun b.value.stage
answered_runs t u b waits may = subst (MayAdvance t) waits may

-- ---- a line that is one act alone

-- its answer can be given
pub may_hear_there : (count read : ℕ) (t : PlainTerminal) (u : UnderWay) (asked : Act) → u ≡ under_way.Alone asked → IsOpenLine count read t u → MayHear count read t asked
may_hear_there count read t u asked waits h = subst (IsOpenLine count read t) waits h

-- the line that was read last is the one at the place before
line_is_last : (lines : List (Listed ℕ)) (read : ℕ) (found : Listed ℕ) (line : List ℕ) → 0 < read → read ≤ length lines → found ≡ get_or lines (read - 1) found → IsLastRead (map glyphs_in lines) read line → line ≡ found.items
line_is_last lines read found line some within is last =
    let place : read - 1 ≡ last.before = omega (arith, last.read_is) in
    let here : line ∷ last.rest ≡ found.items ∷ drop (read - 1 + 1) (map glyphs_in lines) = sym last.here ∙ ap (λ k. drop k (map glyphs_in lines)) (sym place) ∙ line_at lines (read - 1) found (omega (arith, some, within)) is in
    cc

-- it was given its answer
pub heard_on : (lines : List (Listed ℕ)) (answers : List PlainAnswer) (exchanges : List Exchange) (asked : Act) (answer : PlainAnswer) (found : Listed ℕ) (before after : Progress) → before.under_way ≡ under_way.Alone asked → after.under_way ≡ under_way.Nothing → after.read ≡ before.read
    → 0 < before.read → before.read ≤ length lines → found ≡ get_or lines (before.read - 1) found
    → ((list : List (List ℕ)) (given : List PlainAnswer) (had : List Exchange) → IsAt list given had before.read (statement_done most_statements found.items) before.terminal → IsAlone before.terminal.workspace found.items asked → IsBetween list (given ++ answer ∷ []) had before.read after.terminal)
    → StandsIn (map glyphs_in lines) answers exchanges before → IsAnswered (map glyphs_in lines) answers exchanges asked answer after
heard_on lines answers exchanges asked answer found before after waits nothing same some within is goes h =
    let list : List (List ℕ) = map glyphs_in lines in
    let waiting : IsWaitingAlone list answers exchanges before.read before.terminal asked = subst (λ (u : UnderWay). StandsBy list answers exchanges before.read before.terminal u) waits h in
    let line : waiting.line ≡ found.items = line_is_last lines before.read found waiting.line some within is waiting.last in
    let between : IsBetween list (answers ++ answer ∷ []) exchanges before.read after.terminal =
    goes list answers exchanges (subst (λ (glyphs : List ℕ). IsAt list answers exchanges before.read (statement_done most_statements glyphs) before.terminal) line waiting.at) (subst (λ (glyphs : List ℕ). IsAlone before.terminal.workspace glyphs asked) line waiting.alone) in
    record {
      waited = (let w = alone_waiting list answers exchanges before.read before.terminal asked waiting in w.waits);
      stands = rests list (answers ++ answer ∷ []) exchanges after nothing (subst (λ (k : ℕ). IsBetween list (answers ++ answer ∷ []) exchanges k after.terminal) (sym same) between);
      may = subst (MayAdvance after.terminal) (sym nothing) tt;
    }

-- ---- commands

-- what is left of a command that asks an act stands so
pub asks_command : (lines : List (List ℕ)) (answers : List PlainAnswer) (exchanges : List Exchange) (errand : Errand) (asked : Act) (before after : Progress) → Commands errand asked before after → before.terminal.definition ≡ None → IsErrand errand before.terminal.workspace → IsFirstAct errand before.terminal.workspace asked
    → IsAt lines answers exchanges before.read (errand_rest errand) before.terminal → StandsIn lines answers exchanges after
asks_command lines answers exchanges errand asked before after is free fit first at =
    subst (λ (p : Progress). StandsIn lines answers exchanges p) (sym is.rest) (
      subst (λ (e : Errand). IsCommanded lines answers exchanges before.read before.terminal e) (sym is.is) (record { free = free; fit = fit; at = at }),
      subst (λ (e : Errand). IsFirstAct e before.terminal.workspace asked) (sym is.is) first,
    )

pub asks_paused : (errand : Errand) (asked : Act) (before after : Progress) → Commands errand asked before after → IsPaused after.under_way
asks_paused errand asked before after is = subst (λ (p : Progress). IsPaused p.under_way) (sym is.rest) tt

-- one that may go on behind an answer
pub behind_command : (lines : List (List ℕ)) (answers : List PlainAnswer) (exchanges : List Exchange) (errand : Errand) (before after : Progress) → MayGoBehind errand before after → IsCommanded lines answers exchanges before.read before.terminal errand → StandsIn lines answers exchanges after
behind_command lines answers exchanges errand before after is h =
    subst (λ (p : Progress). StandsIn lines answers exchanges p) (sym is.rest) (subst (λ (e : Errand). IsCommanded lines answers exchanges before.read before.terminal e) (sym is.is) h)

pub behind_may : (errand : Errand) (before after : Progress) → MayGoBehind errand before after → before.terminal.definition ≡ None → IsErrand errand before.terminal.workspace → MayAdvance after.terminal after.under_way
behind_may errand before after is free fit =
    subst (λ (p : Progress). MayAdvance p.terminal p.under_way) (sym is.rest) (record { free = free; fit = subst (λ (e : Errand). IsErrand e before.terminal.workspace) (sym is.is) fit })

-- what waits for its answer is a command
pub command_there : (lines : List (List ℕ)) (answers : List PlainAnswer) (exchanges : List Exchange) (p : Progress) (b : Box Errand) (asked : Act) → p.under_way ≡ under_way.Commanding b asked → StandsIn lines answers exchanges p → IsCommanded lines answers exchanges p.read p.terminal b.value × IsFirstAct b.value p.terminal.workspace asked
command_there lines answers exchanges p b asked waits h = subst (λ (u : UnderWay). StandsBy lines answers exchanges p.read p.terminal u) waits h

pub may_hear_command : (count read : ℕ) (t : PlainTerminal) (u : UnderWay) (b : Box Errand) (asked : Act) → u ≡ under_way.Commanding b asked → IsOpenLine count read t u → CommandMayGoOn t b.value × IsFirstAct b.value t.workspace asked
may_hear_command count read t u b asked waits h = subst (IsOpenLine count read t) waits h

-- what holds of a value holds of an answer that is this value
pub if_ok_at : {T E A B : Type 0} (r : Result T E) (t : T) (P : T → Type 0) → IfOk r (λ x. x ≡ t) → OnOk r A → OnOk r B → (A → B → P t) → IfOk r P
if_ok_at (Ok x) t P is a b leads = subst P (sym is) (leads a b)
if_ok_at (Err e) t P is a b leads = tt

-- it was given its answer
pub command_heard : (lines : List (List ℕ)) (answers : List PlainAnswer) (exchanges : List Exchange) (asked : Act) (answer : PlainAnswer) (b : Box Errand) (before after : Progress) → before.under_way ≡ under_way.Commanding b asked
    → ((list : List (List ℕ)) (given : List PlainAnswer) (had : List Exchange) → IsCommanded list given had before.read before.terminal b.value → StandsIn list (given ++ answer ∷ []) had after) → MayAdvance after.terminal after.under_way
    → StandsIn lines answers exchanges before → IsAnswered lines answers exchanges asked answer after
command_heard lines answers exchanges asked answer b before after waits goes may h =
    let at = command_there lines answers exchanges before b asked waits h in
    let w = command_waiting lines answers exchanges before.read before.terminal b.value asked at.0 at.1 in
    record { waited = w.waits; stands = goes lines answers exchanges at.0; may = may }

-- a command that was answered
pub commanded_there : (lines : List (List ℕ)) (answers : List PlainAnswer) (exchanges : List Exchange) (p : Progress) (b : Box Errand) → p.under_way ≡ under_way.Commanded b → StandsIn lines answers exchanges p → IsCommanded lines answers exchanges p.read p.terminal b.value
commanded_there lines answers exchanges p b is h = subst (λ (u : UnderWay). StandsBy lines answers exchanges p.read p.terminal u) is h

pub commanded_may : (t : PlainTerminal) (u : UnderWay) (b : Box Errand) → u ≡ under_way.Commanded b → MayAdvance t u → CommandMayGoOn t b.value
commanded_may t u b is may = subst (MayAdvance t) is may
