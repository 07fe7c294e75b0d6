-- A command that is under way: what waits for its answer, and what the answer does.
use Rattle.std.proofs.Common.{◌≡◌, ℕ, ◌+◌, List, [], ◌∷◌, ◌++◌, ◌<◌, cond, Bool, true, false, drop, get_or, length, refl, sym, ap, ap₂, subst, ◌∙◌, append-nil, append_assoc, arith}
use Rattle.std.proofs.Math.Nat.{lt_of_not-le}
use Rattle.std.proofs.lemmas.List.{drop-drop, drop_all, drop_more}
use Rattle.std.specs.Prelude.{Option, Some, None, IfSome, nat_le}
use Rattle.apl_arrays.specs.Array.{PlainArray}
use Rattle.apl_arrays.specs.declared.report.Report.{Report}
use Rattle.apl_io.specs.Content.{Told}
use Rattle.apl_meaning.specs.Meaning.{most_statements}
use Rattle.apl_workspace.specs.Limits.{most_weight}
use Rattle.apl_workspace.specs.Meaning.{own_copy_in}
use Rattle.apl_workspace.specs.Workspace.{IsWorkspace, PlainWorkspace, is_shared, unmarked, unshared, workspace_weight}
use Rattle.apl_workspace.specs.declared.remake.Remake.{Remake}
use Rattle.sv_events.specs.Answer.{PlainAnswer}
use Rattle.sv_events.specs.Row.{answer_row}
use Rattle.sv_events.specs.declared.event.Act.{Act}
use Rattle.sv_events.specs.declared.event.Act.TheVariants as act
use Rattle.ws_commands.specs.Finish.{MayBeMade, MayComeIn, workspace_brought}
use Rattle.ws_commands.specs.Reading.{step_of}
use Rattle.ws_commands.specs.Shelf.{TakesStep}
use Rattle.ws_commands.specs.Todo.{PlainChange, PlainTodo, given_up, plain_change, plain_todo}
use Rattle.ws_commands.specs.declared.todo.Change.TheVariants.{Keep}
use Rattle.ws_commands.proofs.Changes.{first_is_shared, next_unmarked, next_with_copy}
use Rattle.apl_terminal.specs.Commands.{finishing, naming_alone, telling, unshared_with, unsharing, value_kept}
use Rattle.apl_terminal.specs.Terminal.{PlainTerminal}
use Rattle.session_rules.specs.Commands.{change_made, command_done, command_end, lines_told, offer_again, remaking, retracting, shared_again, todo_done, unless_reported}
use Rattle.session_rules.specs.Course.{Course, course_at, with_terminal}
use Rattle.session_rules.specs.Session.{lines_done, session_of}
use Rattle.session_rules.specs.Shelf.{Exchange, IsShelfRun, ShelfReply, shelf_replies_in}
use Rattle.session_rules.proofs.MoreAnswers.{waits_on}
use Rattle.session_rules.proofs.Shelves.{IsStepped, replies_behind, stepped}
use Rattle.apl_session.specs.Errands.{IsErrand, IsFirstAct, IsFirstIn, IsOfferAgain, IsRetraction, MayBeDoneIn, MayChange, errand_rest, names_left, offers_left, rest_in}
use Rattle.apl_session.specs.Standing.{IsAt, IsBetween, IsCommanded, IsWaitingFor}
use Rattle.apl_session.specs.declared.errand.Errand.{Errand}
use Rattle.apl_session.specs.declared.errand.Phase.{Phase}
use Rattle.apl_session.specs.declared.errand.Phase.TheVariants as phase

-- what is left behind the first
pub rest_behind : {X : Type 0} (list others : List X) (first : X) (done : ℕ) → drop done list ≡ first ∷ others → drop (done + 1) list ≡ others
rest_behind list others first done here = sym (drop-drop 1 done list) ∙ ap (drop 1) here

-- an item that is left, and those behind it
pub here_and_behind : {X : Type 0} (list : List X) (done : ℕ) (item : X) → done < length list → item ≡ get_or list done item → drop done list ≡ item ∷ drop (done + 1) list
here_and_behind list done item within is = drop_more list done item within ∙ ap (λ first. first ∷ drop (done + 1) list) (sym is)

-- where one is left not all are done
pub some_left : {X : Type 0} (list others : List X) (first : X) (done : ℕ) → drop done list ≡ first ∷ others → done < length list
some_left list others first done here = lt_of_not-le (λ beyond. let no : [] ≡ first ∷ others = sym (drop_all done list beyond) ∙ here in cc)

-- the next name is retracted
pub retracts_next : (errand : Errand) (w : PlainWorkspace) (name : List ℕ) → errand.phase ≡ phase.Retracting → errand.retracted < length errand.todo.retract.items → name ≡ get_or errand.todo.retract.items errand.retracted name → IsFirstAct errand w (act.Retract name)
retracts_next errand w name ph within is =
    subst (λ (p : Phase). IsFirstIn p errand w (act.Retract name)) (sym ph)
    (record { name = name; others = drop (errand.retracted + 1) errand.todo.retract.items; names_are = here_and_behind errand.todo.retract.items errand.retracted name within is; act_is = refl })

-- the next offer is made
pub makes_next : (errand : Errand) (w : PlainWorkspace) (offer : Remake) → errand.phase ≡ phase.Remaking → errand.remade < length errand.todo.remakes.items → offer ≡ get_or errand.todo.remakes.items errand.remade offer → IsFirstAct errand w (offer_again offer w)
makes_next errand w offer ph within is =
    subst (λ (p : Phase). IsFirstIn p errand w (offer_again offer w)) (sym ph)
    (record { offer = offer; others = drop (errand.remade + 1) errand.todo.remakes.items; offers_are = here_and_behind errand.todo.remakes.items errand.remade offer within is; act_is = refl })

-- where an act is the first that is left, a name is left or an offer
pub name_is_left : (errand : Errand) (w : PlainWorkspace) (asked : Act) → errand.phase ≡ phase.Retracting → IsFirstAct errand w asked → errand.retracted < length errand.todo.retract.items
name_is_left errand w asked ph first =
    let f : IsRetraction (names_left errand) asked = subst (λ (p : Phase). IsFirstIn p errand w asked) ph first in some_left errand.todo.retract.items f.others f.name errand.retracted f.names_are

pub offer_is_left : (errand : Errand) (w : PlainWorkspace) (asked : Act) → errand.phase ≡ phase.Remaking → IsFirstAct errand w asked → errand.remade < length errand.todo.remakes.items
offer_is_left errand w asked ph first =
    let f : IsOfferAgain (offers_left errand) w asked = subst (λ (p : Phase). IsFirstIn p errand w asked) ph first in some_left errand.todo.remakes.items f.others f.offer errand.remade f.offers_are

-- while offers are made again, what is left may be done on any workspace
pub may_be_remade : (errand : Errand) (w : PlainWorkspace) → errand.phase ≡ phase.Remaking → IsErrand errand w
may_be_remade errand w ph = subst (λ (p : Phase). MayBeDoneIn p errand w) (sym ph) tt

-- a name that is next to be retracted is shared
pub next_is_shared : (errand : Errand) (w : PlainWorkspace) (name : List ℕ) → IsWorkspace w → errand.phase ≡ phase.Retracting → errand.retracted < length errand.todo.retract.items → name ≡ get_or errand.todo.retract.items errand.retracted name → IsErrand errand w → is_shared w name ≡ true
next_is_shared errand w name rules ph within is fit =
    let before : MayChange (names_left errand) (plain_change errand.todo.change) errand.remade w = subst (λ (p : Phase). MayBeDoneIn p errand w) ph fit in
    first_is_shared (plain_change errand.todo.change) w name (drop (errand.retracted + 1) errand.todo.retract.items) rules (sym before.names_are ∙ here_and_behind errand.todo.retract.items errand.retracted name within is)

-- ---- it waits

-- without an answer its first act waits
first_waits : (ph : Phase) (errand : Errand) (asked : Act) (t : PlainTerminal) (acts : List Act) (exchanges : List Exchange) (more : List ShelfReply) → IsFirstIn ph errand t.workspace asked
    → rest_in ph errand (course_at t acts exchanges [] more) ≡ record (course_at t acts exchanges [] more) { waits = Some asked }
first_waits phase.Retracting errand asked t acts exchanges more f =
    ap (λ names. retracting names (change_made errand.line.items (plain_todo errand.todo)) (course_at t acts exchanges [] more)) f.names_are
    ∙ ap (λ (a : Act). record (course_at t acts exchanges [] more) { waits = Some a }) (sym f.act_is)
first_waits phase.Remaking errand asked t acts exchanges more f =
    ap (λ (offers : List Remake). remaking offers (lines_told errand.line.items (plain_todo errand.todo)) (course_at t acts exchanges [] more)) f.offers_are
    ∙ ap (λ (a : Act). record (course_at t acts exchanges [] more) { waits = Some a }) (sym f.act_is)

command_course : (lines : List (List ℕ)) (answers : List PlainAnswer) (exchanges : List Exchange) (read : ℕ) (t : PlainTerminal) (errand : Errand) (asked : Act) → (h : IsCommanded lines answers exchanges read t errand) → IsFirstAct errand t.workspace asked → (more : List ShelfReply)
    → session_of lines answers (shelf_replies_in exchanges ++ more) ≡ record (course_at t h.at.acts exchanges [] more) { waits = Some asked }
command_course lines answers exchanges read t errand asked h f more =
    ap (λ given. session_of lines given (shelf_replies_in exchanges ++ more)) (sym (append-nil answers))
    ∙ h.at.same [] more
    ∙ ap (lines_done most_statements (drop read lines)) (first_waits errand.phase errand asked t h.at.acts exchanges more f)
    ∙ waits_on most_statements (drop read lines) (record (course_at t h.at.acts exchanges [] more) { waits = Some asked }) asked refl

pub command_waiting : (lines : List (List ℕ)) (answers : List PlainAnswer) (exchanges : List Exchange) (read : ℕ) (t : PlainTerminal) (errand : Errand) (asked : Act) → IsCommanded lines answers exchanges read t errand → IsFirstAct errand t.workspace asked
    → IsWaitingFor lines answers exchanges t.transcript asked
command_waiting lines answers exchanges read t errand asked h f = record {
  waits = λ more. ap (λ (c : Course). c.waits) (command_course lines answers exchanges read t errand asked h f more);
  printed = λ more. ap (λ (c : Course). c.terminal.transcript) (command_course lines answers exchanges read t errand asked h f more);
  calls = λ more. ap (λ (c : Course). c.exchanges) (command_course lines answers exchanges read t errand asked h f more);
}

-- ---- an answer

-- lines with an answer more stand where this comes of the rest of the line
with_answer : (lines : List (List ℕ)) (answers : List PlainAnswer) (exchanges : List Exchange) (read : ℕ) (t now : PlainTerminal) (rest rest_now : Course → Course) (asked : Act) (answer : PlainAnswer) → (at : IsAt lines answers exchanges read rest t)
    → ((further : List PlainAnswer) (more : List ShelfReply) → rest (course_at t at.acts exchanges (answer ∷ further) more) ≡ rest_now (course_at now (at.acts ++ asked ∷ []) exchanges further more))
    → IsAt lines (answers ++ answer ∷ []) exchanges read rest_now now
with_answer lines answers exchanges read t now rest rest_now asked answer at comes = record {
  acts = at.acts ++ asked ∷ [];
  same = λ further more.
      ap (λ given. session_of lines given (shelf_replies_in exchanges ++ more)) (append_assoc answers (answer ∷ []) further)
      ∙ at.same (answer ∷ further) more
      ∙ ap (lines_done most_statements (drop read lines)) (comes further more);
}

-- what comes behind the first act, by the answer to it
first_takes : (ph : Phase) (errand : Errand) (asked : Act) (t : PlainTerminal) (acts : List Act) (exchanges : List Exchange) (answer : PlainAnswer) (further : List PlainAnswer) (more : List ShelfReply) (report : Report) → IsFirstIn ph errand t.workspace asked
    → command_end (answer_row answer).row.kind ≡ Some report → rest_in ph errand (course_at t acts exchanges (answer ∷ further) more) ≡ course_at (naming_alone report t) (acts ++ asked ∷ []) exchanges further more
first_takes phase.Retracting errand asked t acts exchanges answer further more report f ends =
    let next : Course → Course = change_made errand.line.items (plain_todo errand.todo) in
    ap (λ names. retracting names next (course_at t acts exchanges (answer ∷ further) more)) f.names_are
    ∙ ap (λ (a : Act). unless_reported (command_end (answer_row answer).row.kind) (λ d. retracting f.others next (with_terminal (unsharing f.name answer d.terminal) d)) (course_at t (acts ++ a ∷ []) exchanges further more)) (sym f.act_is)
    ∙ ap (λ o. unless_reported o (λ d. retracting f.others next (with_terminal (unsharing f.name answer d.terminal) d)) (course_at t (acts ++ asked ∷ []) exchanges further more)) ends
first_takes phase.Remaking errand asked t acts exchanges answer further more report f ends =
    let next : Course → Course = lines_told errand.line.items (plain_todo errand.todo) in
    ap (λ (offers : List Remake). remaking offers next (course_at t acts exchanges (answer ∷ further) more)) f.offers_are
    ∙ ap (λ (a : Act). unless_reported (command_end (answer_row answer).row.kind) (λ d. remaking f.others next (with_terminal (shared_again f.offer d.terminal) d)) (course_at t (acts ++ a ∷ []) exchanges further more)) (sym f.act_is)
    ∙ ap (λ o. unless_reported o (λ d. remaking f.others next (with_terminal (shared_again f.offer d.terminal) d)) (course_at t (acts ++ asked ∷ []) exchanges further more)) ends

-- an answer that ends the command
pub command_ended : (lines : List (List ℕ)) (answers : List PlainAnswer) (exchanges : List Exchange) (read : ℕ) (t : PlainTerminal) (errand : Errand) (asked : Act) (answer : PlainAnswer) (report : Report) → IsFirstAct errand t.workspace asked
    → command_end (answer_row answer).row.kind ≡ Some report → IsCommanded lines answers exchanges read t errand → IsBetween lines (answers ++ answer ∷ []) exchanges read (naming_alone report t)
command_ended lines answers exchanges read t errand asked answer report f ends h =
    with_answer lines answers exchanges read t (naming_alone report t) (errand_rest errand) (λ c. c) asked answer h.at (λ further more. first_takes errand.phase errand asked t h.at.acts exchanges answer further more report f ends)

-- the retraction of a name, by an answer that does not end the command
retracted_one : (names others : List (List ℕ)) (name : List ℕ) (next : Course → Course) (t : PlainTerminal) (acts : List Act) (exchanges : List Exchange) (answer : PlainAnswer) (further : List PlainAnswer) (more : List ShelfReply) → names ≡ name ∷ others
    → command_end (answer_row answer).row.kind ≡ None → retracting names next (course_at t acts exchanges (answer ∷ further) more) ≡ retracting others next (course_at (unsharing name answer t) (acts ++ act.Retract name ∷ []) exchanges further more)
retracted_one names others name next t acts exchanges answer further more is goes =
    ap (λ list. retracting list next (course_at t acts exchanges (answer ∷ further) more)) is
    ∙ ap (λ o. unless_reported o (λ d. retracting others next (with_terminal (unsharing name answer d.terminal) d)) (course_at t (acts ++ act.Retract name ∷ []) exchanges further more)) goes

printed_kept : (b : Bool) (v w : PlainWorkspace) → v.printed ≡ w.printed → (cond b v w).printed ≡ w.printed
printed_kept true v w same = same
printed_kept false v w same = refl

-- a name that is shared no more does not change how much was printed
same_printed : (value : Option (Option PlainArray)) (name : List ℕ) (w : PlainWorkspace) → (unshared_with value name w).printed ≡ w.printed
same_printed None name w = refl
same_printed (Some value) name w = printed_kept (nat_le (workspace_weight (unshared w name value)) most_weight) (unshared w name value) (unshared w name (own_copy_in w.globals name)) refl

still_comes : (new : Option PlainWorkspace) (v w : PlainWorkspace) → v.printed ≡ w.printed → IfSome new (MayComeIn w) → IfSome new (MayComeIn v)
still_comes None v w same h = tt
still_comes (Some new) v w same h = record { frames = h.frames; printed = omega (arith, same, h.printed) }

next_given : (value : Option (Option PlainArray)) (change : PlainChange) (w : PlainWorkspace) (name : List ℕ) (others : List (List ℕ)) → IsWorkspace w → given_up change w ≡ name ∷ others → given_up change (unshared_with value name w) ≡ others
next_given None change w name others rules is = next_with_copy change w name others rules is
next_given (Some value) change w name others rules is = next_unmarked change w name others value rules is

-- the next name is shared no more
pub unshared_there : (errand : Errand) (w : PlainWorkspace) (name : List ℕ) (others : List (List ℕ)) (answer : PlainAnswer) → IsWorkspace w → names_left errand ≡ name ∷ others → errand.phase ≡ phase.Retracting → IsErrand errand w
    → IsErrand (record errand { retracted = errand.retracted + 1 }) (unshared_with (value_kept answer) name w)
unshared_there errand w name others answer rules is ph fit =
    let before : MayChange (names_left errand) (plain_change errand.todo.change) errand.remade w = subst (λ (p : Phase). MayBeDoneIn p errand w) ph fit in
    subst (λ (p : Phase). MayBeDoneIn p (record errand { retracted = errand.retracted + 1 }) (unshared_with (value_kept answer) name w)) (sym ph)
    (record {
      names_are = rest_behind errand.todo.retract.items others name errand.retracted is ∙ sym (next_given (value_kept answer) (plain_change errand.todo.change) w name others rules (sym before.names_are ∙ is));
      comes = still_comes (workspace_brought (plain_change errand.todo.change)) (unshared_with (value_kept answer) name w) w (same_printed (value_kept answer) name w) before.comes;
      none_made = before.none_made;
    })

pub command_retracted : (lines : List (List ℕ)) (answers : List PlainAnswer) (exchanges : List Exchange) (read : ℕ) (t : PlainTerminal) (errand : Errand) (name : List ℕ) (others : List (List ℕ)) (answer : PlainAnswer) → IsWorkspace t.workspace → names_left errand ≡ name ∷ others → errand.phase ≡ phase.Retracting
    → command_end (answer_row answer).row.kind ≡ None → IsCommanded lines answers exchanges read t errand → IsCommanded lines (answers ++ answer ∷ []) exchanges read (unsharing name answer t) (record errand { retracted = errand.retracted + 1 })
command_retracted lines answers exchanges read t errand name others answer rules is ph goes h =
    let next : Course → Course = change_made errand.line.items (plain_todo errand.todo) in
    let before : IsAt lines answers exchanges read (rest_in phase.Retracting errand) t = subst (λ (p : Phase). IsAt lines answers exchanges read (rest_in p errand) t) ph h.at in
    let after : Errand = record errand { retracted = errand.retracted + 1 } in
    record {
      free = h.free;
      fit = unshared_there errand t.workspace name others answer rules is ph h.fit;
      at = subst (λ (p : Phase). IsAt lines (answers ++ answer ∷ []) exchanges read (rest_in p after) (unsharing name answer t)) (sym ph)
          (with_answer lines answers exchanges read t (unsharing name answer t) (rest_in phase.Retracting errand) (rest_in phase.Retracting after) (act.Retract name) answer before (λ further more.
          retracted_one (names_left errand) others name next t before.acts exchanges answer further more is goes
          ∙ ap (λ list. retracting list next (course_at (unsharing name answer t) (before.acts ++ act.Retract name ∷ []) exchanges further more)) (sym (rest_behind errand.todo.retract.items others name errand.retracted is))));
    }

-- an offer that was made, by an answer that does not end the command
remade_one : (offers others : List Remake) (offer : Remake) (next : Course → Course) (t : PlainTerminal) (acts : List Act) (exchanges : List Exchange) (answer : PlainAnswer) (further : List PlainAnswer) (more : List ShelfReply) → offers ≡ offer ∷ others
    → command_end (answer_row answer).row.kind ≡ None → remaking offers next (course_at t acts exchanges (answer ∷ further) more) ≡ remaking others next (course_at (shared_again offer t) (acts ++ offer_again offer t.workspace ∷ []) exchanges further more)
remade_one offers others offer next t acts exchanges answer further more is goes =
    ap (λ (list : List Remake). remaking list next (course_at t acts exchanges (answer ∷ further) more)) is
    ∙ ap (λ o. unless_reported o (λ d. remaking others next (with_terminal (shared_again offer d.terminal) d)) (course_at t (acts ++ offer_again offer t.workspace ∷ []) exchanges further more)) goes

pub command_remade : (lines : List (List ℕ)) (answers : List PlainAnswer) (exchanges : List Exchange) (read : ℕ) (t : PlainTerminal) (errand : Errand) (offer : Remake) (others : List Remake) (answer : PlainAnswer) → offers_left errand ≡ offer ∷ others → errand.phase ≡ phase.Remaking
    → command_end (answer_row answer).row.kind ≡ None → IsCommanded lines answers exchanges read t errand → IsCommanded lines (answers ++ answer ∷ []) exchanges read (shared_again offer t) (record errand { remade = errand.remade + 1 })
command_remade lines answers exchanges read t errand offer others answer is ph goes h =
    let next : Course → Course = lines_told errand.line.items (plain_todo errand.todo) in
    let before : IsAt lines answers exchanges read (rest_in phase.Remaking errand) t = subst (λ (p : Phase). IsAt lines answers exchanges read (rest_in p errand) t) ph h.at in
    let after : Errand = record errand { remade = errand.remade + 1 } in
    record {
      free = h.free;
      fit = subst (λ (p : Phase). MayBeDoneIn p after (shared_again offer t).workspace) (sym ph) tt;
      at = subst (λ (p : Phase). IsAt lines (answers ++ answer ∷ []) exchanges read (rest_in p after) (shared_again offer t)) (sym ph)
          (with_answer lines answers exchanges read t (shared_again offer t) (rest_in phase.Remaking errand) (rest_in phase.Remaking after) (offer_again offer t.workspace) answer before (λ further more.
          remade_one (offers_left errand) others offer next t before.acts exchanges answer further more is goes
          ∙ ap (λ (list : List Remake). remaking list next (course_at (shared_again offer t) (before.acts ++ offer_again offer t.workspace ∷ []) exchanges further more)) (sym (rest_behind errand.todo.remakes.items others offer errand.remade is))));
    }

-- ---- on to the next act, or to the end

-- what is done to the terminal is done, and this is left
pub led_on : (lines : List (List ℕ)) (answers : List PlainAnswer) (exchanges : List Exchange) (read : ℕ) (t now : PlainTerminal) (rest rest_now : Course → Course) → (at : IsAt lines answers exchanges read rest t)
    → ((further : List PlainAnswer) (more : List ShelfReply) → rest (course_at t at.acts exchanges further more) ≡ rest_now (course_at now at.acts exchanges further more)) → IsAt lines answers exchanges read rest_now now
led_on lines answers exchanges read t now rest rest_now at comes = record { acts = at.acts; same = λ further more. at.same further more ∙ ap (lines_done most_statements (drop read lines)) (comes further more) }

-- where no name is left the change may be made
pub may_be_made : (errand : Errand) (w : PlainWorkspace) → names_left errand ≡ [] → errand.phase ≡ phase.Retracting → IsErrand errand w → MayBeMade (plain_change errand.todo.change) w
may_be_made errand w none ph fit =
    let before : MayChange (names_left errand) (plain_change errand.todo.change) errand.remade w = subst (λ (p : Phase). MayBeDoneIn p errand w) ph fit in
    record { retracted = sym before.names_are ∙ none; comes = before.comes }

-- a command whose change was made, and is kept no longer
abbrev pub changed_errand : Errand → Errand
changed_errand errand = record errand { todo = record errand.todo { change = Keep }; phase = phase.Remaking }

-- and the offers are left
pub change_led : (lines : List (List ℕ)) (answers : List PlainAnswer) (exchanges : List Exchange) (read : ℕ) (t : PlainTerminal) (errand : Errand) → names_left errand ≡ [] → errand.phase ≡ phase.Retracting → IsErrand errand t.workspace
    → IsAt lines answers exchanges read (errand_rest errand) t → IsAt lines answers exchanges read (errand_rest (changed_errand errand)) (finishing (plain_change errand.todo.change) t)
change_led lines answers exchanges read t errand none ph fit at =
    let before : IsAt lines answers exchanges read (rest_in phase.Retracting errand) t = subst (λ (p : Phase). IsAt lines answers exchanges read (rest_in p errand) t) ph at in
    let may : MayChange (names_left errand) (plain_change errand.todo.change) errand.remade t.workspace = subst (λ (p : Phase). MayBeDoneIn p errand t.workspace) ph fit in
    let now : PlainTerminal = finishing (plain_change errand.todo.change) t in
    led_on lines answers exchanges read t now (rest_in phase.Retracting errand) (errand_rest (changed_errand errand)) before (λ further more.
    ap (λ names. retracting names (change_made errand.line.items (plain_todo errand.todo)) (course_at t before.acts exchanges further more)) none
    ∙ ap (λ (n : ℕ). remaking (drop n errand.todo.remakes.items) (lines_told errand.line.items (plain_todo errand.todo)) (course_at now before.acts exchanges further more)) (sym may.none_made))

-- where no offer is left the lines are printed
pub lines_led : (lines : List (List ℕ)) (answers : List PlainAnswer) (exchanges : List Exchange) (read : ℕ) (t : PlainTerminal) (errand : Errand) → offers_left errand ≡ [] → errand.phase ≡ phase.Remaking → IsAt lines answers exchanges read (errand_rest errand) t
    → IsBetween lines answers exchanges read (telling errand.line.items errand.todo.counted errand.todo.lines.items t)
lines_led lines answers exchanges read t errand none ph at =
    let before : IsAt lines answers exchanges read (rest_in phase.Remaking errand) t = subst (λ (p : Phase). IsAt lines answers exchanges read (rest_in p errand) t) ph at in
    led_on lines answers exchanges read t (telling errand.line.items errand.todo.counted errand.todo.lines.items t) (rest_in phase.Remaking errand) (λ c. c) before (λ further more.
    ap (λ (list : List Remake). remaking list (lines_told errand.line.items (plain_todo errand.todo)) (course_at t before.acts exchanges further more)) none)

-- ---- its beginning

module _ {K : Type 0} (told : K → Option (Told (ℕ × List ℕ))) (faults : K → ℕ) where
  -- with the exchange that the command had with the shelf, if it had one, what is to be done is left
  pub command_begun : (lines : List (List ℕ)) (answers : List PlainAnswer) (exchanges : List Exchange) (read : ℕ) (t : PlainTerminal) (line : List ℕ) (todo : PlainTodo) (user : ℕ) (old new : K) → TakesStep told faults user (step_of line t.workspace t.id) old todo new → IsAt lines answers exchanges read (command_done line) t
      → (more : List Exchange) × IsShelfRun told faults user old more new × IsAt lines answers (more ++ exchanges) read (todo_done line todo) t
  command_begun lines answers exchanges read t line todo user old new takes h =
      let k : IsStepped told faults user line (step_of line t.workspace t.id) todo old new = stepped told faults user line (step_of line t.workspace t.id) old todo new takes in (
        k.more,
        k.run,
        record {
          acts = h.acts;
          same = λ further rest.
              ap (λ replies. session_of lines (answers ++ further) replies) (ap (λ before. before ++ rest) (replies_behind k.more exchanges) ∙ append_assoc (shelf_replies_in exchanges) (shelf_replies_in k.more) rest)
              ∙ h.same further (shelf_replies_in k.more ++ rest)
              ∙ ap (lines_done most_statements (drop read lines)) (k.same t h.acts exchanges further rest);
        },
      )
