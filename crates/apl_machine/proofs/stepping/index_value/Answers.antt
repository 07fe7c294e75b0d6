use Rattle.std.proofs.Common.{◌≡◌, ◌∷◌, List, [], ap, subst, ◌∙◌, refl, sym}
use Rattle.std.specs.Prelude.{ℕ, None, Option, Result, Ok, Err}
use Rattle.std.proofs.lemmas.List.Elements.{All-head}
use Rattle.std.proofs.lemmas.Result.{err_from_is_err_and}
use Rattle.apl_arrays.specs.Array.{PlainArray}
use Rattle.apl_arrays.specs.declared.report.Fail.{Fail}
use Rattle.apl_items.specs.Answers.{Answers, first_report}
use Rattle.apl_items.specs.Places.{OnWantOfMemory}
use Rattle.apl_selection.specs.Indexing.{index_faults, selection_of}
use Rattle.apl_selection.proofs.WantLemmas.{on_want}
use Rattle.apl_meaning.specs.Nodes.{indexed_step, popped}
use Rattle.apl_values.specs.declared.values.StackValue.{StackValue}
use Rattle.apl_values.specs.Values.{IsStackValue, stack_value}
use Rattle.apl_statements.specs.declared.evaluation.Evaluation.{Evaluation}
use Rattle.apl_statements.specs.declared.flow.Flow.{Flow}
use Rattle.apl_statements.specs.Interpreter.{PlainInterpreter}
use Rattle.apl_statements.specs.Moves.{part_takes}
use Rattle.apl_statements.specs.Sound.{IsEvaluation}
use Rattle.apl_statements.specs.Holding.{stack_values, parts_of}
use Rattle.apl_statements.specs.Wants.{NoReportIsDue}
use Rattle.apl_statements.proofs.Held.{taken_one}
use Rattle.apl_statements.proofs.Same.{comes_exit}
use Rattle.apl_statements.proofs.Taken.{caller_from, index_comes, index_ends, same_twice, taken_evaluation, taken_held}
use Rattle.apl_statements.proofs.Wants.{want_exit}
use Rattle.apl_subscripts.specs.Held.{places_at}
use Rattle.apl_machine.specs.Wants.{UnlessReport}
use Rattle.apl_machine.proofs.Indexed.{index_free, index_unless}
use Rattle.apl_machine.proofs.WantPerforms.{want_told, weaker_unless}
use Rattle.apl_machine.proofs.stepping.index_value.Goals as goal
use Rattle.apl_machine.proofs.stepping.index_value.Goals.{After-index_by-made, After-let_go_of_subs}

-- the subscripts
abbrev subs_of : PlainInterpreter → List (Option ℕ) → Evaluation → List (Option PlainArray)
subs_of m places e = (popped places (stack_values m.workspace e)).subs

-- the newest value is what is indexed
value_first : (c : After-index_by-made) → stack_values c.args.interpreter.now.workspace c.args.e ≡ stack_value c.args.interpreter.now.workspace (parts_of c.args.e) c.in_ok-held.held ∷ stack_values c.args.interpreter.now.workspace c.take.new.self
value_first c = taken_one c.args.interpreter.now.workspace c.args.e c.take.new.self c.in_ok-held.held c.take.ensures.same c.in_ok-held.ensures.taken

-- its items are told
told : (c : After-index_by-made) → Answers c.index_by-made.result (selection_of (stack_value c.args.interpreter.now.workspace (parts_of c.args.e) c.in_ok-held.held) (subs_of c.args.interpreter.now (places_at c.args.e c.args.at) c.take.new.self))
told c =
    let m : PlainInterpreter = c.args.interpreter.now in
    subst (λ (x : Evaluation). Answers c.index_by-made.result (selection_of (stack_value m.workspace (parts_of x) c.in_ok-held.held) (subs_of m (places_at x c.args.at) c.take.new.self))) c.take.ensures.same c.index_by-made.ensures.answer

wanted : (c : After-index_by-made) → OnWantOfMemory c.index_by-made.result (first_report (index_faults (stack_value c.args.interpreter.now.workspace (parts_of c.args.e) c.in_ok-held.held) (subs_of c.args.interpreter.now (places_at c.args.e c.args.at) c.take.new.self)) ≡ None)
wanted c =
    let m : PlainInterpreter = c.args.interpreter.now in
    subst (λ (x : Evaluation). OnWantOfMemory c.index_by-made.result (first_report (index_faults (stack_value m.workspace (parts_of x) c.in_ok-held.held) (subs_of m (places_at x c.args.at) c.take.new.self)) ≡ None)) c.take.ensures.same c.index_by-made.ensures.memory

-- unless a report is told none is due
free : (c : After-index_by-made) → UnlessReport c.index_by-made.result (NoReportIsDue c.args.interpreter.now (indexed_step (places_at c.args.e c.args.at) (stack_values c.args.interpreter.now.workspace c.args.e)))
free c =
    let m : PlainInterpreter = c.args.interpreter.now in
    let array : PlainArray = stack_value m.workspace (parts_of c.args.e) c.in_ok-held.held in
    let subs : List (Option PlainArray) = subs_of m (places_at c.args.e c.args.at) c.take.new.self in
    weaker_unless c.index_by-made.result (None ≡ first_report (index_faults array subs)) (NoReportIsDue m (indexed_step (places_at c.args.e c.args.at) (stack_values m.workspace c.args.e)))
    (λ none. index_free m c.args.e (places_at c.args.e c.args.at) array (stack_values m.workspace c.take.new.self) (value_first c) none)
    (index_unless c.index_by-made.result array subs (told c) (wanted c))

-- the statement differs in its values alone, and without the subscripts it is one still
same : (c : After-let_go_of_subs) → c.let_go_of_subs.new.e ≡ record c.args.e { values = c.let_go_of_subs.new.e.values }
same c = same_twice c.args.e c.take.new.self c.let_go_of_subs.new.e c.take.ensures.same c.let_go_of_subs.ensures.same

left : (c : After-let_go_of_subs) → stack_values c.args.interpreter.now.workspace c.let_go_of_subs.new.e ≡ (popped (places_at c.args.e c.args.at) (stack_values c.args.interpreter.now.workspace c.take.new.self)).values
left c =
    let m : PlainInterpreter = c.args.interpreter.now in
    c.let_go_of_subs.ensures.rest m.workspace ∙ ap (λ (x : Evaluation). (popped (places_at x c.args.at) (stack_values m.workspace c.take.new.self)).values) c.take.ensures.same

taken : (c : After-index_by-made) → IsEvaluation c.args.interpreter.now.workspace c.take.new.self
taken c = taken_evaluation c.args.interpreter.now.workspace c.args.e c.take.new.self (c.in_ok-held.held ∷ []) c.take.ensures.same c.in_ok-held.ensures.taken c.requires.sound.evaluation

pub index_by-made-requires-clause-sound : goal.index_by-made-requires-clause-sound
index_by-made-requires-clause-sound c =
    taken_evaluation c.args.interpreter.now.workspace c.args.e c.take.new.self (c.in_ok-held.held ∷ []) c.take.ensures.same c.in_ok-held.ensures.taken c.requires.sound.evaluation

pub index_by-made-requires-clause-held : goal.index_by-made-requires-clause-held
index_by-made-requires-clause-held c =
    let m : PlainInterpreter = c.args.interpreter.now in
    All-head (IsStackValue m.workspace (parts_of c.take.new.self)) c.in_ok-held.held []
    (taken_held m.workspace c.args.e c.take.new.self (c.in_ok-held.held ∷ []) c.take.ensures.same c.in_ok-held.ensures.taken c.requires.sound)

pub returns-in_err-array-clause-comes : goal.returns-in_err-array-clause-comes
returns-in_err-array-clause-comes c =
    let i = (goal.at.returns-in_err-array-clause-comes c).After-index_by-made in
    let d = (goal.at.returns-in_err-array-clause-comes c).After-let_go_of_subs in
    let m : PlainInterpreter = c.args.interpreter.now in
    let array : PlainArray = stack_value m.workspace (parts_of c.args.e) c.in_ok-held.held in
    let subs : List (Option PlainArray) = subs_of m (places_at c.args.e c.args.at) c.take.new.self in
    let exit = err_from_is_err_and c.from_residual-in_err-array.result c.from_residual-in_err-array.ensures.1 in
    let why : exit.0 ≡ c.in_err-array.field-0.0 = cc exit.2 in
    comes_exit m m (part_takes m c.args.e (indexed_step (places_at c.args.e c.args.at))) 0 c.from_residual-in_err-array.result exit.0 c.in_err-array.field-0.0 exit.1 why
    (index_ends m c.args.e c.let_go_of_subs.new.e (places_at c.args.e c.args.at) subs array (stack_values m.workspace c.take.new.self) c.in_err-array.field-0.0 (same d) (value_first i) refl (left d)
    (subst (λ (r : Result PlainArray Fail). Answers r (selection_of array subs)) c.in_err-array.was (told i)))

pub returns-in_err-array-clause-memory : goal.returns-in_err-array-clause-memory
returns-in_err-array-clause-memory c =
    let i = (goal.at.returns-in_err-array-clause-memory c).After-index_by-made in
    let m : PlainInterpreter = c.args.interpreter.now in
    let fact : Type 0 = NoReportIsDue m (indexed_step (places_at c.args.e c.args.at) (stack_values m.workspace c.args.e)) in
    let exit = err_from_is_err_and c.from_residual-in_err-array.result c.from_residual-in_err-array.ensures.1 in
    let why : exit.0 ≡ c.in_err-array.field-0.0 = cc exit.2 in
    want_exit c.from_residual-in_err-array.result exit.0 c.in_err-array.field-0.0 fact exit.1 why
    (want_told PlainArray Flow c.in_err-array.field-0.0 fact (subst (λ (r : Result PlainArray Fail). UnlessReport r fact) c.in_err-array.was (free i)))

pub give-requires-clause-sound : goal.give-requires-clause-sound
give-requires-clause-sound c =
    let i = (goal.at.give-requires-clause-sound c).After-index_by-made in
    let d = (goal.at.give-requires-clause-sound c).After-let_go_of_subs in
    caller_from c.args.interpreter.now.workspace c.args.e c.let_go_of_subs.new.e (same d) (c.let_go_of_subs.ensures.sound c.args.interpreter.now.workspace (taken i)) c.requires.sound

pub returns-clause-comes : goal.returns-clause-comes
returns-clause-comes c =
    let i = (goal.at.returns-clause-comes c).After-index_by-made in
    let d = (goal.at.returns-clause-comes c).After-let_go_of_subs in
    let m : PlainInterpreter = c.args.interpreter.now in
    let array : PlainArray = stack_value m.workspace (parts_of c.args.e) c.in_ok-held.held in
    let subs : List (Option PlainArray) = subs_of m (places_at c.args.e c.args.at) c.take.new.self in
    index_comes m c.args.e c.let_go_of_subs.new.e (places_at c.args.e c.args.at) subs array (stack_values m.workspace c.take.new.self) c.in_ok-array.array c.give.result (same d) (value_first i) refl (left d)
    (subst (λ (r : Result PlainArray Fail). Answers r (selection_of array subs)) c.in_ok-array.was (told i)) c.give.ensures.comes

pub returns-clause-memory : goal.returns-clause-memory
returns-clause-memory c =
    let i = (goal.at.returns-clause-memory c).After-index_by-made in
    let m : PlainInterpreter = c.args.interpreter.now in
    let fact : Type 0 = NoReportIsDue m (indexed_step (places_at c.args.e c.args.at) (stack_values m.workspace c.args.e)) in
    on_want c.give.result _ (subst (λ (r : Result PlainArray Fail). UnlessReport r fact) c.in_ok-array.was (free i))
