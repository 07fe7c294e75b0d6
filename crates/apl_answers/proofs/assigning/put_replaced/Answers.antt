use Rattle.std.proofs.Common.{◌≡◌, ◌∷◌, List, [], ap, sym, refl, ◌∙◌}
use Rattle.std.specs.Prelude.{ℕ, Ok, Option}
use Rattle.std.proofs.lemmas.List.Elements.{All-head}
use Rattle.apl_arrays.specs.Array.{PlainArray}
use Rattle.apl_selection.specs.Assignment.{assign_of}
use Rattle.apl_workspace.specs.declared.meaning.Meaning.TheVariants as meaning
use Rattle.apl_meaning.specs.Nodes.{items_step, popped}
use Rattle.apl_values.specs.Pending.{assigned_giving}
use Rattle.apl_values.specs.Values.{IsStackValue}
use Rattle.apl_statements.specs.declared.evaluation.Evaluation.{Evaluation}
use Rattle.apl_statements.specs.Interpreter.{PlainInterpreter}
use Rattle.apl_statements.specs.Moves.{part_gives, part_takes}
use Rattle.apl_statements.specs.Sound.{IsCaller}
use Rattle.apl_statements.specs.Holding.{parts_of, stack_values}
use Rattle.apl_statements.proofs.Same.{comes_as}
use Rattle.apl_statements.proofs.Taken.{caller_from, items_take_where, same_twice, subs_then_one, taken_held, taken_sound}
use Rattle.apl_subscripts.specs.Held.{places_at, replaced_by, subs_held}
use Rattle.apl_answers.proofs.Replacing.{replaced_as, value_replaced}
use Rattle.apl_answers.proofs.assigning.put_replaced.Goals as goal
use Rattle.apl_answers.proofs.assigning.put_replaced.Goals.{In_ok-right}

-- the statement differs in its values alone
same : (c : In_ok-right) → c.take.new.self ≡ record c.args.e { values = c.take.new.self.values }
same c = same_twice c.args.e c.let_go_of_subs.new.e c.take.new.self c.let_go_of_subs.ensures.same c.take.ensures.same

pub owned-requires : goal.owned-requires
owned-requires c =
    let m : PlainInterpreter = c.args.interpreter.now in
    All-head (IsStackValue m.workspace (parts_of c.take.new.self)) c.in_ok-held.held []
    (taken_held m.workspace c.let_go_of_subs.new.e c.take.new.self (c.in_ok-held.held ∷ []) c.take.ensures.same c.in_ok-held.ensures.taken
    (caller_from m.workspace c.args.e c.let_go_of_subs.new.e c.let_go_of_subs.ensures.same (c.let_go_of_subs.ensures.sound m.workspace c.requires.sound.evaluation) c.requires.sound))

sound : (c : In_ok-right) → IsCaller c.args.interpreter.now.workspace c.take.new.self
sound c =
    let m : PlainInterpreter = c.args.interpreter.now in
    taken_sound m.workspace c.let_go_of_subs.new.e c.take.new.self (c.in_ok-held.held ∷ []) c.take.ensures.same c.in_ok-held.ensures.taken
    (caller_from m.workspace c.args.e c.let_go_of_subs.new.e c.let_go_of_subs.ensures.same (c.let_go_of_subs.ensures.sound m.workspace c.requires.sound.evaluation) c.requires.sound)

-- the right side is the first value behind the subscripts
rest : (c : In_ok-right) → (popped (places_at c.args.e c.args.at) (stack_values c.args.interpreter.now.workspace c.args.e)).values ≡ c.in_ok-right.right ∷ stack_values c.args.interpreter.now.workspace c.take.new.self
rest c =
    let m : PlainInterpreter = c.args.interpreter.now in
    let places : List (Option ℕ) = (places_at c.args.e c.args.at) in
    let left : stack_values m.workspace c.let_go_of_subs.new.e ≡ (popped places (stack_values m.workspace c.args.e)).values =
    c.let_go_of_subs.ensures.rest m.workspace in
    subs_then_one m.workspace c.args.e c.let_go_of_subs.new.e c.take.new.self places c.in_ok-held.held c.in_ok-right.right c.take.ensures.same left c.in_ok-held.ensures.taken c.in_ok-right.ensures.value

pub put-requires : goal.put-requires
put-requires c = record { sound = sound (goal.at.put-requires c).In_ok-right }

pub returns-clause-comes : goal.returns-clause-comes
returns-clause-comes c =
    let d = (goal.at.returns-clause-comes c).In_ok-right in
    let m : PlainInterpreter = c.args.interpreter.now in
    let after : Evaluation = c.take.new.self in
    let places : List (Option ℕ) = (places_at c.args.e c.args.at) in
    let subs : List (Option PlainArray) = subs_held m.workspace c.args.e places in
    let right : PlainArray = c.in_ok-right.right in
    let old : PlainArray = c.requires.right.0 in
    let is : assign_of old subs right ≡ Ok c.args.new = ap (replaced_by old subs) (sym (rest d)) ∙ c.requires.right.2 in
    comes_as m c.put.new.interpreter (part_takes m c.args.e (λ values. items_step c.args.name (popped places values).subs (popped places values).values)) (part_gives m after (assigned_giving c.args.name c.args.new right)) 0 c.put.result (λ asked count taken further.
    items_take_where m c.args.e after c.args.name places subs right (meaning.Value old) (same d) refl (rest d) c.requires.right.1 asked count taken further
    ∙ value_replaced m after c.args.name subs right old asked count taken further
    ∙ replaced_as m after c.args.name subs right old c.args.new is asked count taken further) c.put.ensures.comes
