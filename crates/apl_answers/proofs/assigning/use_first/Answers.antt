use Rattle.std.proofs.Common.{◌≡◌, ◌∷◌, List, [], ap, subst, sym, ◌∙◌}
use Rattle.std.specs.Prelude.{ℕ, Option}
use Rattle.apl_arrays.specs.Array.{PlainArray}
use Rattle.apl_workspace.specs.Meaning.{is_shared_meaning}
use Rattle.apl_meaning.specs.Nodes.{items_step, popped}
use Rattle.apl_values.specs.Pending.{act_asked_for, replaces}
use Rattle.apl_statements.specs.Interpreter.{PlainInterpreter}
use Rattle.apl_statements.specs.Moves.{part_gives, part_takes}
use Rattle.apl_statements.specs.Sound.{IsCaller, IsEvaluation}
use Rattle.apl_statements.specs.Holding.{stack_values}
use Rattle.apl_statements.proofs.Same.{comes_as}
use Rattle.apl_statements.proofs.Taken.{caller_from, same_twice, subs_then_one, taken_sound}
use Rattle.apl_subscripts.specs.Held.{places_at}
use Rattle.apl_answers.proofs.Replacing.{items_open}
use Rattle.apl_answers.proofs.assigning.use_first.Goals as goal
use Rattle.apl_answers.proofs.assigning.use_first.Goals.{In_ok-right}

-- the statement differs in its values alone
same : (c : In_ok-right) → c.take.new.self ≡ record c.args.e { values = c.take.new.self.values }
same c = same_twice c.args.e c.take_subs.new.self c.take.new.self c.take_subs.ensures.same c.take.ensures.same

sound : (c : In_ok-right) → IsCaller c.args.interpreter.now.workspace c.take.new.self
sound c =
    let m : PlainInterpreter = c.args.interpreter.now in
    let left : IsEvaluation m.workspace c.take_subs.new.self = subst (λ (x : PlainInterpreter). IsEvaluation x.workspace c.take_subs.new.self) c.interpreter.view_is c.in_ok-subs.ensures.sound in
    taken_sound m.workspace c.take_subs.new.self c.take.new.self (c.in_ok-held.held ∷ []) c.take.ensures.same c.in_ok-held.ensures.taken (caller_from m.workspace c.args.e c.take_subs.new.self c.take_subs.ensures.same left c.requires.sound)

-- the subscripts are the newest values, and the right side is the next one
subs : (c : In_ok-right) → c.in_ok-subs.subs.items ≡ (popped (places_at c.args.e c.args.at) (stack_values c.args.interpreter.now.workspace c.args.e)).subs
subs c =
    c.in_ok-subs.ensures.subs
    ∙ ap (λ (list : List (Option ℕ)). (popped list (stack_values c.interpreter.inside.workspace c.args.e)).subs) (c.as_slice.ensures ∙ c.in_ok-places.ensures ∙ c.places_at.ensures)
    ∙ ap (λ (x : PlainInterpreter). (popped (places_at c.args.e c.args.at) (stack_values x.workspace c.args.e)).subs) c.interpreter.view_is

rest : (c : In_ok-right) → (popped (places_at c.args.e c.args.at) (stack_values c.args.interpreter.now.workspace c.args.e)).values ≡ c.in_ok-right.right ∷ stack_values c.args.interpreter.now.workspace c.take.new.self
rest c =
    let m : PlainInterpreter = c.args.interpreter.now in
    let places : List (Option ℕ) = (places_at c.args.e c.args.at) in
    let left : stack_values m.workspace c.take_subs.new.self ≡ (popped places (stack_values m.workspace c.args.e)).values =
    ap (λ (x : PlainInterpreter). stack_values x.workspace c.take_subs.new.self) (sym c.interpreter.view_is)
    ∙ c.in_ok-subs.ensures.rest
    ∙ ap (λ (list : List (Option ℕ)). (popped list (stack_values c.interpreter.inside.workspace c.args.e)).values) (c.as_slice.ensures ∙ c.in_ok-places.ensures ∙ c.places_at.ensures)
    ∙ ap (λ (x : PlainInterpreter). (popped places (stack_values x.workspace c.args.e)).values) c.interpreter.view_is in
    subs_then_one m.workspace c.args.e c.take_subs.new.self c.take.new.self places c.in_ok-held.held c.in_ok-right.right c.take.ensures.same left c.in_ok-held.ensures.taken c.in_ok-right.ensures.value

pub open-requires-clause-sound : goal.open-requires-clause-sound
open-requires-clause-sound c = sound (goal.at.open-requires-clause-sound c).In_ok-right

pub open-requires-clause-pending : goal.open-requires-clause-pending
open-requires-clause-pending c = ap is_shared_meaning c.requires.right.1

pub returns-clause-comes : goal.returns-clause-comes
returns-clause-comes c =
    let d = (goal.at.returns-clause-comes c).In_ok-right in
    let m : PlainInterpreter = c.args.interpreter.now in
    comes_as m m (part_takes m c.args.e (λ values. items_step c.args.name (popped (places_at c.args.e c.args.at) values).subs (popped (places_at c.args.e c.args.at) values).values))
    (part_gives m c.take.new.self (act_asked_for (replaces c.args.name c.in_ok-subs.subs.items c.in_ok-right.right))) 0 c.open.result
    (items_open m c.args.e c.take.new.self c.args.name (places_at c.args.e c.args.at) c.in_ok-subs.subs.items c.in_ok-right.right c.requires.right.0 (same d) (subs d) (rest d) c.requires.right.1) c.open.ensures.comes
