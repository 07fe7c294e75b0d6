use Rattle.std.proofs.Common.{◌≡◌, ◌+◌, ◌<◌, ◌∷◌, ◌++◌, ℕ, true, false, List, [], get_or, length, take, sym, ap, ◌∙◌, arith}
use Rattle.std.specs.Prelude.{None, Option, is_some, option_map, option_to_list}
use Rattle.apl_arrays.specs.Array.{PlainArray}
use Rattle.apl_workspace.specs.Workspace.{PlainWorkspace}
use Rattle.apl_meaning.specs.Nodes.{Popped, popped}
use Rattle.apl_values.specs.declared.values.StackValue.{StackValue}
use Rattle.apl_values.specs.Values.{stack_value}
use Rattle.apl_statements.specs.declared.evaluation.Evaluation.{Evaluation}
use Rattle.apl_statements.specs.Holding.{stack_values, parts_of}
use Rattle.apl_statements.proofs.Subs.{sub_more}
use Rattle.apl_statements.proofs.Taken.{same_twice, taken_evaluation}
use Rattle.apl_statements.proofs.evaluation.Evaluation.take_subs.Goals as goal

pub loop-place-preserved : goal.loop-place-preserved
loop-place-preserved c =
    let w : PlainWorkspace = c.args.workspace.now in
    let places : List (Option ℕ) = c.args.places.now in
    let i : ℕ = c.loop-place.place-index in
    let first : Evaluation = c.args.self.now in
    let before : Evaluation = c.loop-place.self in
    let after : Evaluation = c.take_sub-sub.new.self in
    let sub : Option StackValue = c.take_sub-sub.result in
    let so_far : Popped = popped (take i places) (stack_values w first) in
    let lt : i < length places = omega arith in
    let own : c.in_ok-owned_sub.field-0 ≡ option_map (stack_value w (parts_of before)) sub =
    c.in_ok-owned_sub.ensures ∙ ap (λ (x : Evaluation). option_map (stack_value w (parts_of x)) sub) c.take_sub-sub.ensures.same in
    let all : popped (take (i + 1) places) (stack_values w first) ≡ record { subs = so_far.subs ++ option_map (stack_value w (parts_of before)) sub ∷ []; values = stack_values w after } =
    sub_more w first before after places i None sub lt c.loop-place.invariant.rest c.take_sub-sub.ensures.same c.take_sub-sub.ensures.taken
    (λ (none : is_some (get_or places i None) ≡ false). c.take_sub-sub.ensures.omitted (let tested : c.is_some.result ≡ false = cc in tested))
    (λ (some : is_some (get_or places i None) ≡ true). c.take_sub-sub.ensures.given (let tested : c.is_some.result ≡ true = cc in tested)) in
    record {
      subs = c.in_ok-push.ensures.ok ∙ ap (λ (list : List (Option PlainArray)). list ++ c.in_ok-owned_sub.field-0 ∷ []) c.loop-place.invariant.subs
          ∙ ap (λ (x : Option PlainArray). so_far.subs ++ x ∷ []) own ∙ sym (ap (λ (p : Popped). p.subs) all);
      rest = sym (ap (λ (p : Popped). p.values) all);
      same = same_twice first before after c.loop-place.invariant.same c.take_sub-sub.ensures.same;
      sound = taken_evaluation w before after (option_to_list sub) c.take_sub-sub.ensures.same c.take_sub-sub.ensures.taken c.loop-place.invariant.sound;
    }
