-- A function that is applied: the application counts once, and none does that may not be.
use Rattle.std.proofs.Common.{◌≡◌, ℕ, ◌+◌, Bool, true, refl, sym, ap, ◌∙◌, Bor}
use Rattle.std.specs.Prelude.{◌&&◌, ◌||◌, ℤ, Option, Some, None, is_some, not, option_map, if◌then◌else◌}
use Rattle.std.specs.Option.{option_copied}
use Rattle.apl_arrays.specs.Array.{PlainArray}
use Rattle.apl_arrays.specs.declared.report.Report.TheVariants.{Syntax}
use Rattle.apl_verbs.specs.declared.verb.Verb.{Verb}
use Rattle.operator_rules.specs.Apply.{applied}
use Rattle.apl_verbs.specs.Arguments.{is_dyadic, verb_takes_axis}
use Rattle.apl_meaning.specs.Expressions.{valued}
use Rattle.apl_meaning.specs.Meaning.{closed}
use Rattle.apl_meaning.specs.State.{State, refuses, outcome_of}
use Rattle.apl_meaning.specs.Verbs.{application, both_or_neither, may_be_applied}
use Rattle.apl_statements.specs.declared.evaluation.Evaluation.{Evaluation}
use Rattle.apl_statements.specs.Evaluating.{caller_of}
use Rattle.apl_statements.specs.Interpreter.{PlainInterpreter, here, state_at}
use Rattle.apl_statements.specs.Moves.{Moves, part_gives}
use Rattle.apl_statements.specs.Stack.{carried_on}

-- what is lent is there where it is lent
pub copied_there : {A : Type 0} (o : Option (Bor A)) → is_some (option_copied o) ≡ is_some o
copied_there None = refl
copied_there (Some x) = refl

may_as : {A : Type 0} (f : Verb) (value : A → PlainArray) (left : Option A) (axis : Option ℤ) → (both_or_neither (is_dyadic f) (is_some left) && (not (is_some axis) || verb_takes_axis f)) ≡ may_be_applied f (option_map value left) axis
may_as f value None None = refl
may_as f value None (Some axis) = refl
may_as f value (Some left) None = refl
may_as f value (Some left) (Some axis) = refl

-- whether a function may be applied, as it was tested
pub may_tested : {A : Type 0} (f : Verb) (value : A → PlainArray) (left : Option A) (axis : Option ℤ) (has_left has_axis tested : Bool) → has_left ≡ is_some left → has_axis ≡ is_some axis
    → tested ≡ (both_or_neither (is_dyadic f) has_left && (not has_axis || verb_takes_axis f)) → may_be_applied f (option_map value left) axis ≡ tested
may_tested f value left axis has_left has_axis tested one two is =
    sym (may_as f value left axis)
    ∙ ap (λ (b : Bool). both_or_neither (is_dyadic f) b && (not (is_some axis) || verb_takes_axis f)) (sym one)
    ∙ ap (λ (b : Bool). both_or_neither (is_dyadic f) has_left && (not b || verb_takes_axis f)) (sym two)
    ∙ sym is

-- one that may be counts once
pub counts_one : (m : PlainInterpreter) (e : Evaluation) (f : Verb) (left : Option PlainArray) (right : PlainArray) (axis : Option ℤ) (k : ℕ) → may_be_applied f left axis ≡ true → k ≡ 1
    → Moves m (part_gives m e (λ s. valued (application f left right axis s))) k m (part_gives m e (λ s. valued (outcome_of (applied f left right axis) s)))
counts_one m e f left right axis k may one = record {
  same = λ asked count taken further.
      let s : State = state_at m asked count taken further in
      ap (λ (b : Bool). closed (carried_on (valued (if b then outcome_of (applied f left right axis) (record s { applications = s.applications + 1 }) else refuses Syntax s)) (caller_of m.workspace (here m) e) m.stack)) may
      ∙ ap (λ (n : ℕ). closed (part_gives m e (λ t. valued (outcome_of (applied f left right axis) t)) (state_at m asked (count + n) taken further))) (sym one);
}
