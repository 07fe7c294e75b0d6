use Rattle.std.proofs.Common.{IsOk, option_copied, rules, sym, subst}
use Rattle.apl_verbs.specs.declared.verb.Verb.{Verb}
use Rattle.apl_items.specs.Answers.{Answers}
use Rattle.apl_items.specs.Places.{OnWantOfMemory}
use Rattle.apl_items.proofs.AnswerLemmas.{answers_at_all}
use Rattle.apl_selection.proofs.WantLemmas.{first_on_want}
use Rattle.operator_rules.specs.Apply.{applied}
use Rattle.apl_operators.proofs.applying.apply.Goals as goal

pub returns-in-Reduce-clause-value : goal.returns-in-Reduce-clause-value
returns-in-Reduce-clause-value g c =
    subst (λ (verb : Verb). Answers c.reduce.result (applied verb (option_copied c.args.left) c.args.right.now c.args.axis)) (sym c.in-Reduce.is)
    (answers_at_all c.reduce.result _ c.reduce.ensures)

pub returns-in-Scan-clause-value : goal.returns-in-Scan-clause-value
returns-in-Scan-clause-value g c =
    subst (λ (verb : Verb). Answers c.scan.result (applied verb (option_copied c.args.left) c.args.right.now c.args.axis)) (sym c.in-Scan.is)
    (answers_at_all c.scan.result _ c.scan.ensures)

pub returns-in-Inner-clause-value : goal.returns-in-Inner-clause-value
returns-in-Inner-clause-value g c = search (rules, answers_at_all)

pub returns-in-Outer-clause-value : goal.returns-in-Outer-clause-value
returns-in-Outer-clause-value g c = search (rules, answers_at_all)

pub returns-in-Reduce-clause-memory : goal.returns-in-Reduce-clause-memory
returns-in-Reduce-clause-memory g c =
    subst (λ (verb : Verb). OnWantOfMemory c.reduce.result (IsOk (applied verb (option_copied c.args.left) c.args.right.now c.args.axis))) (sym c.in-Reduce.is)
    (first_on_want c.reduce.result _ c.reduce.ensures)

pub returns-in-Scan-clause-memory : goal.returns-in-Scan-clause-memory
returns-in-Scan-clause-memory g c =
    subst (λ (verb : Verb). OnWantOfMemory c.scan.result (IsOk (applied verb (option_copied c.args.left) c.args.right.now c.args.axis))) (sym c.in-Scan.is)
    (first_on_want c.scan.result _ c.scan.ensures)

pub returns-in-One-clause-memory : goal.returns-in-One-clause-memory
returns-in-One-clause-memory g c =
    subst (λ (verb : Verb). OnWantOfMemory c.monadic.result (IsOk (applied verb (option_copied c.args.left) c.args.right.now c.args.axis))) (sym c.in-One.is) c.monadic.ensures.memory

pub returns-in-Mixed1-clause-memory : goal.returns-in-Mixed1-clause-memory
returns-in-Mixed1-clause-memory g c =
    subst (λ (verb : Verb). OnWantOfMemory c.mixed_monadic.result (IsOk (applied verb (option_copied c.args.left) c.args.right.now c.args.axis))) (sym c.in-Mixed1.is)
    c.mixed_monadic.ensures.memory

pub returns-in-Two-clause-memory : goal.returns-in-Two-clause-memory
returns-in-Two-clause-memory g c = search rules

pub returns-in-Mixed2-clause-memory : goal.returns-in-Mixed2-clause-memory
returns-in-Mixed2-clause-memory g c = search rules

pub returns-in-Inner-clause-memory : goal.returns-in-Inner-clause-memory
returns-in-Inner-clause-memory g c = search (rules, first_on_want)

pub returns-in-Outer-clause-memory : goal.returns-in-Outer-clause-memory
returns-in-Outer-clause-memory g c = search (rules, first_on_want)
