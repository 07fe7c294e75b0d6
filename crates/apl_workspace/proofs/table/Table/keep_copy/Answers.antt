use Rattle.std.proofs.Common.{◌≡◌, ◌∙◌, None, Some, ap, arith, subst, sym}
use Rattle.std.specs.Prelude.{IsSome, unwrap_or}
use Rattle.apl_workspace.specs.Meaning.{NameTable, meaning_in, own_copy_in, shared_copy, table_weight, with_meaning, with_value_or_none, without_name}
use Rattle.apl_workspace.specs.declared.meaning.Meaning.TheVariants.{Nothing, Value}
use Rattle.apl_workspace.proofs.Tables.{keeps_copy}
use Rattle.apl_workspace.proofs.table.Table.keep_copy.Goals as goal

pub swap-requires-clause-fits : goal.swap-requires-clause-fits
swap-requires-clause-fits c = let k = keeps_copy _ c.args.self.now c.args.name.now c.self.inside.weight c.self.view_is c.self.invariant in omega (arith, k.emptied, k.bounded)

pub swap-requires-in-Some-clause-there : goal.swap-requires-in-Some-clause-there
swap-requires-in-Some-clause-there c =
    let k = keeps_copy _ c.args.self.now c.args.name.now c.self.inside.weight c.self.view_is c.self.invariant in subst (λ (n : NameTable). IsSome (meaning_in n c.args.name.now)) (sym c.swap.ensures.value) k.still_there

pub swap-requires-in-Some-clause-fits : goal.swap-requires-in-Some-clause-fits
swap-requires-in-Some-clause-fits c =
    let k = keeps_copy _ c.args.self.now c.args.name.now c.self.inside.weight c.self.view_is c.self.invariant in
    let own : own_copy_in c.args.self.now c.args.name.now ≡ Some c.in-Some.copy = sym (c.own_copy.ensures ∙ ap (λ o. shared_copy (unwrap_or o Nothing)) c.swap.ensures.before) ∙ c.in-Some.is in
    let made : with_meaning c.swap.new.self c.args.name.now (Value c.in-Some.copy) ≡ with_meaning c.args.self.now c.args.name.now (Value c.in-Some.copy) =
    ap (λ (n : NameTable). with_meaning n c.args.name.now (Value c.in-Some.copy)) c.swap.ensures.value ∙ k.put c.in-Some.copy in
    omega (arith, ap table_weight made, k.as_heavy c.in-Some.copy own, k.bounded)

pub returns-in-None-clause-value : goal.returns-in-None-clause-value
returns-in-None-clause-value c =
    let k = keeps_copy _ c.args.self.now c.args.name.now c.self.inside.weight c.self.view_is c.self.invariant in
    let own : own_copy_in c.args.self.now c.args.name.now ≡ None = sym (c.own_copy.ensures ∙ ap (λ o. shared_copy (unwrap_or o Nothing)) c.swap.ensures.before) ∙ c.in-None.is in
    c.remove.ensures.others ∙ ap (λ (n : NameTable). without_name n c.args.name.now) c.swap.ensures.value ∙ k.taken ∙ sym (ap (with_value_or_none c.args.self.now c.args.name.now) own)

pub returns-in-None-clause-weight : goal.returns-in-None-clause-weight
returns-in-None-clause-weight c =
    let k = keeps_copy _ c.args.self.now c.args.name.now c.self.inside.weight c.self.view_is c.self.invariant in
    omega (arith, ap table_weight (c.remove.ensures.others ∙ ap (λ (n : NameTable). without_name n c.args.name.now) c.swap.ensures.value ∙ k.taken), k.lighter)

pub returns-in-Some-clause-value : goal.returns-in-Some-clause-value
returns-in-Some-clause-value c =
    let k = keeps_copy _ c.args.self.now c.args.name.now c.self.inside.weight c.self.view_is c.self.invariant in
    let own : own_copy_in c.args.self.now c.args.name.now ≡ Some c.in-Some.copy = sym (c.own_copy.ensures ∙ ap (λ o. shared_copy (unwrap_or o Nothing)) c.swap.ensures.before) ∙ c.in-Some.is in
    c.swap-in-Some.ensures.value ∙ ap (λ (n : NameTable). with_meaning n c.args.name.now (Value c.in-Some.copy)) c.swap.ensures.value ∙ k.put c.in-Some.copy ∙ sym (ap (with_value_or_none c.args.self.now c.args.name.now) own)

pub returns-in-Some-clause-weight : goal.returns-in-Some-clause-weight
returns-in-Some-clause-weight c =
    let k = keeps_copy _ c.args.self.now c.args.name.now c.self.inside.weight c.self.view_is c.self.invariant in
    let own : own_copy_in c.args.self.now c.args.name.now ≡ Some c.in-Some.copy = sym (c.own_copy.ensures ∙ ap (λ o. shared_copy (unwrap_or o Nothing)) c.swap.ensures.before) ∙ c.in-Some.is in
    let made : c.swap-in-Some.new.self ≡ with_meaning c.args.self.now c.args.name.now (Value c.in-Some.copy) =
    c.swap-in-Some.ensures.value ∙ ap (λ (n : NameTable). with_meaning n c.args.name.now (Value c.in-Some.copy)) c.swap.ensures.value ∙ k.put c.in-Some.copy in
    omega (arith, ap table_weight made, k.as_heavy c.in-Some.copy own)
