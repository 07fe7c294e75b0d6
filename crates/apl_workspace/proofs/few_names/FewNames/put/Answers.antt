use Rattle.std.proofs.Common.{◌≡◌, ◌∙◌, None, Some, ap, sym, refl, arith, false, true}
use Rattle.std.specs.Prelude.{is_some}
use Rattle.apl_workspace.specs.Meaning.{NameTable, meaning_in, table_weight, with_meaning}
use Rattle.apl_workspace.specs.Sorted.{sorted}
use Rattle.apl_workspace.proofs.InOrder.{looked_up, written_in_order}
use Rattle.apl_workspace.proofs.Scanned.{value_there}
use Rattle.apl_workspace.proofs.Tables.{anew_is_reckoned, is_table_with, never_over, weighs}
use Rattle.apl_workspace.proofs.few_names.FewNames.put.Goals as goal

pub put_new-requires-clause-new : goal.put_new-requires-clause-new
put_new-requires-clause-new c = ap (λ (n : NameTable). meaning_in n c.args.name) (sym c.self.view_is) ∙ sym (looked_up c.self.inside.entries.items c.args.name) ∙ c.place_of.ensures.none c.in_default.is

pub returns-in_default-clause-granted : goal.returns-in_default-clause-granted
returns-in_default-clause-granted c =
    let none : meaning_in c.args.self.now c.args.name ≡ None = ap (λ (n : NameTable). meaning_in n c.args.name) (sym c.self.view_is) ∙ sym (looked_up c.self.inside.entries.items c.args.name) ∙ c.place_of.ensures.none c.in_default.is in
    λ there fits.
    let no : false ≡ true = sym (ap is_some none) ∙ there in
    absurd cc

pub returns-in_default-clause-there : goal.returns-in_default-clause-there
returns-in_default-clause-there c =
    let none : meaning_in c.args.self.now c.args.name ≡ None = ap (λ (n : NameTable). meaning_in n c.args.name) (sym c.self.view_is) ∙ sym (looked_up c.self.inside.entries.items c.args.name) ∙ c.place_of.ensures.none c.in_default.is in
    λ there.
    let no : false ≡ true = sym (ap is_some none) ∙ there in
    absurd cc

pub overflow_sub-weight : goal.overflow_sub-weight
overflow_sub-weight c =
    let there = sym (value_there c.self.inside.entries.items c.in-Some.at c.index.result.now c.index.ensures c.in-Some.ensures.within) ∙ c.in-Some.ensures.value in
    let within = (weighs c.self.inside.entries.items _ c.args.name _ c.self.inside.weight _ c.self.view_is c.self.invariant there c.weight.ensures).within in
    omega (arith, within, c.self.invariant.counted, ap table_weight c.self.view_is)

pub returns-then-weight-most-clause-full : goal.returns-then-weight-most-clause-full
returns-then-weight-most-clause-full c =
    let there = sym (value_there c.self.inside.entries.items c.in-Some.at c.index.result.now c.index.ensures c.in-Some.ensures.within) ∙ c.in-Some.ensures.value in
    (refl, (anew_is_reckoned c.self.inside.entries.items _ c.args.name _ c.args.meaning _ _ _ _ c.args.most c.self.view_is c.self.invariant c.requires.limit there c.weight.ensures c.weight-after.ensures refl).over c.if-weight-most.true)

pub returns-then-weight-most-clause-granted : goal.returns-then-weight-most-clause-granted
returns-then-weight-most-clause-granted c =
    let there = sym (value_there c.self.inside.entries.items c.in-Some.at c.index.result.now c.index.ensures c.in-Some.ensures.within) ∙ c.in-Some.ensures.value in
    λ is fits. never_over c.args.self.now c.args.name c.args.meaning _ c.args.most (anew_is_reckoned c.self.inside.entries.items _ c.args.name _ c.args.meaning _ _ _ _ c.args.most c.self.view_is c.self.invariant c.requires.limit there c.weight.ensures c.weight-after.ensures refl) c.if-weight-most.true fits

pub invariant_of-self : goal.invariant_of-self
invariant_of-self c =
    let there = sym (value_there c.self.inside.entries.items c.in-Some.at c.index.result.now c.index.ensures c.in-Some.ensures.within) ∙ c.in-Some.ensures.value in
    let written = written_in_order c.self.inside.entries.items c.args.name c.in-Some.at c.args.meaning (sym c.in-Some.ensures.place) in
    is_table_with _ c.args.self.now _ c.args.name c.args.meaning _ _ c.args.most c.self.view_is c.self.invariant c.requires.whole (anew_is_reckoned c.self.inside.entries.items _ c.args.name _ c.args.meaning _ _ _ _ c.args.most c.self.view_is c.self.invariant c.requires.limit there c.weight.ensures c.weight-after.ensures refl) c.if-weight-most.false c.requires.limit written

pub returns-clause-ok : goal.returns-clause-ok
returns-clause-ok c =
    let written = written_in_order c.self.inside.entries.items c.args.name c.in-Some.at c.args.meaning (sym c.in-Some.ensures.place) in
    written ∙ ap (λ (n : NameTable). with_meaning n c.args.name c.args.meaning) c.self.view_is

pub returns-clause-fits : goal.returns-clause-fits
returns-clause-fits c =
    let there = sym (value_there c.self.inside.entries.items c.in-Some.at c.index.result.now c.index.ensures c.in-Some.ensures.within) ∙ c.in-Some.ensures.value in
    let same = (anew_is_reckoned c.self.inside.entries.items _ c.args.name _ c.args.meaning _ _ _ _ c.args.most c.self.view_is c.self.invariant c.requires.limit there c.weight.ensures c.weight-after.ensures refl).fits c.if-weight-most.false in
    omega (arith, same, c.if-weight-most.false)
