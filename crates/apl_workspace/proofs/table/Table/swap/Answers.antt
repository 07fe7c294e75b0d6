use Rattle.std.proofs.Common.{◌≡◌, ◌∙◌, Some, None, ap, sym, refl, arith, false, true}
use Rattle.std.specs.Prelude.{is_some}
use Rattle.std.specs.Option.{option_copied_mut}
use Rattle.apl_workspace.specs.declared.meaning.Meaning.{Meaning}
use Rattle.apl_workspace.specs.Limits.{most_weight}
use Rattle.apl_workspace.specs.Meaning.{NameTable, meaning_in, table_weight, with_meaning}
use Rattle.apl_workspace.specs.Sorted.{sorted}
use Rattle.apl_workspace.proofs.Ascending.{found}
use Rattle.apl_workspace.proofs.InOrder.{looked_up, put_in_order}
use Rattle.apl_workspace.proofs.Tables.{anew_is_reckoned, anew_is_within, is_table_with, weighs}
use Rattle.apl_workspace.proofs.table.Table.swap.Goals as goal

pub unreachable-requires : goal.unreachable-requires
unreachable-requires c =
    let none : meaning_in c.args.self.now c.args.name.now ≡ None = ap (λ (n : NameTable). meaning_in n c.args.name.now) (sym c.self.view_is) ∙ sym (looked_up c.self.inside.names.entries c.args.name.now) ∙ sym c.get_mut.ensures.value ∙ ap option_copied_mut c.in-None.is in
    let no : false ≡ true = sym (ap is_some none) ∙ c.requires.there in
    cc

pub overflow_sub-self : goal.overflow_sub-self
overflow_sub-self c =
    let there = sym (ap option_copied_mut c.in-Some.is) ∙ c.get_mut.ensures.value in
    let within = (weighs c.self.inside.names.entries _ c.args.name.now _ c.self.inside.weight _ c.self.view_is c.self.invariant there c.weight.ensures).within in
    omega (arith, within, c.self.invariant.counted, ap table_weight c.self.view_is)

pub invariant_of-self : goal.invariant_of-self
invariant_of-self c =
    let there = sym (ap option_copied_mut c.in-Some.is) ∙ c.get_mut.ensures.value in
    let among : is_some (found c.self.inside.names.entries c.args.name.now) ≡ true = ap is_some (sym there) in
    let written = put_in_order c.self.inside.names.entries _ c.args.name.now _ ((c.get_mut.follows.holds c.replace.new.dest).3 among).0 ∙ ap (λ (m : Meaning). with_meaning (sorted c.self.inside.names.entries) c.args.name.now m) c.replace.ensures.after in
    is_table_with _ c.args.self.now _ c.args.name.now c.args.meaning _ _ most_weight c.self.view_is c.self.invariant c.requires.whole (anew_is_reckoned c.self.inside.names.entries _ c.args.name.now _ c.args.meaning _ _ _ _ most_weight c.self.view_is c.self.invariant (omega arith) there c.weight.ensures c.weight-after.ensures refl) (anew_is_within c.self.inside.names.entries _ c.args.name.now _ c.args.meaning _ _ _ _ c.self.view_is c.self.invariant there c.weight.ensures c.weight-after.ensures refl c.requires.fits) (omega arith) written

pub returns-clause-before : goal.returns-clause-before
returns-clause-before c =
    let there = sym (ap option_copied_mut c.in-Some.is) ∙ c.get_mut.ensures.value in
    ap (λ (m : Meaning). Some m) c.replace.ensures.value ∙ there ∙ looked_up c.self.inside.names.entries c.args.name.now ∙ ap (λ (n : NameTable). meaning_in n c.args.name.now) c.self.view_is

pub returns-clause-value : goal.returns-clause-value
returns-clause-value c =
    let there = sym (ap option_copied_mut c.in-Some.is) ∙ c.get_mut.ensures.value in
    let among : is_some (found c.self.inside.names.entries c.args.name.now) ≡ true = ap is_some (sym there) in
    let written = put_in_order c.self.inside.names.entries _ c.args.name.now _ ((c.get_mut.follows.holds c.replace.new.dest).3 among).0 ∙ ap (λ (m : Meaning). with_meaning (sorted c.self.inside.names.entries) c.args.name.now m) c.replace.ensures.after in
    written ∙ ap (λ (n : NameTable). with_meaning n c.args.name.now c.args.meaning) c.self.view_is
