use Rattle.std.proofs.Common.{◌≡◌, ◌∙◌, List, None, ap, reverse, subst, sym}
use Rattle.std.specs.Prelude.{nat_le}
use Rattle.apl_workspace.specs.Limits.{most_weight}
use Rattle.apl_workspace.specs.Meaning.{NameTable}
use Rattle.apl_workspace.specs.Workspace.{IsInnermostAt, PlainWorkspace, innermost, workspace_weight}
use Rattle.apl_workspace.specs.declared.meaning.Meaning.TheVariants.{Value}
use Rattle.apl_workspace.proofs.Fitting.{given_fit, given_global}
use Rattle.apl_workspace.proofs.Giving.{frames_counted}
use Rattle.apl_workspace.proofs.workspace.Workspace.takes.Goals as goal

pub fits_innermost-requires-clause-weight : goal.fits_innermost-requires-clause-weight
fits_innermost-requires-clause-weight c = frames_counted _ _ _ c.self.invariant.counted c.deref-in-Some.ensures.value

pub returns-in-None : goal.returns-in-None
returns-in-None c =
    let name = c.args.name.now in
    let none : innermost c.args.self.now.frames name ≡ None =
    ap (λ (w : PlainWorkspace). innermost w.frames name) (sym c.self.view_is) ∙ ap (λ (all : List NameTable). innermost (reverse all) name) (sym c.deref.ensures.value) ∙ c.in-None.ensures.place in
    c.has_room.ensures (Value c.args.value.now) c.value_weight-weight.ensures ∙ ap (λ (w : PlainWorkspace). nat_le (workspace_weight w) most_weight) (sym (given_global c.args.self.now name (Value c.args.value.now) none))

pub returns-in-Some : goal.returns-in-Some
returns-in-Some c =
    let name = c.args.name.now in
    let place = subst (λ (all : List NameTable). IsInnermostAt all name c.in-Some.at) (c.deref.ensures.value ∙ sym c.deref-in-Some.ensures.value) c.in-Some.ensures.place in
    c.fits_innermost.ensures (Value c.args.value.now) c.value_weight-weight.ensures
    ∙ given_fit c.self.inside.globals c.self.inside.offers.items c.self.inside.printed c.deref-in-Some.result.now c.self.inside.frames.items name (Value c.args.value.now) c.in-Some.at c.weight-most.result c.args.self.now c.self.view_is c.deref-in-Some.ensures.value place c.weight-most.ensures.value c.weight-most.ensures.within
