use Rattle.std.proofs.Common.{OnOk, Option, subst, sym}
use Rattle.sv_cell_laws.specs.Steps.{use_access}
use Rattle.sv_rules.specs.declared.coupling.Coupling.{Coupling}
use Rattle.sv_core.proofs.UsingLemmas.{note_alone, note_shared}
use Rattle.sv_core.specs.Updating.{AfterAccess, IsReady, value_at}
use Rattle.sv_core.proofs.updating.note_use.Goals as goal

pub returns-in-None-clause-ok : goal.returns-in-None-clause-ok
returns-in-None-clause-ok c =
    let none = sym c.in-None.is in
    let old = c.args.cells.now in
    let own = c.args.offer.now in
    let ready = subst (λ (k : Option Coupling). IsReady old own k) (sym none) c.requires in
    subst (λ (k : Option Coupling). AfterAccess old c.use_alone.new.cells own (use_access (value_at old own k)) k) none (note_alone old c.use_alone.new.cells own ready c.use_alone.ensures)

pub returns-in-Some-clause-ok : goal.returns-in-Some-clause-ok
returns-in-Some-clause-ok c =
    let some = sym c.in-Some.is in
    let old = c.args.cells.now in
    let own = c.args.offer.now in
    let ready = subst (λ (k : Option Coupling). IsReady old own k) (sym some) c.requires in
    subst (λ (k : Option Coupling). OnOk c.use_shared.result (AfterAccess old c.use_shared.new.cells own (use_access (value_at old own k)) k)) some
    (note_shared c.use_shared.result old c.use_shared.new.cells own c.in-Some.coupling c.side_at-side.result c.side_at-side.ensures ready.0 c.use_shared.ensures.ok)
