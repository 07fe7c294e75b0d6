use Rattle.std.proofs.Common.{ap, sym, ◌∙◌, Option}
use Rattle.sv_access.specs.Control.{no_control}
use Rattle.sv_access.specs.declared.access.Side.{Side}
use Rattle.sv_access.specs.declared.access.Side.TheVariants.{A}
use Rattle.sv_access.specs.declared.control.Control.{Control}
use Rattle.sv_rules.specs.Control.{Sharing, vector_of, sharing_of}
use Rattle.sv_rules.specs.Journal.{journal_of}
use Rattle.sv_rules.specs.Refused.{hold_under}
use Rattle.sv_rules.specs.Story.{opening, story}
use Rattle.sv_rules.specs.declared.coupling.Coupling.{Coupling}
use Rattle.sv_plain.proofs.holding.hold_in.Goals as goal

pub returns-in_ok-opened-in-None : goal.returns-in_ok-opened-in-None
returns-in_ok-opened-in-None c =
    let told = opening A (journal_of c.args.entries.now) c.args.offer.now in
    c.hold_by_state-alone.ensures told (sym c.in_ok-opened-in-None.ensures)
    ∙ ap (λ (own : Control). let s : Sharing = record { story = told; a = own; b = no_control; side = A } in hold_under s c.args.kind) c.vector_of-own.ensures
    ∙ ap (λ (k : Option Coupling). hold_under (sharing_of (journal_of c.args.entries.now) c.args.offer.now k) c.args.kind) (sym c.in-None.is)

pub returns-in_ok-shared-in-Some : goal.returns-in_ok-shared-in-Some
returns-in_ok-shared-in-Some c =
    let coupling = c.in-Some.coupling in
    let told = story (journal_of c.args.entries.now) coupling in
    let of_a = vector_of (journal_of c.args.entries.now) coupling.a in
    let of_b = vector_of (journal_of c.args.entries.now) coupling.b in
    c.hold_by_state-joint.ensures told (sym c.in_ok-shared-in-Some.ensures)
    ∙ ap (λ (a : Control). let s : Sharing = record { story = told; a = a; b = c.vector_of-of_b.result; side = c.side_at-side.result } in hold_under s c.args.kind) c.vector_of-of_a.ensures
    ∙ ap (λ (b : Control). let s : Sharing = record { story = told; a = of_a; b = b; side = c.side_at-side.result } in hold_under s c.args.kind) c.vector_of-of_b.ensures
    ∙ ap (λ (side : Side). let s : Sharing = record { story = told; a = of_a; b = of_b; side = side } in hold_under s c.args.kind) c.side_at-side.ensures
    ∙ ap (λ (k : Option Coupling). hold_under (sharing_of (journal_of c.args.entries.now) c.args.offer.now k) c.args.kind) (sym c.in-Some.is)
