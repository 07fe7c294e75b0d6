use Rattle.std.proofs.Common.{◌≡◌, ◌∙◌, ℕ, All, List, ap, false, reverse, subst, sym}
use Rattle.apl_workspace.specs.Workspace.{PlainWorkspace, is_shared}
use Rattle.apl_workspace.proofs.Giving.{with_frames}
use Rattle.apl_workspace.proofs.Inside.{copied_inside}
use Rattle.apl_workspace.proofs.workspace.Workspace.copy_without.Goals as goal

pub invariant_of-result : goal.invariant_of-result
invariant_of-result c =
    copied_inside (with_frames c.self.inside.globals c.self.inside.offers.items c.self.inside.printed (reverse c.self.inside.frames.items)) c.in_ok-copy_without.field-0 c.new.result.items c.in_ok-from_slice.field-0.items c.args.names.now c.self.inside.frames_weight
    c.self.invariant (ap (λ (w : PlainWorkspace). w.frames) c.self.view_is ∙ c.requires.frames)
    (subst (λ (w : PlainWorkspace). All (λ (name : List ℕ). is_shared w name ≡ false) c.args.names.now) (sym c.self.view_is) c.requires.unshared) c.in_ok-copy_without.ensures c.new.ensures.items (c.in_ok-from_slice.ensures.items ∙ c.deref.ensures.value)
