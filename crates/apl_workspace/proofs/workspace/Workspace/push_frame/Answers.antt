use Rattle.std.proofs.Common.{◌<◌, ◌++◌, ◌∷◌, ◌∙◌, [], List, ap, arith, length, refl, reverse}
use Rattle.std.proofs.lemmas.Grind.{common_steps}
use Rattle.std.proofs.lemmas.List.{length-reverse, reverse-append}
use Rattle.apl_workspace.specs.Limits.{most_depth}
use Rattle.apl_workspace.specs.Meaning.{NameTable}
use Rattle.apl_workspace.specs.Workspace.{PlainWorkspace, look, with_frame}
use Rattle.apl_workspace.proofs.Entering.{entered_weight, framed}
use Rattle.apl_workspace.proofs.Giving.{with_frames}
use Rattle.apl_workspace.proofs.Inside.{entered_inside}
use Rattle.apl_workspace.proofs.workspace.Workspace.push_frame.Goals as goal

pub invariant_of-self-2 : goal.invariant_of-self-2
invariant_of-self-2 c =
    let items = c.self.inside.frames.items in
    let w = with_frames c.self.inside.globals c.self.inside.offers.items c.self.inside.printed (reverse items) in
    let h = c.in_ok-frame.ensures.frame in
    let frames = ap (λ (l : List NameTable). reverse l) (c.push_reserved.ensures.items ∙ ap (λ (l : List NameTable). l ++ c.in_ok-frame.frame ∷ []) c.reserve_one.ensures.items) ∙ reverse-append items (c.in_ok-frame.frame ∷ []) in
    let weighs = entered_weight c.self.inside.globals c.self.inside.offers.items c.self.inside.printed c.self.inside.frames_weight items c.in_ok-frame.frame w (look w c.args.function.now) c.args.args refl c.self.invariant.counted h in
    let deep : length (reverse items) < most_depth = grind (arith, common_steps, length-reverse) in
    entered_inside w (reverse c.push_reserved.new.self.items) c.in_ok-frame.frame (look w c.args.function.now) c.args.args c.self.inside.frames_weight c.self.invariant h frames
    c.weight.result c.weight.ensures.value (omega (arith, weighs, c.weight.ensures.value, c.in_ok-frame.ensures.fits)) deep

pub returns-clause-ok : goal.returns-clause-ok
returns-clause-ok c =
    let items = c.self.inside.frames.items in
    let inside = with_frames c.self.inside.globals c.self.inside.offers.items c.self.inside.printed in
    let w = inside (reverse items) in
    let frames = ap (λ (l : List NameTable). reverse l) (c.push_reserved.ensures.items ∙ ap (λ (l : List NameTable). l ++ c.in_ok-frame.frame ∷ []) c.reserve_one.ensures.items) ∙ reverse-append items (c.in_ok-frame.frame ∷ []) in
    ap (λ (l : List NameTable). inside l) frames
    ∙ framed c.self.inside.globals c.self.inside.offers.items c.self.inside.printed (reverse items) c.in_ok-frame.frame (look w c.args.function.now) c.args.args c.in_ok-frame.ensures.frame
    ∙ ap (λ (x : PlainWorkspace). with_frame x c.args.function.now c.args.args) c.self.view_is
