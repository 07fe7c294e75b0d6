-- The lower edge of entries.
use Rattle.std.proofs.Common.{◌≡◌, ◌+◌, ℕ, List, [], ◌∷◌, map, ◌∙◌, arith}
use Rattle.std.specs.List.{sum}
use Rattle.std.proofs.lemmas.List.Sums.{sum_by-cons}
use Rattle.sv_events.specs.Entry.{PlainEntry}
use Rattle.run_picture.specs.Link.{height_of}
use Rattle.run_picture.specs.Picture.{Scene, bottom}

-- the lower edge is as far down as all heights
pub bottom_is : (scene : Scene) (y : ℕ) (entries : List PlainEntry) → bottom scene y entries ≡ y + sum (map (λ e. height_of scene.lanes scene.journal e) entries)
bottom_is scene y [] = omega arith
bottom_is scene y (e ∷ behind) =
    let low = height_of scene.lanes scene.journal e in
    let heights = map (λ e. height_of scene.lanes scene.journal e) behind in
    let first : sum (low ∷ heights) ≡ low + sum heights = sum_by-cons (λ x. x) low heights in
    let others : bottom scene (y + low) behind ≡ y + low + sum heights = bottom_is scene (y + low) behind in
    others ∙ omega (arith, first)
