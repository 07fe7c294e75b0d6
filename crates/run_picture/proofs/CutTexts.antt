-- Texts that are cut.
use Rattle.std.proofs.Common.{◌≡◌, ◌≤◌, ◌-◌, ℕ, Bool, true, false, cond, leb, List, ◌++◌, codes, length, take, refl, arith, length-append}
use Rattle.std.proofs.lemmas.Bool.{leb-true}
use Rattle.std.proofs.lemmas.List.{length-take}
use Rattle.run_picture.specs.Label.{cut}

cut_short_as : (most : ℕ) (text : List ℕ) (b : Bool) → leb (length text) most ≡ b → 2 ≤ most → length (cond b text (take (most - 2) text ++ codes "..")) ≤ most
cut_short_as most text true e more = leb-true (length text) most e
cut_short_as most text false e more =
    omega (arith, length-append (take (most - 2) text) (codes ".."), length-take (most - 2) text)

-- a text that is cut has as many glyphs as it may
pub cut_short : (most : ℕ) (text : List ℕ) → 2 ≤ most → length (cut most text) ≤ most
cut_short most text more = cut_short_as most text (leb (length text) most) refl more
