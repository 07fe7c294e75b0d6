use Rattle.std.proofs.Common.{◌≡◌, ◌<◌, ◌+◌, ◌-◌, length, refl, sym, subst, arith}
use Rattle.std.proofs.lemmas.Bool.Decides.{nat_tests}
use Rattle.bundle_text.specs.Refused.{IsRefusal}
use Rattle.bundle_text.specs.Step.{IsBadGlyph}
use Rattle.bundle_text.proofs.Spelled.{CountsTo, none_counted, one_counted, all_counted, bad_counted, cut_off}
use Rattle.bundle_text.proofs.glyphs.glyph_count_at.Goals as goal

pub loop-taken-init : goal.loop-taken-init
loop-taken-init c = none_counted _ 0 refl

pub loop-taken-preserved : goal.loop-taken-preserved
loop-taken-preserved c =
    let found = c.in-Some.ensures in
    subst (λ left. CountsTo c.args.bytes.now left (c.loop-taken.count + 1)) (sym (cut_off c.in-Some.taken c.loop-taken.rest.now)) (one_counted _ _ _ _ _ c.loop-taken.invariant found.0 found.1 found.2 found.3)

pub returns-then-is_empty : goal.returns-then-is_empty
returns-then-is_empty c =
    let none : length c.loop-taken.rest.now ≡ 0 = grind (arith, nat_tests) in
    all_counted _ _ _ c.loop-taken.invariant none

pub returns-else-is_empty : goal.returns-else-is_empty
returns-else-is_empty c =
    let more : 0 < length c.loop-taken.rest.now = grind (arith, nat_tests) in
    subst (λ why. IsRefusal why (IsBadGlyph c.args.bytes.now c.args.offset)) (sym c.malformed.ensures)
    (record { at = length c.args.bytes.now - length c.loop-taken.rest.now; bad = bad_counted _ _ _ c.loop-taken.invariant more (rw c.in_default.is at c.glyph_at.ensures); named = refl; there = refl })
