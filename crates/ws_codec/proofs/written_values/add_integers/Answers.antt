use Rattle.std.proofs.Common.{◌≡◌, ◌++◌, ℕ, ℤ, pos, List, FitsSigned, get_or, take, w64, rules, ap, sym, subst, ◌∙◌}
use Rattle.std.specs.Int.{cast_unsigned}
use Rattle.std.specs.List.{flat_map}
use Rattle.std.proofs.lemmas.Int.{to_z-of_z}
use Rattle.std.proofs.lemmas.List.{flat_map_more, take_more}
use Rattle.byteorder.specs.Endian.{big_bytes}
use Rattle.ws_codec.proofs.written_values.add_integers.Goals as goal

pub loop-number-preserved : goal.loop-number-preserved
loop-number-preserved c =
    let fits : FitsSigned w64 (get_or c.args.numbers.now c.loop-number.number-index (pos 0)) = search rules in
    let piece = subst (λ (z : ℤ). c.add_integer.new.bytes.items ≡ c.loop-number.bytes.items ++ big_bytes 8 (cast_unsigned w64 z)) (to_z-of_z w64 (get_or c.args.numbers.now c.loop-number.number-index (pos 0)) fits) c.in_ok-add_integer.ensures in
    piece ∙ ap (λ (t : List ℕ). t ++ big_bytes 8 (cast_unsigned w64 (get_or c.args.numbers.now c.loop-number.number-index (pos 0)))) c.loop-number.invariant
    ∙ flat_map_more (λ (z : ℤ). big_bytes 8 (cast_unsigned w64 z)) c.args.bytes.now.items (take c.loop-number.number-index c.args.numbers.now) (get_or c.args.numbers.now c.loop-number.number-index (pos 0))
    ∙ ap (λ (t : List ℤ). c.args.bytes.now.items ++ flat_map (λ (z : ℤ). big_bytes 8 (cast_unsigned w64 z)) t) (sym (take_more c.args.numbers.now c.loop-number.number-index (pos 0) c.loop-number-test.true))
