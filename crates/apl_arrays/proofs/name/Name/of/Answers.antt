use Rattle.std.proofs.Common.{sym, ◌∙◌}
use Rattle.std.proofs.Math.Seq.{take-append_seam}
use Rattle.apl_arrays.proofs.Padding.{filled}
use Rattle.apl_arrays.proofs.name.Name.of.Goals as goal

pub invariant_of-result : goal.invariant_of-result
invariant_of-result c =
    rw c.copy_from_slice.ensures.after (filled 32 32 c.args.glyphs.now (c.is_name.ensures.short c.if-not-is_name.false), rw take-append_seam (sym c.is_name.ensures.value ∙ c.if-not-is_name.false))
