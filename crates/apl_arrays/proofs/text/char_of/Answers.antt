use Rattle.std.proofs.Common.{◌-◌, inl, arith}
use Rattle.apl_arrays.proofs.Glyphs.{table_bound}
use Rattle.apl_arrays.proofs.text.char_of.Goals as goal

pub unwrap-requires : goal.unwrap-requires
unwrap-requires c = c.from_u32.ensures.succeeds (inl (omega (arith, table_bound (c.from-2.result - 128) (omega arith), c.from-3.ensures)))
