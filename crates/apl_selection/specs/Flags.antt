use Rattle.std.specs.Prelude.{◌&&◌, ◌||◌, ℤ, pos, Bool, not, Option, length, nat_lt}
use Rattle.std.specs.List.{list_any}
use Rattle.std.specs.Ordering.{int_eq}
use Rattle.apl_arrays.specs.Array.{PlainArray, is_chars, numbers_in}
use Rattle.apl_arrays.specs.Number.{is_one}
use Rattle.apl_items.specs.Answers.{Faults, no_faults}
use Rattle.apl_items.specs.Axis.{lacks_axis}

-- the number is neither 0 nor 1
abbrev pub is_no_flag : ℤ → Bool
is_no_flag flag = not (int_eq flag (pos 0)) && not (is_one flag)

-- the array holds something else than 0 and 1
abbrev pub lacks_flags : PlainArray → Bool
lacks_flags a = is_chars a.items || list_any is_no_flag (numbers_in a.items)

-- what is wrong with flags for an axis of B: they are a vector or a scalar of 0 and 1, as many as the axis wants, and B has the
-- axis
abbrev pub flag_faults : PlainArray → PlainArray → Option ℤ → Bool → Faults
flag_faults a b axis fit =
    let lacks = lacks_axis (length b.shape) axis in record no_faults {
      bad_rank = nat_lt 1 (length a.shape);
      bad_length = not lacks && not fit;
      bad_domain = lacks_flags a;
      bad_index = lacks;
    }
