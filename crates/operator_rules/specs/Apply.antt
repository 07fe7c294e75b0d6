use Rattle.std.specs.Prelude.{ℤ, Bool, true, false, Option, Some, None, Err}
use Rattle.apl_arrays.specs.declared.report.Report.TheVariants.{Syntax}
use Rattle.apl_verbs.specs.declared.verb.Mix1.{Mix1}
use Rattle.apl_verbs.specs.declared.verb.Mix1.TheVariants as one
use Rattle.apl_verbs.specs.declared.verb.Mix2.{Mix2}
use Rattle.apl_verbs.specs.declared.verb.Mix2.TheVariants as two
use Rattle.apl_verbs.specs.declared.verb.Verb.{Verb}
use Rattle.apl_verbs.specs.declared.verb.Verb.TheVariants.{One, Two, Mixed1, Mixed2, Reduce, Scan, Inner, Outer}
use Rattle.apl_arrays.specs.Array.{PlainArray}
use Rattle.apl_items.specs.Answers.{ArrayResult}
use Rattle.apl_display.specs.Format.{format_of}
use Rattle.operator_rules.specs.Inner.{inner_product_of}
use Rattle.operator_rules.specs.Outer.{outer_product_of}
use Rattle.operator_rules.specs.Reduce.{reduce_of}
use Rattle.operator_rules.specs.Scan.{scan_of}
use Rattle.apl_scalar.specs.Scalar.{dyadic_of, monadic_of}
use Rattle.apl_search.specs.Decode.{decode_of}
use Rattle.apl_search.specs.Encode.{encode_of}
use Rattle.apl_search.specs.Grade.{falling, grade_of, rising}
use Rattle.apl_search.specs.Lookup.{index_of_of, member_of}
use Rattle.apl_selection.specs.Catenation.{catenate_of}
use Rattle.apl_selection.specs.Compression.{compress_of}
use Rattle.apl_structure.specs.Counting.{iota_of}
use Rattle.apl_structure.specs.Diagonals.{transpose_by_of}
use Rattle.apl_selection.specs.Expansion.{expand_of}
use Rattle.apl_structure.specs.Plain.{ravel_of, shape_of}
use Rattle.apl_structure.specs.Reshaping.{reshape_of}
use Rattle.apl_structure.specs.Reversal.{reverse_of}
use Rattle.apl_structure.specs.Rotation.{rotate_of}
use Rattle.apl_structure.specs.Taking.{drop_of, take_of}
use Rattle.apl_structure.specs.Transposition.{transpose_of}

-- what a mixed function gives of one argument
abbrev pub mixed_monadic_of : Mix1 → PlainArray → Option ℤ → ArrayResult
mixed_monadic_of one.Shape b axis = shape_of b
mixed_monadic_of one.Iota b axis = iota_of b
mixed_monadic_of one.Ravel b axis = ravel_of b
mixed_monadic_of (one.Reverse way) b axis = reverse_of b way axis
mixed_monadic_of one.Transpose b axis = transpose_of b
mixed_monadic_of one.GradeUp b axis = grade_of rising b
mixed_monadic_of one.GradeDown b axis = grade_of falling b
mixed_monadic_of one.Format b axis = format_of b

-- what a mixed function gives of two
abbrev pub mixed_dyadic_of : Mix2 → PlainArray → PlainArray → Option ℤ → ArrayResult
mixed_dyadic_of two.Reshape a b axis = reshape_of a b
mixed_dyadic_of two.Catenate a b axis = catenate_of a b axis
mixed_dyadic_of two.Take a b axis = take_of a b
mixed_dyadic_of two.Drop a b axis = drop_of a b
mixed_dyadic_of (two.Rotate way) a b axis = rotate_of a b way axis
mixed_dyadic_of two.TransposeBy a b axis = transpose_by_of a b
mixed_dyadic_of (two.Compress way) a b axis = compress_of a b way axis
mixed_dyadic_of (two.Expand way) a b axis = expand_of a b way axis
mixed_dyadic_of two.IndexOf a b axis = index_of_of a b
mixed_dyadic_of two.Member a b axis = member_of a b
mixed_dyadic_of two.Encode a b axis = encode_of a b
mixed_dyadic_of two.Decode a b axis = decode_of a b

-- what is given of a left argument; a dyadic function has one
abbrev pub of_left : Option PlainArray → (PlainArray → ArrayResult) → ArrayResult
of_left None rule = Err Syntax
of_left (Some a) rule = rule a

-- what a function, or an operator with its operands, gives of its arguments
abbrev pub applied : Verb → Option PlainArray → PlainArray → Option ℤ → ArrayResult
applied (One f) left b axis = monadic_of f b
applied (Two f) left b axis = of_left left (λ a. dyadic_of f a b)
applied (Mixed1 f) left b axis = mixed_monadic_of f b axis
applied (Mixed2 f) left b axis = of_left left (λ a. mixed_dyadic_of f a b axis)
applied (Reduce f way) left b axis = reduce_of f b way axis
applied (Scan f way) left b axis = scan_of f b way axis
applied (Inner f g) left b axis = of_left left (λ a. inner_product_of f g a b)
applied (Outer f) left b axis = of_left left (λ a. outer_product_of f a b)
