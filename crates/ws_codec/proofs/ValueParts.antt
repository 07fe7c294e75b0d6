-- Variables are read of their bytes, and of no others.
use Rattle.std.proofs.Common.{◌≡◌, ℕ, ℤ, ◌+◌, ◌*◌, ◌^◌, ◌<◌, ◌≤◌, true, List, [], ◌∷◌, ◌++◌, Ok, length, refl, sym, ap, ◌∙◌, subst, append_assoc, leb-true, le-leb, length-append, is_none, w64, FitsSigned, arith}
use Rattle.std.specs.Prelude.{nat_le}
use Rattle.std.specs.Int.{cast_unsigned}
use Rattle.std.specs.List.{flat_map}
use Rattle.byteorder.specs.Endian.{big_bytes}
use Rattle.byteorder.specs.Numbers.{length-bytes_high_first}
use Rattle.apl_arrays.specs.Array.{PlainArray, PlainItems, numbers, chars, char_array, element_count, item_count, number_array}
use Rattle.apl_arrays.specs.Shape.{is_small, shape_fault}
use Rattle.apl_workspace.specs.Limits.{most_weight}
use Rattle.ws_codec.specs.Fields.{read_byte, read_glyphs, read_integer, read_number}
use Rattle.ws_codec.specs.Reading.{◌>>=◌, keeps, repeated}
use Rattle.ws_codec.specs.SavedText.{array_bytes, items_bytes, kind_byte}
use Rattle.ws_codec.specs.Sound.{AreBytes, AreItems, Follow, IsVariable}
use Rattle.ws_codec.specs.Values.{at_last_axis, read_axis, read_char_array, read_next_axis, read_next_integer, read_number_array, read_numbers, read_shape}
use Rattle.ws_codec.specs.declared.saved.SavedRule.TheVariants.{Limit, Short, Size}
use Rattle.ws_codec.proofs.FieldParts.{byte_back, glyphs_back, glyphs_there, integer_back, integer_there, number_back, number_there}
use Rattle.ws_codec.proofs.NumberParts.{rest_bytes}
use Rattle.ws_codec.proofs.Repeats.{IsBack, IsThere, all_back, all_there}
use Rattle.ws_codec.proofs.Told.{after_keeps, bind_ok, same_behind, same_first, tell}

-- axes

abbrev SmallAxis : List ℕ → ℕ → Type 0
SmallAxis front axis = is_small axis ≡ true

axis_fits : (axis : ℕ) → is_small axis ≡ true → axis < 256 ^ 4
axis_fits axis small = let le : axis ≤ 16384 = leb-true axis 16384 small in omega (arith, le)

axis_there : IsThere (λ front. read_axis) (big_bytes 4) SmallAxis
unfolding read_axis keeps
axis_there front axis rest small = rw (number_there 4 axis rest (axis_fits axis small), small) refl

axis_back : IsBack (λ front. read_axis) (big_bytes 4) SmallAxis
unfolding read_axis
axis_back front bytes axis rest are e =
    let first = bind_ok (read_number 4 bytes) (λ found. keeps (is_small found.0) Size (length bytes) >>= λ small. tell found.0 found.1) (axis, rest) e in
    let number = number_back 4 bytes first.0.0 first.0.1 are first.1 in
    let small = after_keeps (is_small first.0.0) Size (length bytes) (λ small. tell first.0.0 first.0.1) (axis, rest) first.2 in
    let same = same_first first.0.0 first.0.1 axis rest small.1 in
    let behind = same_behind first.0.0 first.0.1 axis rest small.1 in
    (subst (λ (n : ℕ). is_small n ≡ true) same small.0, number.1 ∙ ap (λ (n : ℕ). big_bytes 4 n ++ first.0.1) same ∙ ap (λ (t : List ℕ). big_bytes 4 axis ++ t) behind)

-- shapes

pub record IsShape (weight : ℕ) (shape : List ℕ) : Type 0 where
  pub rank : nat_le (length shape) 8 ≡ true
  pub axes : Follow SmallAxis [] shape
  pub whole : is_none (shape_fault shape) ≡ true
  pub light : nat_le (weight + (1 + element_count shape)) most_weight ≡ true

abbrev shape_bytes : List ℕ → List ℕ
shape_bytes shape = length shape ∷ flat_map (big_bytes 4) shape

shape_there : (weight : ℕ) (shape rest : List ℕ) → IsShape weight shape → read_shape weight (shape_bytes shape ++ rest) ≡ Ok (shape, rest)
unfolding read_shape read_byte keeps
shape_there weight shape rest h = rw (h.rank, all_there (λ front. read_axis) (big_bytes 4) SmallAxis axis_there [] shape rest h.axes, h.whole, h.light) refl

shape_back : (weight : ℕ) (bytes shape rest : List ℕ) → AreBytes bytes → read_shape weight bytes ≡ Ok (shape, rest) → IsShape weight shape × (bytes ≡ shape_bytes shape ++ rest)
unfolding read_shape
shape_back weight bytes shape rest are e =
    let first = bind_ok (read_byte bytes) (λ rank. keeps (nat_le rank.0 8) Size (length bytes) >>= λ few. repeated read_next_axis rank.0 [] rank.1 >>= λ axes. keeps (is_none (shape_fault axes.0)) Size (at_last_axis axes.0 (length axes.1)) >>= λ small. keeps (nat_le (weight + (1 + element_count axes.0)) most_weight) Limit (at_last_axis axes.0 (length axes.1)) >>= λ light. tell axes.0 axes.1) (shape, rest) e in
    let one = byte_back bytes first.0.0 first.0.1 first.1 in
    let few = after_keeps (nat_le first.0.0 8) Size (length bytes) (λ few. repeated read_next_axis first.0.0 [] first.0.1 >>= λ axes. keeps (is_none (shape_fault axes.0)) Size (at_last_axis axes.0 (length axes.1)) >>= λ small. keeps (nat_le (weight + (1 + element_count axes.0)) most_weight) Limit (at_last_axis axes.0 (length axes.1)) >>= λ light. tell axes.0 axes.1) (shape, rest) first.2 in
    let read = bind_ok (repeated read_next_axis first.0.0 [] first.0.1) (λ axes. keeps (is_none (shape_fault axes.0)) Size (at_last_axis axes.0 (length axes.1)) >>= λ small. keeps (nat_le (weight + (1 + element_count axes.0)) most_weight) Limit (at_last_axis axes.0 (length axes.1)) >>= λ light. tell axes.0 axes.1) (shape, rest) few.1 in
    let small = after_keeps (is_none (shape_fault read.0.0)) Size (at_last_axis read.0.0 (length read.0.1)) (λ small. keeps (nat_le (weight + (1 + element_count read.0.0)) most_weight) Limit (at_last_axis read.0.0 (length read.0.1)) >>= λ light. tell read.0.0 read.0.1) (shape, rest) read.2 in
    let light = after_keeps (nat_le (weight + (1 + element_count read.0.0)) most_weight) Limit (at_last_axis read.0.0 (length read.0.1)) (λ light. tell read.0.0 read.0.1) (shape, rest) small.1 in
    let same = same_first read.0.0 read.0.1 shape rest light.1 in
    let behind = same_behind read.0.0 read.0.1 shape rest light.1 in
    let axes = all_back (λ front. read_axis) (big_bytes 4) SmallAxis axis_back first.0.0 [] first.0.1 read.0.0 read.0.1 ((subst AreBytes one are).1) read.1 in
    let list : axes.list ≡ shape = sym axes.whole ∙ same in
    let rank : first.0.0 ≡ length shape = sym axes.many ∙ ap length list in
    let spelled : first.0.1 ≡ flat_map (big_bytes 4) shape ++ rest = axes.spelled ∙ ap (λ (t : List ℕ). flat_map (big_bytes 4) t ++ read.0.1) list ∙ ap (λ (t : List ℕ). flat_map (big_bytes 4) shape ++ t) behind in (
      record {
        rank = ap (λ (n : ℕ). nat_le n 8) (sym rank) ∙ few.0;
        axes = subst (Follow SmallAxis []) list axes.follow;
        whole = ap (λ (t : List ℕ). is_none (shape_fault t)) (sym same) ∙ small.0;
        light = ap (λ (t : List ℕ). nat_le (weight + (1 + element_count t)) most_weight) (sym same) ∙ light.0;
      },
      one ∙ (λ i. rank i ∷ spelled i),
    )

-- numbers

abbrev AnyInteger : List ℤ → ℤ → Type 0
AnyInteger front number = FitsSigned w64 number

abbrev integer_bytes : ℤ → List ℕ
integer_bytes number = big_bytes 8 (cast_unsigned w64 number)

integers_there : IsThere (λ front. read_integer) integer_bytes AnyInteger
integers_there front number rest fits = integer_there number rest fits

integers_back : IsBack (λ front. read_integer) integer_bytes AnyInteger
integers_back front bytes number rest are e = integer_back bytes number rest are e

eight_each : (list : List ℤ) → length (flat_map integer_bytes list) ≡ 8 * length list
eight_each [] = refl
eight_each (number ∷ list) =
    omega (arith, length-append (integer_bytes number) (flat_map integer_bytes list), length-bytes_high_first 8 (cast_unsigned w64 number), eight_each list)

numbers_there : (count : ℕ) (list : List ℤ) (rest : List ℕ) → length list ≡ count → Follow AnyInteger [] list → read_numbers count (flat_map integer_bytes list ++ rest) ≡ Ok (list, rest)
unfolding read_numbers keeps
numbers_there count list rest len follow =
    let fits : nat_le (8 * length list) (length (flat_map integer_bytes list ++ rest)) ≡ true =
    le-leb (8 * length list) (length (flat_map integer_bytes list ++ rest)) (omega (arith, eight_each list, length-append (flat_map integer_bytes list) rest)) in
    rw (← len, fits) (all_there (λ front. read_integer) integer_bytes AnyInteger integers_there [] list rest follow)

numbers_back : (count : ℕ) (bytes : List ℕ) (list : List ℤ) (rest : List ℕ) → AreBytes bytes → read_numbers count bytes ≡ Ok (list, rest) → (length list ≡ count) × Follow AnyInteger [] list × (bytes ≡ flat_map integer_bytes list ++ rest)
unfolding read_numbers
numbers_back count bytes list rest are e =
    let whole = after_keeps (nat_le (8 * count) (length bytes)) Short 0 (λ whole. repeated read_next_integer count [] bytes) (list, rest) e in
    let read = all_back (λ front. read_integer) integer_bytes AnyInteger integers_back count [] bytes list rest are whole.1 in
    let same : read.list ≡ list = sym read.whole in
    (ap length (sym same) ∙ read.many, subst (Follow AnyInteger []) same read.follow, read.spelled ∙ ap (λ (t : List ℤ). flat_map integer_bytes t ++ rest) same)

-- variables

variable_shape : (weight : ℕ) (value : PlainArray) → IsVariable weight value → IsShape weight value.shape
variable_shape weight value h = record { rank = h.rank; axes = h.axes; whole = h.shape; light = h.light }

pub number_array_there : (weight : ℕ) (shape : List ℕ) (list : List ℤ) (rest : List ℕ) → IsVariable weight (number_array shape list) → read_number_array weight (array_bytes (number_array shape list) ++ rest) ≡ Ok (number_array shape list, rest)
unfolding read_number_array
number_array_there weight shape list rest h =
    let same : array_bytes (number_array shape list) ++ rest ≡ shape_bytes shape ++ (flat_map integer_bytes list ++ rest) = ap (λ (t : List ℕ). length shape ∷ t) (append_assoc (flat_map (big_bytes 4) shape) (flat_map integer_bytes list) rest) in
    rw (same, shape_there weight shape (flat_map integer_bytes list ++ rest) (variable_shape weight (number_array shape list) h), numbers_there (element_count shape) list rest (sym h.whole) h.items) refl

pub char_array_there : (weight : ℕ) (shape list rest : List ℕ) → IsVariable weight (char_array shape list) → read_char_array weight (array_bytes (char_array shape list) ++ rest) ≡ Ok (char_array shape list, rest)
unfolding read_char_array
char_array_there weight shape list rest h =
    let same : array_bytes (char_array shape list) ++ rest ≡ shape_bytes shape ++ (list ++ rest) = ap (λ (t : List ℕ). length shape ∷ t) (append_assoc (flat_map (big_bytes 4) shape) list rest) in
    rw (same, shape_there weight shape (list ++ rest) (variable_shape weight (char_array shape list) h), glyphs_there (element_count shape) list rest (sym h.whole) h.items) refl

-- what was read as a variable of a kind
pub record IsVariableOf (kind weight : ℕ) (bytes : List ℕ) (value : PlainArray) (rest : List ℕ) : Type 0 where
  pub is : IsVariable weight value
  pub of_kind : kind_byte value.items ≡ kind
  pub spelled : bytes ≡ array_bytes value ++ rest

variable_of : (weight : ℕ) (bytes shape : List ℕ) (items : PlainItems) (behind rest : List ℕ) → IsShape weight shape → bytes ≡ shape_bytes shape ++ behind → element_count shape ≡ item_count items → AreItems items → behind ≡ items_bytes items ++ rest → IsVariableOf (kind_byte items) weight bytes (record { shape = shape; items = items }) rest
variable_of weight bytes shape items behind rest h front count are back = record {
  is = record { rank = h.rank; axes = h.axes; shape = h.whole; light = h.light; whole = count; items = are };
  of_kind = refl;
  spelled = front ∙ ap (λ (t : List ℕ). shape_bytes shape ++ t) back ∙ ap (λ (t : List ℕ). length shape ∷ t) (sym (append_assoc (flat_map (big_bytes 4) shape) (items_bytes items) rest));
}

pub number_array_back : (weight : ℕ) (bytes : List ℕ) (value : PlainArray) (rest : List ℕ) → AreBytes bytes → read_number_array weight bytes ≡ Ok (value, rest) → IsVariableOf 1 weight bytes value rest
unfolding read_number_array
number_array_back weight bytes value rest are e =
    let first = bind_ok (read_shape weight bytes) (λ shape. read_numbers (element_count shape.0) shape.1 >>= λ list. tell (number_array shape.0 list.0) list.1) (value, rest) e in
    let second = bind_ok (read_numbers (element_count first.0.0) first.0.1) (λ list. tell (number_array first.0.0 list.0) list.1) (value, rest) first.2 in
    let shape = shape_back weight bytes first.0.0 first.0.1 are first.1 in
    let left = rest_bytes (shape_bytes first.0.0) first.0.1 (subst AreBytes shape.1 are) in
    let list = numbers_back (element_count first.0.0) first.0.1 second.0.0 second.0.1 left second.1 in
    let same = same_first (number_array first.0.0 second.0.0) second.0.1 value rest second.2 in
    let behind = same_behind (number_array first.0.0 second.0.0) second.0.1 value rest second.2 in
    let made = variable_of weight bytes first.0.0 (numbers second.0.0) first.0.1 second.0.1 shape.0 shape.1 (sym list.0) list.1 list.2 in
    subst (λ (v : PlainArray). IsVariableOf 1 weight bytes v rest) same (subst (IsVariableOf 1 weight bytes (number_array first.0.0 second.0.0)) behind made)

pub char_array_back : (weight : ℕ) (bytes : List ℕ) (value : PlainArray) (rest : List ℕ) → AreBytes bytes → read_char_array weight bytes ≡ Ok (value, rest) → IsVariableOf 2 weight bytes value rest
unfolding read_char_array
char_array_back weight bytes value rest are e =
    let first = bind_ok (read_shape weight bytes) (λ shape. read_glyphs (element_count shape.0) shape.1 >>= λ list. tell (char_array shape.0 list.0) list.1) (value, rest) e in
    let second = bind_ok (read_glyphs (element_count first.0.0) first.0.1) (λ list. tell (char_array first.0.0 list.0) list.1) (value, rest) first.2 in
    let shape = shape_back weight bytes first.0.0 first.0.1 are first.1 in
    let list = glyphs_back (element_count first.0.0) first.0.1 second.0.0 second.0.1 second.1 in
    let same = same_first (char_array first.0.0 second.0.0) second.0.1 value rest second.2 in
    let behind = same_behind (char_array first.0.0 second.0.0) second.0.1 value rest second.2 in
    let made = variable_of weight bytes first.0.0 (chars second.0.0) first.0.1 second.0.1 shape.0 shape.1 (sym list.0) list.1 list.2 in
    subst (λ (v : PlainArray). IsVariableOf 2 weight bytes v rest) same (subst (IsVariableOf 2 weight bytes (char_array first.0.0 second.0.0)) behind made)
