-- Reading a shape, up to the parenthesis that closes it.
use Rattle.std.proofs.Common.{◌≡◌, ℕ, zero, suc, ◌+◌, ◌*◌, ◌/◌, ◌<◌, ◌≤◌, ◌^◌, min, Bool, true, false, ◌&&◌, cond, eqb, leb, ltb, List, [], ◌∷◌, ◌++◌, Some, Ok, Err, map, length, get_or, ◌⊎◌, inl, inr, refl, sym, ap, ◌∙◌, subst, append_assoc, arith}
use Rattle.std.specs.Option.{option_map_or}
use Rattle.std.proofs.Math.Nat.{le-div_iff_mul-le, div-le_self}
use Rattle.std.proofs.lemmas.Bool.{false≢true, and_from, and_parts}
use Rattle.std.proofs.lemmas.Bool.Decides.{nat_tests}
use Rattle.std.proofs.lemmas.List.Elements.{All-nil, recursion_from_All, All-from_recursion}
use Rattle.std.specs.Fmt.{decimal}
use Rattle.std.specs.List.{AllByRecursion}
use Rattle.apl_arrays.specs.Array.{element_count, FitsLimits}
use Rattle.apl_arrays.specs.Glyph.{is_digit}
use Rattle.apl_arrays.specs.Run.{begins}
use Rattle.apl_items.proofs.ShapeLemmas.{element_count-cons}
use Rattle.line_text.specs.Spaced.{spaced}
use Rattle.line_text.proofs.SameNumbers.{begins_count}
use Rattle.apl_arrays.specs.List.{first_of}
use Rattle.text_reader.specs.Reading.{Reader, Reading, ◌>>=◌, as_read, read_behind}
use Rattle.text_reader.specs.NumberReading.{read_number}
use Rattle.sv_text.specs.ValueReading.{capped_product, greatest_axis, goes_on_behind, more_axes, read_axes, read_shape}
use Rattle.text_reader.proofs.ListForms.{head_or, rest_of}
use Rattle.text_reader.proofs.Lists.{begun}
use Rattle.text_reader.proofs.NumberForms.{InRange, NoDigit, number_reads, reads_number}
use Rattle.text_reader.proofs.Told.{tell, first_told, bind_ok}
use Rattle.text_reader.proofs.Readers.{SameFirst, Anything, Found, Stopped, Reads, IsReader, AreGlyphs, reformed_reading, retexted, respelled, behind_glyph, then_read, made, widened, no_further}

product_of : List ℕ → ℕ
product_of [] = 1
product_of (x ∷ xs) = x * product_of xs

abbrev pub Small : ℕ → Type 0
Small axis = axis ≤ 16384

-- axes that may follow others of this product, at most so many
record TailFit (most product : ℕ) (axes : List ℕ) : Type 0 where
  few : length axes ≤ most
  each : AllByRecursion Small axes
  size : product * product_of axes ≤ 16384

-- at least one of them
record AxesFit (most product : ℕ) (axes : List ℕ) : Type 0 where
  some : 0 < length axes
  tail : TailFit most product axes

-- axes behind a first one, and the parenthesis
pub tail_text : List ℕ → List ℕ
tail_text [] = 41 ∷ []
tail_text (x ∷ xs) = 32 ∷ (decimal x ++ tail_text xs)

abbrev pub axes_text : List ℕ → List ℕ
axes_text axes = decimal (head_or 0 axes) ++ tail_text (rest_of axes)

-- the product is looked at up to its limit alone

capped_fits : (m k : ℕ) → m * k ≤ 16384 → capped_product m * k ≤ 16384
capped_fits m zero h = omega (arith, h)
capped_fits m (suc k) h =
    let more : m ≤ m * suc k = omega arith in
    let same : capped_product m ≡ m = omega (arith, h, more) in
    subst (λ n. n * suc k ≤ 16384) (sym same) h

uncapped_fits : (m k : ℕ) → capped_product m * k ≤ 16384 → m * k ≤ 16384
uncapped_fits m zero h = omega arith
uncapped_fits m (suc k) h =
    let more : capped_product m ≤ capped_product m * suc k = omega arith in
    let same : capped_product m ≡ m = omega (arith, h, more) in
    subst (λ n. n * suc k ≤ 16384) same h

-- what stands behind an axis

no_digit_behind : (axes behind : List ℕ) → NoDigit (tail_text axes ++ behind)
unfolding tail_text
no_digit_behind [] behind = refl
no_digit_behind (x ∷ xs) behind = refl

only_closed : (w behind z : List ℕ) → tail_text w ++ behind ≡ 41 ∷ z → w ≡ []
unfolding tail_text
only_closed [] behind z e = refl
only_closed (x ∷ xs) behind z e = absurd (omega (arith, ap (λ t. get_or t 0 0) e))

tail_closed : (more product : ℕ) (rest : List ℕ) → product ≤ 16384 → Reads tail_text (TailFit more product) Anything SameFirst (41 ∷ rest) (Ok ([], rest))
unfolding tail_text product_of
tail_closed more product rest small = record {
  fits = record { few = omega arith; each = tt; size = omega (arith, small) };
  whole = refl;
  only = λ w behind z fit follow e agree. only_closed w behind z e;
}

tail_spelled : (most product : ℕ) (e : List ℕ) → AxesFit most product e → 32 ∷ axes_text e ≡ tail_text e
unfolding tail_text head_or rest_of
tail_spelled most product [] h = absurd (omega (arith, h.some))
tail_spelled most product (x ∷ xs) h = refl

tail_or_other : (more product : ℕ) (rest : List ℕ) (e behind : List ℕ) → TailFit more product e → Anything behind → AxesFit more product e ⊎ (SameFirst (tail_text e ++ behind) (32 ∷ rest) → ⊥)
unfolding tail_text
tail_or_other more product rest [] behind h follow = inr (λ same. omega (arith, ap (λ o. option_map_or (λ n. n) o 0) same))
tail_or_other more product rest (x ∷ xs) behind h follow = inl (record { some = omega arith; tail = h })

tail_more : (more product : ℕ) (rest : List ℕ) (read : Reading (List ℕ)) → Reads axes_text (AxesFit more product) Anything SameFirst rest read → Reads tail_text (TailFit more product) Anything SameFirst (32 ∷ rest) read
tail_more more product rest read h =
    widened tail_text (AxesFit more product) (TailFit more product) Anything SameFirst no_further (λ e fit. fit.tail) (32 ∷ rest) (tail_or_other more product rest) read
    (retexted (λ e. 32 ∷ axes_text e) tail_text (AxesFit more product) Anything (32 ∷ rest) read (tail_spelled more product) (behind_glyph 32 axes_text (AxesFit more product) Anything SameFirst rest read h))

-- one of the two may come
abbrev pub MayGoOn : ℕ → ℕ → Type 0
MayGoOn more product = (product ≤ 16384) ⊎ (0 < more)

a_tail : (more product : ℕ) → MayGoOn more product → (e : List ℕ) × TailFit more product e
unfolding product_of
a_tail more product (inl small) = ([], record { few = omega arith; each = tt; size = omega (arith, small) })
a_tail more product (inr some) = (0 ∷ [], record { few = omega (arith, some); each = (omega arith, tt); size = omega arith })

none_goes : (more product : ℕ) (line : List ℕ) → (first_of line ≡ Some 41 → product ≤ 16384 → ⊥) → (first_of line ≡ Some 32 → 0 < more → ⊥) → (w behind z : List ℕ) → TailFit more product w → tail_text w ++ behind ≡ z → SameFirst z line → ⊥
unfolding tail_text product_of
none_goes more product line close go [] behind z fit same agree = close (sym agree ∙ ap first_of (sym same)) (omega (arith, fit.size))
none_goes more product line close go (x ∷ xs) behind z fit same agree = go (sym agree ∙ ap first_of (sym same)) (omega (arith, fit.few))

tail_stopped : (more product : ℕ) → MayGoOn more product → (line : List ℕ) → (first_of line ≡ Some 41 → product ≤ 16384 → ⊥) → (first_of line ≡ Some 32 → 0 < more → ⊥) → Stopped tail_text (TailFit more product) Anything line (length line)
tail_stopped more product may line close go =
    let e = a_tail more product may in
    record {
      part = [];
      rest = line;
      whole = refl;
      left_is = refl;
      value = e.0;
      more = tail_text e.0;
      fits = e.1;
      goes_on = refl;
      none = λ w behind z fit follow same agree. none_goes more product line close go w behind z fit same agree;
    }

tail_by : (more product : ℕ) → MayGoOn more product → (axes : Reader (List ℕ)) → (0 < more → IsReader axes_text (AxesFit more product) Anything SameFirst axes) → (x : ℕ) (rest : List ℕ) → AreGlyphs (x ∷ rest) → (b : Bool) → (eqb x 41 && leb product 16384) ≡ b → (c : Bool) → (eqb x 32 && ltb 1 (suc more)) ≡ c → Reads tail_text (TailFit more product) Anything SameFirst (x ∷ rest) (cond b (Ok (false, rest)) (cond c (Ok (true, rest)) (Err (length (x ∷ rest)))) >>= λ follows. more_axes follows axes)
tail_by more product may axes inner x rest a true p c q =
    let same : 41 ≡ x = grind (arith, nat_tests, p) in
    let small : product ≤ 16384 = grind (arith, nat_tests, p) in
    subst (λ g. Reads tail_text (TailFit more product) Anything SameFirst (g ∷ rest) (Ok ([], rest))) same (tail_closed more product rest small)
tail_by more product may axes inner x rest a false p true q =
    let same : 32 ≡ x = grind (arith, nat_tests, q) in
    let some : 0 < more = grind (arith, nat_tests, q) in
    subst (λ g. Reads tail_text (TailFit more product) Anything SameFirst (g ∷ rest) (axes rest)) same (tail_more more product rest (axes rest) (inner some rest a.1))
tail_by more product may axes inner x rest a false p false q =
    tail_stopped more product may (x ∷ rest)
    (λ e small. let same : x ≡ 41 = cc in grind (arith, nat_tests, p, same, small))
    (λ e some. let same : x ≡ 32 = cc in grind (arith, nat_tests, q, same, some))

reads_tail : (more product : ℕ) → MayGoOn more product → (axes : Reader (List ℕ)) → (0 < more → IsReader axes_text (AxesFit more product) Anything SameFirst axes) → IsReader tail_text (TailFit more product) Anything SameFirst (λ line. goes_on_behind (leb product 16384) (ltb 1 (suc more)) line >>= λ follows. more_axes follows axes)
reads_tail more product may axes inner [] a = tail_stopped more product may [] (λ e small. let none : ⊥ = cc in none) (λ e some. let none : ⊥ = cc in none)
reads_tail more product may axes inner (x ∷ rest) a =
    tail_by more product may axes inner x rest a (eqb x 41 && leb product 16384) refl (eqb x 32 && ltb 1 (suc more)) refl

-- the axes

-- the greatest axis leaves room for what must follow
record Greatest (more product greatest : ℕ) : Type 0 where
  small : greatest ≤ 16384
  above : (x : ℕ) (xs : List ℕ) → AxesFit (suc more) product (x ∷ xs) → x ≤ greatest
  room : (x : ℕ) → x ≤ greatest → MayGoOn more (capped_product (product * x))

above_last : (product : ℕ) → 0 < product → (x : ℕ) (xs : List ℕ) → AxesFit 1 product (x ∷ xs) → x ≤ 16384 / product
unfolding product_of
above_last product some x [] h = (le-div_iff_mul-le {k = product} {x = x} {y = 16384} some).1 (omega (arith, h.tail.size))
above_last product some x (y ∷ xs) h = absurd (omega (arith, h.tail.few))

last_axis : (product : ℕ) → 0 < product → Greatest 0 product (16384 / product)
unfolding product_of
last_axis product some = record {
  small = div-le_self 16384 product;
  above = above_last product some;
  room = λ x h.
      let fits : x * product ≤ 16384 = (le-div_iff_mul-le {k = product} {x = x} {y = 16384} some).0 h in
      inl (omega (arith, fits));
}

any_axis : (more product : ℕ) → (0 < more) ⊎ (product ≡ 0) → Greatest more product 16384
any_axis more product free = record {
  small = omega arith;
  above = λ x xs h. h.tail.each.0;
  room = λ x h. elim free [
    | inl some ↦ inr some
    | inr none ↦
        let nought : product * x ≡ 0 = ap (λ n. n * x) none ∙ (let gone : 0 * x ≡ 0 = omega arith in gone) in
        inl (omega (arith, nought))
  ];
}

greatest_by : (more product : ℕ) (b : Bool) → (eqb (suc more) 1 && ltb 0 product) ≡ b → Greatest more product (cond b (16384 / product) 16384)
greatest_by zero product true e = last_axis product (grind (arith, nat_tests, e))
greatest_by (suc more) product true e = absurd (grind (arith, nat_tests, e))
greatest_by zero product false e = any_axis 0 product (inr (grind (arith, nat_tests, e)))
greatest_by (suc more) product false e = any_axis (suc more) product (inl (omega arith))

assoc_bind : {A B C : Type 0} (read : Reading A) (f : A × List ℕ → Reading B) (g : B × List ℕ → Reading C) → ((read >>= f) >>= g) ≡ (read >>= λ x. f x >>= g)
assoc_bind (Ok x) f g = refl
assoc_bind (Err left) f g = refl

axes_rest : (more product x : ℕ) (e : List ℕ) → (head_or 0 e ≡ x) × AxesFit (suc more) product e → TailFit more (capped_product (product * x)) (rest_of e)
unfolding head_or rest_of product_of
axes_rest more product x [] h = absurd (omega (arith, h.1.some))
axes_rest more product x (y ∷ ys) h = record {
  few = omega (arith, h.1.tail.few);
  each = h.1.tail.each.1;
  size = capped_fits (product * x) (product_of ys) (subst (λ n. (product * n) * product_of ys ≤ 16384) h.0 (omega (arith, h.1.tail.size)));
}

axes_again : (more product x : ℕ) (e : List ℕ) → (head_or 0 e ≡ x) × AxesFit (suc more) product e → x ∷ rest_of e ≡ e
unfolding head_or rest_of
axes_again more product x [] h = absurd (omega (arith, h.1.some))
axes_again more product x (y ∷ ys) h = ap (λ n. n ∷ ys) (sym h.0)

axes_there : (more product x : ℕ) → x ≤ 16384 → (ys : List ℕ) → TailFit more (capped_product (product * x)) ys → (head_or 0 (x ∷ ys) ≡ x) × AxesFit (suc more) product (x ∷ ys)
unfolding head_or product_of
axes_there more product x small ys h =
    let size : (product * x) * product_of ys ≤ 16384 = uncapped_fits (product * x) (product_of ys) h.size in
    (refl, record { some = omega arith; tail = record { few = omega (arith, h.few); each = (small, h.each); size = omega (arith, size) } })

axes_first : (more product greatest : ℕ) → Greatest more product greatest → (e : List ℕ) → AxesFit (suc more) product e → InRange 0 greatest (head_or 0 e)
unfolding head_or
axes_first more product greatest g [] h = absurd (omega (arith, h.some))
axes_first more product greatest g (x ∷ xs) h = record { least = omega arith; most = g.above x xs h }

some_axes : (more product greatest : ℕ) → Greatest more product greatest → (x : ℕ) → InRange 0 greatest x → (e : List ℕ) × (head_or 0 e ≡ x) × AxesFit (suc more) product e
some_axes more product greatest g x h =
    let t = a_tail more (capped_product (product * x)) (g.room x h.most) in
    let fits = axes_there more product x (omega (arith, h.most, g.small)) t.0 t.1 in
    (x ∷ t.0, fits.0, fits.1)

axes_behind : (more product x : ℕ) → x ≤ 16384 → MayGoOn more (capped_product (product * x)) → (axes : Reader (List ℕ)) → (0 < more → IsReader axes_text (AxesFit more (capped_product (product * x))) Anything SameFirst axes) → IsReader (λ e. tail_text (rest_of e)) (λ e. (head_or 0 e ≡ x) × AxesFit (suc more) product e) Anything SameFirst (λ line. goes_on_behind (leb (capped_product (product * x)) 16384) (ltb 1 (suc more)) line >>= λ follows. (more_axes follows axes >>= λ others. Ok (x ∷ others.0, others.1)))
unfolding rest_of
axes_behind more product x small may axes inner =
    let tail : Reader (List ℕ) = λ line. goes_on_behind (leb (capped_product (product * x)) 16384) (ltb 1 (suc more)) line >>= λ follows. more_axes follows axes in
    let joined : IsReader (λ e. tail_text (rest_of e)) (λ e. (head_or 0 e ≡ x) × AxesFit (suc more) product e) Anything SameFirst (λ line. as_read (λ ys. x ∷ ys) (tail line)) =
    made tail_text (TailFit more (capped_product (product * x))) Anything SameFirst tail (λ ys. x ∷ ys) rest_of (λ e. (head_or 0 e ≡ x) × AxesFit (suc more) product e) (reads_tail more (capped_product (product * x)) may axes inner) (axes_rest more product x) (axes_again more product x) (axes_there more product x small) (λ ys h. refl) in
    respelled (λ e. tail_text (rest_of e)) (λ e. (head_or 0 e ≡ x) × AxesFit (suc more) product e) Anything SameFirst (λ line. as_read (λ ys. x ∷ ys) (tail line)) (λ line. goes_on_behind (leb (capped_product (product * x)) 16384) (ltb 1 (suc more)) line >>= λ follows. (more_axes follows axes >>= λ others. Ok (x ∷ others.0, others.1)))
    (λ line. assoc_bind (goes_on_behind (leb (capped_product (product * x)) 16384) (ltb 1 (suc more)) line) (λ follows. more_axes follows axes) (λ others. Ok (x ∷ others.0, others.1))) joined

axes_by : (more product greatest : ℕ) → Greatest more product greatest → ((x : ℕ) → 0 < more → IsReader axes_text (AxesFit more (capped_product (product * x))) Anything SameFirst (read_axes more (capped_product (product * x)))) → IsReader axes_text (AxesFit (suc more) product) Anything SameFirst (λ line. read_number 0 greatest line >>= λ axis. (goes_on_behind (leb (capped_product (product * axis.0)) 16384) (ltb 1 (suc more)) axis.1 >>= λ follows. (more_axes follows (read_axes more (capped_product (product * axis.0))) >>= λ others. Ok (axis.0 ∷ others.0, others.1))))
axes_by more product greatest g inner =
    then_read decimal (InRange 0 greatest) NoDigit (head_or 0) (λ e. tail_text (rest_of e)) (AxesFit (suc more) product) Anything SameFirst (read_number 0 greatest)
    (λ x line. goes_on_behind (leb (capped_product (product * x)) 16384) (ltb 1 (suc more)) line >>= λ follows. (more_axes follows (read_axes more (capped_product (product * x))) >>= λ others. Ok (x ∷ others.0, others.1)))
    no_further (reads_number 0 greatest (omega (arith, g.small)) (omega arith))
    (λ x h. axes_behind more product x (omega (arith, h.most, g.small)) (g.room x h.most) (read_axes more (capped_product (product * x))) (inner x))
    (axes_first more product greatest g)
    (λ e behind h follow. no_digit_behind (rest_of e) behind)
    (some_axes more product greatest g)

no_axes : (product x : ℕ) → 0 < 0 → IsReader axes_text (AxesFit 0 (capped_product (product * x))) Anything SameFirst (read_axes 0 (capped_product (product * x)))
no_axes product x h = absurd (omega (arith, h))

-- axes up to where the shape is closed are read
reads_axes : (more product : ℕ) → IsReader axes_text (AxesFit (suc more) product) Anything SameFirst (read_axes (suc more) product)
unfolding read_axes
reads_axes zero product =
    axes_by zero product (greatest_axis (eqb 1 1) product) (greatest_by zero product (eqb 1 1 && ltb 0 product) refl) (no_axes product)
reads_axes (suc more) product =
    axes_by (suc more) product (greatest_axis (eqb (suc (suc more)) 1) product) (greatest_by (suc more) product (eqb (suc (suc more)) 1 && ltb 0 product) refl) (λ x some. reads_axes more (capped_product (product * x)))

-- shapes

abbrev pub shape_text : List ℕ → List ℕ
shape_text shape = spaced (map decimal shape) ++ 41 ∷ []

elements_are : (shape : List ℕ) → element_count shape ≡ product_of shape
unfolding product_of
elements_are [] = refl
elements_are (x ∷ xs) = element_count-cons x xs ∙ ap (λ n. x * n) (elements_are xs)

shape_spelled_from : (x : ℕ) (xs : List ℕ) → decimal x ++ tail_text xs ≡ shape_text (x ∷ xs)
unfolding tail_text
shape_spelled_from x [] = refl
shape_spelled_from x (y ∷ ys) =
    ap (λ t. decimal x ++ 32 ∷ t) (shape_spelled_from y ys) ∙ sym (append_assoc (decimal x) (32 ∷ spaced (map decimal (y ∷ ys))) (41 ∷ []))

shape_spelled : (e : List ℕ) → AxesFit 8 1 e → axes_text e ≡ shape_text e
unfolding head_or rest_of
shape_spelled [] h = absurd (omega (arith, h.some))
shape_spelled (x ∷ xs) h = shape_spelled_from x xs

axes_make_shape : (e : List ℕ) → AxesFit 8 1 e → FitsLimits e
axes_make_shape e h = record {
  rank = h.tail.few;
  axes = All-from_recursion Small e h.tail.each;
  elements = omega (arith, elements_are e, h.tail.size);
}

-- what is read as axes fits, of whatever the line is

axis_fits : (greatest : ℕ) (line : List ℕ) (axis : ℕ × List ℕ) → greatest ≤ 16384 → read_number 0 greatest line ≡ Ok axis → axis.0 ≤ greatest
axis_fits greatest line axis small e =
    (subst (Reads decimal (InRange 0 greatest) NoDigit SameFirst line) e (number_reads 0 greatest (omega (arith, small)) (omega arith) line)).fits.most

follows_by : (closes goes : Bool) (x : ℕ) (rest : List ℕ) (b : Bool) → (eqb x 41 && closes) ≡ b → (c : Bool) → (eqb x 32 && goes) ≡ c → (found : Bool × List ℕ) → cond b (Ok (false, rest)) (cond c (Ok (true, rest)) (Err (length (x ∷ rest)))) ≡ Ok found → ((found.0 ≡ true) × (goes ≡ true)) ⊎ ((found.0 ≡ false) × (closes ≡ true))
follows_by closes goes x rest true p c q found e =
    inr (sym (first_told false rest found.0 found.1 e), (and_parts (eqb x 41) closes p).1)
follows_by closes goes x rest false p true q found e =
    inl (sym (first_told true rest found.0 found.1 e), (and_parts (eqb x 32) goes q).1)
follows_by closes goes x rest false p false q found e = absurd (let none : ⊥ = cc in none)

follows_or_closes : (closes goes : Bool) (line : List ℕ) (found : Bool × List ℕ) → goes_on_behind closes goes line ≡ Ok found → ((found.0 ≡ true) × (goes ≡ true)) ⊎ ((found.0 ≡ false) × (closes ≡ true))
follows_or_closes closes goes [] found e = absurd (let none : ⊥ = cc in none)
follows_or_closes closes goes (x ∷ rest) found e = follows_by closes goes x rest (eqb x 41 && closes) refl (eqb x 32 && goes) refl found e

first_axes_fit : (more product x : ℕ) (ys : List ℕ) → x ≤ 16384 → TailFit more (capped_product (product * x)) ys → AxesFit (suc more) product (x ∷ ys)
first_axes_fit more product x ys small h = (axes_there more product x small ys h).1

closed_tail : (more product : ℕ) → leb product 16384 ≡ true → TailFit more product []
unfolding product_of
closed_tail more product e = let small : product ≤ 16384 = grind (arith, nat_tests, e) in record { few = omega arith; each = tt; size = omega (arith, small) }

more_fit : (more product x : ℕ) (follows : Bool × List ℕ) (others : List ℕ × List ℕ) → (((follows.0 ≡ true) × (ltb 1 (suc more) ≡ true)) ⊎ ((follows.0 ≡ false) × (leb (capped_product (product * x)) 16384 ≡ true))) → more_axes follows (read_axes more (capped_product (product * x))) ≡ Ok others → ((line : List ℕ) → read_axes more (capped_product (product * x)) line ≡ Ok others → AxesFit more (capped_product (product * x)) others.0) → TailFit more (capped_product (product * x)) others.0
more_fit more product x follows others (inl h) e inner =
    (inner follows.1 (ap (λ b. cond b (read_axes more (capped_product (product * x)) follows.1) (Ok ([], follows.1))) (sym h.0) ∙ e)).tail
more_fit more product x follows others (inr h) e inner =
    let closed : tell [] follows.1 ≡ tell others.0 others.1 = ap (λ b. cond b (read_axes more (capped_product (product * x)) follows.1) (Ok ([], follows.1))) (sym h.0) ∙ e in
    subst (TailFit more (capped_product (product * x))) (first_told [] follows.1 others.0 others.1 closed) (closed_tail more (capped_product (product * x)) h.1)

axes_fit : (most product : ℕ) (line : List ℕ) (found : List ℕ × List ℕ) → read_axes most product line ≡ Ok found → AxesFit most product found.0
unfolding read_axes
axes_fit zero product line found e = absurd (let none : ⊥ = cc in none)
axes_fit (suc more) product line found e =
    let one = bind_ok (read_number 0 (greatest_axis (eqb (suc more) 1) product) line) (λ axis. goes_on_behind (leb (capped_product (product * axis.0)) 16384) (ltb 1 (suc more)) axis.1 >>= λ follows. (more_axes follows (read_axes more (capped_product (product * axis.0))) >>= λ others. Ok (axis.0 ∷ others.0, others.1))) found e in
    let axis : ℕ = one.0.0 in
    let two = bind_ok (goes_on_behind (leb (capped_product (product * axis)) 16384) (ltb 1 (suc more)) one.0.1) (λ follows. more_axes follows (read_axes more (capped_product (product * axis))) >>= λ others. Ok (axis ∷ others.0, others.1)) found one.2 in
    let three = bind_ok (more_axes two.0 (read_axes more (capped_product (product * axis)))) (λ others. Ok (axis ∷ others.0, others.1)) found two.2 in
    let g = greatest_by more product (eqb (suc more) 1 && ltb 0 product) refl in
    let small : axis ≤ 16384 = omega (arith, axis_fits (greatest_axis (eqb (suc more) 1) product) line one.0 g.small one.1, g.small) in
    let tail = more_fit more product axis two.0 three.0 (follows_or_closes (leb (capped_product (product * axis)) 16384) (ltb 1 (suc more)) one.0.1 two.0 two.1) three.1 (λ rest read. axes_fit more (capped_product (product * axis)) rest three.0 read) in
    subst (AxesFit (suc more) product) (first_told (axis ∷ three.0.0) three.0.1 found.0 found.1 three.2) (first_axes_fit more product axis three.0.0 small tail)

-- so a shape that is read is within the limits
pub read_axes_fit : (line shape rest front : List ℕ) → front ≡ [] → read_behind front (read_axes 8 1 line) ≡ Ok (shape, rest) → FitsLimits shape
read_axes_fit line shape rest front none e =
    let whole : read_axes 8 1 line ≡ Ok (shape, rest) = sym (begun (read_axes 8 1 line)) ∙ (ap (λ f. read_behind f (read_axes 8 1 line)) (sym none) ∙ e) in
    axes_make_shape shape (axes_fit 8 1 line (shape, rest) whole)

shape_or_other : (line : List ℕ) → (first_of line ≡ Some 41 → ⊥) → (e behind : List ℕ) → FitsLimits e → Anything behind → AxesFit 8 1 e ⊎ (SameFirst (shape_text e ++ behind) line → ⊥)
shape_or_other line not [] behind h follow = inr (λ same. not (sym same))
shape_or_other line not (x ∷ xs) behind h follow =
    inl (record { some = omega arith; tail = record { few = h.rank; each = recursion_from_All Small (x ∷ xs) h.axes; size = omega (arith, elements_are (x ∷ xs), h.elements) } })

only_empty : (w behind z : List ℕ) → FitsLimits w → shape_text w ++ behind ≡ 41 ∷ z → w ≡ []
only_empty [] behind z fit e = refl
only_empty (x ∷ xs) behind z fit e =
    let axis : Small x = (recursion_from_All Small (x ∷ xs) fit.axes).0 in
    let whole : decimal x ++ (tail_text xs ++ behind) ≡ 41 ∷ z = sym (append_assoc (decimal x) (tail_text xs) behind) ∙ (ap (λ t. t ++ behind) (shape_spelled_from x xs) ∙ e) in
    absurd (false≢true (ap (begins is_digit) (sym whole) ∙ begins_count x (tail_text xs ++ behind) (omega (arith, axis))))

shape_closed : (rest : List ℕ) → Reads shape_text FitsLimits Anything SameFirst (41 ∷ rest) (Ok ([], rest))
shape_closed rest = record {
  fits = record { rank = omega arith; axes = All-nil Small; elements = omega arith };
  whole = refl;
  only = λ w behind z fit follow e agree. only_empty w behind z fit e;
}

shape_axes : (line : List ℕ) → AreGlyphs line → (first_of line ≡ Some 41 → ⊥) → Reads shape_text FitsLimits Anything SameFirst line (read_axes 8 1 line)
shape_axes line a not =
    widened shape_text (AxesFit 8 1) FitsLimits Anything SameFirst no_further axes_make_shape line (shape_or_other line not) (read_axes 8 1 line)
    (retexted axes_text shape_text (AxesFit 8 1) Anything line (read_axes 8 1 line) shape_spelled (reads_axes 7 1 line a))

shape_by : (x : ℕ) (rest : List ℕ) → AreGlyphs (x ∷ rest) → (b : Bool) → eqb x 41 ≡ b → Reads shape_text FitsLimits Anything SameFirst (x ∷ rest) (cond b (Ok ([], rest)) (read_axes 8 1 (x ∷ rest)))
shape_by x rest a true e =
    let same : 41 ≡ x = grind (arith, nat_tests, e) in
    subst (λ g. Reads shape_text FitsLimits Anything SameFirst (g ∷ rest) (Ok ([], rest))) same (shape_closed rest)
shape_by x rest a false e =
    shape_axes (x ∷ rest) a (λ first. let same : x ≡ 41 = cc in grind (arith, nat_tests, e, same))

-- a shape is read
pub reads_shape : IsReader shape_text FitsLimits Anything SameFirst read_shape
unfolding read_shape
reads_shape [] a = shape_axes [] a (λ e. let none : ⊥ = cc in none)
reads_shape (x ∷ rest) a = shape_by x rest a (eqb x 41) refl
