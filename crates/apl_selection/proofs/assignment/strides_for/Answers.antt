use Rattle.std.proofs.Common.{◌≡◌, ◌<◌, ℕ, List, length, get_or, ap, subst, sym, ◌∙◌, arith, map}
use Rattle.std.specs.Prelude.{option_copied}
use Rattle.std.proofs.lemmas.Result.{IfOk-weaker}
use Rattle.apl_arrays.specs.Array.{FitsLimits, element_count}
use Rattle.apl_items.specs.Shapes.{stride_of}
use Rattle.apl_selection.specs.Naming.{AreStridesFor}
use Rattle.apl_selection.specs.Subscripts.{named_counts}
use Rattle.apl_selection.proofs.IndexLemmas.{counts_fit}
use Rattle.apl_selection.proofs.NamingLemmas.{are_strides, selected_count}
use Rattle.apl_selection.proofs.assignment.strides_for.Goals as goal

pub strides_of-requires-clause-fits : goal.strides_of-requires-clause-fits
strides_of-requires-clause-fits c =
    let a = c.args.a.now in let v = c.args.v.now in let subs = map option_copied c.args.subs.now in
    let whole = ap element_count c.as_slice.ensures.value
    ∙ selected_count a v subs c.shape-2.result.now c.in_ok-counts.counts.items c.requires.fine (sym c.is_single.ensures ∙ c.if-is_single.false) c.requires.array c.shape-2.ensures.value c.in_ok-counts.ensures.whole in
    counts_fit c.shape-2.result.now subs c.as_slice.result.now v.shape (subst FitsLimits (sym c.shape-2.ensures.value) c.shape-2.ensures.array.fits) c.requires.array.fits
    (omega (arith, c.requires.array.whole, c.requires.some)) (c.as_slice.ensures.value ∙ c.in_ok-counts.ensures.value) (whole ∙ sym c.requires.array.whole)

pub strides_of-requires-clause-elements : goal.strides_of-requires-clause-elements
strides_of-requires-clause-elements c =
    let a = c.args.a.now in let v = c.args.v.now in let subs = map option_copied c.args.subs.now in
    let whole = ap element_count c.as_slice.ensures.value
    ∙ selected_count a v subs c.shape-2.result.now c.in_ok-counts.counts.items c.requires.fine (sym c.is_single.ensures ∙ c.if-is_single.false) c.requires.array c.shape-2.ensures.value c.in_ok-counts.ensures.whole in
    omega (arith, c.requires.some)

pub returns : goal.returns
returns c =
    let a = c.args.a.now in let v = c.args.v.now in let subs = map option_copied c.args.subs.now in
    let single = sym c.is_single.ensures ∙ c.if-is_single.false in
    let whole = ap element_count c.as_slice.ensures.value
    ∙ selected_count a v subs c.shape-2.result.now c.in_ok-counts.counts.items c.requires.fine single c.requires.array c.shape-2.ensures.value c.in_ok-counts.ensures.whole in
    let counts = c.as_slice.ensures.value ∙ c.in_ok-counts.ensures.value ∙ ap (λ (xs : List ℕ). named_counts xs subs) c.shape-2.ensures.value in
    IfOk-weaker c.strides_of.result (λ strides. (axis : ℕ) → axis < length c.as_slice.result.now → get_or strides.items axis 0 ≡ stride_of c.as_slice.result.now axis)
    (λ strides. AreStridesFor a subs v strides.items) (λ strides each. are_strides a v subs c.as_slice.result.now strides.items single counts whole each) c.strides_of.ensures.each
