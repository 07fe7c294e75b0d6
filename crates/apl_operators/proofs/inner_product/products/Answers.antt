use Rattle.std.proofs.Common.{◌≡◌, ◌*◌, ◌<◌, ◌∙◌, List, ℕ, drop, sym, ap, subst, arith}
use Rattle.apl_arrays.specs.Array.{FitsLimits, element_count, item_count, seen_items}
use Rattle.apl_items.specs.Extension.{place_in}
use Rattle.operator_rules.specs.Inner.{front, paired}
use Rattle.apl_operators.proofs.ExtentLemmas.{axes_small, fit_arrays, front_fits, paired_small, product_count, reaches_columns, reaches_rows, rest_fits}
use Rattle.apl_operators.proofs.inner_product.products.Goals as goal

pub identities-requires-clause-axes : goal.identities-requires-clause-axes
identities-requires-clause-axes c = axes_small c.args.a.now c.args.b.now c.args.shape.now c.requires.a c.requires.b c.requires.shape

pub count_of_elements-requires : goal.count_of_elements-requires
count_of_elements-requires c =
    let fit = fit_arrays c.args.a.now c.args.b.now c.requires.a c.requires.b c.requires.fit (λ e. omega (arith, e, c.paired-paired.ensures)) in
    subst FitsLimits (sym (c.without_last.ensures ∙ ap front c.shape.ensures.value)) (front_fits c.args.a.now.shape c.requires.a.fits fit.last)

pub count_of_elements-requires-2 : goal.count_of_elements-requires-2
count_of_elements-requires-2 c =
    let fit = fit_arrays c.args.a.now c.args.b.now c.requires.a c.requires.b c.requires.fit (λ e. omega (arith, e, c.paired-paired.ensures)) in
    subst FitsLimits (sym (c.without_first.ensures ∙ ap (λ (s : List ℕ). drop 1 s) c.shape-2.ensures.value)) (rest_fits c.args.b.now.shape c.requires.b.fits fit.first)

pub products_of_items-requires-clause-count : goal.products_of_items-requires-clause-count
products_of_items-requires-clause-count c =
    let rows : c.count_of_elements.result ≡ element_count (front c.args.a.now.shape) = c.count_of_elements.ensures ∙ ap element_count (c.without_last.ensures ∙ ap front c.shape.ensures.value) in
    let columns : c.count_of_elements-2.result ≡ element_count (drop 1 c.args.b.now.shape) = c.count_of_elements-2.ensures ∙ ap element_count (c.without_first.ensures ∙ ap (λ (s : List ℕ). drop 1 s) c.shape-2.ensures.value) in
    ap (λ (n : ℕ). n * c.count_of_elements-2.result) rows ∙ ap (λ (n : ℕ). element_count (front c.args.a.now.shape) * n) columns
    ∙ product_count c.args.a.now c.args.b.now c.args.shape.now c.requires.shape

pub products_of_items-requires-clause-extent : goal.products_of_items-requires-clause-extent
products_of_items-requires-clause-extent c =
    let fit = fit_arrays c.args.a.now c.args.b.now c.requires.a c.requires.b c.requires.fit (λ e. omega (arith, e, c.paired-paired.ensures)) in
    let rows : c.count_of_elements.result ≡ element_count (front c.args.a.now.shape) = c.count_of_elements.ensures ∙ ap element_count (c.without_last.ensures ∙ ap front c.shape.ensures.value) in
    let columns : c.count_of_elements-2.result ≡ element_count (drop 1 c.args.b.now.shape) = c.count_of_elements-2.ensures ∙ ap element_count (c.without_first.ensures ∙ ap (λ (s : List ℕ). drop 1 s) c.shape-2.ensures.value) in
    record {
      some = omega arith;
      rows = omega (arith, rows, (front_fits c.args.a.now.shape c.requires.a.fits fit.last).elements);
      paired = omega (arith, c.paired-paired.ensures, paired_small c.args.a.now c.args.b.now c.requires.a c.requires.b);
      columns = omega (arith, columns, (rest_fits c.args.b.now.shape c.requires.b.fits fit.first).elements);
    }

pub products_of_items-requires-clause-in_a : goal.products_of_items-requires-clause-in_a
products_of_items-requires-clause-in_a c place below =
    let fit = fit_arrays c.args.a.now c.args.b.now c.requires.a c.requires.b c.requires.fit (λ e. omega (arith, e, c.paired-paired.ensures)) in
    let rows : c.count_of_elements.result ≡ element_count (front c.args.a.now.shape) = c.count_of_elements.ensures ∙ ap element_count (c.without_last.ensures ∙ ap front c.shape.ensures.value) in
    let total : c.count_of_elements.result * c.paired-paired.result ≡ element_count (front c.args.a.now.shape) * paired c.args.a.now c.args.b.now =
    ap (λ (n : ℕ). n * c.paired-paired.result) rows ∙ ap (λ (n : ℕ). element_count (front c.args.a.now.shape) * n) c.paired-paired.ensures in
    let items : item_count (seen_items c.items.result) ≡ item_count c.args.a.now.items = ap item_count c.items.ensures.value in
    subst (λ (n : ℕ). place_in n place < n) (sym items) (reaches_rows c.args.a.now c.args.b.now c.requires.a fit place (omega (arith, below, total)))

pub products_of_items-requires-clause-in_b : goal.products_of_items-requires-clause-in_b
products_of_items-requires-clause-in_b c place below =
    let fit = fit_arrays c.args.a.now c.args.b.now c.requires.a c.requires.b c.requires.fit (λ e. omega (arith, e, c.paired-paired.ensures)) in
    let columns : c.count_of_elements-2.result ≡ element_count (drop 1 c.args.b.now.shape) = c.count_of_elements-2.ensures ∙ ap element_count (c.without_first.ensures ∙ ap (λ (s : List ℕ). drop 1 s) c.shape-2.ensures.value) in
    let total : c.paired-paired.result * c.count_of_elements-2.result ≡ paired c.args.a.now c.args.b.now * element_count (drop 1 c.args.b.now.shape) =
    ap (λ (n : ℕ). c.paired-paired.result * n) columns ∙ ap (λ (n : ℕ). n * element_count (drop 1 c.args.b.now.shape)) c.paired-paired.ensures in
    let items : item_count (seen_items c.items-2.result) ≡ item_count c.args.b.now.items = ap item_count c.items-2.ensures.value in
    subst (λ (n : ℕ). place_in n place < n) (sym items) (reaches_columns c.args.a.now c.args.b.now c.requires.b fit place (omega (arith, below, total)))
