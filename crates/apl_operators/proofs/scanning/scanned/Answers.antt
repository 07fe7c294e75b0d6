use Rattle.std.proofs.Common.{◌≡◌, ◌<◌, ◌∙◌, List, ℕ, ℤ, sym, ap, arith}
use Rattle.std.proofs.lemmas.Result.{err_from_is_err_and}
use Rattle.apl_arrays.specs.Array.{PlainArray, PlainItems, chars, item_count, numbers, seen_items}
use Rattle.apl_items.specs.Shapes.{split_at, split_count}
use Rattle.apl_items.proofs.ShapeLemmas.{split_count_lem}
use Rattle.operator_rules.specs.Scan.{scanned}
use Rattle.apl_arrays.specs.declared.report.Fail.TheVariants as fail
use Rattle.apl_operators.proofs.NumberLemmas.{answers_through, out_of_memory}
use Rattle.apl_operators.proofs.ScanLemmas.{chars_refused, lone_chars_stay, lone_chars_there, scan_made, scan_refused, scan_there}
use Rattle.apl_operators.proofs.scanning.scanned.Goals as goal

abbrev array_of : List ℕ → PlainItems → PlainArray
array_of shape items = record { shape = shape; items = items }

pub fronts-requires-clause-whole : goal.fronts-requires-clause-whole
fronts-requires-clause-whole c =
    let is : c.args.b.now.items ≡ numbers c.in-Numbers.list.now = sym c.items.ensures.value ∙ ap seen_items c.in-Numbers.is in
    let split : c.at-split.result ≡ split_at c.args.b.now.shape c.args.axis = c.at-split.ensures ∙ ap (λ (s : List ℕ). split_at s c.args.axis) c.shape.ensures.value in
    ap split_count split ∙ split_count_lem c.args.b.now.shape c.args.axis c.requires.axis ∙ c.items.ensures.array.whole ∙ ap item_count is

pub fronts-requires-clause-some : goal.fronts-requires-clause-some
fronts-requires-clause-some c =
    let split : c.at-split.result ≡ split_at c.args.b.now.shape c.args.axis = c.at-split.ensures ∙ ap (λ (s : List ℕ). split_at s c.args.axis) c.shape.ensures.value in
    let count : split_count c.at-split.result ≡ item_count c.args.b.now.items = ap split_count split ∙ split_count_lem c.args.b.now.shape c.args.axis c.requires.axis ∙ c.items.ensures.array.whole in
    let some : 0 < item_count c.args.b.now.items = c.requires.some in
    omega (arith, count, some)

pub returns-in_err-items-in-Numbers : goal.returns-in_err-items-in-Numbers
returns-in_err-items-in-Numbers c =
    let split : c.at-split.result ≡ split_at c.args.b.now.shape c.args.axis = c.at-split.ensures ∙ ap (λ (s : List ℕ). split_at s c.args.axis) c.shape.ensures.value in
    let is : c.args.b.now.items ≡ numbers c.in-Numbers.list.now = sym c.items.ensures.value ∙ ap seen_items c.in-Numbers.is in
    let p = err_from_is_err_and c.from_residual.result c.from_residual.ensures.1 in
    let same : p.0 ≡ c.in_err-items-in-Numbers.field-0.0 = cc p.2 in
    answers_through c.from_residual.result c.in_err-items-in-Numbers.field-0.0 p.0 (scanned c.args.f c.args.b.now c.args.axis) p.1 same
    (scan_refused c.args.f c.args.b.now c.args.axis c.in-Numbers.list.now c.at-split.result c.in_err-items-in-Numbers.field-0.0 c.items.ensures.array is split c.in_err-items-in-Numbers.ensures.made c.in_err-items-in-Numbers.ensures.memory)

pub returns-in_err-shaped-in-Numbers : goal.returns-in_err-shaped-in-Numbers
returns-in_err-shaped-in-Numbers c =
    let split : c.at-split.result ≡ split_at c.args.b.now.shape c.args.axis = c.at-split.ensures ∙ ap (λ (s : List ℕ). split_at s c.args.axis) c.shape.ensures.value in
    let is : c.args.b.now.items ≡ numbers c.in-Numbers.list.now = sym c.items.ensures.value ∙ ap seen_items c.in-Numbers.is in
    let p = err_from_is_err_and c.from_residual-in_err-shaped-in-Numbers.result c.from_residual-in_err-shaped-in-Numbers.ensures.1 in
    let same : p.0 ≡ fail.WantOfMemory = cc p.2 in
    out_of_memory c.from_residual-in_err-shaped-in-Numbers.result p.0 (scanned c.args.f c.args.b.now c.args.axis) p.1 same
    (scan_there c.args.f c.args.b.now c.args.axis c.in-Numbers.list.now c.in_ok-items-in-Numbers.items.items c.at-split.result c.items.ensures.array is split c.in_ok-items-in-Numbers.ensures.made)

pub returns-in_ok-shaped-in-Numbers : goal.returns-in_ok-shaped-in-Numbers
returns-in_ok-shaped-in-Numbers c =
    let split : c.at-split.result ≡ split_at c.args.b.now.shape c.args.axis = c.at-split.ensures ∙ ap (λ (s : List ℕ). split_at s c.args.axis) c.shape.ensures.value in
    let is : c.args.b.now.items ≡ numbers c.in-Numbers.list.now = sym c.items.ensures.value ∙ ap seen_items c.in-Numbers.is in
    scan_made c.args.f c.args.b.now c.in_ok-shaped-in-Numbers.field-0 c.args.axis c.in-Numbers.list.now c.in_ok-items-in-Numbers.items.items c.at-split.result c.items.ensures.array is split c.in_ok-items-in-Numbers.ensures.made
    (c.in_ok-shaped-in-Numbers.ensures.array ∙ ap (λ (list : List ℤ). array_of c.shape-in-Numbers.result.now (numbers list)) c.from.ensures ∙ ap (λ (shape : List ℕ). array_of shape (numbers c.in_ok-items-in-Numbers.items.items)) c.shape-in-Numbers.ensures.value)

pub returns-in_err-copy-in-Chars : goal.returns-in_err-copy-in-Chars
returns-in_err-copy-in-Chars c =
    let split : c.at-split.result ≡ split_at c.args.b.now.shape c.args.axis = c.at-split.ensures ∙ ap (λ (s : List ℕ). split_at s c.args.axis) c.shape.ensures.value in
    let is : c.args.b.now.items ≡ chars c.in-Chars.field-0.now = sym c.items.ensures.value ∙ ap seen_items c.in-Chars.is in
    let p = err_from_is_err_and c.from_residual-in_err-copy-in-Chars.result c.from_residual-in_err-copy-in-Chars.ensures.1 in
    let same : p.0 ≡ fail.WantOfMemory = cc p.2 in
    out_of_memory c.from_residual-in_err-copy-in-Chars.result p.0 (scanned c.args.f c.args.b.now c.args.axis) p.1 same
    (lone_chars_there c.args.f c.args.b.now c.args.axis c.in-Chars.field-0.now c.at-split.result c.items.ensures.array is split c.if-split-eq1.true c.requires.some)

pub returns-in_ok-copy-in-Chars : goal.returns-in_ok-copy-in-Chars
returns-in_ok-copy-in-Chars c =
    let split : c.at-split.result ≡ split_at c.args.b.now.shape c.args.axis = c.at-split.ensures ∙ ap (λ (s : List ℕ). split_at s c.args.axis) c.shape.ensures.value in
    let is : c.args.b.now.items ≡ chars c.in-Chars.field-0.now = sym c.items.ensures.value ∙ ap seen_items c.in-Chars.is in
    lone_chars_stay c.args.f c.args.b.now c.in_ok-copy-in-Chars.field-0 c.args.axis c.in-Chars.field-0.now c.at-split.result c.items.ensures.array is split c.if-split-eq1.true c.requires.some
    c.in_ok-copy-in-Chars.ensures.array

pub returns-else-split-eq1 : goal.returns-else-split-eq1
returns-else-split-eq1 c =
    let split : c.at-split.result ≡ split_at c.args.b.now.shape c.args.axis = c.at-split.ensures ∙ ap (λ (s : List ℕ). split_at s c.args.axis) c.shape.ensures.value in
    let is : c.args.b.now.items ≡ chars c.in-Chars.field-0.now = sym c.items.ensures.value ∙ ap seen_items c.in-Chars.is in
    chars_refused c.args.f c.args.b.now c.args.axis c.in-Chars.field-0.now c.at-split.result c.items.ensures.array is split c.requires.axis c.if-split-eq1.false c.requires.some
