use Rattle.std.proofs.Common.{◌≡◌, ◌<◌, ℕ, ℤ, List, length, sym, ap, ◌∙◌, arith}
use Rattle.apl_arrays.specs.Array.{item_count}
use Rattle.apl_items.specs.Along.{source_count}
use Rattle.apl_items.specs.Shapes.{split_at}
use Rattle.apl_selection.specs.Catenation.{catenated_rank, span_of}
use Rattle.apl_selection.proofs.JoinKindLemmas.{chars_of_both, numbers_of_both}
use Rattle.apl_selection.proofs.JoinLemmas.{rank_of_join}
use Rattle.apl_selection.proofs.JoinShapeLemmas.{long_of_join, reach_as}
use Rattle.apl_selection.proofs.catenation.catenated_items.Goals as goal

pub catenated_list-requires-clause-long : goal.catenated_list-requires-clause-long
catenated_list-requires-clause-long c =
    let a = c.args.a.now in let b = c.args.b.now in let axis = c.args.axis in
    let rank = rank_of_join a b axis c.args.shape.now c.requires.shape in
    let left : c.span_of-a_span.result ≡ span_of a.shape (catenated_rank a b) axis = c.span_of-a_span.ensures.value ∙ ap (λ (n : ℕ). span_of a.shape n axis) c.catenated_rank-rank.ensures.value in
    let right : c.span_of-b_span.result ≡ span_of b.shape (catenated_rank a b) axis = c.span_of-b_span.ensures.value ∙ ap (λ (n : ℕ). span_of b.shape n axis) c.catenated_rank-rank.ensures.value in
    let inside : axis < catenated_rank a b = omega (arith, rank, c.requires.axis) in
    omega (arith, left, right, long_of_join a b axis c.args.shape.now c.requires.shape inside)

pub catenated_list-requires-clause-a_reaches : goal.catenated_list-requires-clause-a_reaches
catenated_list-requires-clause-a_reaches c =
    let a = c.args.a.now in let b = c.args.b.now in let split = split_at c.args.shape.now c.args.axis in
    let counts = chars_of_both a.items b.items c.requires.kinds (sym c.gives_chars.ensures ∙ c.if-gives_chars.true) in
    let left = c.span_of-a_span.ensures.value ∙ ap (λ (n : ℕ). span_of a.shape n c.args.axis) c.catenated_rank-rank.ensures.value in
    reach_as (item_count a.items) (length c.chars_of.result.now) (source_count split (span_of a.shape (catenated_rank a b) c.args.axis)) (source_count split c.span_of-a_span.result)
    (sym counts.0 ∙ ap (λ (xs : List ℕ). length xs) (sym c.chars_of.ensures)) (ap (source_count split) (sym left)) c.requires.a_reaches

pub catenated_list-requires-clause-b_reaches : goal.catenated_list-requires-clause-b_reaches
catenated_list-requires-clause-b_reaches c =
    let a = c.args.a.now in let b = c.args.b.now in let split = split_at c.args.shape.now c.args.axis in
    let counts = chars_of_both a.items b.items c.requires.kinds (sym c.gives_chars.ensures ∙ c.if-gives_chars.true) in
    let right = c.span_of-b_span.ensures.value ∙ ap (λ (n : ℕ). span_of b.shape n c.args.axis) c.catenated_rank-rank.ensures.value in
    reach_as (item_count b.items) (length c.chars_of-then-gives_chars.result.now) (source_count split (span_of b.shape (catenated_rank a b) c.args.axis)) (source_count split c.span_of-b_span.result)
    (sym counts.1 ∙ ap (λ (xs : List ℕ). length xs) (sym c.chars_of-then-gives_chars.ensures)) (ap (source_count split) (sym right)) c.requires.b_reaches

pub catenated_list-requires-else-gives_chars-clause-long : goal.catenated_list-requires-else-gives_chars-clause-long
catenated_list-requires-else-gives_chars-clause-long c =
    let a = c.args.a.now in let b = c.args.b.now in let axis = c.args.axis in
    let rank = rank_of_join a b axis c.args.shape.now c.requires.shape in
    let left : c.span_of-a_span.result ≡ span_of a.shape (catenated_rank a b) axis = c.span_of-a_span.ensures.value ∙ ap (λ (n : ℕ). span_of a.shape n axis) c.catenated_rank-rank.ensures.value in
    let right : c.span_of-b_span.result ≡ span_of b.shape (catenated_rank a b) axis = c.span_of-b_span.ensures.value ∙ ap (λ (n : ℕ). span_of b.shape n axis) c.catenated_rank-rank.ensures.value in
    let inside : axis < catenated_rank a b = omega (arith, rank, c.requires.axis) in
    omega (arith, left, right, long_of_join a b axis c.args.shape.now c.requires.shape inside)

pub catenated_list-requires-else-gives_chars-clause-a_reaches : goal.catenated_list-requires-else-gives_chars-clause-a_reaches
catenated_list-requires-else-gives_chars-clause-a_reaches c =
    let a = c.args.a.now in let b = c.args.b.now in let split = split_at c.args.shape.now c.args.axis in
    let counts = numbers_of_both a.items b.items c.requires.kinds (sym c.gives_chars.ensures ∙ c.if-gives_chars.false) in
    let left = c.span_of-a_span.ensures.value ∙ ap (λ (n : ℕ). span_of a.shape n c.args.axis) c.catenated_rank-rank.ensures.value in
    reach_as (item_count a.items) (length c.numbers.result.now) (source_count split (span_of a.shape (catenated_rank a b) c.args.axis)) (source_count split c.span_of-a_span.result)
    (sym counts.0 ∙ ap (λ (xs : List ℤ). length xs) (sym c.numbers.ensures)) (ap (source_count split) (sym left)) c.requires.a_reaches

pub catenated_list-requires-else-gives_chars-clause-b_reaches : goal.catenated_list-requires-else-gives_chars-clause-b_reaches
catenated_list-requires-else-gives_chars-clause-b_reaches c =
    let a = c.args.a.now in let b = c.args.b.now in let split = split_at c.args.shape.now c.args.axis in
    let counts = numbers_of_both a.items b.items c.requires.kinds (sym c.gives_chars.ensures ∙ c.if-gives_chars.false) in
    let right = c.span_of-b_span.ensures.value ∙ ap (λ (n : ℕ). span_of b.shape n c.args.axis) c.catenated_rank-rank.ensures.value in
    reach_as (item_count b.items) (length c.numbers-else-gives_chars.result.now) (source_count split (span_of b.shape (catenated_rank a b) c.args.axis)) (source_count split c.span_of-b_span.result)
    (sym counts.1 ∙ ap (λ (xs : List ℤ). length xs) (sym c.numbers-else-gives_chars.ensures)) (ap (source_count split) (sym right)) c.requires.b_reaches
