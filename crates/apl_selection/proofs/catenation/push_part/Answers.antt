use Rattle.std.proofs.Common.{◌≡◌, ◌+◌, ◌*◌, ℕ, length, refl, arith}
use Rattle.apl_selection.proofs.JoinRowLemmas.{part_fits}
use Rattle.apl_selection.proofs.RunLemmas.{run_is}
use Rattle.apl_selection.proofs.catenation.push_part.Goals as goal

pub overflow_mul-count : goal.overflow_mul-count
overflow_mul-count g c = let fits = part_fits c.args.outer c.args.split.outer c.args.span c.args.split.inner c.requires.outer c.requires.small in omega (arith, fits)

pub overflow_mul-start : goal.overflow_mul-start
overflow_mul-start g c = let fits = part_fits c.args.outer c.args.split.outer c.args.span c.args.split.inner c.requires.outer c.requires.small in omega (arith, fits)

pub overflow_add-end : goal.overflow_add-end
overflow_add-end g c = let fits = part_fits c.args.outer c.args.split.outer c.args.span c.args.split.inner c.requires.outer c.requires.small in omega (arith, fits)

pub push_each-requires-clause-small : goal.push_each-requires-clause-small
push_each-requires-clause-small g c = let fits = part_fits c.args.outer c.args.split.outer c.args.span c.args.split.inner c.requires.outer c.requires.small in omega (arith, fits)

pub returns-then-end-list-clause-items : goal.returns-then-end-list-clause-items
returns-then-end-list-clause-items g c =
    let count : ℕ = c.args.span * c.args.split.inner in
    let start : ℕ = c.args.outer * (c.args.span * c.args.split.inner) in
    let run = run_is c.args.fill c.args.list.now start count (start + count) (λ (e : length c.args.list.now ≡ 1). absurd (omega arith)) refl (omega arith) in
    cc
