use Rattle.std.proofs.Common.{◌≡◌, ◌<◌, ◌+◌, ◌*◌, ◌∙◌, ℕ, List, length, sym, ap, slice_get, arith}
use Rattle.apl_operators.specs.Running.{row_length}
use Rattle.apl_operators.proofs.RunLemmas.{read_item, row_fits, row_place, run_item, runs_more, runs_to_as}
use Rattle.apl_operators.proofs.running.push_row.Goals as goal
use Rattle.apl_operators.proofs.running.push_row.Given as given

pub overflow_mul-row : goal.overflow_mul-row
overflow_mul-row g c = let fits = row_fits c.args.split _ c.requires.whole c.requires.some in omega (arith, fits)

pub loop-at-init : goal.loop-at-init
loop-at-init g c = record {
  whole = omega (arith, c.requires.made);
  room = c.requires.room;
  each = runs_to_as (given.F-post g c.args.rule.now) c.args.list.now c.args.split (c.args.outer * row_length c.args.split) (c.args.outer * row_length c.args.split + 0) c.args.made.now.items (omega arith) c.requires.so_far;
}

pub returns-in-None-clause-none : goal.returns-in-None-clause-none
returns-in-None-clause-none g c e by item joining runs =
    let place : ℕ = c.args.outer * row_length c.args.split + c.loop-at.at in
    let below : place < length c.args.list.now = row_place c.args.split _ c.args.outer c.loop-at.at c.requires.whole c.requires.outer c.loop-at-test.true in
    let here = read_item c.args.list.now place c.index-list-place.result below c.index-list-place.is in (
      place,
      below,
      sym
          (c.follower.ensures by item joining (λ k h. ap (λ (made : List g.row.T.Denot). slice_get made k) c.as_slice.ensures.value ∙ c.loop-at.invariant.each by item joining runs k h)
          (run_item by c.args.list.now c.args.split item c.args.outer c.loop-at.at c.index-list-place.result runs c.requires.outer c.loop-at-test.true here))
          ∙ c.in-None.is,
    )

pub loop-at-preserved : goal.loop-at-preserved
loop-at-preserved g c =
    let place : ℕ = c.args.outer * row_length c.args.split + c.loop-at.at in
    let below : place < length c.args.list.now = row_place c.args.split _ c.args.outer c.loop-at.at c.requires.whole c.requires.outer c.loop-at-test.true in
    let here = read_item c.args.list.now place c.index-list-place.result below c.index-list-place.is in
    record {
      whole = omega (arith, c.push_reserved.ensures.len, c.loop-at.invariant.whole);
      room = c.push_reserved.ensures.capacity ∙ c.loop-at.invariant.room;
      each = runs_more (given.F-post g c.args.rule.now) c.args.list.now c.args.split place (c.args.outer * row_length c.args.split + (c.loop-at.at + 1)) c.loop-at.made.items
          c.push_reserved.new.self.items c.in-Some.item c.loop-at.invariant.each (omega (arith, c.loop-at.invariant.whole, c.loop-at.made.ok)) (omega arith)
          c.push_reserved.ensures.items
          (λ by item joining runs.
          sym c.in-Some.is
          ∙ c.follower.ensures by item joining (λ k h. ap (λ (made : List g.row.T.Denot). slice_get made k) c.as_slice.ensures.value ∙ c.loop-at.invariant.each by item joining runs k h)
          (run_item by c.args.list.now c.args.split item c.args.outer c.loop-at.at c.index-list-place.result runs c.requires.outer c.loop-at-test.true here));
    }

pub returns-clause-len : goal.returns-clause-len
returns-clause-len g c e =
    let all : c.loop-at.at ≡ row_length c.args.split = omega arith in
    let next : (c.args.outer + 1) * row_length c.args.split ≡ c.args.outer * row_length c.args.split + row_length c.args.split = omega arith in
    omega (arith, c.loop-at.invariant.whole, all, next)

pub returns-clause-made : goal.returns-clause-made
returns-clause-made g c e =
    let all : c.loop-at.at ≡ row_length c.args.split = omega arith in
    let next : (c.args.outer + 1) * row_length c.args.split ≡ c.args.outer * row_length c.args.split + row_length c.args.split = omega arith in
    runs_to_as (given.F-post g c.args.rule.now) c.args.list.now c.args.split (c.args.outer * row_length c.args.split + c.loop-at.at) ((c.args.outer + 1) * row_length c.args.split) c.loop-at.made.items (omega (arith, all, next)) c.loop-at.invariant.each
