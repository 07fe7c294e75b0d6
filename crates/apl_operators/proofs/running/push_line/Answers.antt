use Rattle.std.proofs.Common.{◌≡◌, ◌<◌, ◌+◌, ◌*◌, ◌∙◌, ℕ, get_or, length, refl, sym, ap, arith}
use Rattle.apl_operators.specs.Running.{row_length}
use Rattle.apl_operators.proofs.RunLemmas.{kept_last, line_first, line_next, line_place, line_start, read_item, runs_more, runs_to_as}
use Rattle.apl_operators.proofs.WeightLemmas.{some_along}
use Rattle.apl_operators.proofs.running.push_line.Goals as goal
use Rattle.apl_operators.proofs.running.push_line.Given as given

pub loop-along-init : goal.loop-along-init
loop-along-init g c =
    let list = c.args.list.now in
    let begin = line_start c.args.split c.args.outer c.requires.lone in
    let place : ℕ = c.args.outer * row_length c.args.split in
    let below = line_place c.args.split _ c.args.outer 0 c.requires.whole c.requires.lone c.requires.outer (some_along c.args.split c.requires.some) in
    let inside : place < length list = omega (arith, below, begin.0) in
    let first : g.row.T.Denot = c.index-list-start.result in
    let here = read_item list place first inside (c.index-list-start.is ∙ ap (λ (n : ℕ). get_or list n first) (sym begin.0)) in
    let long : length c.args.made.now.items ≡ place = omega (arith, c.requires.made, c.args.made.now.ok) in
    record {
      whole = omega (arith, c.push_reserved.ensures.len, c.requires.made);
      room = c.push_reserved.ensures.capacity ∙ c.requires.room;
      each = runs_more (given.F-post g c.args.rule.now) list c.args.split place (place + 1) c.args.made.now.items c.push_reserved.new.self.items first c.requires.so_far long refl
          c.push_reserved.ensures.items (λ by item joining runs. line_first by list c.args.split item c.args.outer place first c.requires.lone c.requires.outer refl runs here);
      kept = kept_last c.args.made.now.items c.push_reserved.new.self.items first place (place + 1) long refl c.push_reserved.ensures.items;
    }

pub push_reserved-requires-in-loop-along : goal.push_reserved-requires-in-loop-along
push_reserved-requires-in-loop-along g c =
    let begin = line_start c.args.split c.args.outer c.requires.lone in
    let below = line_place c.args.split _ c.args.outer c.loop-along.along c.requires.whole c.requires.lone c.requires.outer c.loop-along-test.true in
    omega (arith, below, begin.0, c.loop-along.invariant.whole, c.loop-along.invariant.room)

pub loop-along-preserved : goal.loop-along-preserved
loop-along-preserved g c =
    let list = c.args.list.now in
    let begin = line_start c.args.split c.args.outer c.requires.lone in
    let place : ℕ = c.args.outer * row_length c.args.split + c.loop-along.along in
    let next : ℕ = c.args.outer * row_length c.args.split + (c.loop-along.along + 1) in
    let below = line_place c.args.split _ c.args.outer c.loop-along.along c.requires.whole c.requires.lone c.requires.outer c.loop-along-test.true in
    let inside : place < length list = omega (arith, below, begin.0) in
    let number : g.row.T.Denot = c.index-list-start-in-loop-along.result in
    let here = read_item list place number inside (c.index-list-start-in-loop-along.is ∙ ap (λ (n : ℕ). get_or list (n + c.loop-along.along) number) (sym begin.0)) in
    let within : c.loop-along.along < row_length c.args.split = omega (arith, begin.1, c.loop-along-test.true) in
    let long : length c.loop-along.made.items ≡ place = omega (arith, c.loop-along.invariant.whole, c.loop-along.made.ok) in
    record {
      whole = omega (arith, c.push_reserved-in-loop-along.ensures.len, c.loop-along.invariant.whole);
      room = c.push_reserved-in-loop-along.ensures.capacity ∙ c.loop-along.invariant.room;
      each = runs_more (given.F-post g c.args.rule.now) list c.args.split place next c.loop-along.made.items c.push_reserved-in-loop-along.new.self.items c.in-Some.item
          c.loop-along.invariant.each long (omega arith) c.push_reserved-in-loop-along.ensures.items
          (λ by item joining runs.
          sym c.in-Some.is
          ∙ line_next (given.F-post g c.args.rule.now) by list c.args.split item c.args.outer c.loop-along.along place c.loop-along.made.items c.loop-along.last number c.rule.result c.requires.lone
          c.requires.outer c.loop-along.auto.along within refl joining runs (c.loop-along.invariant.each by item joining runs) c.loop-along.invariant.kept here c.rule.ensures);
      kept = kept_last c.loop-along.made.items c.push_reserved-in-loop-along.new.self.items c.in-Some.item place next long (omega arith) c.push_reserved-in-loop-along.ensures.items;
    }

pub returns-in-None-clause-none : goal.returns-in-None-clause-none
returns-in-None-clause-none g c e by item joining runs =
    let list = c.args.list.now in
    let begin = line_start c.args.split c.args.outer c.requires.lone in
    let place : ℕ = c.args.outer * row_length c.args.split + c.loop-along.along in
    let below = line_place c.args.split _ c.args.outer c.loop-along.along c.requires.whole c.requires.lone c.requires.outer c.loop-along-test.true in
    let inside : place < length list = omega (arith, below, begin.0) in
    let number : g.row.T.Denot = c.index-list-start-in-loop-along.result in
    let here = read_item list place number inside (c.index-list-start-in-loop-along.is ∙ ap (λ (n : ℕ). get_or list (n + c.loop-along.along) number) (sym begin.0)) in
    let within : c.loop-along.along < row_length c.args.split = omega (arith, begin.1, c.loop-along-test.true) in (
      place,
      inside,
      sym
          (line_next (given.F-post g c.args.rule.now) by list c.args.split item c.args.outer c.loop-along.along place c.loop-along.made.items c.loop-along.last number c.rule.result c.requires.lone
          c.requires.outer c.loop-along.auto.along within refl joining runs (c.loop-along.invariant.each by item joining runs) c.loop-along.invariant.kept here c.rule.ensures)
          ∙ c.in-None.is,
    )

pub returns-clause-len : goal.returns-clause-len
returns-clause-len g c e =
    let begin = line_start c.args.split c.args.outer c.requires.lone in
    let some = some_along c.args.split c.requires.some in
    let all : c.loop-along.along ≡ row_length c.args.split = omega (arith, begin.1, some) in
    let next : (c.args.outer + 1) * row_length c.args.split ≡ c.args.outer * row_length c.args.split + row_length c.args.split = omega arith in
    omega (arith, c.loop-along.invariant.whole, all, next)

pub returns-clause-made : goal.returns-clause-made
returns-clause-made g c e =
    let begin = line_start c.args.split c.args.outer c.requires.lone in
    let some = some_along c.args.split c.requires.some in
    let all : c.loop-along.along ≡ row_length c.args.split = omega (arith, begin.1, some) in
    let next : (c.args.outer + 1) * row_length c.args.split ≡ c.args.outer * row_length c.args.split + row_length c.args.split = omega arith in
    runs_to_as (given.F-post g c.args.rule.now) c.args.list.now c.args.split (c.args.outer * row_length c.args.split + c.loop-along.along) ((c.args.outer + 1) * row_length c.args.split) c.loop-along.made.items
    (omega (arith, all, next)) c.loop-along.invariant.each
