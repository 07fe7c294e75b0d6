use Rattle.std.proofs.Common.{◌≡◌, ◌≢◌, ◌≤◌, ◌<◌, ◌+◌, ℕ, drop, map, length, get_or, sym, ap, ◌∙◌, arith}
use Rattle.std.proofs.lemmas.List.{length-map}
use Rattle.std.proofs.lemmas.List.Elements.{All-get_or}
use Rattle.sv_events.specs.Entry.{plain_entry}
use Rattle.sv_events.specs.declared.entry.Entry.{Entry}
use Rattle.run_picture.specs.Link.{height_of}
use Rattle.run_picture.specs.Picture.{fall}
use Rattle.run_picture.specs.Scene.{scene_in}
use Rattle.run_picture.proofs.Rows.{fall_here, fall_more}
use Rattle.run_picture.proofs.row.fall.Goals as goal

pub returns-then-scene-at-clause-value : goal.returns-then-scene-at-clause-value
returns-then-scene-at-clause-value c =
    sym (c.loop-at.invariant.same
    ∙ ap (λ (n : ℕ). c.loop-at.depth + n) (fall_here (scene_in c.args.scene.now) c.args.party c.loop-at.at c.args.scene.now.shown.now c.index-scene-at.result (omega arith) c.index-scene-at.is (ap (λ (e : Entry). e.party) c.index-scene-at.is ∙ c.if-scene-at.true)))

pub loop-at-preserved : goal.loop-at-preserved
loop-at-preserved c =
    let within : c.loop-at.at < length c.args.scene.now.shown.now = omega arith in
    let many : length c.args.scene.now.heights.now ≡ length c.args.scene.now.shown.now = ap length c.requires.scene.heights ∙ length-map c.args.scene.now.shown.now (λ e. height_of c.args.scene.now.lanes.now (map plain_entry c.args.scene.now.entries.now) (plain_entry e)) in
    let low : (26 ≤ get_or c.args.scene.now.heights.now c.loop-at.at 0) × (get_or c.args.scene.now.heights.now c.loop-at.at 0 ≤ 404) = All-get_or (λ height. (26 ≤ height) × (height ≤ 404)) c.args.scene.now.heights.now c.loop-at.at 0 (omega arith) c.requires.scene.small in
    let other : c.index-scene-at.result.party ≢ c.args.party = λ same. c.if-scene-at.false (ap (λ (e : Entry). e.party) (sym c.index-scene-at.is) ∙ same) in
    record {
      same = fall_more (scene_in c.args.scene.now) c.args.party c.loop-at.at c.loop-at.depth (fall (scene_in c.args.scene.now) c.args.party (drop c.args.from (map plain_entry c.args.scene.now.shown.now))) c.args.scene.now.heights.now c.args.scene.now.shown.now c.index-scene-at.result within c.index-scene-at.is other c.requires.scene.heights c.loop-at.invariant.same;
      small = omega (arith, low.1);
    }
