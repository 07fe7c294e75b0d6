use Rattle.std.proofs.Common.{◌≡◌, ◌≤◌, ◌<◌, ◌+◌, ℕ, map, length, get_or, sym, ap, subst, ◌∙◌, arith}
use Rattle.std.proofs.lemmas.List.{length-map}
use Rattle.std.proofs.lemmas.List.Elements.{All-get_or}
use Rattle.sv_events.specs.Answer.{done}
use Rattle.sv_events.specs.Entry.{plain_entry, uncoupled}
use Rattle.sv_events.specs.declared.event.Act.TheVariants.{Leave}
use Rattle.run_picture.specs.Link.{height_of}
use Rattle.run_picture.specs.Scene.{scene_in}
use Rattle.run_picture.proofs.Rows.{height_at, rows_more}
use Rattle.run_picture.proofs.row.add_rows.Goals as goal

pub loop-at-preserved : goal.loop-at-preserved
loop-at-preserved c =
    let within : c.loop-at.at < length c.args.scene.now.shown.now = omega arith in
    let inside : c.loop-at.at < length (map plain_entry c.args.scene.now.shown.now) = subst (λ (n : ℕ). c.loop-at.at < n) (sym (length-map c.args.scene.now.shown.now plain_entry)) within in
    let many : length c.args.scene.now.heights.now ≡ length c.args.scene.now.shown.now = ap length c.requires.scene.heights ∙ length-map c.args.scene.now.shown.now (λ e. height_of c.args.scene.now.lanes.now (map plain_entry c.args.scene.now.entries.now) (plain_entry e)) in
    let low : (26 ≤ get_or c.args.scene.now.heights.now c.loop-at.at 0) × (get_or c.args.scene.now.heights.now c.loop-at.at 0 ≤ 404) = All-get_or (λ height. (26 ≤ height) × (height ≤ 404)) c.args.scene.now.heights.now c.loop-at.at 0 (omega arith) c.requires.scene.small in
    record {
      same = c.loop-at.invariant.same ∙ rows_more (scene_in c.args.scene.now) c.loop-at.y (c.args.first + c.loop-at.at) c.loop-at.at (c.args.first + (c.loop-at.at + 1)) (get_or c.args.scene.now.heights.now c.loop-at.at 0) (map plain_entry c.args.scene.now.shown.now) (uncoupled 0 Leave done) c.loop-at.bytes.items c.add_row.new.bytes.items inside (omega arith) (sym (height_at (scene_in c.args.scene.now) c.args.scene.now.heights.now c.args.scene.now.shown.now c.loop-at.at (uncoupled 0 Leave done) c.requires.scene.heights within)) c.in_ok-add_row.ensures;
      small = omega (arith, low.1);
    }
