use Rattle.std.proofs.Common.{◌≡◌, ◌++◌, codes, length, sym, subst}
use Rattle.std.specs.Result.{OnOk}
use Rattle.std.proofs.lemmas.List.{get_or-map}
use Rattle.sv_events.specs.Answer.{done}
use Rattle.sv_events.specs.Entry.{PlainEntry, plain_entry, uncoupled}
use Rattle.sv_events.specs.declared.event.Act.TheVariants.{Leave}
use Rattle.run_picture.specs.Figure.{stroke}
use Rattle.run_picture.specs.Layout.{page_width}
use Rattle.run_picture.specs.Picture.{wait_tags}
use Rattle.run_picture.specs.Scene.{behind, entry_at, figures_of, scene_in}
use Rattle.run_picture.specs.Tag.{markup}
use Rattle.run_picture.proofs.Rows.{row_told}
use Rattle.run_picture.proofs.row.add_row.Goals as goal

pub returns : goal.returns
returns c =
    row_told c.add_figures.result c.args.bytes.now.items c.add_rule.new.bytes.items c.add_wait.new.bytes.items c.add_figures.new.bytes.items (stroke (codes "rule") 0 c.args.y (page_width (length c.args.scene.now.lanes.now)) c.args.y) (wait_tags (scene_in c.args.scene.now) c.args.y (entry_at c.args.scene.now c.args.at) (behind c.args.scene.now c.args.at)) (figures_of (scene_in c.args.scene.now) c.args.y c.args.place (entry_at c.args.scene.now c.args.at)) c.in_ok-add_rule.ensures c.in_ok-add_wait.ensures
    (subst (λ (e : PlainEntry). OnOk c.add_figures.result (c.add_figures.new.bytes.items ≡ c.add_wait.new.bytes.items ++ markup (figures_of (scene_in c.args.scene.now) c.args.y c.args.place e))) (sym (get_or-map plain_entry c.args.scene.now.shown.now c.args.at c.index-scene-at.result (uncoupled 0 Leave done) c.requires.within)) c.add_figures.ensures)
