use Rattle.std.proofs.Common.{◌≡◌, map}
use Rattle.std.proofs.lemmas.Result.{IfOk-weaker}
use Rattle.sv_events.specs.Entry.{plain_entry}
use Rattle.run_picture.specs.Shown.{IsPicture, picture_text}
use Rattle.run_picture.proofs.EachOnce.{shows_each}
use Rattle.run_picture.proofs.Nested.{well_formed}
use Rattle.run_picture.proofs.picture.picture_of.Goals as goal

pub returns : goal.returns
returns c =
    let window = c.args.shown.now in
    let journal = map plain_entry c.args.entries.now in
    IfOk-weaker c.drawn.result (λ bytes. bytes.items ≡ picture_text window journal) (λ bytes. IsPicture window journal bytes.items) (λ bytes e. record {
      text = e;
      formed = well_formed window journal;
      each = shows_each window journal;
    }) c.drawn.ensures
