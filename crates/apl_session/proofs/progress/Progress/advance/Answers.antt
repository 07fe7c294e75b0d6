use Rattle.std.proofs.Common.{map}
use Rattle.std.proofs.lemmas.Result.{on_ok_weaker}
use Rattle.apl_arrays.specs.List.{glyphs_in}
use Rattle.apl_session.proofs.progress.Progress.advance.Goals as goal

pub take_lines-requires : goal.take_lines-requires
take_lines-requires g c = c.in_ok-go_on.ensures.paused

pub returns : goal.returns
returns g c =
    on_ok_weaker c.take_lines.result (λ goes answers exchanges at. goes answers exchanges (c.in_ok-go_on.ensures.stands (map glyphs_in c.args.lines.now) answers exchanges at)) c.take_lines.ensures
