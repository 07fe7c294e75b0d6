use Rattle.std.proofs.Common.{map, refl, sym, ◌∙◌}
use Rattle.apl_arrays.specs.List.{glyphs_in}
use Rattle.apl_session.specs.Standing.{has_open_act}
use Rattle.apl_session.proofs.Moves.{nothing_by}
use Rattle.apl_session.proofs.Progressing.{came_to, goes_on, line_on, more_calls, no_calls, none_left, weaker_calls}
use Rattle.apl_session.proofs.progress.Progress.take_lines.Goals as goal

pub loop-self-init : goal.loop-self-init
loop-self-init g c = record { paused = c.requires; stands = λ answers exchanges at. no_calls g.K.Shelf.told g.K.Shelf.faults c.args.user c.args.shelf.now c.args.shelf.now exchanges _ refl at }

pub take_line-requires-clause-none : goal.take_line-requires-clause-none
take_line-requires-clause-none g c =
    nothing_by c.loop-self.self.under_way c.loop-self.invariant.paused (goes_on (has_open_act c.loop-self.self.under_way) c.loop-self.self.terminal.ended (sym c.rests.ensures ∙ c.if-rests.false)).0

pub take_line-requires-clause-goes : goal.take_line-requires-clause-goes
take_line-requires-clause-goes g c = (goes_on (has_open_act c.loop-self.self.under_way) c.loop-self.self.terminal.ended (sym c.rests.ensures ∙ c.if-rests.false)).1

pub returns-then-rests : goal.returns-then-rests
returns-then-rests g c = λ answers exchanges at.
    weaker_calls g.K.Shelf.told g.K.Shelf.faults c.args.user c.args.shelf.now c.loop-self.shelf exchanges _ _ (λ all there. came_to (map glyphs_in c.args.lines.now) answers all c.loop-self.self (sym c.rests.ensures ∙ c.if-rests.true) c.loop-self.invariant.paused there)
    (c.loop-self.invariant.stands answers exchanges at)

pub loop-self-preserved : goal.loop-self-preserved
loop-self-preserved g c = record {
  paused = c.in_ok-take_line.ensures.paused;
  stands = λ answers exchanges at.
      more_calls g.K.Shelf.told g.K.Shelf.faults c.args.user c.args.shelf.now c.loop-self.shelf c.take_line.new.shelf exchanges _ _ (c.loop-self.invariant.stands answers exchanges at) (λ all there.
      line_on g.K.Shelf.told g.K.Shelf.faults c.args.user c.args.lines.now answers all c.loop-self.self c.take_line.new.self c.loop-self.shelf c.take_line.new.shelf c.index-lines-self.result c.loop-self-test.true c.index-lines-self.is there c.in_ok-take_line.ensures.stands);
}

pub returns : goal.returns
returns g c = λ answers exchanges at.
    weaker_calls g.K.Shelf.told g.K.Shelf.faults c.args.user c.args.shelf.now c.loop-self.shelf exchanges _ _ (λ all there. none_left c.args.lines.now answers all c.loop-self.self c.loop-self.invariant.paused c.loop-self-test.false there)
    (c.loop-self.invariant.stands answers exchanges at)
