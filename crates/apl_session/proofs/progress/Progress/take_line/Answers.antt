use Rattle.std.proofs.Common.{◌+◌, ℕ, List, refl, sym, ap, subst, ◌∙◌}
use Rattle.std.proofs.lemmas.Result.{on_ok_weaker}
use Rattle.std.specs.Prelude.{Some}
use Rattle.apl_meaning.specs.Meaning.{most_statements}
use Rattle.fn_editor.specs.Editing.{fed}
use Rattle.fn_editor.specs.Prompt.{prompt_text}
use Rattle.apl_terminal.specs.Terminal.{PlainTerminal, echoing, editing, free_prompt}
use Rattle.session_rules.specs.Course.{with_terminal}
use Rattle.session_rules.specs.Session.{free_line}
use Rattle.apl_session.specs.Standing.{IsAt}
use Rattle.apl_session.specs.declared.progress.Progress.{Progress}
use Rattle.apl_session.proofs.Inside.{fed_line, free_at, rests, between_of, lines_behind}
use Rattle.apl_session.proofs.Moves.{none_answered}
use Rattle.apl_session.proofs.Progressing.{no_calls}
use Rattle.apl_session.proofs.progress.Progress.take_line.Goals as goal

pub returns-in_ok-feed-in-Some-clause-stands : goal.returns-in_ok-feed-in-Some-clause-stands
returns-in_ok-feed-in-Some-clause-stands g c =
    let p : Progress = c.args.self.now in
    let line : List ℕ = c.args.line.now.items in
    λ lines rest answers exchanges at here.
    no_calls g.K.Shelf.told g.K.Shelf.faults c.args.user c.args.shelf.now c.args.shelf.now exchanges _ refl
    (rests lines answers exchanges _ c.requires.none
    (fed_line lines rest line answers exchanges p.read p.terminal c.feed.new.self c.in-Some.editor here (lines_behind lines rest line p.read here) c.requires.goes (sym c.take_definition.ensures.taken ∙ c.in-Some.is)
    (c.in_ok-feed-in-Some.ensures ∙ ap (λ (s : PlainTerminal). editing line (fed c.in-Some.editor line) (echoing (prompt_text c.in-Some.editor.number) line (record s { definition = Some c.in-Some.editor }))) c.take_definition.ensures.left)
    (between_of lines answers exchanges p c.requires.none at)))

pub returns-in-None-clause-stands : goal.returns-in-None-clause-stands
returns-in-None-clause-stands g c =
    let p : Progress = c.args.self.now in
    let line : List ℕ = c.args.line.now.items in
    on_ok_weaker c.begin_line.result
    (λ so. λ lines rest answers exchanges at here.
    so lines answers exchanges
    (subst (λ (t : PlainTerminal). IsAt lines answers exchanges (p.read + 1) (λ c. free_line most_statements line (with_terminal (echoing free_prompt line c.terminal) c)) t) (sym c.take_definition.ensures.left)
    (free_at lines rest line answers exchanges p.read p.terminal here (lines_behind lines rest line p.read here) c.requires.goes (sym c.take_definition.ensures.taken ∙ c.in-None.is) (between_of lines answers exchanges p c.requires.none at)))
    (record { before = p.read; rest = rest; read_is = refl; here = here }))
    c.begin_line.ensures.stands

pub returns-in_ok-feed-in-Some-clause-paused : goal.returns-in_ok-feed-in-Some-clause-paused
returns-in_ok-feed-in-Some-clause-paused g c = none_answered c.args.self.now.under_way c.requires.none

pub returns-in-None-clause-paused : goal.returns-in-None-clause-paused
returns-in-None-clause-paused g c = c.begin_line.ensures.paused
