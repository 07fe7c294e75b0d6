use Rattle.std.proofs.Common.{◌≡◌, ◌<◌, ◌≤◌, [], List, ℕ, ap, length, rules, subst, sym, tests, ◌∙◌}
use Rattle.std.proofs.lemmas.List.{drop_all}
use Rattle.std.proofs.lemmas.Result.{on_ok_weaker}
use Rattle.apl_terminal.specs.Commands.{telling}
use Rattle.apl_terminal.specs.Terminal.{PlainTerminal}
use Rattle.session_rules.specs.Commands.{offer_again}
use Rattle.apl_session.specs.Standing.{IsBetween}
use Rattle.apl_session.specs.declared.errand.Errand.{Errand}
use Rattle.apl_session.specs.declared.progress.Progress.{Progress}
use Rattle.apl_session.specs.declared.under_way.UnderWay.TheVariants as under_way
use Rattle.apl_session.proofs.Commanding.{lines_led, makes_next, may_be_remade}
use Rattle.apl_session.proofs.Inside.{rests}
use Rattle.apl_session.proofs.Moves.{asks_command, asks_paused, none_answered}
use Rattle.apl_session.proofs.progress.Progress.remake_next.Goals as goal

pub returns-then-errand-as_slice-clause-stands : goal.returns-then-errand-as_slice-clause-stands
returns-then-errand-as_slice-clause-stands c =
    let p : Progress = c.args.self.now in
    let errand : Errand = c.args.errand in
    let left : errand.remade < length errand.todo.remakes.items = search (rules, tests) in
    let offer = c.index-as_slice-errand.result in
    let first = makes_next errand p.terminal.workspace offer c.requires.phase left (search rules) in
    on_ok_weaker c.ask_offer.result (λ is lines answers exchanges at. asks_command lines answers exchanges errand (offer_again offer p.terminal.workspace) p c.ask_offer.new.self is c.requires.free (may_be_remade errand p.terminal.workspace c.requires.phase) first at) c.ask_offer.ensures.asks

pub returns-then-errand-as_slice-clause-paused : goal.returns-then-errand-as_slice-clause-paused
returns-then-errand-as_slice-clause-paused c = on_ok_weaker c.ask_offer.result (λ is. asks_paused c.args.errand (offer_again c.index-as_slice-errand.result c.args.self.now.terminal.workspace) c.args.self.now c.ask_offer.new.self is) c.ask_offer.ensures.asks

pub returns-else-errand-as_slice-clause-stands : goal.returns-else-errand-as_slice-clause-stands
returns-else-errand-as_slice-clause-stands c =
    let p : Progress = c.args.self.now in
    let q : Progress = c.tell.new.self in
    let errand : Errand = c.args.errand in
    let over : length errand.todo.remakes.items ≤ errand.remade = search (rules, tests) in
    let nothing : q.under_way ≡ under_way.Nothing = ap (λ (r : Progress). r.under_way) c.tell.ensures.rest ∙ c.requires.none in
    let same : q.read ≡ p.read = ap (λ (r : Progress). r.read) c.tell.ensures.rest in
    on_ok_weaker c.tell.result
    (λ told lines answers exchanges at.
    rests lines answers exchanges q nothing
    (subst (λ (t : PlainTerminal). IsBetween lines answers exchanges q.read t) (sym told)
    (subst (λ (k : ℕ). IsBetween lines answers exchanges k (telling errand.line.items errand.todo.counted errand.todo.lines.items p.terminal)) (sym same) (lines_led lines answers exchanges p.read p.terminal errand (drop_all errand.remade errand.todo.remakes.items over) c.requires.phase at))))
    c.tell.ensures.told

pub returns-else-errand-as_slice-clause-paused : goal.returns-else-errand-as_slice-clause-paused
returns-else-errand-as_slice-clause-paused c =
    on_ok_weaker c.tell.result (λ told. none_answered c.tell.new.self.under_way (ap (λ (r : Progress). r.under_way) c.tell.ensures.rest ∙ c.requires.none)) c.tell.ensures.told
