use Rattle.std.proofs.Common.{◌≡◌, ap, sym, ◌∙◌, subst, take, length, get_or, List, arith}
use Rattle.std.proofs.Math.Seq.{take-length}
use Rattle.std.proofs.lemmas.List.{take_more}
use Rattle.std.proofs.lemmas.List.Elements.{Contains-get_or}
use Rattle.sv_events.specs.declared.entry.Pair.{Pair}
use Rattle.sv_core.specs.Updating.{CouplesAll}
use Rattle.sv_core.proofs.CellPlaces.{joins_add_none}
use Rattle.sv_core.proofs.EndingLemmas.{couples_more, may_couple}
use Rattle.sv_core.proofs.updating.couple_all.Goals as goal

-- where there is no pair
abbrev none : Pair
none = record { a = 0; b = 0 }

pub couple_pair-requires-clause-apart : goal.couple_pair-requires-clause-apart
couple_pair-requires-clause-apart c =
    let made = c.args.made.now in
    let i = c.loop-pair.pair-index in
    (may_couple made (take i made) (get_or made i none) c.args.cells.now c.loop-pair.cells c.requires (Contains-get_or made i none c.loop-pair-test.true) c.loop-pair.invariant.couples).0

pub couple_pair-requires-clause-a : goal.couple_pair-requires-clause-a
couple_pair-requires-clause-a c =
    let made = c.args.made.now in
    let i = c.loop-pair.pair-index in
    (may_couple made (take i made) (get_or made i none) c.args.cells.now c.loop-pair.cells c.requires (Contains-get_or made i none c.loop-pair-test.true) c.loop-pair.invariant.couples).1

pub couple_pair-requires-clause-b : goal.couple_pair-requires-clause-b
couple_pair-requires-clause-b c =
    let made = c.args.made.now in
    let i = c.loop-pair.pair-index in
    (may_couple made (take i made) (get_or made i none) c.args.cells.now c.loop-pair.cells c.requires (Contains-get_or made i none c.loop-pair-test.true) c.loop-pair.invariant.couples).2

pub loop-pair-init : goal.loop-pair-init
loop-pair-init c = record { couples = λ ready. ready.fit; no_more = λ at gone. gone }

pub loop-pair-preserved : goal.loop-pair-preserved
loop-pair-preserved c =
    let made = c.args.made.now in
    let i = c.loop-pair.pair-index in
    let has = Contains-get_or made i none c.loop-pair-test.true in
    let may = may_couple made (take i made) (get_or made i none) c.args.cells.now c.loop-pair.cells c.requires has c.loop-pair.invariant.couples in
    record {
      couples =
          subst (λ (taken : List Pair). CouplesAll made c.args.cells.now c.couple_pair.new.cells taken) (sym (take_more made i none c.loop-pair-test.true))
          (couples_more made (take i made) (get_or made i none) c.args.cells.now c.loop-pair.cells c.couple_pair.new.cells has c.loop-pair.invariant.couples (c.couple_pair.ensures.shared, c.couple_pair.ensures.apart));
      no_more = λ at gone.
          joins_add_none c.loop-pair.cells c.couple_pair.new.cells (get_or made i none) may.1 may.2 (c.couple_pair.ensures.shared, c.couple_pair.ensures.apart) at (c.loop-pair.invariant.no_more at gone);
    }

pub returns-clause-couples : goal.returns-clause-couples
returns-clause-couples c =
    let made = c.args.made.now in
    let all : c.loop-pair.pair-index ≡ length made = omega (arith, c.loop-pair-test.false, c.loop-pair.auto.pair-index-end) in
    subst (λ (taken : List Pair). CouplesAll made c.args.cells.now c.loop-pair.cells taken) (ap (λ n. take n made) all ∙ take-length made) c.loop-pair.invariant.couples

pub returns-clause-no_more : goal.returns-clause-no_more
returns-clause-no_more c = c.loop-pair.invariant.no_more
