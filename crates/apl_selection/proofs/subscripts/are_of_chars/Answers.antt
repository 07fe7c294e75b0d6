use Rattle.std.proofs.Common.{List, length, map, sym, ap, ◌∙◌, arith}
use Rattle.std.specs.Prelude.{None, Option, option_copied}
use Rattle.std.specs.List.{list_any}
use Rattle.std.proofs.lemmas.List.{take_all}
use Rattle.std.proofs.lemmas.List.Folds.{list_any_at}
use Rattle.apl_arrays.specs.Array.{PlainArray}
use Rattle.apl_selection.specs.Subscripts.{is_of_chars}
use Rattle.apl_selection.proofs.SubscriptLemmas.{as_many_lent, numbers_more, sub_read}
use Rattle.apl_selection.proofs.subscripts.are_of_chars.Goals as goal

pub returns-then-is_of_chars : goal.returns-then-is_of_chars
returns-then-is_of_chars c =
    let subs : List (Option PlainArray) = map option_copied c.args.subs.now in
    let read = sub_read c.args.subs.now c.loop-axis.axis c.index-subs-axis.result (omega arith) c.index-subs-axis.is in
    sym (list_any_at is_of_chars subs c.loop-axis.axis None (omega (arith, as_many_lent c.args.subs.now)) (ap is_of_chars (sym read) ∙ sym c.is_of_chars.ensures ∙ c.if-is_of_chars.true))

pub loop-axis-preserved : goal.loop-axis-preserved
loop-axis-preserved c =
    let subs : List (Option PlainArray) = map option_copied c.args.subs.now in
    let read = sub_read c.args.subs.now c.loop-axis.axis c.index-subs-axis.result (omega arith) c.index-subs-axis.is in
    numbers_more subs c.loop-axis.axis _ c.is_of_chars.result (omega (arith, as_many_lent c.args.subs.now)) c.loop-axis.invariant read c.is_of_chars.ensures c.if-is_of_chars.false

pub returns : goal.returns
returns c =
    let subs : List (Option PlainArray) = map option_copied c.args.subs.now in
    sym (ap (list_any is_of_chars) (sym (take_all c.loop-axis.axis subs (omega (arith, as_many_lent c.args.subs.now)))) ∙ c.loop-axis.invariant)
