use Rattle.apl_workspace.proofs.NameLaw.{begins_differ, differ_more, has_more, repeat_at, was_there, was_new}
use Rattle.apl_workspace.proofs.header.all_differ.Goals as goal

pub loop-name-init : goal.loop-name-init
loop-name-init c =
    let begin = begins_differ c.new-seen.result.keys c.new-seen.ensures.empty in
    record { differ = begin.0; has = begin.1 }

pub returns-then-not-branch : goal.returns-then-not-branch
returns-then-not-branch c =
    let name = c.name-item.result in
    let there = was_there _ _ _ c.in_ok-insert.ensures.added c.if-not-branch.true (c.loop-name.invariant.has name) in
    repeat_at c.args.names.now c.loop-name.name-index name c.loop-name-test.true c.name-item.is there

pub loop-name-preserved : goal.loop-name-preserved
loop-name-preserved c =
    let names = c.args.names.now in
    let at = c.loop-name.name-index in
    let name = c.name-item.result in
    let new = was_new _ _ _ c.in_ok-insert.ensures.added c.if-not-branch.false (c.loop-name.invariant.has name) in
    record {
      differ = differ_more names at name c.loop-name-test.true c.name-item.is c.loop-name.invariant.differ new;
      has = λ asked. has_more names at name asked _ _ c.loop-name-test.true c.name-item.is (c.in_ok-insert.ensures.updates.0 asked) (c.loop-name.invariant.has asked);
    }
