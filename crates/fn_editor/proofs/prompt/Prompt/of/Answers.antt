use Rattle.std.proofs.Common.{arith}
use Rattle.fn_editor.proofs.Prompts.{after_bracket, before_bracket}
use Rattle.fn_editor.proofs.prompt.Prompt.of.Goals as goal

pub push-requires-2 : goal.push-requires-2
push-requires-2 c =
    let six = before_bracket c.args.number c.whole_part.result c.tenth.result _ c.new-prompt.result c.push.new.self c.push_count.new.self c.push_tenth.new.self c.new-prompt.ensures c.push.ensures c.push_count.ensures c.push_tenth.ensures c.whole_part.ensures.value c.tenth.ensures.value c.whole_part.ensures.limit in
    omega (arith, six)

pub fill-requires : goal.fill-requires
fill-requires c =
    after_bracket c.push_tenth.new.self c.push-2.new.self _ c.push-2.ensures
    (before_bracket c.args.number c.whole_part.result c.tenth.result _ c.new-prompt.result c.push.new.self c.push_count.new.self c.push_tenth.new.self c.new-prompt.ensures c.push.ensures c.push_count.ensures c.push_tenth.ensures c.whole_part.ensures.value c.tenth.ensures.value c.whole_part.ensures.limit)
