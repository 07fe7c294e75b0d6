use Rattle.std.proofs.Common.{◌+◌, ◌-◌, ap, sym, ◌∙◌, get_or}
use Rattle.apl_workspace.proofs.Innermost.{has_it, is_put, full_frames}
use Rattle.apl_workspace.specs.Meaning.{NameTable, table_weight}
use Rattle.apl_workspace.proofs.frames.put_innermost.Goals as goal

pub overflow_sub-others : goal.overflow_sub-others
overflow_sub-others c =
    let frames = c.args.frames.now in
    let at = c.args.at in
    let found = get_or frames at c.index-frames-at.result in
    (is_put frames found c.args.name c.args.meaning at c.weight.result c.args.weight c.requires.place (ap (λ (t : NameTable). get_or frames at t) c.index-frames-at.is) c.weight.ensures.value c.requires.weight).lighter

pub returns-in-Ok-clause-ok : goal.returns-in-Ok-clause-ok
returns-in-Ok-clause-ok c =
    let frames = c.args.frames.now in
    let at = c.args.at in
    let found = get_or frames at c.index-frames-at.result in
    (is_put frames found c.args.name c.args.meaning at c.weight.result c.args.weight c.requires.place (ap (λ (t : NameTable). get_or frames at t) c.index-frames-at.is) c.weight.ensures.value c.requires.weight).put c.put.new.self c.in-Ok.ensures.ok

pub returns-in-Ok-clause-weight : goal.returns-in-Ok-clause-weight
returns-in-Ok-clause-weight c =
    let frames = c.args.frames.now in
    let at = c.args.at in
    let found = get_or frames at c.index-frames-at.result in
    let put = is_put frames found c.args.name c.args.meaning at c.weight.result c.args.weight c.requires.place (ap (λ (t : NameTable). get_or frames at t) c.index-frames-at.is) c.weight.ensures.value c.requires.weight in
    ap (λ n. c.args.weight - c.weight.result + n) (c.weight-in-Ok.ensures.value ∙ ap table_weight c.in-Ok.ensures.ok) ∙ sym put.weighs

pub returns-in-Err-clause-full : goal.returns-in-Err-clause-full
returns-in-Err-clause-full c =
    let frames = c.args.frames.now in
    let at = c.args.at in
    let found = get_or frames at c.index-frames-at.result in
    let put = is_put frames found c.args.name c.args.meaning at c.weight.result c.args.weight c.requires.place (ap (λ (t : NameTable). get_or frames at t) c.index-frames-at.is) c.weight.ensures.value c.requires.weight in
    full_frames frames found c.args.name c.args.meaning at c.weight.result c.args.weight c.args.most c.in-Err.fail put c.requires.within c.in-Err.ensures.full (c.in-Err.ensures.there (has_it frames c.args.name at found c.requires.place (ap (λ (t : NameTable). get_or frames at t) c.index-frames-at.is)))
