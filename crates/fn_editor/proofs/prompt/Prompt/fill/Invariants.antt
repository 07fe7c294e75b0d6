use Rattle.std.proofs.Common.{◌≡◌, ◌++◌, replicate}
use Rattle.apl_arrays.specs.Glyph.{blank}
use Rattle.fn_editor.proofs.prompt.Prompt.fill.Given as goal

abbrev pub invariant-loop : goal.invariant-loop
invariant-loop l = l.self ≡ l.fn.self ++ replicate l.counter blank
