use Rattle.std.proofs.Common.{◌≡◌, ◌++◌, take}
use Rattle.fn_editor.proofs.prompt.Prompt.push_text.Given as goal

abbrev pub invariant-loop-byte : goal.invariant-loop-byte
invariant-loop-byte l = l.self ≡ l.fn.self ++ take l.byte-index l.byte-items
