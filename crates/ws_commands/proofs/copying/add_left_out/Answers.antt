use Rattle.std.proofs.Common.{◌≡◌, ◌∙◌, ◌++◌, List, ℕ, ap, codes, not, sym}
use Rattle.std.specs.Prelude.{is_some}
use Rattle.apl_execute.specs.Merge.{copied_as, is_missing}
use Rattle.apl_workspace.specs.declared.meaning.Meaning.{Meaning}
use Rattle.ws_commands.proofs.Copies.{line_of_missing, line_of_shared}
use Rattle.ws_commands.proofs.copying.add_left_out.Goals as goal

pub returns-then-is_missing : goal.returns-then-is_missing
returns-then-is_missing c =
    let mention = c.args.mention.now in
    let told : c.is_missing.result ≡ is_missing c.args.from.now mention.name = c.is_missing.ensures ∙ ap (λ (m : Meaning). not (is_some (copied_as m))) c.global.ensures.value in
    line_of_missing c.push.result c.args.ws.now c.args.from.now mention c.args.lines.now.items c.push.new.self.items c.in_ok-line_of.field-0.items c.if-mention.false (sym told ∙ c.if-is_missing.true)
    (c.in_ok-line_of.ensures ∙ ap (λ (name : List ℕ). codes "NOT FOUND: " ++ name) c.glyphs.ensures.value) c.push.ensures.ok

pub returns-then-is_shared : goal.returns-then-is_shared
returns-then-is_shared c =
    let mention = c.args.mention.now in
    let told : c.is_missing.result ≡ is_missing c.args.from.now mention.name = c.is_missing.ensures ∙ ap (λ (m : Meaning). not (is_some (copied_as m))) c.global.ensures.value in
    line_of_shared c.push-then-is_shared.result c.args.ws.now c.args.from.now mention c.args.lines.now.items c.push-then-is_shared.new.self.items c.in_ok-line_of-2.field-0.items c.if-mention.false (sym told ∙ c.if-is_missing.false)
    (sym c.is_shared.ensures ∙ c.if-is_shared.true) (c.in_ok-line_of-2.ensures ∙ ap (λ (name : List ℕ). codes "NOT COPIED: " ++ name) c.glyphs-then-is_shared.ensures.value) c.push-then-is_shared.ensures.ok
