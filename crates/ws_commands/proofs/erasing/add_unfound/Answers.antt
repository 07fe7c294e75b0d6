use Rattle.std.proofs.Common.{◌∙◌, ◌++◌, ap, codes, List, ℕ}
use Rattle.ws_commands.proofs.Mentions.{line_of_unfound}
use Rattle.ws_commands.proofs.erasing.add_unfound.Goals as goal

pub returns-in_ok-push : goal.returns-in_ok-push
returns-in_ok-push c =
    line_of_unfound c.args.ws.now c.args.mention.now c.args.lines.now.items c.push.new.self.items c.in_ok-line_of.field-0.items c.is_unfound.result c.is_unfound.ensures c.if-is_unfound.true
    (c.in_ok-line_of.ensures ∙ ap (λ (name : List ℕ). codes "NOT FOUND: " ++ name) c.glyphs.ensures.value) c.in_ok-push.ensures.ok
