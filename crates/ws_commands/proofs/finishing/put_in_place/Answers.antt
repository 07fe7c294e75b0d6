use Rattle.std.proofs.Common.{◌≡◌, ◌∙◌, ◌+◌, ◌-◌, ℕ, ap, arith}
use Rattle.ws_commands.proofs.finishing.put_in_place.Goals as goal

pub returns : goal.returns
returns c =
    let sum : c.args.workspace.printed + (c.printed.result - c.printed-2.result) ≡ c.args.ws.now.printed = omega (arith, c.printed.ensures.value, c.printed-2.ensures.value, c.requires.printed) in
    c.replace.ensures.after ∙ c.count_printed.ensures ∙ ap (λ (n : ℕ). record c.args.workspace { printed = n }) sum
