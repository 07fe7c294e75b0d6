use Rattle.std.proofs.Common.{◌∙◌, ap, sym}
use Rattle.std.specs.Option.{option_copied}
use Rattle.sv_core.proofs.ServiceLemmas.{commands_are_there}
use Rattle.sv_core.proofs.processor.Core.request.Goals as goal

pub unreachable-requires : goal.unreachable-requires
unreachable-requires c =
    commands_are_there c.args.self.now.users c.args.self.now.journal c.journal.ensures.legal c.args.party c.requires.reply (sym c.known_to_reply.ensures ∙ ap option_copied c.in-None.is)

pub returns : goal.returns
returns c = sym c.known_to_reply.ensures ∙ ap option_copied c.in-Some.is
