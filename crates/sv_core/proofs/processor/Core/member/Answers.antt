use Rattle.std.proofs.Common.{◌∙◌, ap, sym}
use Rattle.sv_kept.specs.Member.{user_member, waiting_at}
use Rattle.sv_kept.specs.declared.member.Member.{Member}
use Rattle.sv_rules.specs.Entries.{has_left}
use Rattle.sv_rules.specs.Legal.{is_user}
use Rattle.sv_core.proofs.WaitingLemmas.{member_is, no_member, strangers_do_not_leave, strangers_do_not_wait}
use Rattle.sv_core.specs.Core.{PlainCore}
use Rattle.sv_core.proofs.processor.Core.member.Goals as goal

pub returns-in-None-clause-left : goal.returns-in-None-clause-left
returns-in-None-clause-left c =
    let inside = c.self.inside in
    let stranger = no_member (is_user inside.log.users c.args.party) (user_member inside.log.journal c.args.party) (sym c.member.ensures ∙ c.in-None.is) in
    sym (strangers_do_not_leave inside.log.users inside.log.journal c.self.invariant.legal c.args.party stranger) ∙ ap (λ (v : PlainCore). has_left v.journal c.args.party) c.self.view_is

pub returns-in-None-clause-waiting : goal.returns-in-None-clause-waiting
returns-in-None-clause-waiting c =
    let inside = c.self.inside in
    let stranger = no_member (is_user inside.log.users c.args.party) (user_member inside.log.journal c.args.party) (sym c.member.ensures ∙ c.in-None.is) in
    sym (strangers_do_not_wait inside.log.users inside.log.journal c.self.invariant.legal c.args.party stranger) ∙ ap (λ (v : PlainCore). waiting_at v.journal c.args.party) c.self.view_is

pub returns-in-Some-clause-left : goal.returns-in-Some-clause-left
returns-in-Some-clause-left c =
    let inside = c.self.inside in
    let is = member_is (is_user inside.log.users c.args.party) (user_member inside.log.journal c.args.party) c.in-Some.member (sym c.member.ensures ∙ c.in-Some.is) in
    ap (λ (m : Member). m.has_left) is ∙ ap (λ (v : PlainCore). has_left v.journal c.args.party) c.self.view_is

pub returns-in-Some-clause-waiting : goal.returns-in-Some-clause-waiting
returns-in-Some-clause-waiting c =
    let inside = c.self.inside in
    let is = member_is (is_user inside.log.users c.args.party) (user_member inside.log.journal c.args.party) c.in-Some.member (sym c.member.ensures ∙ c.in-Some.is) in
    ap (λ (m : Member). m.waiting) is ∙ ap (λ (v : PlainCore). waiting_at v.journal c.args.party) c.self.view_is
