use Rattle.std.proofs.Common.{◌+◌, length, map, sym, ap, ap₂, ◌∙◌, subst, arith}
use Rattle.std.proofs.lemmas.List.{take-map, length-map, get_or-map}
use Rattle.std.proofs.lemmas.List.Elements.{All-take}
use Rattle.std.specs.List.{All, flat_map}
use Rattle.line_text.specs.Lines.{lines_text}
use Rattle.bundle_text.specs.User.{plain_user}
use Rattle.bundle_text.specs.Rules.{IsUser}
use Rattle.bundle_text.specs.Offset.{lines_of_user}
use Rattle.bundle_text.proofs.Offsets.{offset_at, offset_past, each_at}
use Rattle.bundle_text.proofs.offset.offset_of.Goals as goal

pub returns-then-user-users : goal.returns-then-user-users
returns-then-user-users c =
    c.users_size.ensures.value ∙ sym (offset_past (map plain_user c.args.users.now) c.args.user c.args.line (omega (arith, length-map c.args.users.now plain_user)))

pub users_size-requires-2-clause-each : goal.users_size-requires-2-clause-each
users_size-requires-2-clause-each c =
    subst (All IsUser) (take-map plain_user c.args.user c.args.users.now) (All-take IsUser c.args.user (map plain_user c.args.users.now) c.requires.each)

pub front_size-requires : goal.front_size-requires
front_size-requires c =
    each_at IsUser plain_user c.args.users.now c.args.user c.index-users-user.result (omega arith) c.index-users-user.is c.requires.each

pub returns : goal.returns
returns c =
    let users = c.args.users.now in
    let one = c.index-users-user.result in
    let is = ap plain_user c.index-users-user.is ∙ sym (get_or-map plain_user users c.args.user one (plain_user one) (omega arith)) in
    ap₂ (λ a b. a + b) (c.users_size-2.ensures.value ∙ ap (λ us. length (lines_text (flat_map lines_of_user us))) (sym (take-map plain_user c.args.user users))) c.front_size.ensures.value
    ∙ sym (offset_at (map plain_user users) c.args.user c.args.line (plain_user one) (omega (arith, length-map users plain_user)) is)
