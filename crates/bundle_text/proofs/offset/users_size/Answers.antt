use Rattle.std.proofs.Common.{length, sym, ap, ◌∙◌, arith}
use Rattle.std.proofs.lemmas.List.{take_all, length-map}
use Rattle.apl_arrays.specs.List.{glyphs_in}
use Rattle.line_text.specs.Lines.{user_lines, lines_text}
use Rattle.bundle_text.specs.User.{plain_user}
use Rattle.bundle_text.specs.Rules.{IsUser}
use Rattle.bundle_text.proofs.Offsets.{user_more, each_at}
use Rattle.bundle_text.proofs.offset.users_size.Goals as goal

pub front_size-size-requires : goal.front_size-size-requires
front_size-size-requires c =
    each_at IsUser plain_user c.args.users.now c.loop-user.user-index c.user-item.result (omega arith) c.user-item.is c.requires.each

pub loop-user-preserved : goal.loop-user-preserved
loop-user-preserved c =
    let user = c.user-item.result in
    let lines = c.as_slice.result.now in
    let whole = take_all (length lines) user.lines.items (omega (arith, sym (length-map lines glyphs_in) ∙ ap length c.as_slice.ensures)) in
    record {
      size = user_more plain_user c.args.users.now c.loop-user.user-index user c.loop-user.size c.front_size-size.result (omega arith) c.user-item.is c.loop-user.invariant.size (c.front_size-size.ensures.value ∙ ap (λ ls. length (lines_text (user_lines user.number ls))) whole);
      small = omega (arith, c.front_size-size.ensures.small, c.loop-user.invariant.small);
    }
