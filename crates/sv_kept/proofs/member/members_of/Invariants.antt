use Rattle.std.proofs.Common.{[], take}
use Rattle.sv_kept.specs.Member.{HasMembers}
use Rattle.sv_kept.proofs.member.members_of.Given as goal

-- those so far are found
abbrev pub invariant-loop-user : goal.invariant-loop-user
invariant-loop-user l = HasMembers [] (take l.user-index l.users) l.members
