use Rattle.std.proofs.Common.{◌≡◌, take}
use Rattle.bundle_text.specs.Rules.{PlainBundle}
use Rattle.sv_rules.specs.Journal.{journal_of}
use Rattle.aplsv_check.specs.Followed.{IsFollowed}
use Rattle.aplsv_check.proofs.judging.first_unfit.Given as goal

-- the entries so far were followed
abbrev pub invariant-loop-i : goal.invariant-loop-i
invariant-loop-i l = (bundle : PlainBundle) → IsFollowed bundle l.fn.follower → IsFollowed bundle l.follower × (l.follower.core.journal ≡ journal_of (take l.i l.journal))
