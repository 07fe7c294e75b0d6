use Rattle.std.proofs.Common.{◌≤◌, ◌+◌, length}
use denote.Text.{Utf8}
use denote.Shadow.{shadow}
use Rattle.sv_offers.specs.Places.{IsNext}
use Rattle.sv_cases.proofs.calls.offers.all_done.Given as goal

-- the next act has a place above all offers, and no act adds more than one
abbrev pub invariant-loop-index : goal.invariant-loop-index
invariant-loop-index l = shadow (Utf8 l.before) × IsNext l.table (l.index + 1) × (length l.table.offers ≤ l.index)
