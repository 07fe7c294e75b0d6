use Rattle.std.specs.Prelude.{◌≡◌, ℕ, Bool, ◌||◌, ◌==◌, List, [], ◌∷◌, Option, Some, None, nat_eq, if◌then◌else◌}
use Rattle.std.specs.HashMap.{HashMap, get}
use Rattle.sv_rules.specs.Entries.{Entries, next_place, has_left, kind_of, is_held}
use Rattle.sv_rules.specs.Legal.{is_user}
use Rattle.sv_kept.specs.declared.member.Member.{Member}

-- the place of a party's last entry, where this is held
abbrev pub waiting_at : Entries → ℕ → Option ℕ
waiting_at [] party = None
waiting_at (e ∷ journal) party =
    if e.party == party then (if is_held (kind_of e.answer) then Some (next_place journal) else None) else waiting_at journal party

-- what is kept of a user
abbrev pub user_member : Entries → ℕ → Member
user_member journal user = record { has_left = has_left journal user; waiting = waiting_at journal user }

-- what is kept of a user after an entry of its own, by which it leaves or not, and waits since or not
abbrev pub noted : Bool → Option ℕ → Member → Member
noted leaves waiting member = record { has_left = leaves || member.has_left; waiting = waiting }

-- what is kept is found by the number of each user, and by no other
abbrev pub HasMembers : {S : Type 0} → Entries → List ℕ → HashMap ℕ Member S → Type 0
HasMembers journal users members = (party : ℕ) → get nat_eq members party ≡ (if is_user users party then Some (user_member journal party) else None)
