use Rattle.std.specs.Prelude.{ℕ, List}
use Rattle.bundle_text.specs.declared.user.BundleUser.{BundleUser}

-- a user as plain data: its number, and its lines of glyphs
pub record PlainUser : Type 0 where
  pub number : ℕ
  pub lines : List (List ℕ)

-- a user, whatever room is left for its lines
abbrev pub plain_user : BundleUser → PlainUser
plain_user user = record { number = user.number; lines = user.lines.items }
