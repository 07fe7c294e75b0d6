-- Where a line stands in the text of a bundle.
use Rattle.std.specs.Prelude.{ℕ, zero, suc, List, [], ◌∷◌, ◌++◌, length, take}
use Rattle.line_text.specs.Lines.{user_lines, lines_text}
use Rattle.bundle_text.specs.User.{PlainUser}

-- a user's heading and lines
abbrev pub lines_of_user : PlainUser → List (List ℕ)
lines_of_user user = user_lines user.number user.lines

-- the lines in front of a line of a user, both counted from 0: those of the users before it, its heading, and so many
-- of its lines; all lines of all users where there is no such user
abbrev pub lines_before : List PlainUser → ℕ → ℕ → List (List ℕ)
lines_before [] user line = []
lines_before (one ∷ users) zero line = user_lines one.number (take line one.lines)
lines_before (one ∷ users) (suc user) line = lines_of_user one ++ lines_before users user line

-- how many bytes stand in front of the line
abbrev pub offset_of : List PlainUser → ℕ → ℕ → ℕ
offset_of users user line = length (lines_text (lines_before users user line))
