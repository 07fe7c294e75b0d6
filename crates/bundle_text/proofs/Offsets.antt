-- How many bytes the lines of users take.
use Rattle.std.proofs.Common.{◌≡◌, ℕ, zero, suc, ◌+◌, ◌<◌, ◌≤◌, min, List, [], ◌∷◌, ◌++◌, length, map, take, get_or, refl, sym, ap, ◌∙◌, subst, ⊎_elim, arith, length-append, append-nil}
use Rattle.std.proofs.lemmas.Bool.{cases_lt}
use Rattle.std.proofs.lemmas.List.{take_more, take_all, map-append, take-map, length-map, get_or-map}
use Rattle.std.proofs.lemmas.List.Concat.{flat_map-append}
use Rattle.std.specs.List.{All, flat_map}
use Rattle.apl_arrays.specs.Glyph.{line_utf8}
use Rattle.line_text.specs.Lines.{content, heading, user_lines, line_text, lines_text}
use Rattle.line_text.proofs.Ascii.{content_utf8}
use Rattle.bundle_text.specs.User.{PlainUser}
use Rattle.bundle_text.specs.Offset.{lines_before, lines_of_user, offset_of}

-- texts one after another
pub joined_length : (lines more : List (List ℕ)) → length (lines_text (lines ++ more)) ≡ length (lines_text lines) + length (lines_text more)
joined_length lines more =
    ap length (flat_map-append line_text lines more) ∙ length-append (lines_text lines) (lines_text more)

one_length : (line : List ℕ) → length (lines_text (line ∷ [])) ≡ length (line_text line)
one_length line = ap length (append-nil (line_text line))

-- a line behind its bar takes one byte more
content_length : (line : List ℕ) → length (line_text (content line)) ≡ 1 + length (line_text line)
content_length line =
    omega (arith, ap length (content_utf8 line), length-append (line_utf8 (content line)) (10 ∷ []), length-append (line_utf8 line) (10 ∷ []))

-- a thing at a place, after a map
mapped_more : {X Y : Type 0} (f : X → Y) (xs : List X) (index : ℕ) (x : X) → index < length xs → x ≡ get_or xs index x → map f (take (index + 1) xs) ≡ map f (take index xs) ++ f x ∷ []
mapped_more f xs index x within read =
    ap (map f) (take_more xs index x within ∙ ap (λ last. take index xs ++ last ∷ []) (sym read)) ∙ map-append f (take index xs) (x ∷ [])

-- what holds of all things of a list holds of the one at a place
pub each_at : {X Y : Type 0} (P : Y → Type 0) (f : X → Y) (xs : List X) (index : ℕ) (x : X) → index < length xs → x ≡ get_or xs index x → All P (map f xs) → P (f x)
each_at P f xs index x within read all =
    subst P (get_or-map f xs index x (f x) within ∙ ap f (sym read)) (all index (f x) (omega (arith, length-map xs f)))

-- one line more
pub content_more : {X : Type 0} (f : X → List ℕ) (lines : List X) (index : ℕ) (line : X) (size one : ℕ) → index < length lines → line ≡ get_or lines index line → size ≡ length (lines_text (map content (map f (take index lines)))) → one ≡ length (line_text (f line)) → size + (1 + one) ≡ length (lines_text (map content (map f (take (index + 1) lines))))
content_more f lines index line size one within read so_far is =
    let longer : map content (map f (take (index + 1) lines)) ≡ map content (map f (take index lines)) ++ content (f line) ∷ [] =
    ap (map content) (mapped_more f lines index line within read) ∙ map-append content (map f (take index lines)) (f line ∷ []) in
    omega (
      arith,
      ap (λ ls. length (lines_text ls)) longer,
      joined_length (map content (map f (take index lines))) (content (f line) ∷ []),
      one_length (content (f line)),
      content_length (f line),
    )

-- one user more
pub user_more : {X : Type 0} (f : X → PlainUser) (users : List X) (index : ℕ) (user : X) (size one : ℕ) → index < length users → user ≡ get_or users index user → size ≡ length (lines_text (flat_map lines_of_user (map f (take index users)))) → one ≡ length (lines_text (lines_of_user (f user)))
    → size + one ≡ length (lines_text (flat_map lines_of_user (map f (take (index + 1) users))))
user_more f users index user size one within read so_far is =
    let longer : flat_map lines_of_user (map f (take (index + 1) users)) ≡ flat_map lines_of_user (map f (take index users)) ++ lines_of_user (f user) =
    ap (flat_map lines_of_user) (mapped_more f users index user within read)
    ∙ (flat_map-append lines_of_user (map f (take index users)) (f user ∷ []) ∙ ap (λ ls. flat_map lines_of_user (map f (take index users)) ++ ls) (append-nil (lines_of_user (f user)))) in
    omega (arith, ap (λ ls. length (lines_text ls)) longer, joined_length (flat_map lines_of_user (map f (take index users))) (lines_of_user (f user)))

-- a heading, and lines
pub front_length : (number : ℕ) (lines : List (List ℕ)) → length (lines_text (user_lines number lines)) ≡ length (line_text (heading number)) + length (lines_text (map content lines))
front_length number lines = length-append (line_text (heading number)) (lines_text (map content lines))

-- the first lines, no more than there are
pub first_lines : {X : Type 0} (f : X → List ℕ) (xs : List X) (line : ℕ) → map f (take (min line (length xs)) xs) ≡ take line (map f xs)
first_lines f xs line =
    ⊎_elim (λ below.
    let at : min line (length xs) ≡ line = omega (arith, below) in
    ap (λ n. map f (take n xs)) at ∙ sym (take-map f line xs))
    (λ past.
    let at : min line (length xs) ≡ length xs = omega (arith, past) in
    ap (λ n. map f (take n xs)) at ∙ (ap (map f) (take_all (length xs) xs (omega arith)) ∙ sym (take_all line (map f xs) (omega (arith, past, length-map xs f)))))
    (cases_lt line (length xs))

-- what stands in front of a line
pub offset_at : (users : List PlainUser) (user line : ℕ) (one : PlainUser) → user < length users → one ≡ get_or users user one → offset_of users user line ≡ length (lines_text (flat_map lines_of_user (take user users))) + length (lines_text (user_lines one.number (take line one.lines)))
offset_at [] user line one within is = absurd (omega arith)
offset_at (first ∷ users) zero line one within is = ap (λ (u : PlainUser). length (lines_text (user_lines u.number (take line u.lines)))) (sym is) ∙ omega arith
offset_at (first ∷ users) (suc user) line one within is =
    let rest = offset_at users user line one (omega arith) is in
    omega (arith, rest, joined_length (lines_of_user first) (lines_before users user line), joined_length (lines_of_user first) (flat_map lines_of_user (take user users)))

pub offset_past : (users : List PlainUser) (user line : ℕ) → length users ≤ user → offset_of users user line ≡ length (lines_text (flat_map lines_of_user users))
offset_past [] user line past = refl
offset_past (first ∷ users) zero line past = absurd (omega arith)
offset_past (first ∷ users) (suc user) line past =
    let rest = offset_past users user line (omega arith) in
    omega (arith, rest, joined_length (lines_of_user first) (lines_before users user line), joined_length (lines_of_user first) (flat_map lines_of_user users))
