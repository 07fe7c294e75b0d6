use Rattle.std.specs.Prelude.{◌≡◌, ◌≢◌, ◌<◌, ◌≤◌, ◌+◌, ◌-◌, ◌++◌, ◌&&◌, ◌||◌, ◌==◌, ℕ, Bool, Option, Some, None, List, [], ◌∷◌, All, length, encode_utf8, slice_index, nat_lt, nat_le, if◌then◌else◌}
use Rattle.std.specs.List.{flat_map}

-- the codes of glyphs: 32 to 126, and 128 to 162
abbrev pub IsGlyph : ℕ → Type 0
IsGlyph code = (32 ≤ code) × (code ≤ 162) × (code ≢ 127)

-- the code stands between two others, these included
abbrev pub is_between : ℕ → ℕ → ℕ → Bool
is_between low high code = nat_le low code && nat_le code high

-- the blank
abbrev pub blank : ℕ
blank = 32

-- !
abbrev pub exclamation : ℕ
exclamation = 33

-- '
abbrev pub quote : ℕ
quote = 39

-- (
abbrev pub left_parenthesis : ℕ
left_parenthesis = 40

-- )
abbrev pub right_parenthesis : ℕ
right_parenthesis = 41

-- *
abbrev pub star : ℕ
star = 42

-- +
abbrev pub plus : ℕ
plus = 43

-- ,
abbrev pub comma : ℕ
comma = 44

-- -
abbrev pub minus : ℕ
minus = 45

-- .
abbrev pub period : ℕ
period = 46

-- /
abbrev pub slash : ℕ
slash = 47

-- :
abbrev pub colon : ℕ
colon = 58

-- ;
abbrev pub semicolon : ℕ
semicolon = 59

-- <
abbrev pub less : ℕ
less = 60

-- =
abbrev pub equal : ℕ
equal = 61

-- >
abbrev pub greater : ℕ
greater = 62

-- [
abbrev pub left_bracket : ℕ
left_bracket = 91

-- \
abbrev pub backslash : ℕ
backslash = 92

-- ]
abbrev pub right_bracket : ℕ
right_bracket = 93

-- _
abbrev pub underscore : ℕ
underscore = 95

-- |
abbrev pub bar : ℕ
bar = 124

-- ~
abbrev pub tilde : ℕ
tilde = 126

-- ⍴
abbrev pub rho : ℕ
rho = 128

-- ⍳
abbrev pub iota : ℕ
iota = 129

-- ∊
abbrev pub epsilon : ℕ
epsilon = 130

-- ↑
abbrev pub up_arrow : ℕ
up_arrow = 131

-- ↓
abbrev pub down_arrow : ℕ
down_arrow = 132

-- ⍋
abbrev pub grade_up : ℕ
grade_up = 133

-- ⍒
abbrev pub grade_down : ℕ
grade_down = 134

-- ⌽
abbrev pub reverse : ℕ
reverse = 135

-- ⊖
abbrev pub reverse_first : ℕ
reverse_first = 136

-- ⍉
abbrev pub transpose : ℕ
transpose = 137

-- ⌈
abbrev pub ceiling : ℕ
ceiling = 138

-- ⌊
abbrev pub floor : ℕ
floor = 139

-- ×
abbrev pub times : ℕ
times = 140

-- ÷
abbrev pub divide : ℕ
divide = 141

-- ≤
abbrev pub not_greater : ℕ
not_greater = 142

-- ≥
abbrev pub not_less : ℕ
not_less = 143

-- ≠
abbrev pub not_equal : ℕ
not_equal = 144

-- ∧
abbrev pub and : ℕ
and = 145

-- ∨
abbrev pub or : ℕ
or = 146

-- ⍲
abbrev pub nand : ℕ
nand = 147

-- ⍱
abbrev pub nor : ℕ
nor = 148

-- ←
abbrev pub left_arrow : ℕ
left_arrow = 149

-- →
abbrev pub right_arrow : ℕ
right_arrow = 150

-- ⎕
abbrev pub quad : ℕ
quad = 151

-- ¯
abbrev pub overbar : ℕ
overbar = 152

-- ∇
abbrev pub del : ℕ
del = 153

-- ∆
abbrev pub delta : ℕ
delta = 154

-- ∘
abbrev pub jot : ℕ
jot = 155

-- ⍝
abbrev pub lamp : ℕ
lamp = 156

-- ⊥
abbrev pub decode : ℕ
decode = 157

-- ⊤
abbrev pub encode : ℕ
encode = 158

-- ⌿
abbrev pub slash_bar : ℕ
slash_bar = 159

-- ⍀
abbrev pub backslash_bar : ℕ
backslash_bar = 160

-- ⍕
abbrev pub format : ℕ
format = 161

-- ⍎
abbrev pub execute : ℕ
execute = 162

-- the Unicode scalars of the codes from 128 on, in the order of their codes
abbrev pub scalars : List ℕ
scalars =
    0x2374 ∷ 0x2373 ∷ 0x220A ∷ 0x2191 ∷ 0x2193 ∷ 0x234B ∷ 0x2352
    ∷ 0x233D ∷ 0x2296 ∷ 0x2349 ∷ 0x2308 ∷ 0x230A ∷ 0xD7 ∷ 0xF7
    ∷ 0x2264 ∷ 0x2265 ∷ 0x2260 ∷ 0x2227 ∷ 0x2228 ∷ 0x2372 ∷ 0x2371
    ∷ 0x2190 ∷ 0x2192 ∷ 0x2395 ∷ 0xAF ∷ 0x2207 ∷ 0x2206 ∷ 0x2218
    ∷ 0x235D ∷ 0x22A5 ∷ 0x22A4 ∷ 0x233F ∷ 0x2340 ∷ 0x2355 ∷ 0x234E ∷ []

-- the Unicode scalar of a glyph
abbrev pub scalar_of : ℕ → ℕ
scalar_of code = if nat_lt code 128 then code else slice_index scalars (code - 128)

-- a glyph in UTF-8
abbrev pub glyph_utf8 : ℕ → List ℕ
glyph_utf8 code = encode_utf8 (scalar_of code)

-- a line in UTF-8
abbrev pub line_utf8 : List ℕ → List ℕ
line_utf8 line = flat_map glyph_utf8 line

-- the bytes spell this line of glyphs
abbrev pub Spells : List ℕ → List ℕ → Type 0
Spells bytes line = All IsGlyph line × (bytes ≡ line_utf8 line)

-- no glyph stands at the front
abbrev pub StartsWithNoGlyph : List ℕ → Type 0
StartsWithNoGlyph bytes = (code : ℕ) (rest : List ℕ) → IsGlyph code → bytes ≢ glyph_utf8 code ++ rest

-- after glyphs that take so many bytes comes something that is no glyph
pub record IsBadFrom (bytes : List ℕ) (offset : ℕ) : Type 0 where
  pub line : List ℕ
  pub rest : List ℕ
  pub glyphs : All IsGlyph line
  pub whole : bytes ≡ line_utf8 line ++ rest
  pub place : offset ≡ length (line_utf8 line)
  pub more : 0 < length rest
  pub bad : StartsWithNoGlyph rest

-- 0 to 9
abbrev pub is_digit : ℕ → Bool
is_digit code = is_between 48 57 code

-- the digit of a value below ten
abbrev pub digit : ℕ → ℕ
digit value = 48 + value

-- the value of a digit
abbrev pub digit_value : ℕ → Option ℕ
digit_value code = if is_digit code then Some (code - 48) else None

-- A to Z, a to z, or ∆
abbrev pub is_letter : ℕ → Bool
is_letter code = is_between 65 90 code || is_between 97 122 code || code == delta

-- the blank
abbrev pub is_blank : ℕ → Bool
is_blank code = code == blank
