-- From a role to what the glyph is, and back.
use Rattle.std.proofs.Common.{◌≡◌, ℕ, true, arith}
use Rattle.std.proofs.lemmas.Bool.Decides.{nat_tests}
use Rattle.apl_arrays.specs.Glyph as named
use Rattle.apl_arrays.specs.Glyph.{is_letter, is_digit}
use Rattle.line_scanner.specs.declared.role.Role.TheVariants.{Blank, Letter, Digit, Overbar, Quote, Quad, Lamp}
use Rattle.line_scanner.specs.Role.{role_of}

pub letter_role : (g : ℕ) → is_letter g ≡ true → role_of g ≡ Letter
unfolding role_of
letter_role g e = grind (arith, nat_tests)

pub digit_role : (g : ℕ) → is_digit g ≡ true → role_of g ≡ Digit
unfolding role_of
digit_role g e = grind (arith, nat_tests)

pub from_letter : (g : ℕ) → role_of g ≡ Letter → is_letter g ≡ true
unfolding role_of
from_letter g e = grind (arith, nat_tests)

pub from_digit : (g : ℕ) → role_of g ≡ Digit → is_digit g ≡ true
unfolding role_of
from_digit g e = grind (arith, nat_tests)

pub from_blank : (g : ℕ) → role_of g ≡ Blank → g ≡ named.blank
unfolding role_of
from_blank g e = grind (arith, nat_tests)

pub from_overbar : (g : ℕ) → role_of g ≡ Overbar → g ≡ named.overbar
unfolding role_of
from_overbar g e = grind (arith, nat_tests)

pub from_quote : (g : ℕ) → role_of g ≡ Quote → g ≡ named.quote
unfolding role_of
from_quote g e = grind (arith, nat_tests)

pub from_quad : (g : ℕ) → role_of g ≡ Quad → g ≡ named.quad
unfolding role_of
from_quad g e = grind (arith, nat_tests)

pub from_lamp : (g : ℕ) → role_of g ≡ Lamp → g ≡ named.lamp
unfolding role_of
from_lamp g e = grind (arith, nat_tests)
