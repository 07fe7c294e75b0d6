-- The local names of a header, one after the other.
use Rattle.std.proofs.Common.{◌≡◌, ◌<◌, ℕ, List, [], ◌∷◌, ◌++◌, Option, Some, None, length, refl, sym, ap, ◌∙◌, arith}
use Rattle.std.proofs.lemmas.Option.{same_Some}
use Rattle.apl_workspace.specs.declared.symbol.HeaderSymbol.{HeaderSymbol}
use Rattle.apl_workspace.specs.declared.symbol.HeaderSymbol.TheVariants.{Word, Arrow, Semicolon, Other}
use Rattle.apl_workspace.specs.Header.{with_local, local_in, locals_in}

-- names before those that others spell
abbrev pub with_locals : List (List ℕ) → Option (List (List ℕ)) → Option (List (List ℕ))
with_locals [] found = found
with_locals (local ∷ locals) found = with_local local (with_locals locals found)

pub with_locals-push : (locals : List (List ℕ)) (last : List ℕ) (found : Option (List (List ℕ))) → with_locals (locals ++ last ∷ []) found ≡ with_locals locals (with_local last found)
with_locals-push [] last found = refl
with_locals-push (local ∷ locals) last found = ap (with_local local) (with_locals-push locals last found)

pub with_locals-all : (locals : List (List ℕ)) → with_locals locals (Some []) ≡ Some locals
with_locals-all [] = refl
with_locals-all (local ∷ locals) = ap (with_local local) (with_locals-all locals)

pub with_locals-none : (locals : List (List ℕ)) → with_locals locals None ≡ None
with_locals-none [] = refl
with_locals-none (local ∷ locals) = ap (with_local local) (with_locals-none locals)

-- where a local name stands at the front, it comes before those of what follows
pub local_step : (symbols : List HeaderSymbol) (local : List ℕ) (rest : List HeaderSymbol) → local_in symbols ≡ Some (local, rest) → locals_in symbols ≡ with_local local (locals_in rest)
unfolding locals_in
local_step [] local rest e = absurd cc
local_step (Semicolon ∷ []) local rest e = absurd cc
local_step (Semicolon ∷ Word name ∷ more) local rest e =
    let here : List ℕ × List HeaderSymbol = (name, more) in
    let there : List ℕ × List HeaderSymbol = (local, rest) in
    let same : here ≡ there = same_Some here there e in
    ap (λ (found : List ℕ × List HeaderSymbol). with_local found.0 (locals_in found.1)) same
local_step (Semicolon ∷ Arrow ∷ more) local rest e = absurd cc
local_step (Semicolon ∷ Semicolon ∷ more) local rest e = absurd cc
local_step (Semicolon ∷ Other ∷ more) local rest e = absurd cc
local_step (Word name ∷ more) local rest e = absurd cc
local_step (Arrow ∷ more) local rest e = absurd cc
local_step (Other ∷ more) local rest e = absurd cc

-- where something else stands at the front, there are no local names
pub no_local : (symbols : List HeaderSymbol) → 0 < length symbols → local_in symbols ≡ None → locals_in symbols ≡ None
unfolding locals_in
no_local [] some e = absurd (omega arith)
no_local (Semicolon ∷ []) some e = refl
no_local (Semicolon ∷ Word name ∷ more) some e = absurd cc
no_local (Semicolon ∷ Arrow ∷ more) some e = refl
no_local (Semicolon ∷ Semicolon ∷ more) some e = refl
no_local (Semicolon ∷ Other ∷ more) some e = refl
no_local (Word name ∷ more) some e = refl
no_local (Arrow ∷ more) some e = refl
no_local (Other ∷ more) some e = refl

pub no_symbols : (symbols : List HeaderSymbol) → length symbols ≡ 0 → locals_in symbols ≡ Some []
unfolding locals_in
no_symbols [] e = refl
no_symbols (first ∷ rest) e = absurd (omega (arith, e))

-- ---- the loop over local names

pub locals_stop : (locals : List (List ℕ)) (rest all : List HeaderSymbol) → with_locals locals (locals_in rest) ≡ locals_in all → 0 < length rest → local_in rest ≡ None → None ≡ locals_in all
locals_stop locals rest all so some e = sym (with_locals-none locals) ∙ ap (with_locals locals) (sym (no_local rest some e)) ∙ so

pub locals_go_on : (locals more : List (List ℕ)) (local : List ℕ) (rest behind all : List HeaderSymbol) → with_locals locals (locals_in rest) ≡ locals_in all → local_in rest ≡ Some (local, behind) → more ≡ locals ++ local ∷ []
    → with_locals more (locals_in behind) ≡ locals_in all
locals_go_on locals more local rest behind all so e pushed =
    ap (λ names. with_locals names (locals_in behind)) pushed ∙ with_locals-push locals local (locals_in behind) ∙ ap (with_locals locals) (sym (local_step rest local behind e)) ∙ so

pub locals_end : (locals : List (List ℕ)) (rest all : List HeaderSymbol) → with_locals locals (locals_in rest) ≡ locals_in all → length rest ≡ 0 → Some locals ≡ locals_in all
locals_end locals rest all so e = sym (with_locals-all locals) ∙ ap (with_locals locals) (sym (no_symbols rest e)) ∙ so
