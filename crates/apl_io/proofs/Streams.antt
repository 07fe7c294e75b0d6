-- Bytes that are taken from what is left, and bytes that go to what is held, one piece after another.
use Rattle.std.proofs.Common.{◌≡◌, ℕ, ◌+◌, ◌<◌, ◌≤◌, ◌-◌, List, [], ◌++◌, length, take, drop, min, sym, ◌∙◌, ap, arith, Some, None, append_assoc, length-append}
use Rattle.std.specs.declared.option.Option.{Option}
use Rattle.std.specs.Io.KnownBytes.{Consumes, Appends}
use Rattle.std.proofs.Math.Seq.{take-add, drop-drop}
use Rattle.std.proofs.lemmas.List.{take_at, drop_at, drop_all, take_all, take-append-drop, length-take-le, length-drop}
use Rattle.apl_io.specs.Whole.{TakesExactly}

-- two pieces taken one after the other are one
pub Consumes-append : (a b c : Option (List ℕ)) (first next : List ℕ) → Consumes a b first → Consumes b c next → Consumes a c (first ++ next)
Consumes-append None b c first next p q = tt
Consumes-append (Some left) None c first next p q = elim p [ ]
Consumes-append (Some left) (Some rest) None first next p q = q
Consumes-append (Some left) (Some rest) (Some end) first next p q =
    p ∙ ap (λ (bytes : List ℕ). first ++ bytes) q ∙ sym (append_assoc first next end)

-- a piece taken is so many bytes taken
pub takes_piece : (a b : Option (List ℕ)) (piece : List ℕ) (count : ℕ) → Consumes a b piece → length piece ≡ count → TakesExactly a b count
takes_piece None b piece count p is = tt
takes_piece (Some left) None piece count p is = elim p [ ]
takes_piece (Some left) (Some rest) piece count p is = (
  omega (arith, ap length p, length-append piece rest),
  ap Some (sym (ap (λ (bytes : List ℕ). drop count bytes) p ∙ drop_at piece rest count is)),
)

-- a piece taken after the first ones is so many bytes taken
pub takes_more : (a b c : Option (List ℕ)) (first buffer : List ℕ) (n count : ℕ) → Consumes a b first → Consumes b c (take n buffer) → n ≤ length buffer → length first + n ≡ count → TakesExactly a c count
takes_more a b c first buffer n count p q within is =
    takes_piece a c (first ++ take n buffer) count (Consumes-append a b c first (take n buffer) p q) (omega (arith, length-append first (take n buffer), length-take-le n buffer within))

-- two pieces that go last one after the other are one
Appends-append : (a b c : Option (List ℕ)) (first next : List ℕ) → Appends a b first → Appends b c next → Appends a c (first ++ next)
Appends-append None b c first next p q = tt
Appends-append (Some held) None c first next p q = elim p [ ]
Appends-append (Some held) (Some more) None first next p q = q
Appends-append (Some held) (Some more) (Some end) first next p q =
    q ∙ ap (λ (bytes : List ℕ). bytes ++ next) p ∙ append_assoc held first next

-- the next n of some bytes go last, after the first i of them
pub Appends-take_add : (a b c : Option (List ℕ)) (bytes : List ℕ) (i n : ℕ) → Appends a b (take i bytes) → Appends b c (take n (take (length bytes - i) (drop i bytes))) → Appends a c (take (i + n) bytes)
Appends-take_add a b c bytes i n p q =
    let rest : take (length bytes - i) (drop i bytes) ≡ drop i bytes = take_all (length bytes - i) (drop i bytes) (omega (arith, length-drop i bytes)) in
    rw take-add (Appends-append a b c (take i bytes) (take n (drop i bytes)) p (rw rest at q))

-- the front of what is left, read into a buffer
pub front_read : (bytes buffer front : List ℕ) (given piece n : ℕ) → 1 ≤ piece → n ≡ min (min (length (drop given bytes)) piece) (length buffer) → front ≡ take n (drop given bytes)
    → (drop given bytes ≡ take n (front ++ drop n buffer) ++ drop (given + n) bytes) × (n ≡ 0 → 0 < length (front ++ drop n buffer) → drop (given + n) bytes ≡ [])
front_read bytes buffer front given piece n some is same =
    let within : n ≤ length (drop given bytes) = omega arith in
    let long : length front ≡ n = ap length same ∙ length-take-le n (drop given bytes) within in (
      sym (take-append-drop n (drop given bytes))
          ∙ ap (λ (l : List ℕ). l ++ drop n (drop given bytes)) (sym same ∙ sym (take_at front (drop n buffer) n long))
          ∙ ap (λ (l : List ℕ). take n (front ++ drop n buffer) ++ l) (drop-drop n given bytes),
      λ none more.
          drop_all (given + n) bytes (omega (arith, none, is, some, long, length-append front (drop n buffer), length-drop n buffer, length-drop given bytes)),
    )
