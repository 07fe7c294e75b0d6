-- Texts that are added one behind another.
use Rattle.std.proofs.Common.{◌≡◌, sym, ap, ◌∙◌, ℕ, List, [], ◌∷◌, ◌++◌}
use Rattle.std.proofs.lemmas.List.{append_assoc, append-nil}
use Rattle.run_reasons.specs.Sentence.{joined}

-- a text, and those behind it
behind : (start mid end a : List ℕ) (rest : List (List ℕ)) → mid ≡ start ++ a → end ≡ mid ++ joined rest → end ≡ start ++ joined (a ∷ rest)
behind start mid end a rest first others = others ∙ ap (λ (t : List ℕ). t ++ joined rest) first ∙ append_assoc start a (joined rest)

-- the last text
last : (start end a : List ℕ) → end ≡ start ++ a → end ≡ start ++ joined (a ∷ [])
last start end a is = is ∙ ap (λ (t : List ℕ). start ++ t) (sym (append-nil a))

-- so many texts
two : (t0 t1 t2 a1 a2 : List ℕ) → t1 ≡ t0 ++ a1 → t2 ≡ t1 ++ a2 → t2 ≡ t0 ++ joined (a1 ∷ a2 ∷ [])
two t0 t1 t2 a1 a2 p1 p2 = behind t0 t1 t2 a1 (a2 ∷ []) p1 (last t1 t2 a2 p2)

pub three : (t0 t1 t2 t3 a1 a2 a3 : List ℕ) → t1 ≡ t0 ++ a1 → t2 ≡ t1 ++ a2 → t3 ≡ t2 ++ a3 → t3 ≡ t0 ++ joined (a1 ∷ a2 ∷ a3 ∷ [])
three t0 t1 t2 t3 a1 a2 a3 p1 p2 p3 =
    behind t0 t1 t3 a1 (a2 ∷ a3 ∷ []) p1 (two t1 t2 t3 a2 a3 p2 p3)

pub four : (t0 t1 t2 t3 t4 a1 a2 a3 a4 : List ℕ) → t1 ≡ t0 ++ a1 → t2 ≡ t1 ++ a2 → t3 ≡ t2 ++ a3 → t4 ≡ t3 ++ a4 → t4 ≡ t0 ++ joined (a1 ∷ a2 ∷ a3 ∷ a4 ∷ [])
four t0 t1 t2 t3 t4 a1 a2 a3 a4 p1 p2 p3 p4 =
    behind t0 t1 t4 a1 (a2 ∷ a3 ∷ a4 ∷ []) p1 (three t1 t2 t3 t4 a2 a3 a4 p2 p3 p4)

five : (t0 t1 t2 t3 t4 t5 a1 a2 a3 a4 a5 : List ℕ) → t1 ≡ t0 ++ a1 → t2 ≡ t1 ++ a2 → t3 ≡ t2 ++ a3 → t4 ≡ t3 ++ a4 → t5 ≡ t4 ++ a5 → t5 ≡ t0 ++ joined (a1 ∷ a2 ∷ a3 ∷ a4 ∷ a5 ∷ [])
five t0 t1 t2 t3 t4 t5 a1 a2 a3 a4 a5 p1 p2 p3 p4 p5 =
    behind t0 t1 t5 a1 (a2 ∷ a3 ∷ a4 ∷ a5 ∷ []) p1 (four t1 t2 t3 t4 t5 a2 a3 a4 a5 p2 p3 p4 p5)

six : (t0 t1 t2 t3 t4 t5 t6 a1 a2 a3 a4 a5 a6 : List ℕ) → t1 ≡ t0 ++ a1 → t2 ≡ t1 ++ a2 → t3 ≡ t2 ++ a3 → t4 ≡ t3 ++ a4 → t5 ≡ t4 ++ a5 → t6 ≡ t5 ++ a6 → t6 ≡ t0 ++ joined (a1 ∷ a2 ∷ a3 ∷ a4 ∷ a5 ∷ a6 ∷ [])
six t0 t1 t2 t3 t4 t5 t6 a1 a2 a3 a4 a5 a6 p1 p2 p3 p4 p5 p6 =
    behind t0 t1 t6 a1 (a2 ∷ a3 ∷ a4 ∷ a5 ∷ a6 ∷ []) p1 (five t1 t2 t3 t4 t5 t6 a2 a3 a4 a5 a6 p2 p3 p4 p5 p6)

seven : (t0 t1 t2 t3 t4 t5 t6 t7 a1 a2 a3 a4 a5 a6 a7 : List ℕ) → t1 ≡ t0 ++ a1 → t2 ≡ t1 ++ a2 → t3 ≡ t2 ++ a3 → t4 ≡ t3 ++ a4 → t5 ≡ t4 ++ a5 → t6 ≡ t5 ++ a6 → t7 ≡ t6 ++ a7 → t7 ≡ t0 ++ joined (a1 ∷ a2 ∷ a3 ∷ a4 ∷ a5 ∷ a6 ∷ a7 ∷ [])
seven t0 t1 t2 t3 t4 t5 t6 t7 a1 a2 a3 a4 a5 a6 a7 p1 p2 p3 p4 p5 p6 p7 =
    behind t0 t1 t7 a1 (a2 ∷ a3 ∷ a4 ∷ a5 ∷ a6 ∷ a7 ∷ []) p1 (six t1 t2 t3 t4 t5 t6 t7 a2 a3 a4 a5 a6 a7 p2 p3 p4 p5 p6 p7)

pub eight : (t0 t1 t2 t3 t4 t5 t6 t7 t8 a1 a2 a3 a4 a5 a6 a7 a8 : List ℕ) → t1 ≡ t0 ++ a1 → t2 ≡ t1 ++ a2 → t3 ≡ t2 ++ a3 → t4 ≡ t3 ++ a4 → t5 ≡ t4 ++ a5 → t6 ≡ t5 ++ a6 → t7 ≡ t6 ++ a7 → t8 ≡ t7 ++ a8 → t8 ≡ t0 ++ joined (a1 ∷ a2 ∷ a3 ∷ a4 ∷ a5 ∷ a6 ∷ a7 ∷ a8 ∷ [])
eight t0 t1 t2 t3 t4 t5 t6 t7 t8 a1 a2 a3 a4 a5 a6 a7 a8 p1 p2 p3 p4 p5 p6 p7 p8 =
    behind t0 t1 t8 a1 (a2 ∷ a3 ∷ a4 ∷ a5 ∷ a6 ∷ a7 ∷ a8 ∷ []) p1 (seven t1 t2 t3 t4 t5 t6 t7 t8 a2 a3 a4 a5 a6 a7 a8 p2 p3 p4 p5 p6 p7 p8)

pub nine : (t0 t1 t2 t3 t4 t5 t6 t7 t8 t9 a1 a2 a3 a4 a5 a6 a7 a8 a9 : List ℕ) → t1 ≡ t0 ++ a1 → t2 ≡ t1 ++ a2 → t3 ≡ t2 ++ a3 → t4 ≡ t3 ++ a4 → t5 ≡ t4 ++ a5 → t6 ≡ t5 ++ a6 → t7 ≡ t6 ++ a7 → t8 ≡ t7 ++ a8 → t9 ≡ t8 ++ a9 → t9 ≡ t0 ++ joined (a1 ∷ a2 ∷ a3 ∷ a4 ∷ a5 ∷ a6 ∷ a7 ∷ a8 ∷ a9 ∷ [])
nine t0 t1 t2 t3 t4 t5 t6 t7 t8 t9 a1 a2 a3 a4 a5 a6 a7 a8 a9 p1 p2 p3 p4 p5 p6 p7 p8 p9 =
    behind t0 t1 t9 a1 (a2 ∷ a3 ∷ a4 ∷ a5 ∷ a6 ∷ a7 ∷ a8 ∷ a9 ∷ []) p1 (eight t1 t2 t3 t4 t5 t6 t7 t8 t9 a2 a3 a4 a5 a6 a7 a8 a9 p2 p3 p4 p5 p6 p7 p8 p9)

pub ten : (t0 t1 t2 t3 t4 t5 t6 t7 t8 t9 t10 a1 a2 a3 a4 a5 a6 a7 a8 a9 a10 : List ℕ) → t1 ≡ t0 ++ a1 → t2 ≡ t1 ++ a2 → t3 ≡ t2 ++ a3 → t4 ≡ t3 ++ a4 → t5 ≡ t4 ++ a5 → t6 ≡ t5 ++ a6 → t7 ≡ t6 ++ a7 → t8 ≡ t7 ++ a8 → t9 ≡ t8 ++ a9 → t10 ≡ t9 ++ a10 → t10 ≡ t0 ++ joined (a1 ∷ a2 ∷ a3 ∷ a4 ∷ a5 ∷ a6 ∷ a7 ∷ a8 ∷ a9 ∷ a10 ∷ [])
ten t0 t1 t2 t3 t4 t5 t6 t7 t8 t9 t10 a1 a2 a3 a4 a5 a6 a7 a8 a9 a10 p1 p2 p3 p4 p5 p6 p7 p8 p9 p10 =
    behind t0 t1 t10 a1 (a2 ∷ a3 ∷ a4 ∷ a5 ∷ a6 ∷ a7 ∷ a8 ∷ a9 ∷ a10 ∷ []) p1 (nine t1 t2 t3 t4 t5 t6 t7 t8 t9 t10 a2 a3 a4 a5 a6 a7 a8 a9 a10 p2 p3 p4 p5 p6 p7 p8 p9 p10)
