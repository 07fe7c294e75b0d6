-- An input is split in one way.
use Rattle.std.proofs.Common.{◌≡◌, ◌≢◌, ◌⊎◌, ℕ, List, [], ◌∷◌, ◌++◌, inl, inr, refl, sym, ap, ap₂, ◌∙◌, subst, append_assoc, arith}
use Rattle.std.proofs.lemmas.List.{append_cancel_left}
use Rattle.std.specs.List.{flat_map}
use Rattle.std.proofs.lemmas.List.Elements.{All-cons, All-head, All-nil, All-tail}
use Rattle.line_text.specs.Lines.{HasNoFeed, end_line}
use Rattle.aplsv_top.specs.Checks.{EndsNowhere, EndsThere, IsSplit, NoneIsEnd, fed}

-- the first line tells itself, and what stands behind it
one_line : (line other rest more : List ℕ) → HasNoFeed line → HasNoFeed other → line ++ 10 ∷ rest ≡ other ++ 10 ∷ more → (line ≡ other) × (rest ≡ more)
one_line [] [] rest more free free_too same = (refl, cc)
one_line [] (byte ∷ other) rest more free free_too same = absurd (All-head (λ (b : ℕ). b ≢ 10) byte other free_too cc)
one_line (byte ∷ line) [] rest more free free_too same = absurd (All-head (λ (b : ℕ). b ≢ 10) byte line free cc)
one_line (byte ∷ line) (head ∷ other) rest more free free_too same =
    let first : byte ≡ head = cc in
    let tails : line ++ 10 ∷ rest ≡ other ++ 10 ∷ more = cc in
    let behind = one_line line other rest more (All-tail (λ (b : ℕ). b ≢ 10) byte line free) (All-tail (λ (b : ℕ). b ≢ 10) head other free_too) tails in
    (ap₂ (λ (b : ℕ) (l : List ℕ). b ∷ l) first behind.0, behind.1)

-- what has a feed is not free of them
has_feed : (front rest : List ℕ) → HasNoFeed (front ++ 10 ∷ rest) → ⊥
has_feed [] rest free = All-head (λ (b : ℕ). b ≢ 10) 10 rest free refl
has_feed (byte ∷ front) rest free = has_feed front rest (All-tail (λ (b : ℕ). b ≢ 10) byte (front ++ 10 ∷ rest) free)

-- the end has none
end_free : HasNoFeed end_line
end_free = All-cons (λ (b : ℕ). b ≢ 10) 101 (110 ∷ 100 ∷ []) (λ e. omega (arith, e)) (All-cons (λ (b : ℕ). b ≢ 10) 110 (100 ∷ []) (λ e. omega (arith, e)) (All-cons (λ (b : ℕ). b ≢ 10) 100 [] (λ e. omega (arith, e)) (All-nil (λ (b : ℕ). b ≢ 10))))

-- lines, and what stands behind them
first_fed : (line : List ℕ) (lines : List (List ℕ)) (rest : List ℕ) → flat_map fed (line ∷ lines) ++ rest ≡ line ++ 10 ∷ (flat_map fed lines ++ rest)
first_fed line lines rest = append_assoc (fed line) (flat_map fed lines) rest ∙ append_assoc line (10 ∷ []) (flat_map fed lines ++ rest)

abbrev IsOther : List ℕ → Type 0
IsOther line = HasNoFeed line × (line ≢ end_line)

-- the end stands in one place
same_ends : (lines others : List (List ℕ)) (text rest : List ℕ) → NoneIsEnd lines → NoneIsEnd others → flat_map fed lines ++ (fed end_line ++ text) ≡ flat_map fed others ++ (fed end_line ++ rest) → (lines ≡ others) × (text ≡ rest)
same_ends [] [] text rest none none_too same = (refl, append_cancel_left (fed end_line) text rest same)
same_ends [] (other ∷ others) text rest none none_too same =
    let is = All-head IsOther other others none_too in
    absurd (is.1 (sym (one_line end_line other text (flat_map fed others ++ (fed end_line ++ rest)) end_free is.0 (same ∙ first_fed other others (fed end_line ++ rest))).0))
same_ends (line ∷ lines) [] text rest none none_too same =
    let is = All-head IsOther line lines none in
    absurd (is.1 (one_line line end_line (flat_map fed lines ++ (fed end_line ++ text)) rest is.0 end_free (sym (first_fed line lines (fed end_line ++ text)) ∙ same)).0)
same_ends (line ∷ lines) (other ∷ others) text rest none none_too same =
    let first = one_line line other (flat_map fed lines ++ (fed end_line ++ text)) (flat_map fed others ++ (fed end_line ++ rest)) (All-head IsOther line lines none).0 (All-head IsOther other others none_too).0
    (sym (first_fed line lines (fed end_line ++ text)) ∙ (same ∙ first_fed other others (fed end_line ++ rest))) in
    let behind = same_ends lines others text rest (All-tail IsOther line lines none) (All-tail IsOther other others none_too) first.1 in
    (ap₂ (λ (l : List ℕ) (ls : List (List ℕ)). l ∷ ls) first.0 behind.0, behind.1)

-- or in none
no_end_there : (lines others : List (List ℕ)) (text piece : List ℕ) → NoneIsEnd lines → NoneIsEnd others → HasNoFeed piece → flat_map fed lines ++ (fed end_line ++ text) ≡ flat_map fed others ++ piece → ⊥
no_end_there [] [] text piece none none_too free same = has_feed end_line text (subst HasNoFeed (sym same) free)
no_end_there [] (other ∷ others) text piece none none_too free same =
    let is = All-head IsOther other others none_too in
    is.1 (sym (one_line end_line other text (flat_map fed others ++ piece) end_free is.0 (same ∙ first_fed other others piece)).0)
no_end_there (line ∷ lines) [] text piece none none_too free same =
    has_feed line (flat_map fed lines ++ (fed end_line ++ text)) (subst HasNoFeed (sym same ∙ first_fed line lines (fed end_line ++ text)) free)
no_end_there (line ∷ lines) (other ∷ others) text piece none none_too free same =
    let first = one_line line other (flat_map fed lines ++ (fed end_line ++ text)) (flat_map fed others ++ piece) (All-head IsOther line lines none).0 (All-head IsOther other others none_too).0
    (sym (first_fed line lines (fed end_line ++ text)) ∙ (same ∙ first_fed other others piece)) in
    no_end_there lines others text piece (All-tail IsOther line lines none) (All-tail IsOther other others none_too) free first.1

module _ (input : List ℕ) where
  ends_there : (before : List (List ℕ)) (bundle text : List ℕ) → EndsThere before input bundle text → input ≡ flat_map fed before ++ (fed end_line ++ text)
  ends_there before bundle text is = is.1 ∙ (ap (λ (b : List ℕ). b ++ text) is.0 ∙ append_assoc (flat_map fed before) (fed end_line) text)

  pub one_split : (bundle text other rest : List ℕ) → IsSplit input bundle text → IsSplit input other rest → (bundle ≡ other) × (text ≡ rest)
  one_split bundle text other rest one another = by one.parts another.parts where
    by : EndsThere one.before input bundle text ⊎ EndsNowhere one.before input bundle text → EndsThere another.before input other rest ⊎ EndsNowhere another.before input other rest → (bundle ≡ other) × (text ≡ rest)
    by (inl here) (inl there) =
        let same = same_ends one.before another.before text rest one.others another.others (sym (ends_there one.before bundle text here) ∙ ends_there another.before other rest there) in
        (here.0 ∙ (ap (λ (lines : List (List ℕ)). flat_map fed lines ++ fed end_line) same.0 ∙ sym there.0), same.1)
    by (inl here) (inr nowhere) = absurd (no_end_there one.before another.before text nowhere.0 one.others another.others nowhere.1 (sym (ends_there one.before bundle text here) ∙ nowhere.2))
    by (inr nowhere) (inl there) = absurd (no_end_there another.before one.before rest nowhere.0 another.others one.others nowhere.1 (sym (ends_there another.before other rest there) ∙ nowhere.2))
    by (inr nowhere) (inr too) = (nowhere.3 ∙ sym too.3, nowhere.4 ∙ sym too.4)
