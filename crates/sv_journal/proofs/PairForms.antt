-- Reading pairs to the end of a line.
use Rattle.std.proofs.Common.{◌≡◌, ℕ, ◌+◌, ◌-◌, ◌^◌, true, false, List, [], ◌∷◌, ◌++◌, Ok, codes, length, inl, inr, refl, sym, ap, ◌∙◌, arith}
use Rattle.std.proofs.lemmas.Bool.{false≢true}
use Rattle.std.specs.Fmt.{decimal}
use Rattle.std.specs.List.{flat_map, AllByRecursion}
use Rattle.apl_arrays.specs.Glyph.{is_digit}
use Rattle.apl_arrays.specs.Run.{begins}
use Rattle.sv_events.specs.declared.entry.Pair.{Pair}
use Rattle.apl_arrays.specs.List.{first_of}
use Rattle.text_reader.specs.Reading.{◌>>=◌, as_read, read_literal}
use Rattle.text_reader.specs.NumberReading.{read_number}
use Rattle.text_reader.proofs.NumberForms.{InRange, NoDigit, reads_number}
use Rattle.text_reader.proofs.Readers.{SameFirst, Stopped, IsReader, AreGlyphs, same_end, after_text, then_read, made, no_further}
use Rattle.sv_journal.specs.EntryReading.{read_pair, is_left, read_pairs}
use Rattle.sv_journal.specs.EntryText.{pair_text}
use Rattle.sv_journal.specs.IsEntry.{IsPair}
use Rattle.sv_journal.proofs.ListedForms.{PairsBehind}
use Rattle.sv_journal.proofs.WhileForms.{GoesOn, ReadsAll, reads_all}

-- nothing follows
abbrev pub Nothing : List ℕ → Type 0
Nothing behind = behind ≡ []

-- pairs

abbrev pub IsLower : ℕ → Type 0
IsLower a = InRange 1 (2 ^ 64 - 2) a

abbrev pub IsHigher : ℕ → ℕ → Type 0
IsHigher a b = InRange (a + 1) (2 ^ 64 - 1) b

unfoldable pub pair_of : ℕ → ℕ → Pair
pair_of a b = record { a = a; b = b }

abbrev pub higher_text : Pair → List ℕ
higher_text pair = codes " " ++ decimal pair.b

pair_lower : (p : Pair) → IsPair p → IsLower p.a
pair_lower p h = record { least = h.least; most = omega (arith, h.lower, h.most) }

pair_higher : (a : ℕ) (p : Pair) → (p.a ≡ a) × IsPair p → IsHigher a p.b
pair_higher a p h = record { least = omega (arith, h.0, h.1.lower); most = omega (arith, h.1.most) }

pair_there : (a : ℕ) → IsLower a → (b : ℕ) → IsHigher a b → (a ≡ a) × IsPair (pair_of a b)
unfolding pair_of
pair_there a h b k = (refl, record { least = h.least; lower = omega (arith, k.least); most = omega (arith, k.most) })

reads_higher : (a : ℕ) → IsLower a → IsReader higher_text (λ p. (p.a ≡ a) × IsPair p) NoDigit SameFirst (λ line. read_literal (codes " ") line >>= λ rest. as_read (pair_of a) (read_number (a + 1) (2 ^ 64 - 1) rest))
unfolding pair_of
reads_higher a h =
    let some : IsHigher a (a + 1) = record { least = omega arith; most = omega (arith, h.most) } in
    after_text (codes " ") (λ p. decimal p.b) (λ p. (p.a ≡ a) × IsPair p) NoDigit SameFirst (λ rest. as_read (pair_of a) (read_number (a + 1) (2 ^ 64 - 1) rest)) (pair_of a (a + 1)) (pair_there a h (a + 1) some)
    (made decimal (IsHigher a) NoDigit SameFirst (read_number (a + 1) (2 ^ 64 - 1)) (pair_of a) (λ p. p.b) (λ p. (p.a ≡ a) × IsPair p) (reads_number (a + 1) (2 ^ 64 - 1) (omega arith) (omega (arith, h.most))) (pair_higher a) (λ p k. ap (λ x. pair_of x p.b) (sym k.0)) (pair_there a h) (λ b k. refl))

some_pair : (a : ℕ) → IsLower a → (p : Pair) × (p.a ≡ a) × IsPair p
unfolding pair_of
some_pair a h =
    let fits = pair_there a h (a + 1) (record { least = omega arith; most = omega (arith, h.most) }) in
    (pair_of a (a + 1), fits.0, fits.1)

pub first_pair : IsPair (pair_of 1 2)
unfolding pair_of
first_pair = record { least = omega arith; lower = omega arith; most = omega arith }

reads_pair : IsReader pair_text IsPair NoDigit SameFirst read_pair
unfolding read_pair pair_of
reads_pair line a =
    let both : IsReader (λ p. decimal p.a ++ higher_text p) IsPair NoDigit SameFirst (λ rest. read_number 1 (2 ^ 64 - 2) rest >>= λ found. (read_literal (codes " ") found.1 >>= λ behind. as_read (pair_of found.0) (read_number (found.0 + 1) (2 ^ 64 - 1) behind))) =
    then_read decimal IsLower NoDigit (λ p. p.a) higher_text IsPair NoDigit SameFirst (read_number 1 (2 ^ 64 - 2)) (λ n rest. read_literal (codes " ") rest >>= λ behind. as_read (pair_of n) (read_number (n + 1) (2 ^ 64 - 1) behind)) no_further (reads_number 1 (2 ^ 64 - 2) (omega arith) (omega arith)) reads_higher pair_lower (λ e behind h follow. refl) some_pair in
    after_text (codes " + ") (λ p. decimal p.a ++ higher_text p) IsPair NoDigit SameFirst (λ rest. read_number 1 (2 ^ 64 - 2) rest >>= λ found. (read_literal (codes " ") found.1 >>= λ behind. as_read (pair_of found.0) (read_number (found.0 + 1) (2 ^ 64 - 1) behind))) (pair_of 1 2) first_pair both line a

left_none : (line : List ℕ) → is_left line ≡ false → line ≡ []
left_none [] e = refl
left_none (x ∷ xs) e = absurd (false≢true (sym e))

left_some : (line : List ℕ) → is_left line ≡ true → line ≡ [] → ⊥
left_some [] e same = false≢true e
left_some (x ∷ xs) e same = cc

pairs_ends : (line more z : List ℕ) (p : Pair) → is_left line ≡ false → IsPair p → pair_text p ++ more ≡ z → SameFirst z line → ⊥
pairs_ends line more z p never h e agree =
    let none : first_of z ≡ first_of [] = agree ∙ ap first_of (left_none line never) in
    let wrong : first_of (pair_text p ++ more) ≡ first_of [] = ap first_of e ∙ none in
    cc wrong

none_left : (line part rest z : List ℕ) → is_left line ≡ true → line ≡ part ++ rest → [] ≡ part ++ z → SameFirst z rest → ⊥
none_left line [] rest [] going whole e same = left_some line going (whole ∙ same_end rest (sym same))
none_left line [] rest (x ∷ z) going whole e same = let none : ⊥ = cc in none
none_left line (x ∷ part) rest z going whole e same = let none : ⊥ = cc in none

pairs_none : (line : List ℕ) (left : ℕ) (behind z : List ℕ) → is_left line ≡ true → (h : Stopped pair_text IsPair NoDigit line left) → Nothing behind → behind ≡ h.part ++ z → SameFirst z h.rest → ⊥
pairs_none line left behind z going h nothing e same =
    none_left line h.part h.rest z going h.whole (sym nothing ∙ e) same

pairs_begin : (x : Pair) (more : List ℕ) → [] ≡ pair_text x ++ more → ⊥
pairs_begin x more e = let wrong : first_of [] ≡ first_of (pair_text x ++ more) = ap first_of e in cc wrong

pairs_go_on : GoesOn pair_text IsPair NoDigit Nothing SameFirst is_left read_pair
pairs_go_on = record {
  reads = reads_pair;
  some = λ x h. omega arith;
  next = λ x behind h. refl;
  last = λ behind h. ap (begins is_digit) h;
  unlike = λ behind more x nothing h e. pairs_begin x more (sym nothing ∙ e);
  ends = pairs_ends;
  none = pairs_none;
  nothing = refl;
  ahead = no_further;
}

pairs_all : (line : List ℕ) → AreGlyphs line → ReadsAll pair_text IsPair Nothing SameFirst is_left line (read_pairs line)
pairs_all line a =
    reads_all pair_text IsPair NoDigit Nothing SameFirst is_left read_pair pairs_go_on (length line) line a (omega arith)

abbrev pub pairs_text : List Pair → List ℕ
pairs_text pairs = flat_map pair_text pairs

pub reads_pairs : IsReader pairs_text (AllByRecursion IsPair) Nothing SameFirst read_pairs
reads_pairs line a = (pairs_all line a).reads

pub pairs_end : (line : List ℕ) → AreGlyphs line → (pairs : List Pair) (rest : List ℕ) → read_pairs line ≡ Ok (pairs, rest) → rest ≡ []
pairs_end line a pairs rest e = left_none rest ((pairs_all line a).all pairs rest e)

starts_pair : (more : List ℕ) → PairsBehind (32 ∷ 43 ∷ more)
starts_pair more = inr (more, refl)

pub pairs_behind : (pairs : List Pair) → PairsBehind (pairs_text pairs ++ [])
pairs_behind [] = inl refl
pairs_behind (pair ∷ pairs) = starts_pair _
