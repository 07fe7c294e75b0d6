-- An input is split behind its first line that is the end.
use Rattle.std.proofs.Common.{◌≡◌, ◌≢◌, ℕ, ◌-◌, List, [], ◌∷◌, ◌++◌, length, take, drop, inl, inr, refl, sym, ap, ◌∙◌, arith, append-nil, append_assoc, length-append}
use Rattle.std.proofs.lemmas.List.Concat.{flat_map-append}
use Rattle.std.proofs.lemmas.List.Elements.{All-nil, All-push}
use Rattle.std.specs.List.{flat_map}
use Rattle.line_text.specs.Lines.{HasNoFeed, end_line}
use Rattle.aplsv_top.specs.Checks.{IsSplit, NoneIsEnd, fed}

-- lines were read up to what is left, none of which is the end
pub record IsReadUpTo (input rest : List ℕ) : Type 0 where
  pub before : List (List ℕ)
  pub others : NoneIsEnd before
  pub whole : input ≡ flat_map fed before ++ rest

pub nothing_read_yet : (input : List ℕ) → IsReadUpTo input input
nothing_read_yet input = record { before = []; others = All-nil (λ (line : List ℕ). HasNoFeed line × (line ≢ end_line)); whole = refl }

fed_front : (line more : List ℕ) → line ++ 10 ∷ more ≡ fed line ++ more
fed_front line more = sym (append_assoc line (10 ∷ []) more)

pub line_read : (input rest line more : List ℕ) → IsReadUpTo input rest → rest ≡ line ++ 10 ∷ more → HasNoFeed line → line ≢ end_line → IsReadUpTo input more
line_read input rest line more so_far front free other = record {
  before = so_far.before ++ line ∷ [];
  others = All-push (λ (l : List ℕ). HasNoFeed l × (l ≢ end_line)) so_far.before line so_far.others (free, other);
  whole = so_far.whole
      ∙ (ap (λ (bytes : List ℕ). flat_map fed so_far.before ++ bytes) (front ∙ fed_front line more)
      ∙ (sym (append_assoc (flat_map fed so_far.before) (fed line) more)
      ∙ ap (λ (bytes : List ℕ). bytes ++ more) (ap (λ (bytes : List ℕ). flat_map fed so_far.before ++ bytes) (sym (append-nil (fed line))) ∙ sym (flat_map-append fed so_far.before (line ∷ [])))));
}

-- what stands in front, by its length
take_front : (front rest : List ℕ) → take (length front) (front ++ rest) ≡ front
take_front [] rest = refl
take_front (x ∷ front) rest = ap (λ (bytes : List ℕ). x ∷ bytes) (take_front front rest)

drop_front : (front rest : List ℕ) → drop (length front) (front ++ rest) ≡ rest
drop_front [] rest = refl
drop_front (x ∷ front) rest = drop_front front rest

-- the end was found
pub end_found : (input rest line more bundle text : List ℕ) → IsReadUpTo input rest → rest ≡ line ++ 10 ∷ more → line ≡ end_line → bundle ≡ take (length input - length more) input → text ≡ drop (length input - length more) input → IsSplit input bundle text
end_found input rest line more bundle text so_far front is first second =
    let part : List ℕ = flat_map fed so_far.before ++ fed end_line in
    let whole : input ≡ part ++ more =
    so_far.whole ∙ (ap (λ (bytes : List ℕ). flat_map fed so_far.before ++ bytes) (front ∙ (ap (λ (l : List ℕ). l ++ 10 ∷ more) is ∙ fed_front end_line more)) ∙ sym (append_assoc (flat_map fed so_far.before) (fed end_line) more)) in
    let count : length input - length more ≡ length part = omega (arith, ap length whole, length-append part more) in
    let bundle_is : bundle ≡ part = first ∙ (ap (λ (n : ℕ). take n input) count ∙ (ap (take (length part)) whole ∙ take_front part more)) in
    let text_is : text ≡ more = second ∙ (ap (λ (n : ℕ). drop n input) count ∙ (ap (drop (length part)) whole ∙ drop_front part more)) in
    record { before = so_far.before; others = so_far.others; parts = inl (bundle_is, whole ∙ (ap (λ (bytes : List ℕ). bytes ++ more) (sym bundle_is) ∙ ap (λ (bytes : List ℕ). bundle ++ bytes) (sym text_is))) }

-- no line is the end
pub no_end_found : (input rest text : List ℕ) → IsReadUpTo input rest → HasNoFeed rest → text ≡ [] → IsSplit input input text
no_end_found input rest text so_far free none = record { before = so_far.before; others = so_far.others; parts = inr (rest, free, so_far.whole, refl, none) }
