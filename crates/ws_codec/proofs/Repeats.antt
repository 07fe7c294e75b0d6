-- Lists of things, each of which is read behind those before it.
use Rattle.std.proofs.Common.{◌≡◌, ℕ, zero, suc, List, [], ◌∷◌, ◌++◌, Ok, length, refl, sym, ap, ◌∙◌, subst, append-nil, append_assoc}
use Rattle.std.specs.List.{flat_map}
use Rattle.ws_codec.specs.Reading.{Reader, Reading, ◌>>=◌, read_more, repeated}
use Rattle.ws_codec.specs.Sound.{AreBytes, Follow}
use Rattle.ws_codec.proofs.NumberParts.{rest_bytes}
use Rattle.ws_codec.proofs.Told.{bind_ok, same_behind, same_first, tell}

-- a thing behind others is read of its bytes
abbrev pub IsThere : {A : Type 0} → (List A → Reader A) → (A → List ℕ) → (List A → A → Type 0) → Type 0
IsThere {A} item text fits = (front : List A) (x : A) (rest : List ℕ) → fits front x → item front (text x ++ rest) ≡ Ok (x, rest)

-- what is read behind others is a thing with these bytes
abbrev pub IsBack : {A : Type 0} → (List A → Reader A) → (A → List ℕ) → (List A → A → Type 0) → Type 0
IsBack {A} item text fits = (front : List A) (bytes : List ℕ) (x : A) (rest : List ℕ) → AreBytes bytes → item front bytes ≡ Ok (x, rest) → fits front x × (bytes ≡ text x ++ rest)

-- things that were read behind others
pub record AreBehind {A : Type 0} (text : A → List ℕ) (fits : List A → A → Type 0) (count : ℕ) (front : List A) (bytes : List ℕ) (all : List A) (rest : List ℕ) : Type 0 where
  pub list : List A
  pub whole : all ≡ front ++ list
  pub many : length list ≡ count
  pub follow : Follow fits front list
  pub spelled : bytes ≡ flat_map text list ++ rest

module _ {A : Type 0} (item : List A → Reader A) (text : A → List ℕ) (fits : List A → A → Type 0) where
  -- the things with one more
  abbrev next : List A → Reader (List A)
  next front rest = read_more front (item front rest)

  pub all_there : IsThere item text fits → (front list : List A) (rest : List ℕ) → Follow fits front list → repeated next (length list) front (flat_map text list ++ rest) ≡ Ok (front ++ list, rest)
  unfolding repeated
  all_there there front [] rest follow = ap (λ (t : List A). tell t rest) (sym (append-nil front))
  all_there there front (x ∷ xs) rest follow =
      let same : flat_map text (x ∷ xs) ++ rest ≡ text x ++ (flat_map text xs ++ rest) = append_assoc (text x) (flat_map text xs) rest in
      let one : item front (text x ++ (flat_map text xs ++ rest)) ≡ Ok (x, flat_map text xs ++ rest) = there front x (flat_map text xs ++ rest) follow.0 in
      ap (λ (bytes : List ℕ). next front bytes >>= λ made. repeated next (length xs) made.0 made.1) same
      ∙ ap (λ (read : Reading A). read_more front read >>= λ made. repeated next (length xs) made.0 made.1) one
      ∙ all_there there (front ++ x ∷ []) xs rest follow.1
      ∙ ap (λ (t : List A). tell t rest) (append_assoc front (x ∷ []) xs)

  pub all_back : IsBack item text fits → (count : ℕ) (front : List A) (bytes : List ℕ) (all : List A) (rest : List ℕ) → AreBytes bytes → repeated next count front bytes ≡ Ok (all, rest) → AreBehind text fits count front bytes all rest
  unfolding repeated
  all_back back zero front bytes all rest are e = record {
    list = [];
    whole = sym (same_first front bytes all rest e) ∙ sym (append-nil front);
    many = refl;
    follow = tt;
    spelled = same_behind front bytes all rest e;
  }
  all_back back (suc count) front bytes all rest are e =
      let step = bind_ok (next front bytes) (λ made. repeated next count made.0 made.1) (all, rest) e in
      let read = bind_ok (item front bytes) (λ found. tell (front ++ found.0 ∷ []) found.1) step.0 step.1 in
      let one = back front bytes read.0.0 read.0.1 are read.1 in
      let made : front ++ read.0.0 ∷ [] ≡ step.0.0 = same_first (front ++ read.0.0 ∷ []) read.0.1 step.0.0 step.0.1 read.2 in
      let behind : read.0.1 ≡ step.0.1 = same_behind (front ++ read.0.0 ∷ []) read.0.1 step.0.0 step.0.1 read.2 in
      let left : AreBytes read.0.1 = rest_bytes (text read.0.0) read.0.1 (subst AreBytes one.1 are) in
      let going : repeated next count (front ++ read.0.0 ∷ []) read.0.1 ≡ Ok (all, rest) = ap (λ (t : List A). repeated next count t read.0.1) made ∙ ap (λ (t : List ℕ). repeated next count step.0.0 t) behind ∙ step.2 in
      let others = all_back back count (front ++ read.0.0 ∷ []) read.0.1 all rest left going in
      record {
        list = read.0.0 ∷ others.list;
        whole = others.whole ∙ append_assoc front (read.0.0 ∷ []) others.list;
        many = ap suc others.many;
        follow = (one.0, others.follow);
        spelled = one.1 ∙ ap (λ (t : List ℕ). text read.0.0 ++ t) others.spelled ∙ sym (append_assoc (text read.0.0) (flat_map text others.list) rest);
      }
