-- Names that are mentioned, one after another.
use Rattle.std.proofs.Common.{◌≡◌, ℕ, ◌+◌, ◌<◌, Bool, true, false, cond, not, ◌||◌, List, [], ◌∷◌, ◌++◌, length, take, drop, get_or, refl, sym, ap, ◌∙◌, append_assoc, codes, flat_map}
use Rattle.std.specs.List.{list_any}
use Rattle.std.proofs.lemmas.List.{flat_map_more, take_more}
use Rattle.apl_arrays.specs.Name.{same_name}
use Rattle.apl_execute.proofs.Copies.{left_at}
use Rattle.apl_workspace.specs.Workspace.{PlainWorkspace, global_in}
use Rattle.ws_commands.specs.Mention.{mentions_behind, mentions_of}
use Rattle.ws_commands.specs.Names.{is_nothing, unfound}
use Rattle.ws_commands.specs.declared.mention.Mention.{Mention}

twice_not : (b : Bool) → not (not b) ≡ b
twice_not true = refl
twice_not false = refl

-- a name more
pub one_mention_more : (names : List (List ℕ)) (i : ℕ) (name : List ℕ) (list more : List Mention) (has added repeated : Bool) → i < length names → name ≡ get_or names i name → list ++ mentions_behind (take i names) (drop i names) ≡ mentions_of names
    → has ≡ list_any (same_name name) (take i names) → added ≡ not has → repeated ≡ not added → more ≡ list ++ record { name = name; repeated = repeated } ∷ []
    → more ++ mentions_behind (take (i + 1) names) (drop (i + 1) names) ≡ mentions_of names
one_mention_more names i name list more has added repeated within is so among adds turned pushed =
    let known : repeated ≡ list_any (same_name name) (take i names) = turned ∙ ap not adds ∙ twice_not has ∙ among in
    let earlier : take (i + 1) names ≡ take i names ++ name ∷ [] = take_more names i name within ∙ ap (λ (last : List ℕ). take i names ++ last ∷ []) (sym is) in
    let later : List (List ℕ) = drop (i + 1) names in
    ap (λ (l : List Mention). l ++ mentions_behind (take (i + 1) names) later) pushed
    ∙ append_assoc list (record { name = name; repeated = repeated } ∷ []) (mentions_behind (take (i + 1) names) later)
    ∙ ap (λ (before : List (List ℕ)). list ++ record { name = name; repeated = repeated } ∷ mentions_behind before later) earlier
    ∙ ap (λ (b : Bool). list ++ record { name = name; repeated = b } ∷ mentions_behind (take i names ++ name ∷ []) later) known
    ∙ ap (λ (rest : List (List ℕ)). list ++ mentions_behind (take i names) rest) (sym (left_at names i name within is))
    ∙ so

-- lines for a mention more
pub lines_more : (lines : Mention → List (List ℕ)) (mentions : List Mention) (i : ℕ) (mention : Mention) (start old new : List (List ℕ)) → i < length mentions → mention ≡ get_or mentions i mention → old ≡ start ++ flat_map lines (take i mentions) → new ≡ old ++ lines mention
    → new ≡ start ++ flat_map lines (take (i + 1) mentions)
lines_more lines mentions i mention start old new within is so e =
    e ∙ ap (λ (l : List (List ℕ)). l ++ lines mention) so ∙ flat_map_more lines start (take i mentions) mention
    ∙ ap (λ (l : List Mention). start ++ flat_map lines l) (sym (take_more mentions i mention within ∙ ap (λ (last : Mention). take i mentions ++ last ∷ []) (sym is)))

-- the line of a name that is not found
pub line_of_unfound : (w : PlainWorkspace) (mention : Mention) (old new : List (List ℕ)) (line : List ℕ) (b : Bool) → b ≡ (mention.repeated || is_nothing (global_in w mention.name)) → b ≡ true → line ≡ codes "NOT FOUND: " ++ mention.name → new ≡ old ++ line ∷ []
    → new ≡ old ++ unfound w mention
line_of_unfound w mention old new line b test passes is e =
    let found : List (List ℕ) = (codes "NOT FOUND: " ++ mention.name) ∷ [] in
    e ∙ ap (λ (l : List ℕ). old ++ l ∷ []) is ∙ ap (λ (l : List (List ℕ)). old ++ l) (sym (ap (λ (b : Bool). cond b found []) (sym test ∙ passes)))
