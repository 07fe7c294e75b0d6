-- The place of an error.
use Rattle.std.proofs.Common.{◌≡◌, ℕ, Bool, true, false, cond, List, [], ◌∷◌, ◌++◌, Option, Some, None, Ok, Err, refl, sym, ap, subst, ◌∙◌, ◌⊎◌, inl, inr, append_assoc}
use Rattle.std.proofs.lemmas.List.{append-nil}
use Rattle.line_scanner.specs.Token.{PlainToken}
use Rattle.line_trees.specs.declared.class.Class.{Class}
use Rattle.line_trees.specs.declared.tree.Mark.{Mark}
use Rattle.line_trees.specs.declared.machine.Before.TheVariants as before
use Rattle.line_trees.specs.declared.machine.Mode.{Mode}
use Rattle.line_trees.specs.declared.machine.Mode.TheVariants.{Begins}
use Rattle.line_trees.specs.declared.machine.OpenBracket.{OpenBracket}
use Rattle.line_trees.specs.declared.machine.Move.{Move}
use Rattle.apl_arrays.specs.List.{first_of}
use Rattle.line_trees.specs.Symbols.{symbol_of}
use Rattle.line_trees.specs.Marks.{Marked, marks_from, marked_by, with_mark, step, may_end, open_after}
use Rattle.line_trees.specs.Parsing.{PlainTree, Parsed, parsed_by, parsed}
use Rattle.line_trees.specs.Trees.{LineTree, as_nodes, line_tree_of}
use Rattle.line_trees.specs.Grammar.{IsLine, BeginsLine, IsStop, stops_at, ends_early}
use Rattle.line_trees.proofs.Endings.{HasMarks, mark_before, IsAlive, LeadsOn, ending, leads_on}
use Rattle.line_trees.proofs.LineLaw.{line_parsed}
use Rattle.line_trees.proofs.Sound.{marked_line}
use Rattle.line_trees.proofs.TreeLaw.{line_again}

-- where the marks of tokens break off: at a token, whatever follows it, or at the end; what stands before may go on
abbrev BreaksOff : List Class → ℕ → Mode → List OpenBracket → List PlainToken → ℕ → Type 0
BreaksOff classes len mode brackets tokens at =
    ((front : List PlainToken) × (token : PlainToken) × (rest ending : List PlainToken) × (tokens ≡ front ++ token ∷ rest) × (at ≡ token.at) × HasMarks classes len mode brackets (front ++ ending)
    × ((more : List PlainToken) → marks_from classes len mode brackets (front ++ token ∷ more) ≡ Err at))
    ⊎ ((ending : List PlainToken) × (at ≡ len) × HasMarks classes len mode brackets (tokens ++ ending))

breaks_more : (classes : List Class) (len : ℕ) (mode : Mode) (brackets : List OpenBracket) (token : PlainToken) (tokens : List PlainToken) (move : Move) (at : ℕ) → step mode (first_of brackets) (symbol_of classes token.kind) ≡ Some move
    → BreaksOff classes len move.mode (open_after move.change brackets) tokens at → BreaksOff classes len mode brackets (token ∷ tokens) at
unfolding marks_from
breaks_more classes len mode brackets token tokens move at s (inl (front, stop, rest, ending, all, is, has, breaks)) =
    inl (
      token ∷ front,
      stop,
      rest,
      ending,
      ap (λ (x : List PlainToken). token ∷ x) all,
      is,
      mark_before classes len mode brackets token (front ++ ending) (symbol_of classes token.kind) move refl s has,
      (λ more. ap (λ (x : Option Move). marked_by x token.at (λ mode change. marks_from classes len mode (open_after change brackets) (front ++ stop ∷ more))) s ∙ ap (with_mark move.mark) (breaks more)),
    )
breaks_more classes len mode brackets token tokens move at s (inr (ending, e, has)) =
    inr (ending, e, mark_before classes len mode brackets token (tokens ++ ending) (symbol_of classes token.kind) move refl s has)

breaks_here : (classes : List Class) (len : ℕ) (mode : Mode) (brackets : List OpenBracket) (token : PlainToken) (tokens : List PlainToken) (at : ℕ) → IsAlive mode → step mode (first_of brackets) (symbol_of classes token.kind) ≡ None → at ≡ token.at
    → BreaksOff classes len mode brackets (token ∷ tokens) at
unfolding marks_from
breaks_here classes len mode brackets token tokens at alive s is =
    let (end, has) = ending classes len mode brackets alive in
    inl ([], token, tokens, end, refl, is, has, (λ more. ap (λ (x : Option Move). marked_by x token.at (λ mode change. marks_from classes len mode (open_after change brackets) more)) s ∙ ap Err (sym is)))

marked_error : (m : Mark) (marked : Marked) (at : ℕ) → with_mark m marked ≡ Err at → marked ≡ Err at
marked_error m (Ok rest) at e = absurd cc
marked_error m (Err place) at e = e

end_error : (b : Bool) (len : ℕ) (m : Marked) (at : ℕ) → cond b (Ok []) (Err len) ≡ m → m ≡ Err at → at ≡ len
end_error true len m at e f = absurd cc
end_error false len m at e f = cc

one_place : (x y : ℕ) (m : Marked) → m ≡ Err x → m ≡ Err y → y ≡ x
one_place x y m e f = cc

breaks_by : (classes : List Class) (len : ℕ) (mode : Mode) (brackets : List OpenBracket) (token : PlainToken) (tokens : List PlainToken) (move : Option Move) (at : ℕ) → IsAlive mode → LeadsOn move → step mode (first_of brackets) (symbol_of classes token.kind) ≡ move
    → marked_by move token.at (λ mode change. marks_from classes len mode (open_after change brackets) tokens) ≡ Err at
    → ((next : Mode) (more : List OpenBracket) → IsAlive next → marks_from classes len next more tokens ≡ Err at → BreaksOff classes len next more tokens at) → BreaksOff classes len mode brackets (token ∷ tokens) at
breaks_by classes len mode brackets token tokens None at alive leads s e h = breaks_here classes len mode brackets token tokens at alive s (one_place token.at at (Err token.at) refl e)
breaks_by classes len mode brackets token tokens (Some move) at alive leads s e h =
    breaks_more classes len mode brackets token tokens move at s (h move.mode (open_after move.change brackets) leads (marked_error move.mark (marks_from classes len move.mode (open_after move.change brackets) tokens) at e))

breaks_off : (classes : List Class) (len : ℕ) (mode : Mode) (brackets : List OpenBracket) (tokens : List PlainToken) (at : ℕ) → IsAlive mode → marks_from classes len mode brackets tokens ≡ Err at → BreaksOff classes len mode brackets tokens at
unfolding marks_from
breaks_off classes len mode brackets [] at alive e = let (end, has) = ending classes len mode brackets alive in inr (end, end_error (may_end mode (first_of brackets)) len (Err at) at e refl, has)
breaks_off classes len mode brackets (token ∷ tokens) at alive e =
    breaks_by classes len mode brackets token tokens (step mode (first_of brackets) (symbol_of classes token.kind)) at alive (leads_on classes mode (first_of brackets) token) refl e (λ next more goes f. breaks_off classes len next more tokens at goes f)

parsed_error : (classes : List Class) (marked : Marked) (tokens : List PlainToken) (at : ℕ) → parsed_by classes marked tokens ≡ Err at → marked ≡ Err at
parsed_error classes (Ok marks) tokens at e = absurd cc
parsed_error classes (Err place) tokens at e = cc

ok_is_no_error : (t : PlainTree) (at : ℕ) (p : Parsed) → p ≡ Ok t → p ≡ Err at → ⊥
ok_is_no_error t at p e f = cc

-- with tokens whose marks break off no line is parsed
no_line : (classes : List Class) (len : ℕ) (tokens : List PlainToken) (line : LineTree) (at : ℕ) → marks_from classes len (Begins before.Line) [] tokens ≡ Err at → IsLine classes line tokens → ⊥
no_line classes len tokens line at e h = ok_is_no_error (as_nodes line) at (parsed classes tokens len) (line_parsed classes line tokens len h) (ap (λ (m : Marked). parsed_by classes m tokens) e)

begins_line : (classes : List Class) (len : ℕ) (front ending : List PlainToken) → HasMarks classes len (Begins before.Line) [] (front ++ ending) → BeginsLine classes front
begins_line classes len front ending (marks, e) = let (line, h) = marked_line classes len (front ++ ending) marks e in (ending, line, h)

stop_by : (classes : List Class) (len : ℕ) (tokens : List PlainToken) (at : ℕ) → marks_from classes len (Begins before.Line) [] tokens ≡ Err at → BreaksOff classes len (Begins before.Line) [] tokens at → IsStop classes tokens len at
stop_by classes len tokens at e (inl (front, token, rest, end, all, is, has, breaks)) =
    stops_at front token rest all is (begins_line classes len front end has)
    (λ (more, line, h). no_line classes len (front ++ token ∷ more) line at (breaks more) (subst (λ (x : List PlainToken). IsLine classes line x) (append_assoc front (token ∷ []) more) h))
stop_by classes len tokens at e (inr (end, is, has)) = ends_early is (begins_line classes len tokens end has) (λ line h. no_line classes len tokens line at e h)

-- the place that is computed is one with which no line goes on
pub error_stops : (classes : List Class) (tokens : List PlainToken) (len at : ℕ) → parsed classes tokens len ≡ Err at → IsStop classes tokens len at
error_stops classes tokens len at e =
    let breaks = parsed_error classes (marks_from classes len (Begins before.Line) [] tokens) tokens at e in
    stop_by classes len tokens at breaks (breaks_off classes len (Begins before.Line) [] tokens at tt breaks)

same_tree : (x y : PlainTree) (p : Parsed) → p ≡ Ok x → p ≡ Ok y → x ≡ y
same_tree x y p e f = cc

-- the tree that is computed is that of a line of the grammar
tree_by : (classes : List Class) (len : ℕ) (marked : Marked) (tokens : List PlainToken) (t : PlainTree) → marks_from classes len (Begins before.Line) [] tokens ≡ marked → parsed_by classes marked tokens ≡ Ok t
    → (line : LineTree) × IsLine classes line tokens × (t ≡ as_nodes line)
tree_by classes len (Ok marks) tokens t m e =
    let (line, h) = marked_line classes len tokens marks m in
    let other : parsed classes tokens len ≡ Ok t = ap (λ (x : Marked). parsed_by classes x tokens) m ∙ e in
    (line, h, same_tree t (as_nodes line) (parsed classes tokens len) other (line_parsed classes line tokens len h))
tree_by classes len (Err at) tokens t m e = absurd cc

pub tree_is_line : (classes : List Class) (tokens : List PlainToken) (len : ℕ) (t : PlainTree) → parsed classes tokens len ≡ Ok t → (line : LineTree) × IsLine classes line tokens × (t ≡ as_nodes line)
tree_is_line classes tokens len t e = tree_by classes len (marks_from classes len (Begins before.Line) [] tokens) tokens t refl e

-- no tokens have two trees
pub one_tree : (classes : List Class) (tokens : List PlainToken) (first second : LineTree) → IsLine classes first tokens → IsLine classes second tokens → first ≡ second
one_tree classes tokens first second h k =
    sym (line_again first) ∙ ap line_tree_of (same_tree (as_nodes first) (as_nodes second) (parsed classes tokens 0) (line_parsed classes first tokens 0 h) (line_parsed classes second tokens 0 k)) ∙ line_again second

-- ---- the place of an error is one

-- a line that begins with more begins with less
begins_less : (classes : List Class) (front more : List PlainToken) → BeginsLine classes (front ++ more) → BeginsLine classes front
begins_less classes front more (rest, line, h) = (more ++ rest, line, subst (λ (x : List PlainToken). IsLine classes line x) (append_assoc front more rest) h)

-- the same, up to a token
begins_until : (classes : List Class) (front : List PlainToken) (token : PlainToken) (rest tokens : List PlainToken) → tokens ≡ front ++ token ∷ rest → BeginsLine classes tokens → BeginsLine classes (front ++ token ∷ [])
begins_until classes front token rest tokens all h =
    begins_less classes (front ++ token ∷ []) rest (subst (BeginsLine classes) (all ∙ sym (append_assoc front (token ∷ []) rest)) h)

-- tokens split twice: at one token, or the one front goes on beyond the token of the other
abbrev Splits : List PlainToken → PlainToken → List PlainToken → PlainToken → Type 0
Splits front token other next = (token ≡ next) ⊎ (((more : List PlainToken) × (other ≡ front ++ token ∷ more)) ⊎ ((more : List PlainToken) × (front ≡ other ++ next ∷ more)))

splits_more : (first second : PlainToken) (front : List PlainToken) (token : PlainToken) (other : List PlainToken) (next : PlainToken) → first ≡ second → Splits front token other next → Splits (first ∷ front) token (second ∷ other) next
splits_more first second front token other next e (inl same) = inl same
splits_more first second front token other next e (inr (inl (more, goes))) = inr (inl (more, ap (λ (x : PlainToken). x ∷ other) (sym e) ∙ ap (λ (x : List PlainToken). first ∷ x) goes))
splits_more first second front token other next e (inr (inr (more, goes))) = inr (inr (more, ap (λ (x : PlainToken). x ∷ front) e ∙ ap (λ (x : List PlainToken). second ∷ x) goes))

first_same : (x y : PlainToken) (xs ys : List PlainToken) → x ∷ xs ≡ y ∷ ys → x ≡ y
first_same x y xs ys e = cc

others_same : (x y : PlainToken) (xs ys : List PlainToken) → x ∷ xs ≡ y ∷ ys → xs ≡ ys
others_same x y xs ys e = cc

splits : (front : List PlainToken) (token : PlainToken) (rest other : List PlainToken) (next : PlainToken) (beyond : List PlainToken) → front ++ token ∷ rest ≡ other ++ next ∷ beyond → Splits front token other next
splits [] token rest [] next beyond e = inl (first_same token next rest beyond e)
splits [] token rest (second ∷ other) next beyond e = inr (inl (other, ap (λ (x : PlainToken). x ∷ other) (sym (first_same token second rest (other ++ next ∷ beyond) e))))
splits (first ∷ front) token rest [] next beyond e = inr (inr (front, ap (λ (x : PlainToken). x ∷ front) (first_same first next (front ++ token ∷ rest) beyond e)))
splits (first ∷ front) token rest (second ∷ other) next beyond e =
    splits_more first second front token other next (first_same first second (front ++ token ∷ rest) (other ++ next ∷ beyond) e)
    (splits front token rest other next beyond (others_same first second (front ++ token ∷ rest) (other ++ next ∷ beyond) e))

same_place : (classes : List Class) (front other : List PlainToken) (token next : PlainToken) → BeginsLine classes front → (BeginsLine classes (front ++ token ∷ []) → ⊥) → BeginsLine classes other → (BeginsLine classes (other ++ next ∷ []) → ⊥)
    → Splits front token other next → token.at ≡ next.at
same_place classes front other token next begins stops others ends (inl same) = ap (λ (x : PlainToken). x.at) same
same_place classes front other token next begins stops others ends (inr (inl (more, goes))) = absurd (stops (begins_until classes front token more other goes others))
same_place classes front other token next begins stops others ends (inr (inr (more, goes))) = absurd (ends (begins_until classes other next more front goes begins))

-- no line stops at two places
one_stop : (classes : List Class) (tokens : List PlainToken) (len at place : ℕ) → IsStop classes tokens len at → IsStop classes tokens len place → at ≡ place
one_stop classes tokens len at place (stops_at front token rest all is begins stops) (stops_at other next beyond whole has others ends) =
    is ∙ same_place classes front other token next begins stops others ends (splits front token rest other next beyond (sym all ∙ whole)) ∙ sym has
one_stop classes tokens len at place (stops_at front token rest all is begins stops) (ends_early has others ends) = absurd (stops (begins_until classes front token rest tokens all others))
one_stop classes tokens len at place (ends_early is begins stops) (stops_at other next beyond whole has others ends) = absurd (ends (begins_until classes other next beyond tokens whole begins))
one_stop classes tokens len at place (ends_early is begins stops) (ends_early has others ends) = is ∙ sym has

-- no line of the grammar stops
line_goes_on : (classes : List Class) (tokens : List PlainToken) (len at : ℕ) (line : LineTree) → IsLine classes line tokens → IsStop classes tokens len at → ⊥
line_goes_on classes tokens len at line h (stops_at front token rest all is begins stops) =
    stops (begins_until classes front token rest tokens all ([], line, subst (λ (x : List PlainToken). IsLine classes line x) (sym (append-nil tokens)) h))
line_goes_on classes tokens len at line h (ends_early is begins stops) = stops line h

stop_error : (classes : List Class) (tokens : List PlainToken) (len at : ℕ) (p : Parsed) → parsed classes tokens len ≡ p → IsStop classes tokens len at → p ≡ Err at
stop_error classes tokens len at (Ok t) e stop = let (line, h, same) = tree_is_line classes tokens len t e in absurd (line_goes_on classes tokens len at line h stop)
stop_error classes tokens len at (Err place) e stop = ap Err (one_stop classes tokens len place at (error_stops classes tokens len place e) stop)

-- where no line goes on is the place that is computed
pub stop_is_error : (classes : List Class) (tokens : List PlainToken) (len at : ℕ) → IsStop classes tokens len at → parsed classes tokens len ≡ Err at
stop_is_error classes tokens len at stop = stop_error classes tokens len at (parsed classes tokens len) refl stop
