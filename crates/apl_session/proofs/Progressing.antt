-- How the lines of a session go on, one call after another.
use Rattle.std.proofs.Common.{◌≡◌, ◌||◌, ℕ, ◌+◌, ◌<◌, ◌≤◌, Bool, true, false, List, [], ◌∷◌, ◌++◌, drop, get_or, length, inl, inr, refl, sym, ap, subst, ◌∙◌, append_assoc, arith}
use Rattle.std.proofs.lemmas.Bool.{or_cases}
use Rattle.std.proofs.lemmas.List.{length-map}
use Rattle.std.specs.Prelude.{Option, map}
use Rattle.apl_arrays.specs.List.{Listed, glyphs_in}
use Rattle.apl_io.specs.Content.{Told}
use Rattle.sv_events.specs.Answer.{PlainAnswer}
use Rattle.session_rules.specs.Shelf.{Exchange, IsShelfRun}
use Rattle.session_rules.proofs.Shelves.{run_on}
use Rattle.apl_session.specs.Standing.{SessionComesTo, LinesAreOver, IsPaused, StandsIn, WithCalls, has_open_act}
use Rattle.apl_session.specs.declared.progress.Progress.{Progress}
use Rattle.apl_session.specs.declared.under_way.UnderWay.{UnderWay}
use Rattle.apl_session.specs.declared.under_way.UnderWay.TheVariants as under_way
use Rattle.apl_session.proofs.Inside.{between_of, rests}
use Rattle.apl_session.proofs.Moves.{line_at}

-- ---- calls

module _ {K : Type 0} (told : K → Option (Told (ℕ × List ℕ))) (faults : K → ℕ) (user : ℕ) where
  -- the shelf was not called
  pub no_calls : (old new : K) (exchanges : List Exchange) (Holds : List Exchange → Type 0) → new ≡ old → Holds exchanges → WithCalls told faults user old new exchanges Holds
  no_calls old new exchanges Holds same h = record { more = []; served = same; holds = h }

  -- calls, and then others
  pub more_calls : (old between new : K) (exchanges : List Exchange) (Holds Then : List Exchange → Type 0) → WithCalls told faults user old between exchanges Holds → ((all : List Exchange) → Holds all → WithCalls told faults user between new all Then) → WithCalls told faults user old new exchanges Then
  more_calls old between new exchanges Holds Then h goes =
      let k = goes (h.more ++ exchanges) h.holds in
      record { more = k.more ++ h.more; served = run_on told faults user old between h.more k.more new h.served k.served; holds = subst Then (sym (append_assoc k.more h.more exchanges)) k.holds }

  -- what holds with some calls leads to something else
  pub weaker_calls : (old new : K) (exchanges : List Exchange) (Holds Then : List Exchange → Type 0) → ((all : List Exchange) → Holds all → Then all) → WithCalls told faults user old new exchanges Holds → WithCalls told faults user old new exchanges Then
  weaker_calls old new exchanges Holds Then leads h = record { more = h.more; served = h.served; holds = leads (h.more ++ exchanges) h.holds }

-- ---- lines

-- where nothing was under way it stands as before
pub still_on : (lines : List (List ℕ)) (answers : List PlainAnswer) (exchanges : List Exchange) (before : Progress) (u : UnderWay) → before.under_way ≡ under_way.Nothing → u ≡ under_way.Nothing → StandsIn lines answers exchanges before → StandsIn lines answers exchanges (record before { under_way = u })
still_on lines answers exchanges before u nothing now h = rests lines answers exchanges (record before { under_way = u }) now (between_of lines answers exchanges before nothing h)

-- an act that waits is where a call stops, and so is the end of the session
stopped : (lines : List (List ℕ)) (answers : List PlainAnswer) (exchanges : List Exchange) (p : Progress) (asks ended : Bool) → has_open_act p.under_way ≡ asks → p.terminal.ended ≡ ended → (asks || ended) ≡ true → p.under_way ≡ under_way.Nothing → LinesAreOver (length lines) p.read p.terminal
stopped lines answers exchanges p true ended asks is or nothing = absurd (let no : true ≡ false = sym asks ∙ ap has_open_act nothing in cc)
stopped lines answers exchanges p false true asks is or nothing = inr is
stopped lines answers exchanges p false false asks is or nothing = absurd (let no : false ≡ true = or in cc)

pub came_to : (lines : List (List ℕ)) (answers : List PlainAnswer) (exchanges : List Exchange) (p : Progress) → (has_open_act p.under_way || p.terminal.ended) ≡ true → IsPaused p.under_way → StandsIn lines answers exchanges p → SessionComesTo lines answers exchanges p
came_to lines answers exchanges p rests paused at = record {
  stands = at;
  paused = paused;
  over = λ nothing. stopped lines answers exchanges p (has_open_act p.under_way) p.terminal.ended refl refl rests nothing;
}

-- and so is the end of the lines
pub none_left : (lines : List (Listed ℕ)) (answers : List PlainAnswer) (exchanges : List Exchange) (p : Progress) → IsPaused p.under_way → length lines ≤ p.read → StandsIn (map glyphs_in lines) answers exchanges p → SessionComesTo (map glyphs_in lines) answers exchanges p
none_left lines answers exchanges p paused over at = record { stands = at; paused = paused; over = λ nothing. inl (omega (arith, over, length-map lines glyphs_in)) }

-- where neither is so a line may be read
pub goes_on : (asks ended : Bool) → (asks || ended) ≡ false → (asks ≡ false) × (ended ≡ false)
goes_on true ended or = absurd (let no : true ≡ false = or in cc)
goes_on false ended or = (refl, or)

module _ {K : Type 0} (told : K → Option (Told (ℕ × List ℕ))) (faults : K → ℕ) (user : ℕ) where
  -- one line more
  pub line_on : (lines : List (Listed ℕ)) (answers : List PlainAnswer) (exchanges : List Exchange) (before after : Progress) (old new : K) (found : Listed ℕ) → before.read < length lines → found ≡ get_or lines before.read found → StandsIn (map glyphs_in lines) answers exchanges before
      → ((list rest : List (List ℕ)) (given : List PlainAnswer) (had : List Exchange) → StandsIn list given had before → drop before.read list ≡ found.items ∷ rest → WithCalls told faults user old new had (λ all. StandsIn list given all after))
      → WithCalls told faults user old new exchanges (λ all. StandsIn (map glyphs_in lines) answers all after)
  line_on lines answers exchanges before after old new found within is h goes = goes (map glyphs_in lines) (drop (before.read + 1) (map glyphs_in lines)) answers exchanges h (line_at lines before.read found within is)
