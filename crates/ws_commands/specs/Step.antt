-- What a command leads to.
use Rattle.std.specs.Prelude.{ℕ, Bool, List, Option, Some, None}
use Rattle.ws_commands.specs.Todo.{PlainTodo, incorrect}

-- something to be done with no call of the shelf; or one call of it, and what is to be done by its answer: it is asked for the bytes under a name, to keep bytes there, to take away what stands there, or for its names
pub data Step : Type 0 where
  does : PlainTodo → Step
  reads : List ℕ → (Option (List ℕ) → PlainTodo) → Step
  writes : List ℕ → List ℕ → PlainTodo → Step
  removes : List ℕ → (Bool → PlainTodo) → Step
  lists : (List (List ℕ) → PlainTodo) → Step

-- what a name leads to; no name is no command
abbrev pub named : Option (List ℕ) → (List ℕ → Step) → Step
named None next = does incorrect
named (Some name) next = next name
