-- What a step of a writer does to the output. Assumes nothing.
use Rattle.std.specs.Prelude.{◌≡◌, List, ℕ, ◌+◌, length}
use Rattle.std.proofs.lemmas.List.Edits.{sets}

-- octets are put at a place of the output, and nothing else changes; next is the place behind them
pub record Puts (before : List ℕ) (at : ℕ) (octets : List ℕ) (next : ℕ) (after : List ℕ) : Type 0 where
  pub ends : next ≡ at + length octets
  pub leaves : after ≡ sets before at octets
