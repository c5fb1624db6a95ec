-- An order of VCPUs by level and deadline, and where periods end at once by the order of the file.
use Rattle.std.proofs.Common.{◌≡◌, ℕ, ◌+◌, ◌<◌, ◌≤◌, Bool, true, arith}
use Rattle.std.proofs.lemmas.Bool.Decides.{nat_tests}
use Rattle.rtds_queues.specs.Keys.{goes_first}
use Rattle.rtds_queues.proofs.Order.{first_by_level}
use Rattle.rtds_model.specs.Demand.{later}
use Rattle.rtds_model.proofs.Windows.{later_few, later_itself, later_in_turn}

-- of those that end at once the one that stands first
first_by_end : (l d p l' d' p' : ℕ) → l ≡ l' → d < d' + later p p' → goes_first l d p l' d' p' ≡ true
first_by_end l d p l' d' p' e h = grind (arith, nat_tests)

-- an order by which the least level goes first, and then the least deadline, and where some tie
pub record Goes (sooner : ℕ → ℕ → ℕ → ℕ → ℕ → ℕ → Bool) (tie : ℕ → ℕ → ℕ) : Type 0 where
  pub by_level : (l d p l' d' p' : ℕ) → l < l' → sooner l d p l' d' p' ≡ true
  pub by_end : (l d p l' d' p' : ℕ) → l ≡ l' → d < d' + tie p p' → sooner l d p l' d' p' ≡ true
  pub tie_few : (v u : ℕ) → tie v u ≤ 1
  pub tie_itself : (v : ℕ) → tie v v ≡ 0
  pub tie_in_turn : (v w h : ℕ) → tie v h ≤ tie v w + tie w h

pub place_goes : Goes goes_first later
place_goes =
    record {
      by_level = first_by_level;
      by_end = first_by_end;
      tie_few = later_few;
      tie_itself = later_itself;
      tie_in_turn = later_in_turn;
    }
