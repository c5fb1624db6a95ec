-- The rows of a workload are in order.
use Rattle.std.proofs.Common.{◌≡◌, ℕ, suc, ◌+◌, ◌<◌, ◌≤◌, List, length, ap, arith}
use Rattle.slot_model.proofs.Rising.{never_falls_below}
use Rattle.tree_model.specs.View.{SystemView}
use Rattle.release_file.specs.declared.workload.Wake.{Wake}
use Rattle.release_file.specs.Workload.{row_at, IsWorkload}

pub ordered : (sys : SystemView) (rows : List Wake) → IsWorkload sys rows → (i j : ℕ) → i ≤ j → j < length rows
    → (row_at rows i).at ≤ (row_at rows j).at
ordered sys rows w i j l h =
    never_falls_below (λ k. (row_at rows k).at) (length rows) (λ k m. omega (
      arith,
      w.in_order k (omega arith),
      ap (λ (z : ℕ). (row_at rows z).at) (let e : k + 1 ≡ suc k = omega arith in e),
    )) i j l h
