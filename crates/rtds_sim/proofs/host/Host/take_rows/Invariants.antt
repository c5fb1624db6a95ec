use Rattle.std.proofs.Common.{◌≡◌, ℕ, ◌≤◌, ◌<◌, ◌-◌, List, Option, length}
use Rattle.tree_model.specs.Tree.{run_at}
use Rattle.tree_model.specs.Plans.{IsPlan}
use Rattle.release_file.specs.Workload.{row_at, IsWorkload}
use Rattle.rtds_sim.specs.inner.Accounts.{core_at, holder_of, AreOn, AreReady}
use Rattle.rtds_sim.proofs.host.Host.take_rows.Given as goal

-- the rows so far are those at the slot, and the accounts are those after them
abbrev pub invariant-loop-self : goal.invariant-loop-self
invariant-loop-self l = record {
  one_each : length l.self.cores.items ≡ length l.initial.self.cores.items;
  ready : AreReady l.self;
  in_rows : l.self.taken ≤ length l.rows;
  later : l.initial.self.taken ≤ l.self.taken;
  now : (i : ℕ) → l.initial.self.taken ≤ i → i < l.self.taken → (row_at l.rows i).at ≡ l.initial.self.time;
  vcpus : (budgets : List ℕ) (runs : List (List (Option ℕ))) (c : ℕ) → IsPlan l.sys budgets
      → IsWorkload l.sys l.rows → c < length l.sys.cores
      → AreOn l.sys budgets l.rows c (run_at runs c) l.initial.self.time l.initial.self.taken
      (core_at l.initial.self.cores.items c).vcpus
      → AreOn l.sys budgets l.rows c (run_at runs c) l.initial.self.time l.self.taken
      (core_at l.self.cores.items c).vcpus;
  held : (c : ℕ) → c < length l.initial.self.cores.items
      → holder_of (core_at l.self.cores.items c) ≡ holder_of (core_at l.initial.self.cores.items c);
  time : l.self.time ≡ l.initial.self.time;
}

abbrev pub decreases-loop-self : goal.decreases-loop-self
decreases-loop-self l = length l.rows - l.self.taken
