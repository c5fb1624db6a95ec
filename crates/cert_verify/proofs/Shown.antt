-- What a node shows is so: it passes its test, and a computed budget is the least that passes.
use Rattle.std.proofs.Common.{ℕ, suc, ◌-◌, ◌≤◌, Bool, List, get_or, arith}
use Rattle.slot_model.specs.declared.sched.Sched.{Sched}
use Rattle.slot_model.specs.declared.sched.Sched.TheVariants.{Edf, Rm, Dm, Listed}
use Rattle.slot_model.specs.Task.{SporadicTask, AreConstrained}
use Rattle.slot_model.specs.Supply.{SupplyLaws}
use Rattle.slot_model.specs.Order.{ranks_above}
use Rattle.slot_model.specs.Bound.{sbf, AllHit, Passes, IsSmall, IsLeastBudget}
use Rattle.slot_model.proofs.PeriodicSupply.{sbf-rises}
use Rattle.slot_model.proofs.Budgets.{larger_passes}
use Rattle.tree_model.specs.CertificateView.{NodeView}
use Rattle.cert_verify.proofs.Covered.{cover_fits}
use Rattle.fp_test.proofs.Chains.{chain_shows}
use Rattle.cert_verify.specs.Proves.{AreHits, ShowsPass, IsChainOf, ShowsShort}

-- the horizon can be walked
pub shown_small : (sched : Sched) (tasks : List SporadicTask) (bound : ℕ → ℕ) (cycle : ℕ) (node : NodeView)
    → ShowsPass sched tasks bound cycle node → IsSmall sched tasks cycle
shown_small Edf tasks bound cycle node shows = shows.0
shown_small Rm tasks bound cycle node shows = tt
shown_small Dm tasks bound cycle node shows = tt
shown_small Listed tasks bound cycle node shows = tt

-- and the node passes
all_hit : (above : ℕ → ℕ → Bool) (tasks : List SporadicTask) (bound : ℕ → ℕ) (node : NodeView)
    → AreHits above tasks bound node → AllHit above tasks bound
all_hit above tasks bound node hits = λ i l. (get_or node.hits i 0, hits.each i l)

pub shown_passes : (sched : Sched) (tasks : List SporadicTask) → AreConstrained tasks
    → {bound : ℕ → ℕ} {amount cycle : ℕ} {pattern : ℕ → Bool} {start : ℕ} {Conforms : List Bool → Type 0}
    → SupplyLaws bound amount cycle pattern start Conforms
    → (node : NodeView) → ShowsPass sched tasks bound cycle node → Passes sched tasks bound
shown_passes Edf tasks fit laws node shows =
    cover_fits tasks fit laws shows.1.horizon shows.1.is_horizon node.points shows.1.cover
shown_passes Rm tasks fit {bound} laws node shows = all_hit (ranks_above Rm tasks) tasks bound node shows
shown_passes Dm tasks fit {bound} laws node shows = all_hit (ranks_above Dm tasks) tasks bound node shows
shown_passes Listed tasks fit {bound} laws node shows = all_hit (ranks_above Listed tasks) tasks bound node shows

-- what is shown to be short does not pass
chain_fails : (above : ℕ → ℕ → Bool) (tasks : List SporadicTask) → AreConstrained tasks → (bound : ℕ → ℕ)
    → ((t : ℕ) → bound t ≤ bound (suc t)) → (node : NodeView) → IsChainOf above tasks bound node
    → AllHit above tasks bound → ⊥
chain_fails above tasks fit bound rises node short all =
    let hit = all short.task short.is_task in
    omega (
      arith,
      hit.1.enough,
      chain_shows above tasks fit bound rises short.task node.falls short.chain hit.0 hit.1.some_slots
          hit.1.in_deadline,
    )

pub short_fails : (sched : Sched) (tasks : List SporadicTask) → AreConstrained tasks → (bound : ℕ → ℕ)
    → ((t : ℕ) → bound t ≤ bound (suc t)) → (node : NodeView) → ShowsShort sched tasks bound node
    → Passes sched tasks bound → ⊥
short_fails Edf tasks fit bound rises node short passes =
    omega (arith, short.short, passes short.window short.some_slots)
short_fails Rm tasks fit bound rises node short passes =
    chain_fails (ranks_above Rm tasks) tasks fit bound rises node short passes
short_fails Dm tasks fit bound rises node short passes =
    chain_fails (ranks_above Dm tasks) tasks fit bound rises node short passes
short_fails Listed tasks fit bound rises node short passes =
    chain_fails (ranks_above Listed tasks) tasks fit bound rises node short passes

-- so no smaller budget passes, since a larger one would
pub shown_least : (sched : Sched) (tasks : List SporadicTask) → AreConstrained tasks → (period budget : ℕ) → 1 ≤ period
    → 1 ≤ budget → budget ≤ period → Passes sched tasks (sbf period budget)
    → (node : NodeView) → ShowsShort sched tasks (sbf period (budget - 1)) node
    → IsLeastBudget sched tasks period budget
shown_least sched tasks fit period budget lp lb l passes node short = record {
  in_range = l;
  passes = passes;
  least = λ b less smaller.
      short_fails sched tasks fit (sbf period (budget - 1)) (λ t. sbf-rises period (budget - 1) t lp (omega arith)) node
      short
      (larger_passes sched tasks period b (budget - 1) lp (omega arith) (omega arith) smaller);
}
