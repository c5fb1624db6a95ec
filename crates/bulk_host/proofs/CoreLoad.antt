-- What the guests of a core ask for is no more than the core has.
use Rattle.std.proofs.Common.{◌≡◌, ℕ, zero, suc, ◌+◌, ◌*◌, ◌%◌, ◌<◌, ◌≤◌, List, length, arith, refl, sym, ap, subst, lit≤, mul-le-mul_right}
use Rattle.std.specs.Int.{◌∣◌}
use Rattle.std.proofs.lemmas.List.FromFn.{get_or-map-range_with_len, length-map-range_with_len, sum_by-map-range_with_len_more}
use Rattle.slot_model.specs.declared.sched.Sched.TheVariants.{Edf}
use Rattle.slot_model.specs.Task.{SporadicTask, plain_task, IsConstrained, task_at}
use Rattle.slot_model.specs.Bound.{dbf, demand_of, DemandFits, IsSmall}
use Rattle.slot_model.proofs.Demand.{demand_closed}
use Rattle.edf_demand.proofs.Multiples.{dvd_times}
use Rattle.tree_model.specs.declared.place.Place.TheVariants.{Core}
use Rattle.tree_model.specs.Tree.{server_tasks}
use Rattle.bulk_host.specs.Host.{bulk_host, bulk_budgets}
use Rattle.bulk_host.proofs.LeafBudgets.{kind_period, kind_budget, fit, small_of}
use Rattle.bulk_host.proofs.Servers.{kind_server, guests_on, core_servers, servers_here}

server_fits : (r : ℕ) → IsConstrained (kind_server r)
server_fits r = fit (kind_period r) (kind_period r) (kind_budget r) (omega arith) (omega arith) (omega arith)

-- a server asks for at most an eighth of the slots
an_eighth : (r : ℕ) → r < 4 → (t : ℕ) → 8 * demand_of (kind_server r) t ≤ t
an_eighth zero l t = omega (arith, demand_closed (kind_server 0) (server_fits 0) t)
an_eighth (suc zero) l t = omega (arith, demand_closed (kind_server 1) (server_fits 1) t)
an_eighth (suc (suc zero)) l t = omega (arith, demand_closed (kind_server 2) (server_fits 2) t)
an_eighth (suc (suc (suc zero))) l t = omega (arith, demand_closed (kind_server 3) (server_fits 3) t)
an_eighth (suc (suc (suc (suc k)))) l t = absurd (omega arith)

asked : (t k : ℕ) → 8 * dbf (core_servers k) t ≤ k * t
asked t zero = omega arith
asked t (suc k) =
    let more
    = sum_by-map-range_with_len_more (λ (s : SporadicTask). demand_of s t) (λ (i : ℕ). kind_server (i % 4)) 0 k k
    (omega arith) in
    omega (
      arith,
      more,
      asked t k,
      an_eighth (k % 4) (omega arith) t,
      ap (λ (z : ℕ). dbf (core_servers z) t) (let e : suc k ≡ k + 1 = omega arith in e),
    )

-- no window of a core is short
pub core_fits : (n c : ℕ) → DemandFits (server_tasks (bulk_host n) (bulk_budgets n) (Core c)) (λ t. t)
core_fits n c t l =
    let few : guests_on n c ≤ 8 = omega arith in
    omega (
      arith,
      ap (λ (ts : List SporadicTask). dbf ts t) (servers_here n c),
      asked t (guests_on n c),
      mul-le-mul_right t few,
    )

divides : (r : ℕ) → r < 4 → kind_period r ∣ 12000
divides zero l = dvd_times 1000 12 12000 refl
divides (suc zero) l = dvd_times 2000 6 12000 refl
divides (suc (suc zero)) l = dvd_times 3000 4 12000 refl
divides (suc (suc (suc zero))) l = dvd_times 4000 3 12000 refl
divides (suc (suc (suc (suc k)))) l = absurd (omega arith)

-- each server of a core is that of a guest of some kind
kind_at : (k i : ℕ) → i < length (core_servers k) → kind_server (i % 4) ≡ task_at (core_servers k) i
kind_at k i l =
    sym (get_or-map-range_with_len (λ (j : ℕ). kind_server (j % 4)) 0 k i i (plain_task 1 1 1)
    (omega (arith, length-map-range_with_len (λ (j : ℕ). kind_server (j % 4)) 0 k)) (omega arith))

servers_are_small : (k : ℕ) → IsSmall Edf (core_servers k) 1
servers_are_small k =
    small_of (core_servers k) 1 12000 (lit≤ tt)
    (λ i l. subst IsConstrained (kind_at k i l) (server_fits (i % 4)))
    (record {
      some = lit≤ tt;
      of_cycle = dvd_times 1 12000 12000 refl;
      of_periods =
          λ i l. subst (λ (s : SporadicTask). s.period ∣ 12000) (kind_at k i l) (divides (i % 4) (omega arith));
    })
    (lit≤ tt)

pub core_is_small : (n c : ℕ) → IsSmall Edf (server_tasks (bulk_host n) (bulk_budgets n) (Core c)) 1
core_is_small n c =
    subst (λ (ts : List SporadicTask). IsSmall Edf ts 1) (sym (servers_here n c)) (servers_are_small (guests_on n c))
