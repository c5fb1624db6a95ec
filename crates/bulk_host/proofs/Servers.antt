-- The servers of a core of the generated host: those of its guests in turn, eight at most.
use Rattle.std.proofs.Common.{◌≡◌, ℕ, zero, suc, ◌+◌, ◌*◌, ◌-◌, ◌/◌, ◌%◌, ◌<◌, ◌≤◌, min, Bool, cond, eqb, List, [], ◌∷◌, ◌++◌, map, arith, sym, ◌∙◌, ap, inl, inr, eq-eqb}
use Rattle.std.specs.List.{range_with_len}
use Rattle.std.proofs.lemmas.Bool.{cases_eq, ne_eqb}
use Rattle.std.proofs.lemmas.List.FromFn.{get_or-map-range_with_len, map-range_with_len_more}
use Rattle.slot_model.specs.Slots.{count_below, push_if}
use Rattle.slot_model.specs.Task.{SporadicTask, plain_task}
use Rattle.slot_model.proofs.Sums.{sum_below-zero, sum_below-suc}
use Rattle.tree_model.specs.declared.place.Place.TheVariants.{Core}
use Rattle.tree_model.specs.View.{PartView}
use Rattle.tree_model.specs.Tree.{place_of, same_place, is_child, server_task, server_tasks, child_tasks, budget_at, rank_among}
use Rattle.tree_model.proofs.NodeTasks.{child_tasks-zero, child_tasks-suc}
use Rattle.bulk_host.specs.Host.{guest_period, guest_budget, bulk_host, bulk_budgets}
use Rattle.bulk_host.proofs.Systems.{guest_here, guests-many}
use Rattle.bulk_host.proofs.LeafBudgets.{kind_period, kind_budget}

pub budget_here : (n q : ℕ) → q < n → budget_at (bulk_budgets n) q ≡ guest_budget q
budget_here n q l = get_or-map-range_with_len guest_budget 0 n q q 0 l (omega arith)

-- the server of a guest
abbrev pub kind_server : ℕ → SporadicTask
kind_server r = plain_task (kind_period r) (kind_period r) (kind_budget r)

server_here : (n q : ℕ) → q < n → server_task (bulk_host n) (bulk_budgets n) q ≡ kind_server (q % 4)
server_here n q l =
    ap (λ (p : PartView). plain_task p.period p.period (budget_at (bulk_budgets n) q)) (guest_here n q l)
    ∙ ap (λ (b : ℕ). plain_task (guest_period q) (guest_period q) b) (budget_here n q l)

-- how many of the first m guests stand on core c, and the servers of the first k guests of a core
abbrev pub guests_on : ℕ → ℕ → ℕ
guests_on m c = min 8 (m - 8 * c)

abbrev pub core_servers : ℕ → List SporadicTask
core_servers k = map (λ (i : ℕ). kind_server (i % 4)) (range_with_len 0 k)

-- a guest stands on the core of its place by eight, and on no other
child_here : (n c q : ℕ) → q < n → is_child (bulk_host n) (Core c) q ≡ eqb (q / 8) c
child_here n c q l = ap (λ (p : PartView). same_place (place_of p.parent) (Core c)) (guest_here n q l)

pub counted_on : (n c m : ℕ) → m ≤ n → count_below (is_child (bulk_host n) (Core c)) m ≡ guests_on m c
counted_on n c zero l = omega (arith, sum_below-zero (λ x. cond (is_child (bulk_host n) (Core c) x) 1 0))
counted_on n c (suc m) l =
    let before = counted_on n c m (omega arith) in
    let more = sum_below-suc (λ x. cond (is_child (bulk_host n) (Core c) x) 1 0) m in
    let here = ap (λ (b : Bool). cond {A = ℕ} b 1 0) (child_here n c m (omega arith)) in
    elim (cases_eq (m / 8) c) [
      | inl is ↦ omega (arith, before, more, here, ap (λ (b : Bool). cond {A = ℕ} b 1 0) (eq-eqb (m / 8) c is))
      | inr isnt ↦ omega (arith, before, more, here, ap (λ (b : Bool). cond {A = ℕ} b 1 0) (ne_eqb (m / 8) c isnt))
    ]

-- the place of a guest among those of its core
pub rank_here : (n q : ℕ) → q < n → rank_among (bulk_host n) q ≡ q % 8
rank_here n q l =
    ap (λ (p : PartView). count_below (is_child (bulk_host n) (place_of p.parent)) q) (guest_here n q l)
    ∙ (counted_on n (q / 8) q (omega arith) ∙ omega arith)

servers_to : (n c m : ℕ) → m ≤ n → child_tasks (bulk_host n) (bulk_budgets n) (Core c) m ≡ core_servers (guests_on m c)
servers_to n c zero l =
    child_tasks-zero (bulk_host n) (bulk_budgets n) (Core c)
    ∙ ap core_servers (let e : 0 ≡ guests_on 0 c = omega arith in e)
servers_to n c (suc m) l =
    let tasks : List SporadicTask = core_servers (guests_on m c) in
    let before : child_tasks (bulk_host n) (bulk_budgets n) (Core c) (suc m)
    ≡ push_if tasks (eqb (m / 8) c) (kind_server (m % 4))
    =
    child_tasks-suc (bulk_host n) (bulk_budgets n) (Core c) m
    ∙ (ap (λ (ts : List SporadicTask). push_if ts (is_child (bulk_host n) (Core c) m)
    (server_task (bulk_host n) (bulk_budgets n) m)) (servers_to n c m (omega arith))
    ∙ (ap (λ (b : Bool). push_if tasks b (server_task (bulk_host n) (bulk_budgets n) m))
    (child_here n c m (omega arith))
    ∙ ap (push_if tasks (eqb (m / 8) c)) (server_here n m (omega arith)))) in
    elim (cases_eq (m / 8) c) [
      | inl is ↦
          before
          ∙ (ap (λ (b : Bool). push_if tasks b (kind_server (m % 4))) (eq-eqb (m / 8) c is)
          ∙ (ap (λ (r : ℕ). tasks ++ kind_server r ∷ []) (let e : m % 4 ≡ guests_on m c % 4 = omega arith in e)
          ∙ (sym (map-range_with_len_more (λ (i : ℕ). kind_server (i % 4)) 0 (guests_on m c) (guests_on m c)
          (omega arith))
          ∙ ap core_servers (let e : guests_on m c + 1 ≡ guests_on (suc m) c = omega arith in e))))
      | inr isnt ↦
          before
          ∙ (ap (λ (b : Bool). push_if tasks b (kind_server (m % 4))) (ne_eqb (m / 8) c isnt)
          ∙ ap core_servers (let e : guests_on m c ≡ guests_on (suc m) c = omega arith in e))
    ]

pub servers_here : (n c : ℕ) → server_tasks (bulk_host n) (bulk_budgets n) (Core c) ≡ core_servers (guests_on n c)
servers_here n c =
    ap (child_tasks (bulk_host n) (bulk_budgets n) (Core c)) (guests-many n) ∙ servers_to n c n (omega arith)
