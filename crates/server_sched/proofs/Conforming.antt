-- Each pattern of a core's supply gives what the file says of it.
use Rattle.std.proofs.Common.{◌≡◌, ℕ, zero, suc, min, ◌+◌, ◌-◌, ◌*◌, ◌<◌, ◌≤◌, ◌&&◌, nat_le, nat_lt, cond, Bool, true, false, List, [], length, get_or, Option, Some, None, sym, ◌∙◌, ap, arith, subst, inl, inr, lt-ltb, le-leb, add-suc}
use Rattle.std.proofs.lemmas.Bool.{cases_lt}
use Rattle.std.proofs.lemmas.List.{get_or-map}
use Rattle.std.proofs.lemmas.List.FromFn.{get_or-map-range_with_len, length-map-range_with_len}
use Rattle.std.proofs.lemmas.Nat.{mod-mul-add}
use Rattle.slot_model.specs.Slots.{count_below, slots_between}
use Rattle.slot_model.specs.Supply.{GivesBudget, Follows}
use Rattle.slot_model.proofs.Sums.{sum_below-suc}
use Rattle.slot_model.proofs.Counts.{count_same}
use Rattle.slot_model.proofs.Runs.{count_below-mono}
use Rattle.slot_model.proofs.WorstPattern.{worst_conforms}
use Rattle.tree_model.specs.declared.pinned_core.Core.{Core}
use Rattle.tree_model.specs.View.{SystemView}
use Rattle.tree_model.specs.System.{no_core, core_at, IsCoreSupply}
use Rattle.tree_model.specs.Tree.{CoreConforms}
use Rattle.server_sched.specs.declared.supplies.Pattern.{Pattern}
use Rattle.server_sched.specs.declared.supplies.Pattern.TheVariants.{Early, Late, Worst}
use Rattle.server_sched.specs.Patterns.{early_slot, late_slot, pattern_slot, pattern_slots, pattern_supplies}

-- the given slots of period k before its place y, where its places from `first` on are given until
-- the budget is had
given_before : (given : ℕ → Bool) (period first budget k y : ℕ)
    → ((z : ℕ) → first ≤ z → z < first + budget → given (k * period + z) ≡ true)
    → min y (first + budget) ≤ count_below (λ x. nat_le (k * period) x && given x) (k * period + y) + first
given_before given period first budget k zero h = omega arith
given_before given period first budget k (suc y) h =
    let counts : ℕ → Bool = λ x. nat_le (k * period) x && given x in
    let before = given_before given period first budget k y h in
    let more = count_below-mono counts (k * period + y) (k * period + suc y) (omega arith) in
    elim (cases_lt y first) [
      | inl early ↦ omega arith
      | inr from ↦ elim (cases_lt y (first + budget)) [
        | inl within ↦
            omega (
              arith,
              before,
              ap (count_below counts) (add-suc (k * period) y),
              sum_below-suc (λ x. cond (counts x) 1 0) (k * period + y),
              ap (λ (b : Bool). cond {A = ℕ} (b && given (k * period + y)) 1 0)
                  (le-leb (k * period) (k * period + y) (omega arith)),
              ap (λ (b : Bool). cond {A = ℕ} b 1 0) (h y from within),
            )
        | inr past ↦ omega (arith, before, more)
      ]
    ]

-- a list that gives these places of every period gives its budget
gives_places : (given : ℕ → Bool) (period first budget : ℕ) (slots : List Bool) → first + budget ≤ period
    → ((k z : ℕ) → first ≤ z → z < first + budget → given (k * period + z) ≡ true) → Follows given slots
    → GivesBudget period budget slots
gives_places given period first budget slots fit h follows k l =
    let end : ℕ = min (length slots) (suc k * period) in
    let place : k * period + (end - k * period) ≡ end = omega arith in
    let same : slots_between slots (k * period) end ≡ count_below (λ x. nat_le (k * period) x && given x) end
    = count_same (λ x. nat_le (k * period) x && get_or slots x false) (λ x. nat_le (k * period) x && given x) end
    (λ x lx. ap (λ (v : Bool). nat_le (k * period) x && v) (follows x (omega arith))) in
    omega (
      arith,
      same,
      given_before given period first budget k (end - k * period) (h k),
      ap (count_below (λ x. nat_le (k * period) x && given x)) place,
    )

-- a list that follows the pattern of a supply conforms to it
follows_conforms : (pattern : Pattern) (supply : Option (ℕ × ℕ)) (slots : List Bool) → IsCoreSupply supply
    → Follows (pattern_slot pattern supply) slots → CoreConforms supply slots
follows_conforms pattern None slots range follows = follows
follows_conforms Early (Some supply) slots range follows =
    gives_places (early_slot supply.0 supply.1) supply.0 0 supply.1 slots (omega (arith, range))
    (λ k z from within. ap (λ (r : ℕ). nat_lt r supply.1) (mod-mul-add k supply.0 z (omega (arith, range)))
    ∙ lt-ltb z supply.1 (omega arith)) follows
follows_conforms Late (Some supply) slots range follows =
    gives_places (late_slot supply.0 supply.1) supply.0 (supply.0 - supply.1) supply.1 slots (omega (arith, range))
    (λ k z from within. ap (λ (r : ℕ). nat_le (supply.0 - supply.1) r) (mod-mul-add k supply.0 z (omega (arith, range)))
    ∙ le-leb (supply.0 - supply.1) z from) follows
follows_conforms Worst (Some supply) slots range follows =
    worst_conforms supply.0 supply.1 slots (omega (arith, range)) follows

-- the slots of a pattern follow it
pattern_follows : (pattern : Pattern) (supply : Option (ℕ × ℕ)) (n : ℕ)
    → Follows (pattern_slot pattern supply) (pattern_slots pattern supply n)
pattern_follows pattern supply n x l =
    get_or-map-range_with_len (pattern_slot pattern supply) 0 n x x false
    (omega (arith, length-map-range_with_len (pattern_slot pattern supply) 0 n)) (omega arith)

-- so each core's slots of a pattern conform to its supply
pub pattern_conforms : (sys : SystemView) (pattern : Pattern) (n c : ℕ) → c < length sys.cores
    → IsCoreSupply (core_at sys c).supply
    → CoreConforms (core_at sys c).supply (get_or (pattern_supplies sys pattern n) c [])
pattern_conforms sys pattern n c l range =
    subst (CoreConforms (core_at sys c).supply)
    (sym (get_or-map (λ (core : Core). pattern_slots pattern core.supply n) sys.cores c no_core [] l))
    (follows_conforms pattern (core_at sys c).supply (pattern_slots pattern (core_at sys c).supply n) range
    (pattern_follows pattern (core_at sys c).supply n))
