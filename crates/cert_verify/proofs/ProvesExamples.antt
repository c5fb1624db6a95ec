-- A certificate by hand, and what is not one. A wrong definition breaks one of these.
use Rattle.std.proofs.Common.{◌≡◌, ℕ, ◌+◌, ◌-◌, ◌<◌, ◌≤◌, Bool, true, false, Option, Some, None, List, [], ◌∷◌, length, get_or, arith, refl, sym, ap, lit≤}
use Rattle.std.proofs.lemmas.Bool.{false≢true}
use Rattle.std.proofs.lemmas.Option.{none-some}
use Rattle.std.proofs.lemmas.Nat.Gcd.{dvd_of_mod-eq-zero, le_of_dvd}
use Rattle.std.specs.Int.{◌∣◌}
use Rattle.slot_model.specs.declared.sched.Sched.{Sched}
use Rattle.slot_model.specs.declared.sched.Sched.TheVariants.{Edf, Rm}
use Rattle.slot_model.specs.Slots.{sum_below}
use Rattle.slot_model.specs.Task.{SporadicTask, plain_task, task_at}
use Rattle.slot_model.specs.Order.{ranks_above}
use Rattle.slot_model.specs.Bound.{sbf, dbf, rbf, IsHit, IsHorizon}
use Rattle.slot_model.specs.Points.{IsCover, IsChain}
use Rattle.tree_model.specs.declared.place.Parent.TheVariants.{Core as on_core}
use Rattle.tree_model.specs.declared.place.Place.{Place}
use Rattle.tree_model.specs.declared.place.Place.TheVariants.{Core, Part}
use Rattle.tree_model.specs.CertificateView.{NodeView}
use Rattle.tree_model.specs.View.{PartView, SystemView}
use Rattle.tree_model.proofs.FewPlaces.{only, both, each_of_three}
use Rattle.cert_verify.specs.Proves.{node_at, nth_place, AreNodes, IsBudget, HasBudget, budgets_of, IsCovered, HasHits, IsShortWindow, NoWitness, NodeProves, Proves}

-- parts stand before cores
places_in_order : (nth_place 2 0 ≡ Part 0) × (nth_place 2 1 ≡ Part 1) × (nth_place 2 2 ≡ Core 0)
    × (nth_place 2 3 ≡ Core 1)
places_in_order = (refl, refl, refl, refl)

-- on a full core two leaves with a period of 2 slots, each with a task of 1 slot in 4: one under
-- earliest deadline first and one under a rank
abbrev leaf : ℕ → Sched → PartView
leaf letter sched =
    record {
      name = letter ∷ [];
      parent = on_core 0;
      sched = sched;
      period = 2;
      budget = None;
      extra = false;
      tasks = record { name = 116 ∷ []; task = plain_task 4 4 1 } ∷ [];
    }

abbrev pub host : SystemView
host = record {
  cores = record { name = 99 ∷ []; sched = Edf; supply = None } ∷ [];
  parts = leaf 97 Edf ∷ leaf 98 Rm ∷ [];
}

-- one slot of 2 is sure in a window of 3. The core is asked for 2 slots by 2
abbrev pub by_deadline : NodeView
by_deadline =
    record {
      place = Part 0;
      period = 2;
      budget = 1;
      computed = true;
      points = 3 ∷ 7 ∷ [];
      hits = [];
      witness = Some 4;
      falls = [];
    }

abbrev pub by_rank : NodeView
by_rank =
    record {
      place = Part 1;
      period = 2;
      budget = 1;
      computed = true;
      points = [];
      hits = 3 ∷ [];
      witness = Some 0;
      falls = 1 ∷ 5 ∷ [];
    }

abbrev pub full_core : NodeView
full_core =
    record {
      place = Core 0;
      period = 1;
      budget = 1;
      computed = false;
      points = 2 ∷ 4 ∷ [];
      hits = [];
      witness = None;
      falls = [];
    }

abbrev pub three_nodes : List NodeView
three_nodes = by_deadline ∷ by_rank ∷ full_core ∷ []

pub they_are_its_nodes : AreNodes host three_nodes
they_are_its_nodes =
    record {
      all = refl;
      in_order = each_of_three (λ k. (node_at three_nodes k).place ≡ nth_place 2 k) refl refl refl;
    }

pub they_have_its_budgets : (k : ℕ) → k < 3 → HasBudget host (node_at three_nodes k)
they_have_its_budgets =
    each_of_three (λ k. HasBudget host (node_at three_nodes k))
    (record { period = refl; budget = (refl, lit≤ tt, lit≤ tt) })
    (record { period = refl; budget = (refl, lit≤ tt, lit≤ tt) }) (record { period = refl; budget = (refl, refl) })

-- the leaf's horizon is 4 and 2 slots, and that of the core 2 and 1
abbrev pub one_in_four : List SporadicTask
one_in_four = plain_task 4 4 1 ∷ []

abbrev pub two_servers : List SporadicTask
two_servers = plain_task 2 2 1 ∷ plain_task 2 2 1 ∷ []

pub six_slots : IsHorizon one_in_four 2 6
six_slots = record {
  multiple = 4;
  common = record {
    some = omega arith;
    of_cycle = dvd_of_mod-eq-zero 2 {n = 4} refl;
    of_periods = only (λ i. (task_at one_in_four i).period ∣ 4) (dvd_of_mod-eq-zero 4 {n = 4} refl);
  };
  least = λ m common. le_of_dvd common.some (common.of_periods 0 (omega arith));
  is = refl;
}

pub three_slots : IsHorizon two_servers 1 3
three_slots = record {
  multiple = 2;
  common = record {
    some = omega arith;
    of_cycle = dvd_of_mod-eq-zero 1 {n = 2} refl;
    of_periods = both (λ i. (task_at two_servers i).period ∣ 2) (dvd_of_mod-eq-zero 2 {n = 2} refl)
        (dvd_of_mod-eq-zero 2 {n = 2} refl);
  };
  least = λ m common. le_of_dvd common.some (common.of_periods 0 (omega arith));
  is = refl;
}

pub three_and_seven_cover : IsCover one_in_four (sbf 2 1) 6 (3 ∷ 7 ∷ [])
three_and_seven_cover = record {
  some_point = omega arith;
  some_slots = omega arith;
  none_before = refl;
  rising = λ j l. only (λ j. get_or (3 ∷ 7 ∷ []) j 0 < get_or (3 ∷ 7 ∷ []) (j + 1) 0)
      (omega arith) j (omega (arith, l));
  steps = λ j l. only
      (λ j. dbf one_in_four (get_or (3 ∷ 7 ∷ []) (j + 1) 0 - 1) ≤ sbf 2 1 (get_or (3 ∷ 7 ∷ []) j 0))
      (omega arith) j (omega (arith, l));
  past = omega arith;
}

pub two_and_four_cover : IsCover two_servers (λ t. t) 3 (2 ∷ 4 ∷ [])
two_and_four_cover = record {
  some_point = omega arith;
  some_slots = omega arith;
  none_before = refl;
  rising = λ j l. only (λ j. get_or (2 ∷ 4 ∷ []) j 0 < get_or (2 ∷ 4 ∷ []) (j + 1) 0)
      (omega arith) j (omega (arith, l));
  steps = λ j l. only (λ j. dbf two_servers (get_or (2 ∷ 4 ∷ []) (j + 1) 0 - 1) ≤ get_or (2 ∷ 4 ∷ []) j 0)
      (omega arith) j (omega (arith, l));
  past = omega arith;
}

-- with no slots nothing is given: a window of 4 is short, and so is each up to the deadline
pub one_to_five_fall : IsChain (ranks_above Rm one_in_four) one_in_four (sbf 2 0) 0 (1 ∷ 5 ∷ [])
unfolding sum_below
one_to_five_fall = record {
  some_point = omega arith;
  from_one = refl;
  rising = λ j l. only (λ j. get_or (1 ∷ 5 ∷ []) j 0 < get_or (1 ∷ 5 ∷ []) (j + 1) 0)
      (omega arith) j (omega (arith, l));
  steps = λ j l. only
      (λ j. sbf 2 0 (get_or (1 ∷ 5 ∷ []) (j + 1) 0 - 1)
      < rbf (ranks_above Rm one_in_four) one_in_four 0 (get_or (1 ∷ 5 ∷ []) j 0))
      (omega arith) j (omega (arith, l));
  to_deadline = refl;
}

by_deadline_proves : NodeProves host (1 ∷ 1 ∷ []) by_deadline
by_deadline_proves = record {
  passes = (
    (6, six_slots, omega arith),
    record { horizon = 6; is_horizon = six_slots; cover = three_and_seven_cover; no_hits = refl },
  );
  least = record { window = 4; witness = refl; some_slots = omega arith; short = omega arith; no_falls = refl };
}

by_rank_proves : NodeProves host (1 ∷ 1 ∷ []) by_rank
unfolding sum_below
by_rank_proves = record {
  passes = record {
    lists = record { one_each = refl; no_points = refl };
    each = only (λ i. IsHit (ranks_above Rm one_in_four) one_in_four (sbf 2 1) i (get_or (3 ∷ []) i 0))
        (record { some_slots = omega arith; in_deadline = omega arith; enough = omega arith });
  };
  least = record { task = 0; witness = refl; is_task = omega arith; chain = one_to_five_fall };
}

full_core_proves : NodeProves host (1 ∷ 1 ∷ []) full_core
unfolding sum_below
full_core_proves = record {
  passes = (
    (3, three_slots, omega arith),
    record { horizon = 3; is_horizon = three_slots; cover = two_and_four_cover; no_hits = refl },
  );
  least = record { no_witness = refl; no_falls = refl };
}

so_it_proves_its_host : Proves host three_nodes
so_it_proves_its_host = record {
  are_nodes = they_are_its_nodes;
  budgets = they_have_its_budgets;
  each = each_of_three (λ k. NodeProves host (1 ∷ 1 ∷ []) (node_at three_nodes k)) by_deadline_proves by_rank_proves
      full_core_proves;
}

-- the budgets are those of the parts alone
the_budgets_of_the_parts : budgets_of host three_nodes ≡ 1 ∷ 1 ∷ []
the_budgets_of_the_parts = refl

-- two nodes of three, and parts behind their core
a_node_too_few : AreNodes host (by_deadline ∷ by_rank ∷ []) → ⊥
a_node_too_few are = let all : 2 ≡ 3 = are.all in omega (arith, all)

abbrev number_of : Place → ℕ
number_of (Part q) = q
number_of (Core c) = c

parts_in_another_order : AreNodes host (by_rank ∷ by_deadline ∷ full_core ∷ []) → ⊥
parts_in_another_order are = let first : 1 ≡ 0 = ap number_of (are.in_order 0 (omega arith)) in omega (arith, first)

-- a given budget is the file's and is not computed, and a computed one is 1 to the period
abbrev with_budget : ℕ → Bool → NodeView
with_budget budget computed =
    record {
      place = Part 0;
      period = 10;
      budget = budget;
      computed = computed;
      points = [];
      hits = [];
      witness = None;
      falls = [];
    }

a_given_budget : IsBudget (Some 4) (with_budget 4 false) × (IsBudget (Some 4) (with_budget 3 false) → ⊥)
    × (IsBudget (Some 4) (with_budget 5 false) → ⊥) × (IsBudget (Some 4) (with_budget 4 true) → ⊥)
a_given_budget = (
  (refl, refl),
  λ is. let same : 3 ≡ 4 = is.1 in omega (arith, same),
  λ is. let same : 5 ≡ 4 = is.1 in omega (arith, same),
  λ is. false≢true (sym is.0),
)

a_computed_budget : IsBudget None (with_budget 1 true) × IsBudget None (with_budget 10 true)
    × (IsBudget None (with_budget 0 true) → ⊥) × (IsBudget None (with_budget 11 true) → ⊥)
    × (IsBudget None (with_budget 5 false) → ⊥)
a_computed_budget = (
  (refl, lit≤ tt, lit≤ tt),
  (refl, lit≤ tt, lit≤ tt),
  λ is. let some : 1 ≤ 0 = is.1 in omega (arith, some),
  λ is. let most : 11 ≤ 10 = is.2 in omega (arith, most),
  λ is. false≢true is.0,
)

-- what a node lists of the other kind is refused, and so is what no budget asks for
abbrev pub with_lists : List ℕ → List ℕ → Option ℕ → List ℕ → NodeView
with_lists points hits witness falls =
    record {
      place = Part 0;
      period = 2;
      budget = 1;
      computed = false;
      points = points;
      hits = hits;
      witness = witness;
      falls = falls;
    }

a_hit_beside_points : IsCovered one_in_four (sbf 2 1) 2 (with_lists (3 ∷ 7 ∷ []) (3 ∷ []) None []) → ⊥
a_hit_beside_points covered = let none : 1 ≡ 0 = ap length covered.no_hits in omega (arith, none)

pub a_point_beside_hits : HasHits one_in_four (with_lists (3 ∷ []) (3 ∷ []) None []) → ⊥
a_point_beside_hits lists = let none : 1 ≡ 0 = ap length lists.no_points in omega (arith, none)

two_hits_of_one_task : HasHits one_in_four (with_lists [] (3 ∷ 4 ∷ []) None []) → ⊥
two_hits_of_one_task lists = let one : 2 ≡ 1 = lists.one_each in omega (arith, one)

falls_beside_a_window : IsShortWindow one_in_four (sbf 2 0) (with_lists [] [] (Some 4) (1 ∷ 5 ∷ [])) → ⊥
falls_beside_a_window short = let none : 2 ≡ 0 = ap length short.no_falls in omega (arith, none)

a_witness_of_a_given_budget : NoWitness (with_lists [] [] (Some 4) []) → ⊥
a_witness_of_a_given_budget none = none-some 4 (sym none.no_witness)

falls_of_a_given_budget : NoWitness (with_lists [] [] None (1 ∷ 5 ∷ [])) → ⊥
falls_of_a_given_budget none = let no : 2 ≡ 0 = ap length none.no_falls in omega (arith, no)
