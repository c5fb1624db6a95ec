-- Flaws of certificates by hand: which comes first, and at what place. A wrong definition breaks
-- one of these.
use Rattle.std.proofs.Common.{◌≡◌, ◌^◌, ◌≤◌, true, false, Some, None, List, [], ◌∷◌, length, get_or, arith, refl, sym, ap, inl, inr}
use Rattle.std.proofs.lemmas.Option.{none-some}
use Rattle.std.proofs.lemmas.Nat.Gcd.{le_of_dvd}
use Rattle.slot_model.specs.declared.sched.Sched.TheVariants.{Edf, Rm}
use Rattle.slot_model.specs.Slots.{sum_below}
use Rattle.slot_model.specs.Task.{SporadicTask, plain_task}
use Rattle.slot_model.specs.Order.{ranks_above}
use Rattle.slot_model.specs.Bound.{sbf, IsHit}
use Rattle.tree_model.specs.declared.place.Place.TheVariants.{Core, Part}
use Rattle.tree_model.specs.CertificateView.{NodeView}
use Rattle.tree_model.proofs.FewPlaces.{both, only, each_of_three}
use Rattle.cert_verify.specs.declared.flaw.Flaw.TheVariants.{Nodes, Budget, Cover, Hit, Least, Wide}
use Rattle.cert_verify.specs.Proves.{node_at, nth_place, HasBudget}
use Rattle.cert_verify.specs.Flaws.{HitFails, NodeFlaw, FirstFlaw}
use Rattle.cert_verify.proofs.ProvesExamples.{host, by_rank, full_core, one_in_four, six_slots, three_and_seven_cover, with_lists, a_point_beside_hits}

-- where a node has not its lists the first task is told, also where it has no task
a_point_tells_the_first_task : HitFails (ranks_above Rm one_in_four) one_in_four (sbf 2 1)
    (with_lists (3 ∷ []) (3 ∷ []) None []) 0
a_point_tells_the_first_task = inl (refl, a_point_beside_hits)

a_point_of_no_task : HitFails (ranks_above Rm []) [] (sbf 2 1) (with_lists (3 ∷ []) [] None []) 0
a_point_of_no_task = inl (refl, λ lists. let none : 1 ≡ 0 = ap length lists.no_points in omega (arith, none))

-- else the first task that is not hit: in 3 slots there is one, and the second task asks for two
abbrev two_in_eight : List SporadicTask
two_in_eight = plain_task 4 4 1 ∷ plain_task 8 8 1 ∷ []

the_second_task_is_told : HitFails (ranks_above Rm two_in_eight) two_in_eight (sbf 2 1)
    (with_lists [] (3 ∷ 3 ∷ []) None []) 1
unfolding sum_below
the_second_task_is_told = inr (record {
  lists = record { one_each = refl; no_points = refl };
  is_task = omega arith;
  before = only (λ i. IsHit (ranks_above Rm two_in_eight) two_in_eight (sbf 2 1) i (get_or (3 ∷ 3 ∷ []) i 0))
      (record { some_slots = omega arith; in_deadline = omega arith; enough = omega arith });
  bad = λ hit. let enough : 2 ≤ 1 = hit.enough in omega (arith, enough);
})

-- of a node too wide to be walked nothing else is told, of one that does not pass not its budget
a_cycle_that_is_too_wide : NodeFlaw Edf [] (λ t. t) (2 ^ 127) (with_lists [] (3 ∷ []) (Some 4) []) (Wide (Part 0))
a_cycle_that_is_too_wide =
    (refl, λ small. omega (arith, small.2, small.1.is, le_of_dvd small.1.common.some small.1.common.of_cycle))

no_points_are_told_first : NodeFlaw Edf one_in_four (sbf 2 1) 2 (with_lists [] [] (Some 4) (1 ∷ [])) (Cover (Part 0))
no_points_are_told_first = (
  refl,
  refl,
  (6, six_slots, omega arith),
  λ covered. let some : 1 ≤ 0 = covered.cover.some_point in omega (arith, some),
)

no_hit_is_told_first : NodeFlaw Rm one_in_four (sbf 2 1) 2 (with_lists [] [] (Some 4) (1 ∷ [])) (Hit (Part 0) 0)
no_hit_is_told_first = (
  refl,
  λ (e : Rm ≡ Edf). cc,
  inl (refl, λ lists. let one : 0 ≡ 1 = lists.one_each in omega (arith, one)),
)

a_witness_is_told_last : NodeFlaw Edf one_in_four (sbf 2 1) 2 (with_lists (3 ∷ 7 ∷ []) [] (Some 4) []) (Least (Part 0))
a_witness_is_told_last = (
  refl,
  (
    (6, six_slots, omega arith),
    record { horizon = 6; is_horizon = six_slots; cover = three_and_seven_cover; no_hits = refl },
  ),
  λ none. none-some 4 (sym none.no_witness),
)

-- all nodes are looked at before a budget, and all budgets before a claim
abbrev no_cover : NodeView
no_cover =
    record {
      place = Part 0;
      period = 2;
      budget = 1;
      computed = true;
      points = [];
      hits = [];
      witness = None;
      falls = [];
    }

abbrev core_of_two : NodeView
core_of_two =
    record {
      place = Core 0;
      period = 1;
      budget = 2;
      computed = false;
      points = [];
      hits = [];
      witness = None;
      falls = [];
    }

missing_nodes_are_told_first : FirstFlaw host (no_cover ∷ core_of_two ∷ []) Nodes
missing_nodes_are_told_first are = let all : 2 ≡ 3 = are.all in omega (arith, all)

a_later_budget_is_told_first : FirstFlaw host (no_cover ∷ by_rank ∷ core_of_two ∷ []) (Budget (Core 0))
a_later_budget_is_told_first = record {
  are_nodes = record {
    all = refl;
    in_order = each_of_three
        (λ k. (node_at (no_cover ∷ by_rank ∷ core_of_two ∷ []) k).place ≡ nth_place 2 k) refl refl refl;
  };
  node = record {
    k = 2;
    is_node = omega arith;
    before = both (λ j. HasBudget host (node_at (no_cover ∷ by_rank ∷ core_of_two ∷ []) j))
        (record { period = refl; budget = (refl, omega arith, omega arith) })
        (record { period = refl; budget = (refl, omega arith, omega arith) });
    bad = (refl, λ has. let given : 2 ≡ 1 = has.budget.1 in omega (arith, given));
  };
}

-- and of the nodes the first that does not show its claims
the_first_node_is_told : FirstFlaw host (no_cover ∷ by_rank ∷ full_core ∷ []) (Cover (Part 0))
the_first_node_is_told = record {
  are_nodes = record {
    all = refl;
    in_order = each_of_three
        (λ k. (node_at (no_cover ∷ by_rank ∷ full_core ∷ []) k).place ≡ nth_place 2 k) refl refl refl;
  };
  budgets = each_of_three (λ k. HasBudget host (node_at (no_cover ∷ by_rank ∷ full_core ∷ []) k))
      (record { period = refl; budget = (refl, omega arith, omega arith) })
      (record { period = refl; budget = (refl, omega arith, omega arith) })
      (record { period = refl; budget = (refl, refl) });
  node = record {
    k = 0;
    is_node = omega arith;
    before = λ j l. absurd (omega (arith, l));
    bad = (
      refl,
      refl,
      (6, six_slots, omega arith),
      λ covered. let some : 1 ≤ 0 = covered.cover.some_point in omega (arith, some),
    );
  };
}
