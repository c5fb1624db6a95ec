-- The VCPUs of each core, one behind the other in file order, and sums over those of one.
use Rattle.std.proofs.Common.{◌≡◌, ℕ, zero, suc, ◌+◌, ◌<◌, ◌≤◌, true, false, cond, List, length, set, get_or, replicate, refl, sym, ◌∙◌, ap, arith, subst, inl, inr, eq-eqb}
use Rattle.std.proofs.lemmas.Bool.{cases_eq, cond-true, cond-false, both_ways}
use Rattle.std.proofs.lemmas.List.{get_or-set_same, get_or-set_other, get_or-replicate, length-replicate, length-set}
use Rattle.slot_model.specs.Slots.{sum_below}
use Rattle.slot_model.proofs.Sums.{sum_below-suc}
use Rattle.tree_model.specs.declared.place.Parent.{Parent}
use Rattle.tree_model.specs.declared.place.Parent.TheVariants.{Core as core_parent}
use Rattle.tree_model.specs.declared.place.Place.TheVariants.{Core}
use Rattle.tree_model.specs.View.{PartView, SystemView}
use Rattle.tree_model.specs.System.{part_at, IsSystem, Stands}
use Rattle.tree_model.specs.Tree.{is_child, place_of, same_place}
use Rattle.tree_model.proofs.NodeTasks.{part_here}
use Rattle.rtds_queues.proofs.Membership.{on_one_core}
use Rattle.isolation.specs.declared.neighbours.Neighbours.{Neighbours}
use Rattle.isolation.specs.inner.Neighbours.{IsNextOn, AreNeighboursFrom}

-- a sum goes on past terms that are 0
sum_past : (f : ℕ → ℕ) (from to : ℕ) → from ≤ to → ((u : ℕ) → from ≤ u → u < to → f u ≡ 0)
    → sum_below f to ≡ sum_below f from
sum_past f from zero l none = let e : from ≡ 0 = omega arith in ap (sum_below f) (sym e)
sum_past f from (suc to) l none = elim (cases_eq from (suc to)) [
  | inl e ↦ ap (sum_below f) (sym e)
  | inr ne ↦
      omega (
        arith,
        sum_below-suc f to,
        none to (omega arith) (omega arith),
        sum_past f from to (omega arith) (λ u a b. none u a (omega arith)),
      )
]

-- the core of a part is one of the system
pub its_core : (sys : SystemView) → IsSystem sys → (v : ℕ) (parts : List PartView) (part : PartView) (parent : Parent)
    (c : ℕ) → v < length sys.parts → parts ≡ sys.parts → part ≡ get_or parts v part → parent ≡ part.parent
    → parent ≡ core_parent c → (c < length sys.cores) × (is_child sys (Core c) v ≡ true)
its_core sys is v parts part parent c l same here its e =
    let at : (part_at sys v).parent ≡ core_parent c
    = sym (ap (λ (p : PartView). p.parent) found) ∙ (sym its ∙ e) in (
      subst (Stands sys v) at (is.parents v l),
      ap (λ (p : Parent). same_place (place_of p) (Core c)) at ∙ eq-eqb c c refl,
    )
  where
    found : part ≡ part_at sys v
    found = part_here sys parts v part same (omega (arith, l, ap (λ (ps : List PartView). length ps) same)) here

module _ (sys : SystemView) where
  -- a sum over the parts of a core goes on from one to the next
  pub sum_next : (g : ℕ → ℕ) (c from next : ℕ) → IsNextOn sys c from next
      → sum_below (λ u. cond (is_child sys (Core c) u) (g u) 0) next
      ≡ sum_below (λ u. cond (is_child sys (Core c) u) (g u) 0) from
  sum_next g c from next h =
      sum_past (λ u. cond (is_child sys (Core c) u) (g u) 0) from next h.behind
      (λ u a b. cond-false {A = ℕ} (is_child sys (Core c) u) (g u) 0 (h.none u a b))

  -- and with one of the core ahead of the next
  pub sum_with : (g : ℕ → ℕ) (c u next : ℕ) → is_child sys (Core c) u ≡ true → IsNextOn sys c (suc u) next
      → sum_below (λ w. cond (is_child sys (Core c) w) (g w) 0) next
      ≡ sum_below (λ w. cond (is_child sys (Core c) w) (g w) 0) u + g u
  sum_with g c u next on h = omega (
    arith,
    sum_next g c (suc u) next h,
    sum_below-suc (λ w. cond (is_child sys (Core c) w) (g w) 0) u,
    cond-true {A = ℕ} (is_child sys (Core c) u) (g u) 0 on,
  )

  -- none stands behind the last part
  pub none_behind : (n : ℕ) → n ≡ length sys.parts → length sys.cores ≤ 64
      → AreNeighboursFrom sys (record { first = replicate 64 n; next = replicate 512 n }) n
  none_behind n e few_cores = record {
    all_cores = length-replicate 64 n;
    all_parts = length-replicate 512 n;
    first = λ c l.
        let is : get_or (replicate 64 n) c 0 ≡ n = get_or-replicate 64 c n 0 (omega arith) in
        record {
          behind = omega (arith, is);
          within = omega (arith, is, e);
          here = λ k. absurd (omega (arith, is, e, k));
          none = λ u a b. absurd (omega (arith, is, a, b));
        };
    next = λ c v a b on. absurd (omega (arith, e, a, b));
  }

  -- part v beside those behind it
  module _ (neighbours : Neighbours) (v : ℕ) (lv : v < length sys.parts)
      (h : AreNeighboursFrom sys neighbours (suc v)) where
    not_it : (d next : ℕ) → is_child sys (Core d) v ≡ false → IsNextOn sys d (suc v) next → IsNextOn sys d v next
    not_it d next off is = record {
      behind = omega (arith, is.behind);
      within = is.within;
      here = is.here;
      none = λ u a b. elim (cases_eq u v) [
        | inl e ↦ subst (λ (z : ℕ). is_child sys (Core d) z ≡ false) (sym e) off
        | inr ne ↦ is.none u (omega arith) b
      ];
    }

    pub on_core : (c : ℕ) → c < length sys.cores → is_child sys (Core c) v ≡ true → length sys.cores ≤ 64
        → length sys.parts ≤ 512 → AreNeighboursFrom sys (record {
          first = set neighbours.first c v;
          next = set neighbours.next v (get_or neighbours.first c 0);
        }) v
    on_core c lc its few_cores few_parts = record {
      all_cores = length-set neighbours.first c v ∙ h.all_cores;
      all_parts = length-set neighbours.next v was ∙ h.all_parts;
      first = λ d l. elim (cases_eq d c) [
        | inl e ↦
            subst (λ (z : ℕ). IsNextOn sys z v (get_or first z 0)) (sym e)
            (subst (IsNextOn sys c v) (sym (get_or-set_same neighbours.first c v 0 (omega (arith, lc, h.all_cores))))
            itself)
        | inr ne ↦
            subst (IsNextOn sys d v) (sym (get_or-set_other neighbours.first c d v 0 ne))
            (not_it d (get_or neighbours.first d 0) (on_one_core sys c d v ne its) (h.first d l))
      ];
      next = λ d u a b on. elim (cases_eq u v) [
        | inl e ↦
            subst (λ (z : ℕ). IsNextOn sys d (suc z) (get_or next z 0)) (sym e)
            (subst (IsNextOn sys d (suc v)) (sym (get_or-set_same neighbours.next v was 0 (omega (arith, h.all_parts))))
            (behind_it d (subst (λ (z : ℕ). is_child sys (Core d) z ≡ true) e on)))
        | inr ne ↦
            subst (IsNextOn sys d (suc u)) (sym (get_or-set_other neighbours.next v u was 0 ne))
            (h.next d u (omega arith) b on)
      ];
    }
      where
        was : ℕ
        was = get_or neighbours.first c 0

        first : List ℕ
        first = set neighbours.first c v

        next : List ℕ
        next = set neighbours.next v was

        itself : IsNextOn sys c v v
        itself = record {
          behind = omega arith;
          within = omega arith;
          here = λ l. its;
          none = λ u a b. absurd (omega (arith, a, b));
        }

        behind_it : (d : ℕ) → is_child sys (Core d) v ≡ true → IsNextOn sys d (suc v) was
        behind_it d on = elim (cases_eq d c) [
          | inl e ↦ subst (λ (z : ℕ). IsNextOn sys z (suc v) was) (sym e) (h.first c lc)
          | inr ne ↦ absurd (both_ways (is_child sys (Core d) v) (on_one_core sys c d v ne its) on)
        ]
