-- No VCPU without extra time has more than its budget in a period.
use Rattle.std.proofs.Common.{◌≡◌, ℕ, zero, suc, ◌+◌, ◌*◌, ◌-◌, ◌/◌, ◌<◌, ◌≤◌, Bool, true, false, cond, leb, nat_lt, ◌&&◌, ◌||◌, List, length, Option, None, refl, sym, ◌∙◌, ap, arith, subst, inl, inr, ltb-true, add-suc, add-zero}
use Rattle.std.proofs.lemmas.Nat.{div-mul-add}
use Rattle.std.proofs.lemmas.Bool.{cases_lt, cases_Bool, and_parts, cond-true, cond-false, false≢true}
use Rattle.std.proofs.lemmas.List.{get_or_past}
use Rattle.slot_model.specs.Run.{held, holds}
use Rattle.slot_model.proofs.Sums.{sum_below-suc}
use Rattle.slot_model.proofs.Runs.{holds-is}
use Rattle.slot_model.proofs.FirstRuns.{none_some}
use Rattle.tree_model.specs.View.{SystemView}
use Rattle.tree_model.specs.System.{part_at}
use Rattle.tree_model.specs.Tree.{budget_at}
use Rattle.trace_file.specs.Periods.{begins, count_between}
use Rattle.release_file.specs.declared.workload.Wake.{Wake}
use Rattle.tree_model.specs.Plans.{IsPlan}
use Rattle.release_file.specs.Workload.{start_of}
use Rattle.rtds_model.specs.Rtds.{period_number, used, can_run, is_eligible, CoreRun}
use Rattle.rtds_model.specs.Giving.{NeverOver}
use Rattle.rtds_model.proofs.Counts.{none_between}

module _ (sys : SystemView) (budgets : List ℕ) (plan : IsPlan sys budgets) (rows : List Wake) (n c : ℕ)
    (run : List (Option ℕ)) (is : CoreRun sys budgets rows n c run) where
  -- what holds a slot without extra time has budget left there
  has_left : (v x : ℕ) → (part_at sys v).extra ≡ false → holds (held run x) v ≡ true
      → used sys rows run v x < budget_at budgets v
  has_left v x no_extra h = elim (cases_lt x n) [
    | inr l ↦
        absurd
        (none_some (held run x) v (get_or_past run x None (omega (arith, is.long))) (holds-is (held run x) v h))
    | inl l ↦
        let e : is_eligible sys budgets rows c run v x ≡ true = (is.each x l).named v (holds-is (held run x) v h) in
        let p
        = and_parts (can_run sys rows c v x)
        (nat_lt (used sys rows run v x) (budget_at budgets v) || (part_at sys v).extra) e in
        ltb-true (used sys rows run v x) (budget_at budgets v)
        (left_only (nat_lt (used sys rows run v x) (budget_at budgets v)) (part_at sys v).extra no_extra p.1)
  ]
    where
      left_only : (a b : Bool) → b ≡ false → (a || b) ≡ true → a ≡ true
      left_only true b e h = refl
      left_only false b e h = absurd (false≢true (sym e ∙ h))

  -- the slots so far of a period
  so_far : (v k m : ℕ) → v < length sys.parts → (part_at sys v).extra ≡ false → m ≤ (part_at sys v).period →
      count_between (λ x. holds (held run x) v) (begins (part_at sys v).period (start_of rows v) k)
      (begins (part_at sys v).period (start_of rows v) k + m) ≤ budget_at budgets v
  so_far v k zero l no_extra h =
      let a : ℕ = begins (part_at sys v).period (start_of rows v) k in
      let p : ℕ → Bool = λ x. holds (held run x) v in
      omega (arith, ap (λ (y : ℕ). count_between p a y) (add-zero a), none_between p a)
  so_far v k (suc m) l no_extra h =
      let P : ℕ = (part_at sys v).period in
      let f : ℕ = start_of rows v in
      let a : ℕ = begins P f k in
      let y : ℕ = a + m in
      let p : ℕ → Bool = λ x. holds (held run x) v in
      let more : count_between p a (a + suc m) ≡ count_between p a y + cond (leb a y && p y) 1 0
      = ap (λ (z : ℕ). count_between p a z) (add-suc a m) ∙ sum_below-suc (λ x. cond (leb a x && p x) 1 0) y in
      elim (cases_Bool (leb a y && p y)) [
        | inr b ↦ omega (arith, more, cond-false {A = ℕ} (leb a y && p y) 1 0 b, so_far v k m l no_extra (omega arith))
        | inl b ↦
            let e : y - f ≡ k * P + m = omega arith in
            let number : period_number P f y ≡ k = ap (λ (z : ℕ). z / P) e ∙ div-mul-add k P m h in
            let left : count_between p a y < budget_at budgets v
            = subst (λ (q : ℕ). count_between p (begins P f q) y < budget_at budgets v) number
            (has_left v y no_extra (and_parts (leb a y) (p y) b).1) in
            omega (arith, more, cond-true {A = ℕ} (leb a y && p y) 1 0 b, left)
      ]

  pub never_over : NeverOver sys budgets rows run
  never_over v k l no_extra =
      let P : ℕ = (part_at sys v).period in
      let f : ℕ = start_of rows v in
      let e : begins P f k + P ≡ begins P f (suc k) = omega arith in
      subst (λ (y : ℕ). count_between (λ x. holds (held run x) v) (begins P f k) y ≤ budget_at budgets v) e
      (so_far v k P l no_extra (omega arith))
