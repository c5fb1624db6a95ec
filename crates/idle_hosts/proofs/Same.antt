-- Runs are alike as far as the workloads say the same.
use Rattle.std.proofs.Common.{◌≡◌, ℕ, ◌/◌, ◌<◌, ◌≤◌, Bool, false, cond, ◌&&◌, ◌||◌, nat_lt, leb, List, take, get_or, Option, None, refl, sym, ◌∙◌, ap, arith, subst}
use Rattle.std.proofs.lemmas.List.{get_or-take, length-take-le}
use Rattle.slot_model.specs.declared.job.Job.{Job}
use Rattle.slot_model.specs.Task.{SporadicTask}
use Rattle.slot_model.specs.Run.{held, holds, Level, Entry, FirstRunTo}
use Rattle.slot_model.proofs.FirstRuns.{EntryAt, looks_back}
use Rattle.slot_model.proofs.Unique.{run_unique}
use Rattle.slot_model.proofs.Sums.{sum_below-same}
use Rattle.tree_model.specs.View.{SystemView}
use Rattle.tree_model.specs.System.{part_at}
use Rattle.tree_model.specs.Tree.{budget_at}
use Rattle.rtds_queues.specs.Keys.{goes_first}
use Rattle.release_file.specs.declared.workload.Wake.{Wake}
use Rattle.release_file.specs.Workload.{is_started_at, is_blocked_at, start_of}
use Rattle.rtds_model.specs.Rtds.{used, period_from, deadline_at, can_run, is_eligible, goes_before, RtdsEntry, CoreRun}
use Rattle.rtds_model.proofs.Runs.{core_unique}

-- two runs hold the same below x
abbrev Alike : List (Option ℕ) → List (Option ℕ) → ℕ → Type 0
Alike run also x = (y : ℕ) → y < x → held run y ≡ held also y

-- what two workloads say at slot x is the same
pub record SameAt (rows other : List Wake) (x : ℕ) : Type 0 where
  pub started : (v : ℕ) → is_started_at rows v x ≡ is_started_at other v x
  pub blocked : (v : ℕ) → is_blocked_at rows v x ≡ is_blocked_at other v x
  pub start : (v : ℕ) → start_of rows v ≡ start_of other v

module _ (sys : SystemView) (budgets : List ℕ) (rows other : List Wake) where
  -- what a VCPU had is told by the run below x
  same_used : (run also : List (Option ℕ)) (v x : ℕ) → Alike run also x
      → used sys other run v x ≡ used sys other also v x
  same_used run also v x alike =
      sum_below-same (λ y. cond (leb (period_from sys other v x) y && holds (held run y) v) 1 0)
      (λ y. cond (leb (period_from sys other v x) y && holds (held also y) v) 1 0) x
      (λ y l. ap (λ (o : Option ℕ). cond {A = ℕ} (leb (period_from sys other v x) y && holds o v) 1 0) (alike y l))

  same_eligible : (c : ℕ) (run also : List (Option ℕ)) (v x : ℕ) → SameAt rows other x → Alike run also x
      → is_eligible sys budgets rows c run v x ≡ is_eligible sys budgets other c also v x
  same_eligible c run also v x h alike =
      rw (h.start v, h.started v, h.blocked v)
      (ap (λ (g : ℕ). can_run sys other c v x && (nat_lt g (budget_at budgets v) || (part_at sys v).extra))
      (same_used run also v x alike))

  -- which goes first, by what they had
  abbrev first_by : ℕ → ℕ → ℕ → ℕ → ℕ → Bool
  first_by u v x g k =
      goes_first (g / budget_at budgets u) (deadline_at sys other u x) u (k / budget_at budgets v)
      (deadline_at sys other v x) v

  same_before : (run also : List (Option ℕ)) (u v x : ℕ) → SameAt rows other x → Alike run also x
      → goes_before sys budgets rows run x u v ≡ goes_before sys budgets other also x u v
  same_before run also u v x h alike =
      rw (h.start u, h.start v)
      (ap (λ (g : ℕ). first_by u v x g (used sys other run v x)) (same_used run also u x alike)
      ∙ ap (λ (g : ℕ). first_by u v x (used sys other also u x) g) (same_used run also v x alike))

  same_entry : (c : ℕ) (run also : List (Option ℕ)) (x : ℕ) → SameAt rows other x → Alike run also x → (o : Option ℕ)
      → RtdsEntry sys budgets rows c run x o → RtdsEntry sys budgets other c also x o
  same_entry c run also x h alike o e = record {
    idle = λ q v. sym (same_eligible c run also v x h alike) ∙ e.idle q v;
    named = λ v q. sym (same_eligible c run also v x h alike) ∙ e.named v q;
    first = λ u v q r.
        sym (same_before run also u v x h alike) ∙ e.first u v q (same_eligible c run also u x h alike ∙ r);
  }

  -- the beginning of a run
  core_prefix : (n m c : ℕ) (run : List (Option ℕ)) → CoreRun sys budgets rows n c run → m ≤ n
      → ((x : ℕ) → x < m → SameAt rows other x) → CoreRun sys budgets other m c (take m run)
  core_prefix n m c run is l same = record {
    long = length-take-le m run (omega (arith, is.long));
    each = λ x k.
        subst (RtdsEntry sys budgets other c (take m run) x) (sym (get_or-take m run x None k))
        (same_entry c run (take m run) x (same x k) (λ y j. sym (get_or-take m run y None (omega arith)))
        (held run x) (is.each x (omega arith)));
  }

same_itself : (rows : List Wake) (x : ℕ) → SameAt rows rows x
same_itself rows x = record { started = λ v. refl; blocked = λ v. refl; start = λ v. refl }

pub core_same : (sys : SystemView) (budgets : List ℕ) (rows other : List Wake) (n m c : ℕ) (run also : List (Option ℕ))
    → CoreRun sys budgets rows n c run → CoreRun sys budgets other n c also → m ≤ n
    → ((x : ℕ) → x < m → SameAt rows other x) → take m run ≡ take m also
core_same sys budgets rows other n m c run also a b l same =
    core_unique sys budgets other m c (take m run) (take m also)
    (core_prefix sys budgets rows other n m c run a l same)
    (core_prefix sys budgets other other n m c also b l (λ x k. same_itself other x))

-- the same of the runs of a level
module _ (level : Level) (before : Job → Job → Bool) (tasks : List SporadicTask) (jobs : List Job)
    (slots also : List Bool) where
  first_prefix : (n m : ℕ) (run : List (Option ℕ)) → FirstRunTo level before tasks jobs slots n run → m ≤ n
      → ((x : ℕ) → x < m → get_or slots x false ≡ get_or also x false)
      → FirstRunTo level before tasks jobs also m (take m run)
  first_prefix n m run is l same = record {
    long = length-take-le m run (omega (arith, is.long));
    each = λ x k. looks_back level before tasks jobs also run (take m run) x (held (take m run) x)
        (λ y j. sym (get_or-take m run y None (omega arith)))
        (subst (EntryAt level before tasks jobs also run x) (sym (get_or-take m run x None k))
        (subst (λ b. Entry level before tasks jobs run x b (held run x)) (same x k) (is.each x (omega arith))));
  }

pub first_same : (level : Level) (before : Job → Job → Bool) (tasks : List SporadicTask) (jobs : List Job)
    (slots also : List Bool) (n k m : ℕ) (run other : List (Option ℕ))
    → FirstRunTo level before tasks jobs slots n run → FirstRunTo level before tasks jobs also k other → m ≤ n → m ≤ k
    → ((x : ℕ) → x < m → get_or slots x false ≡ get_or also x false) → take m run ≡ take m other
first_same level before tasks jobs slots also n k m run other a b l r same =
    run_unique level before tasks jobs also m (take m run) (take m other)
    (first_prefix level before tasks jobs slots also n m run a l same)
    (first_prefix level before tasks jobs also also k m other b r (λ x q. refl))
