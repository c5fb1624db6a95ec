-- Whether no job of a guest is pending, by what its run holds before.
use Rattle.std.proofs.Common.{◌≡◌, ◌⊎◌, ℕ, ◌<◌, Bool, true, false, List, take, length, Option, None, refl, sym, ap, arith, inl, inr}
use Rattle.std.proofs.lemmas.Bool.{false≢true}
use Rattle.std.proofs.lemmas.List.{get_or-take}
use Rattle.slot_model.specs.declared.job.Job.{Job}
use Rattle.slot_model.specs.Task.{SporadicTask}
use Rattle.slot_model.specs.Run.{held, holds, service, guest, Pending}
use Rattle.slot_model.proofs.Counts.{count_same}
use Rattle.slot_model.proofs.Runs.{search_below, is_pending}

none_found : {P Q : Type 0} → P ⊎ Q → Bool
none_found (inl found) = false
none_found (inr none) = true

module _ (tasks : List SporadicTask) (jobs : List Job) where
  search : (run : List (Option ℕ)) (x : ℕ) → ((j : ℕ) × (j < length jobs) × Pending guest tasks jobs run j x)
      ⊎ ((j : ℕ) → j < length jobs → Pending guest tasks jobs run j x → ⊥)
  search run x =
      search_below (λ j. Pending guest tasks jobs run j x) (λ j. is_pending guest tasks jobs run j x) (length jobs)

  pub is_idle : List (Option ℕ) → ℕ → Bool
  is_idle run x = none_found (search run x)

  idle_none : (run : List (Option ℕ)) (x : ℕ) → is_idle run x ≡ true → (j : ℕ) → Pending guest tasks jobs run j x → ⊥
  unfolding is_idle none_found
  idle_none run x h j p = go (search run x) h
    where
      go : (o : ((j : ℕ) × (j < length jobs) × Pending guest tasks jobs run j x)
          ⊎ ((j : ℕ) → j < length jobs → Pending guest tasks jobs run j x → ⊥)) → none_found o ≡ true → ⊥
      go (inl found) e = false≢true e
      go (inr none) e = none j p.is_job p

  none_idle : (run : List (Option ℕ)) (x : ℕ) → ((j : ℕ) → Pending guest tasks jobs run j x → ⊥) → is_idle run x ≡ true
  unfolding is_idle none_found
  none_idle run x h = go (search run x)
    where
      go : (o : ((j : ℕ) × (j < length jobs) × Pending guest tasks jobs run j x)
          ⊎ ((j : ℕ) → j < length jobs → Pending guest tasks jobs run j x → ⊥)) → none_found o ≡ true
      go (inl found) = absurd (h found.0 found.2)
      go (inr none) = refl

  -- what is pending at x is told by the run before x
  served_before : (run : List (Option ℕ)) (j x : ℕ) → service (take x run) j x ≡ service run j x
  served_before run j x =
      count_same (λ y. holds (held (take x run) y) j) (λ y. holds (held run y) j) x
      (λ y l. ap (λ (o : Option ℕ). holds o j) (get_or-take x run y None l))

  pending_by : (run other : List (Option ℕ)) (j x : ℕ) → service run j x ≡ service other j x
      → Pending guest tasks jobs run j x → Pending guest tasks jobs other j x
  pending_by run other j x e h = record {
    is_job = h.is_job;
    released = h.released;
    unfinished = omega (arith, h.unfinished, e);
    still_open = h.still_open;
  }

  pub idle_says : (run : List (Option ℕ)) (x : ℕ) → is_idle (take x run) x ≡ true → (j : ℕ)
      → Pending guest tasks jobs run j x → ⊥
  idle_says run x h j p =
      idle_none (take x run) x h j (pending_by run (take x run) j x (sym (served_before run j x)) p)

  pub says_idle : (run : List (Option ℕ)) (x : ℕ) → ((j : ℕ) → Pending guest tasks jobs run j x → ⊥)
      → is_idle (take x run) x ≡ true
  says_idle run x h =
      none_idle (take x run) x (λ j p. h j (pending_by (take x run) run j x (served_before run j x) p))
