-- The windows of a level's children, span by span.
use Rattle.std.proofs.Common.{◌≡◌, ℕ, ◌<◌, ◌≤◌, Bool, false, List, [], length, set, replicate, Option, Some, None, sym, ◌∙◌, ap, arith, subst, inl, inr, eq-eqb, ne_eqb, length-set, get_or-set_same, get_or-set_other}
use Rattle.std.proofs.lemmas.Bool.{cases_eq}
use Rattle.std.proofs.lemmas.List.{get_or-map, length-map, ext_get_or, get_or-replicate, length-replicate}
use Rattle.slot_model.specs.declared.job.Job.{Job}
use Rattle.slot_model.specs.Task.{job_at}
use Rattle.slot_model.specs.Run.{held, holds_task, child_supply}
use Rattle.guest_sched.specs.Spans.{Window, slots_of}
use Rattle.guest_sched.specs.MoreWindows.{AddsWindow}
use Rattle.guest_sched.proofs.Given.{slots-long, slot_at}
use Rattle.guest_sched.proofs.SpanByOne.{Holds}
use Rattle.guest_sched.proofs.Spelled.{Spells, nothing_yet, then_none, then_all}
use Rattle.tree_spans.specs.Shares.{AreShares, share_at}

-- the slots of task k
abbrev pub slots_of_task : List Job → List (Option ℕ) → ℕ → ℕ → Bool
slots_of_task jobs run k x = holds_task jobs (held run x) k

-- the windows of each task up to m
pub record SharedTo (jobs : List Job) (run : List (Option ℕ)) (m count : ℕ) (shares : List (List Window)) : Type 0 where
  pub long : length shares ≡ count
  pub each : (k : ℕ) → k < count → Spells (slots_of_task jobs run k) m (share_at shares k)

pub none_shared : (jobs : List Job) (run : List (Option ℕ)) (count : ℕ) → SharedTo jobs run 0 count (replicate count [])
none_shared jobs run count =
    record {
      long = length-replicate count [];
      each =
          λ k l. subst (λ (w : List Window). Spells (slots_of_task jobs run k) 0 w)
          (sym (get_or-replicate count k [] [] l)) (nothing_yet (slots_of_task jobs run k));
    }

-- one span more, of no job or of one
pub idle_shared : (jobs : List Job) (run : List (Option ℕ)) (m u count : ℕ) (shares : List (List Window))
    → SharedTo jobs run m count shares → m ≤ u → Holds run m u None → SharedTo jobs run u count shares
idle_shared jobs run m u count shares h l is =
    record {
      long = h.long;
      each =
          λ k lk. then_none (slots_of_task jobs run k) m u (share_at shares k) (h.each k lk) l
          (λ x a b. ap (λ (o : Option ℕ). holds_task jobs o k) (is x a b));
    }

pub task_shared : (jobs : List Job) (run : List (Option ℕ)) (m u count j : ℕ) (shares : List (List Window))
    (new : List Window) → SharedTo jobs run m count shares → m ≤ u → Holds run m u (Some j)
    → (job_at jobs j).task < count → AddsWindow (share_at shares (job_at jobs j).task) m u new
    → SharedTo jobs run u count (set shares (job_at jobs j).task new)
task_shared jobs run m u count j shares new h l is lt adds =
    let t : ℕ = (job_at jobs j).task in
    record {
      long = length-set shares t new ∙ h.long;
      each = λ k lk. elim (cases_eq k t) [
        | inl q ↦
            subst (λ (w : List Window). Spells (slots_of_task jobs run k) u w)
            (sym (ap (share_at (set shares t new)) q ∙ get_or-set_same shares t new [] (omega (arith, h.long))))
            (then_all (slots_of_task jobs run k) m u (share_at shares t) new
            (subst (λ (z : ℕ). Spells (slots_of_task jobs run k) m (share_at shares z)) q (h.each k lk)) adds
            (λ x a b. ap (λ (o : Option ℕ). holds_task jobs o k) (is x a b) ∙ eq-eqb t k (sym q)))
        | inr ne ↦
            subst (λ (w : List Window). Spells (slots_of_task jobs run k) u w)
            (sym (get_or-set_other shares t k new [] ne))
            (then_none (slots_of_task jobs run k) m u (share_at shares k) (h.each k lk) l
            (λ x a b. ap (λ (o : Option ℕ). holds_task jobs o k) (is x a b) ∙ ne_eqb t k (λ e. ne (sym e))))
      ];
    }

-- at the end
pub all_shared : (jobs : List Job) (run : List (Option ℕ)) (count : ℕ) (shares : List (List Window))
    → SharedTo jobs run (length run) count shares → AreShares jobs run (length run) count shares
all_shared jobs run count shares h = record {
  one_each = h.long;
  each = λ k l. record {
    fit = (h.each k l).fit;
    slots =
        ext_get_or false (slots_of (share_at shares k) (length run)) (child_supply jobs run k)
        (slots-long (share_at shares k) (length run) ∙ sym (length-map run (λ o. holds_task jobs o k)))
        (λ x m. let lx : x < length run = omega (arith, slots-long (share_at shares k) (length run)) in
        slot_at (share_at shares k) (length run) x lx
        ∙ ((h.each k l).same x lx ∙ sym (get_or-map (λ o. holds_task jobs o k) run x None false lx)));
  };
}
