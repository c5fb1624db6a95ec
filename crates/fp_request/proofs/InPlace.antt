-- One task in place of another of the same rank, and its term in place of the other's.
use Rattle.std.proofs.Common.{◌≡◌, ◌≢◌, ◌∙◌, ℕ, zero, suc, ◌+◌, ◌<◌, ◌≤◌, Bool, true, false, cond, nat_lt, ◌==◌, ◌||◌, ◌&&◌, List, length, take, get_or, set, refl, sym, ap, arith, inl, inr, subst, length-set, get_or-set_same, get_or-set_other}
use Rattle.std.proofs.Math.Seq.{take-set-lt}
use Rattle.std.proofs.lemmas.Bool.{cases_eq, cond-true, cond-false}
use Rattle.std.proofs.lemmas.List.{get_or-take, length-map, length-take-le, map-set, take-set-le}
use Rattle.std.proofs.lemmas.List.Sums.{sum_by-set}
use Rattle.slot_model.specs.declared.sched.Sched.{Sched}
use Rattle.slot_model.specs.declared.task.Task.{Task}
use Rattle.slot_model.specs.Slots.{sum_below}
use Rattle.slot_model.specs.Task.{SporadicTask, default_task, sporadic_task, sporadic_tasks, task_at}
use Rattle.slot_model.specs.Order.{IsRank, ranks_above}
use Rattle.slot_model.specs.Bound.{request_of}
use Rattle.slot_model.proofs.Sums.{cond_at_most_one, sum_below-same, sum_below-suc}
use Rattle.window_terms.specs.declared.term.Term.{Term}
use Rattle.window_terms.specs.Asked.{asked_by}
use Rattle.window_terms.proofs.Written.{asked_of}
use Rattle.fp_request.specs.Keys.{rank_of}
use Rattle.fp_request.specs.Parts.{part_of}
use Rattle.fp_request.specs.Terms.{AreRankedTo, IsTermOf, tasks_above}
use Rattle.fp_request.proofs.Aboves.{fewer_yet, first_and_term, more_above, place_within, sum_at_most}
use Rattle.fp_request.proofs.Limits.{by_rank}
use Rattle.fp_request.proofs.Parts.{task_at-is}

-- the task at a place, and every other as it was
here : (tasks : List Task) (i : ℕ) (task : Task) → i < length tasks
    → task_at (sporadic_tasks (set tasks i task)) i ≡ sporadic_task task
here tasks i task l =
    ap (λ (ts : List SporadicTask). task_at ts i) (map-set sporadic_task tasks i task)
    ∙ get_or-set_same (sporadic_tasks tasks) i (sporadic_task task) default_task
    (omega (arith, l, length-map tasks sporadic_task))

there : (tasks : List Task) (i k : ℕ) (task : Task) → k ≢ i
    → task_at (sporadic_tasks (set tasks i task)) k ≡ task_at (sporadic_tasks tasks) k
there tasks i k task ne =
    ap (λ (ts : List SporadicTask). task_at ts k) (map-set sporadic_task tasks i task)
    ∙ get_or-set_other (sporadic_tasks tasks) i k (sporadic_task task) default_task ne

-- where the task has the rank of the one before, all rank as before
pub ranks_stay : (sched : Sched) (tasks : List Task) (i : ℕ) (task : Task) → i < length tasks
    → rank_of sched (task_at (sporadic_tasks (set tasks i task)) i) ≡ rank_of sched (task_at (sporadic_tasks tasks) i)
    → (k j : ℕ)
    → ranks_above sched (sporadic_tasks (set tasks i task)) k j ≡ ranks_above sched (sporadic_tasks tasks) k j
ranks_stay sched tasks i task l same k j =
    sym (by_rank sched (sporadic_tasks (set tasks i task)) k j)
    ∙ (ap (λ (a : ℕ). ranks_of a (rank_of sched (task_at (sporadic_tasks (set tasks i task)) j)) k j) (each k)
    ∙ (ap (λ (b : ℕ). ranks_of (rank_of sched (task_at (sporadic_tasks tasks) k)) b k j) (each j)
    ∙ by_rank sched (sporadic_tasks tasks) k j))
  where
    ranks_of : ℕ → ℕ → ℕ → ℕ → Bool
    ranks_of a b k j = nat_lt a b || (a == b && nat_lt k j)

    each : (k : ℕ) → rank_of sched (task_at (sporadic_tasks (set tasks i task)) k)
        ≡ rank_of sched (task_at (sporadic_tasks tasks) k)
    each k = elim (cases_eq k i) [
      | inl e ↦ subst (λ (x : ℕ). rank_of sched (task_at (sporadic_tasks (set tasks i task)) x)
          ≡ rank_of sched (task_at (sporadic_tasks tasks) x)) (sym e) same
      | inr ne ↦ ap (rank_of sched) (there tasks i k task ne)
    ]

-- a sum of which one number is another
one_changed : (f g : ℕ → ℕ) (i n : ℕ) → i < n → ((k : ℕ) → k ≢ i → g k ≡ f k)
    → sum_below g n + f i ≡ sum_below f n + g i
one_changed f g i zero l same = absurd (omega arith)
one_changed f g i (suc n) l same = elim (cases_eq n i) [
  | inl e ↦ omega (
    arith,
    sum_below-suc f n,
    sum_below-suc g n,
    ap f e,
    ap g e,
    sum_below-same g f n (λ k m. same k (λ q. omega (arith, m, q, e))),
  )
  | inr ne ↦ omega (
    arith,
    sum_below-suc f n,
    sum_below-suc g n,
    same n ne,
    one_changed f g i n (omega arith) same,
  )
]

-- a number that is counted or not, in two parts
in_parts : (p : Bool) (x a b : ℕ) → x ≡ a + b → cond p x 0 ≡ cond p a 0 + cond p b 0
in_parts true x a b e = e
in_parts false x a b e = refl

-- the first terms with another one among them, or past them
changed_terms : (p : Bool) (terms : List Term) (c place t : ℕ) (new d : Term) → c ≤ length terms
    → (p ≡ true → place < c) → (p ≡ false → c ≤ place)
    → asked_by (take c (set terms place new)) t + cond p (asked_of (get_or terms place d) t) 0
    ≡ asked_by (take c terms) t + cond p (asked_of new t) 0
changed_terms true terms c place t new d l among past =
    omega (
      arith,
      ap (λ (xs : List Term). asked_by xs t) (take-set-lt c terms place new (among refl)),
      sum_by-set (λ x. asked_of x t) (take c terms) place new d
          (omega (arith, among refl, length-take-le c terms l)),
      ap (λ (x : Term). asked_of x t) (get_or-take c terms place d (among refl)),
    )
changed_terms false terms c place t new d l among past =
    ap (λ (xs : List Term). asked_by xs t + 0) (take-set-le c terms place new (past refl))

-- the terms stand as the tasks rank
pub exchanged_ranked : (above after : ℕ → ℕ → Bool) → IsRank above → ((k j : ℕ) → after k j ≡ above k j)
    → (tasks : List Task) (i place : ℕ) (terms : List Term) (new : Term) (task : Task) → i < length tasks
    → place ≡ tasks_above after i (length tasks) → IsTermOf new (sporadic_task task)
    → AreRankedTo above (sporadic_tasks tasks) (length tasks) terms
    → AreRankedTo after (sporadic_tasks (set tasks i task)) (length tasks) (set terms place new)
exchanged_ranked above after r same tasks i place terms new task l at of_task ranked =
    record {
      in_terms = omega (arith, ranked.in_terms, length-set terms place new);
      own = λ j d m. elim (cases_eq j i) [
        | inl e ↦ subst (λ (k : ℕ). IsTermOf (get_or (set terms place new) (tasks_above after k n) d) (task_at N k))
            (sym e) (its_own d)
        | inr ne ↦ others j d ne m
      ];
      each = λ j t. omega (
        arith,
        ranked.each j t,
        ap (λ (c : ℕ). asked_by (take c (set terms place new)) t) (as_many j),
        sum_changed (λ s. s.work) j,
        sum_changed (λ s. request_of s (t + 1)) j,
        in_parts (above i j) (request_of (sporadic_task before) (t + 1)) before.work (asked_of old t)
            (first_and_term old before t was),
        in_parts (above i j) (request_of (sporadic_task task) (t + 1)) task.work (asked_of new t)
            (first_and_term new task t of_task),
        changed_terms (above i j) terms (tasks_above above j n) place t new new
            (omega (arith, place_at_most j, ranked.in_terms))
            (λ up. omega (arith, is_place, fewer_yet above r i j n l up))
            (λ down. omega (arith, is_place, more_above above r i j n down)),
      );
    }
  where
    n : ℕ
    n = length tasks

    T : List SporadicTask
    T = sporadic_tasks tasks

    N : List SporadicTask
    N = sporadic_tasks (set tasks i task)

    before : Task
    before = get_or tasks i task

    old : Term
    old = get_or terms place new

    as_many : (j : ℕ) → tasks_above after j n ≡ tasks_above above j n
    as_many j =
        sum_below-same (λ k. cond {A = ℕ} (after k j) 1 0) (λ k. cond {A = ℕ} (above k j) 1 0) n
        (λ k m. ap (λ (b : Bool). cond {A = ℕ} b 1 0) (same k j))

    is_place : place ≡ tasks_above above i n
    is_place = at ∙ as_many i

    place_at_most : (j : ℕ) → tasks_above above j n ≤ n
    place_at_most j =
        omega (arith, sum_at_most (λ k. cond {A = ℕ} (above k j) 1 0) 1 n (λ k m. cond_at_most_one (above k j)))

    was : IsTermOf old (sporadic_task before)
    was =
        subst (λ (s : SporadicTask). IsTermOf old s) (task_at-is tasks i task l)
        (subst (λ (c : ℕ). IsTermOf (get_or terms c new) (task_at T i)) (sym is_place) (ranked.own i new l))

    its_own : (d : Term) → IsTermOf (get_or (set terms place new) (tasks_above after i n) d) (task_at N i)
    its_own d =
        subst (λ (c : ℕ). IsTermOf (get_or (set terms place new) c d) (task_at N i)) at
        (subst (λ (x : Term). IsTermOf x (task_at N i))
        (sym (get_or-set_same terms place new d (omega (
          arith,
          is_place,
          place_within above r i n l,
          ranked.in_terms,
        ))))
        (subst (IsTermOf new) (sym (here tasks i task l)) of_task))

    elsewhere : (j : ℕ) → j ≢ i → j < n → tasks_above after j n ≢ place
    elsewhere j ne m e = elim (r.one_way j i ne) [
      | inl up ↦ absurd (omega (arith, e, is_place, as_many j, fewer_yet above r j i n m up))
      | inr up ↦ absurd (omega (arith, e, is_place, as_many j, fewer_yet above r i j n l up))
    ]

    others : (j : ℕ) (d : Term) → j ≢ i → j < n
        → IsTermOf (get_or (set terms place new) (tasks_above after j n) d) (task_at N j)
    others j d ne m =
        subst (λ (x : Term). IsTermOf x (task_at N j))
        (sym (get_or-set_other terms place (tasks_above after j n) new d (elsewhere j ne m)
        ∙ ap (λ (c : ℕ). get_or terms c d) (as_many j)))
        (subst (IsTermOf (get_or terms (tasks_above above j n) d)) (sym (there tasks i j task ne)) (ranked.own j d m))

    sum_changed : (x : SporadicTask → ℕ) (j : ℕ)
        → sum_below (λ k. cond (after k j) (x (task_at N k)) 0) n + cond (above i j) (x (sporadic_task before)) 0
        ≡ sum_below (λ k. cond (above k j) (x (task_at T k)) 0) n + cond (above i j) (x (sporadic_task task)) 0
    sum_changed x j =
        omega (
          arith,
          one_changed (λ k. cond (above k j) (x (task_at T k)) 0) (λ k. cond (after k j) (x (task_at N k)) 0) i n l
              (λ k ne. ap (λ (b : Bool). cond b (x (task_at N k)) 0) (same k j)
              ∙ ap (λ (s : SporadicTask). cond (above k j) (x s) 0) (there tasks i k task ne)),
          ap (λ (b : Bool). cond b (x (task_at N i)) 0) (same i j),
          ap (λ (s : SporadicTask). cond (above i j) (x s) 0) (here tasks i task l),
          ap (λ (s : SporadicTask). cond (above i j) (x s) 0) (task_at-is tasks i task l),
        )
