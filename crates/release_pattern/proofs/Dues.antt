-- The next releases of tasks as those of one moment are made.
use Rattle.std.proofs.Common.{◌≡◌, ◌≢◌, ◌⊎◌, ℕ, zero, suc, min, cond, eqb, eq-eqb, ne_eqb, ◌+◌, ◌-◌, ◌*◌, ◌/◌, ◌^◌, ◌<◌, ◌≤◌, true, false, List, [], ◌∷◌, ◌++◌, length, get_or, set, refl, sym, ◌∙◌, ap, arith, subst, inl, inr, length-set, get_or-set_same, get_or-set_other}
use Rattle.std.proofs.lemmas.Bool.{cases_eq, cases_lt, cond-true, cond-false}
use Rattle.slot_model.specs.Task.{SporadicTask, task_at}
use Rattle.slot_model.specs.Release.{releases_now, release_of, releases_at}
use Rattle.slot_model.specs.declared.job.Job.{Job}
use Rattle.release_pattern.specs.Due.{IsNext, NoneRelease}
use Rattle.release_pattern.specs.declared.jobs.Turn.{Turn}
use Rattle.release_pattern.specs.inner.Due.{AreDue, AreFirsts, IsSoonest, turn_of}
use Rattle.release_pattern.proofs.Moments.{one_releases, some_wait}

-- a moment later, where the task does not release
pub later : (b : SporadicTask) (x y n : ℕ) → IsNext b x n → x ≤ y → y ≤ n → IsNext b y n
later b x y n h a l = record { from = l; none = λ z m k. h.none z (omega arith) k; due = h.due }

-- a task passes, which has released or does not release
pub one_passes : (tasks : List SporadicTask) (p x : ℕ) (due : List ℕ) (n : ℕ) → p < length tasks → AreDue tasks p x due
    → IsNext (task_at tasks p) (x + 1) n → AreDue tasks (p + 1) x (set due p n)
one_passes tasks p x due n l h next = record {
  one_each = length-set due p n ∙ h.one_each;
  past = λ i a b. elim (cases_eq i p) [
    | inl e ↦
        subst (λ (z : ℕ). IsNext (task_at tasks z) (x + 1) (get_or (set due p n) z 0)) (sym e)
        (subst (IsNext (task_at tasks p) (x + 1)) (sym (get_or-set_same due p n 0 (omega (arith, h.one_each)))) next)
    | inr ne ↦
        subst (IsNext (task_at tasks i) (x + 1)) (sym (get_or-set_other due p i n 0 ne)) (h.past i (omega arith) b)
  ];
  to_come =
      λ i a b. subst (IsNext (task_at tasks i) x) (sym (get_or-set_other due p i n 0 (λ e. omega arith)))
      (h.to_come i (omega arith) b);
}

waiting_pass : (tasks : List SporadicTask) (p q x : ℕ) (due : List ℕ) → AreDue tasks p x due → p ≤ q
    → ((i : ℕ) → p ≤ i → i < q → i < length tasks → x < get_or due i 0) → AreDue tasks q x due
waiting_pass tasks p q x due h a l = record {
  one_each = h.one_each;
  past = λ i b m. elim (cases_lt i p) [
    | inl c ↦ h.past i c m
    | inr c ↦
        later (task_at tasks i) x (x + 1) (get_or due i 0) (h.to_come i c m) (omega arith) (omega (arith, l i c b m))
  ];
  to_come = λ i b m. h.to_come i (omega arith) m;
}

waits : (tasks : List SporadicTask) (p x i : ℕ) (due : List ℕ) → AreDue tasks p x due → p ≤ i → i < length tasks
    → x < get_or due i 0 → releases_now (task_at tasks i) x ≡ false
waits tasks p x i due h a l m = (h.to_come i a l).none x (omega arith) m

-- what a task whose moment it is does
pub is_due : (tasks : List SporadicTask) (p x : ℕ) (due : List ℕ) → AreDue tasks p x due → p < length tasks
    → get_or due p 0 ≡ x → x < 2 ^ 64 - 1 → releases_now (task_at tasks p) x ≡ true
is_due tasks p x due h l e m =
    ap (releases_now (task_at tasks p)) (sym e) ∙ (h.to_come p (omega arith) l).due (omega arith)

-- the tasks of a group so far
pub record GroupTo (tasks : List SporadicTask) (start x from place : ℕ) (old due : List ℕ) (before jobs : List Job) :
    Type 0 where
  pub jobs_so_far : (earlier : List Job) → before ≡ releases_at tasks start x from earlier
      → jobs ≡ releases_at tasks start x place earlier
  pub each : AreDue tasks place x due
  pub same : (i : ℕ) → (i < from) ⊎ (place ≤ i) → get_or due i 0 ≡ get_or old i 0

group_releases : (tasks : List SporadicTask) (start x from p n : ℕ) (old due : List ℕ) (before jobs added : List Job)
    → from ≤ p → p < length tasks → x < 2 ^ 64 - 1 → GroupTo tasks start x from p old due before jobs
    → get_or due p 0 ≡ x → IsNext (task_at tasks p) (x + 1) n → added ≡ jobs ++ release_of tasks start x p ∷ []
    → GroupTo tasks start x from (p + 1) old (set due p n) before added
group_releases tasks start x from p n old due before jobs added a l m h e is add = record {
  jobs_so_far =
      λ earlier q. add ∙ ap (λ (z : List Job). z ++ release_of tasks start x p ∷ []) (h.jobs_so_far earlier q)
      ∙ sym (one_releases tasks start x p earlier (is_due tasks p x due h.each l e m));
  each = one_passes tasks p x due n l h.each is;
  same = λ i s. elim s [
    | inl b ↦ get_or-set_other due p i n 0 (λ q. omega arith) ∙ h.same i (inl b)
    | inr b ↦ get_or-set_other due p i n 0 (λ q. omega arith) ∙ h.same i (inr (omega arith))
  ];
}

-- those that are not due yet pass
group_waits : (tasks : List SporadicTask) (start x from p q : ℕ) (old due : List ℕ) (before jobs : List Job)
    → p ≤ q → q ≤ length tasks → GroupTo tasks start x from p old due before jobs
    → ((i : ℕ) → p ≤ i → i < q → x < get_or due i 0) → GroupTo tasks start x from q old due before jobs
group_waits tasks start x from p q old due before jobs a l h later_due =
    let end : p + (q - p) ≡ q = omega arith in
    record {
      jobs_so_far =
          λ earlier e. h.jobs_so_far earlier e
          ∙ sym (some_wait tasks start x p (q - p) earlier
          (λ j b c. waits tasks p x j due h.each b (omega arith) (later_due j b (omega arith))))
          ∙ ap (λ (z : ℕ). releases_at tasks start x z earlier) end;
      each = waiting_pass tasks p q x due h.each a (λ i b c d. later_due i b c);
      same = λ i s. elim s [ inl b ↦ h.same i (inl b) | inr b ↦ h.same i (inr (omega arith)) ];
    }

-- a group before one of its turns: those before some place have passed
pub record GroupTurn (tasks : List SporadicTask) (start x from until : ℕ) (old due : List ℕ) (before jobs : List Job)
    (turn : Turn) : Type 0 where
  pub place : ℕ
  pub begun : from ≤ place
  pub within : place ≤ until
  pub so_far : GroupTo tasks start x from place old due before jobs
  pub turn_is : IsSoonest due from until turn

-- a task that is due has not passed yet
to_come : (tasks : List SporadicTask) (start x from until : ℕ) (old due : List ℕ) (before jobs : List Job)
    (turn : Turn) → until ≤ length tasks → x < 2 ^ 64 - 1 → turn.moment ≡ x
    → (t : GroupTurn tasks start x from until old due before jobs turn) → t.place ≤ turn.place
to_come tasks start x from until old due before jobs turn l m e t = elim (cases_lt turn.place t.place) [
  | inl passed ↦
      let s : (turn.place < until) × (get_or due turn.place 0 ≡ turn.moment) = t.turn_is.stands (omega (arith, e)) in
      absurd (omega (arith, s.1, e, (t.so_far.each.past turn.place passed (omega (arith, s.0))).from))
  | inr later_place ↦ later_place
]

-- all before it pass
pub up_to_turn : (tasks : List SporadicTask) (start x from until : ℕ) (old due : List ℕ) (before jobs : List Job)
    (turn : Turn) → until ≤ length tasks → x < 2 ^ 64 - 1 → turn.moment ≡ x
    → GroupTurn tasks start x from until old due before jobs turn
    → GroupTo tasks start x from turn.place old due before jobs
up_to_turn tasks start x from until old due before jobs turn l m e t =
    group_waits tasks start x from t.place turn.place old due before jobs
    (to_come tasks start x from until old due before jobs turn l m e t)
    (omega (arith, (t.turn_is.stands (omega (arith, e))).0)) t.so_far
    (λ i a b. omega (
      arith,
      e,
      t.turn_is.first i (omega (arith, t.begun)) (omega (arith, b, (t.turn_is.stands (omega (arith, e))).0)) b,
    ))

-- so it releases
pub turn_releases : (tasks : List SporadicTask) (start x from until : ℕ) (old due : List ℕ) (before jobs : List Job)
    (turn : Turn) → until ≤ length tasks → x < 2 ^ 64 - 1 → turn.moment ≡ x
    → GroupTurn tasks start x from until old due before jobs turn
    → releases_now (task_at tasks turn.place) x ≡ true
turn_releases tasks start x from until old due before jobs turn l m e t =
    let s : (turn.place < until) × (get_or due turn.place 0 ≡ turn.moment) = t.turn_is.stands (omega (arith, e)) in
    is_due tasks turn.place x due (up_to_turn tasks start x from until old due before jobs turn l m e t).each
    (omega (arith, s.0)) (s.1 ∙ e) m

pub next_turn : (tasks : List SporadicTask) (start x from until n : ℕ) (old due : List ℕ) (before jobs added : List Job)
    (turn next : Turn) → until ≤ length tasks → x < 2 ^ 64 - 1 → turn.moment ≡ x
    → GroupTurn tasks start x from until old due before jobs turn → IsNext (task_at tasks turn.place) (x + 1) n
    → added ≡ jobs ++ release_of tasks start x turn.place ∷ [] → IsSoonest (set due turn.place n) from until next
    → GroupTurn tasks start x from until old (set due turn.place n) before added next
next_turn tasks start x from until n old due before jobs added turn next l m e t is add soonest =
    let s : (turn.place < until) × (get_or due turn.place 0 ≡ turn.moment) = t.turn_is.stands (omega (arith, e)) in
    record {
      place = turn.place + 1;
      begun = omega (arith, t.turn_is.past);
      within = omega (arith, s.0);
      so_far =
          group_releases tasks start x from turn.place n old due before jobs added t.turn_is.past
          (omega (arith, s.0)) m (up_to_turn tasks start x from until old due before jobs turn l m e t) (s.1 ∙ e) is
          add;
      turn_is = soonest;
    }

-- a turn after it is at a later place
pub next_later : (tasks : List SporadicTask) (start x from until n : ℕ) (old due : List ℕ)
    (before jobs added : List Job) (turn next : Turn) → until ≤ length tasks → x < 2 ^ 64 - 1 → turn.moment ≡ x
    → GroupTurn tasks start x from until old due before jobs turn → IsNext (task_at tasks turn.place) (x + 1) n
    → added ≡ jobs ++ release_of tasks start x turn.place ∷ [] → IsSoonest (set due turn.place n) from until next
    → next.moment ≡ x → turn.place < next.place
unfolding next_turn
next_later tasks start x from until n old due before jobs added turn next l m e t is add soonest f =
    let past : turn.place + 1 ≤ next.place
    = to_come tasks start x from until old (set due turn.place n) before added next l m f
    (next_turn tasks start x from until n old due before jobs added turn next l m e t is add soonest) in
    omega (arith, past)

-- where the soonest is not due, all is later
later_turn : (x p from until : ℕ) (tasks : List SporadicTask) (due : List ℕ) (turn : Turn) → until ≤ length tasks
    → x < 2 ^ 64 - 1 → AreDue tasks p x due → IsSoonest due from until turn → turn.moment ≢ x → x < turn.moment
later_turn x p from until tasks due turn l m h is ne = elim (cases_lt turn.moment (2 ^ 64 - 1)) [
  | inl fits ↦
      (let s : (turn.place < until) × (get_or due turn.place 0 ≡ turn.moment) = is.stands fits in
      elim (cases_lt turn.place p) [
        | inl passed ↦ omega (arith, s.1, (h.past turn.place passed (omega (arith, s.0))).from)
        | inr comes ↦ omega (arith, s.1, (h.to_come turn.place comes (omega (arith, s.0))).from, ne)
      ])
  | inr most ↦ omega arith
]

-- the group is over
pub group_later : (tasks : List SporadicTask) (start x from until : ℕ) (old due : List ℕ) (before jobs : List Job)
    (turn : Turn) → until ≤ length tasks → x < 2 ^ 64 - 1 → turn.moment ≢ x
    → GroupTurn tasks start x from until old due before jobs turn → x < turn.moment
group_later tasks start x from until old due before jobs turn l m ne t =
    later_turn x t.place from until tasks due turn l m t.so_far.each t.turn_is ne

pub group_over : (tasks : List SporadicTask) (start x from until : ℕ) (old due : List ℕ) (before jobs : List Job)
    (turn : Turn) → until ≤ length tasks → x < 2 ^ 64 - 1 → turn.moment ≢ x
    → GroupTurn tasks start x from until old due before jobs turn
    → GroupTo tasks start x from until old due before jobs
group_over tasks start x from until old due before jobs turn l m ne t =
    group_waits tasks start x from t.place until old due before jobs t.within l t.so_far
    (λ i a b. omega (
      arith,
      group_later tasks start x from until old due before jobs turn l m ne t,
      t.turn_is.least i (omega (arith, t.begun)) b,
    ))

-- what is left of a loop over turns: the places from the turn on, while it is due
pub shrinks : (m n x p q until : ℕ) → m ≡ x → p < until → (n ≡ x → p < q)
    → cond {A = ℕ} (eqb n x) (until - q) 0 < cond {A = ℕ} (eqb m x) (until - p) 0
shrinks m n x p q until e l h = elim (cases_eq n x) [
  | inl f ↦
      omega (
        arith,
        h f,
        cond-true {A = ℕ} (eqb n x) (until - q) 0 (eq-eqb n x f),
        cond-true {A = ℕ} (eqb m x) (until - p) 0 (eq-eqb m x e),
      )
  | inr ne ↦
      omega (
        arith,
        cond-false {A = ℕ} (eqb n x) (until - q) 0 (ne_eqb n x ne),
        cond-true {A = ℕ} (eqb m x) (until - p) 0 (eq-eqb m x e),
      )
]

-- all tasks are before a place that is past the last
pub past_last : (tasks : List SporadicTask) (p q x : ℕ) (due : List ℕ) → AreDue tasks p x due → min q (length tasks) ≤ p
    → p ≤ q → AreDue tasks q x due
past_last tasks p q x due h l m =
    record
    { one_each = h.one_each; past = λ i a b. h.past i (omega arith) b; to_come = λ i a b. h.to_come i (omega arith) b }

-- a turn among moments that are the same there
same_soonest : (old new : List ℕ) (from until : ℕ) (turn now : Turn) → IsSoonest old from until turn
    → now.moment ≡ turn.moment → now.place ≡ turn.place
    → ((i : ℕ) → from ≤ i → i < until → get_or new i 0 ≡ get_or old i 0) → IsSoonest new from until now
same_soonest old new from until turn now h moment place same = record {
  past = omega (arith, h.past, place);
  least = λ i a b. omega (arith, moment, h.least i a b, same i a b);
  stands =
      λ l. let s : (turn.place < until) × (get_or old turn.place 0 ≡ turn.moment)
      = h.stands (omega (arith, l, moment)) in (
        omega (arith, s.0, place),
        ap (λ (z : ℕ). get_or new z 0) place ∙ (same turn.place h.past s.0 ∙ (s.1 ∙ sym moment)),
      );
  first = λ i a b c. omega (arith, moment, h.first i a b (omega (arith, c, place)), same i a b);
}

-- the groups so far
pub record MomentTo (tasks : List SporadicTask) (start x g : ℕ) (before jobs : List Job) (due groups offsets : List ℕ) :
    Type 0 where
  pub jobs_so_far : jobs ≡ releases_at tasks start x (min (8 * g) (length tasks)) before
  pub each : AreDue tasks (8 * g) x due
  pub firsts : AreFirsts due groups offsets g x

moment_group : (tasks : List SporadicTask) (start x g : ℕ) (next : Turn) (before jobs added : List Job)
    (due new groups offsets : List ℕ) → g < length groups → 8 * g ≤ length tasks
    → MomentTo tasks start x g before jobs due groups offsets
    → added ≡ releases_at tasks start x (min (8 * g + 8) (length tasks)) before → AreDue tasks (8 * g + 8) x new
    → ((i : ℕ) → (i < 8 * g) ⊎ (8 * g + 8 ≤ i) → get_or new i 0 ≡ get_or due i 0)
    → x < next.moment → IsSoonest new (8 * g) (min (8 * g + 8) (length tasks)) next
    → MomentTo tasks start x (g + 1) before added new (set groups g next.moment) (set offsets g (next.place - 8 * g))
moment_group tasks start x g next before jobs added due new groups offsets l in_tasks h add each same after is =
    let marks : List ℕ = set groups g next.moment in
    let places : List ℕ = set offsets g (next.place - 8 * g) in
    let here : get_or marks g 0 ≡ next.moment = get_or-set_same groups g next.moment 0 l in
    let there : get_or places g 0 ≡ next.place - 8 * g
    = get_or-set_same offsets g (next.place - 8 * g) 0 (omega (arith, h.firsts.one_each)) in
    let next_group : 8 * g + 8 ≡ 8 * (g + 1) = omega arith in
    record {
      jobs_so_far = add ∙ ap (λ (z : ℕ). releases_at tasks start x (min z (length tasks)) before) next_group;
      each = subst (λ (z : ℕ). AreDue tasks z x new) next_group each;
      firsts = record {
        one_each =
            omega (
              arith,
              h.firsts.one_each,
              length-set groups g next.moment,
              length-set offsets g (next.place - 8 * g),
            );
        past = λ k a b. elim (cases_eq k g) [
          | inl e ↦ omega (arith, ap (λ (z : ℕ). get_or marks z 0) e)
          | inr ne ↦
              omega (
                arith,
                get_or-set_other groups g k next.moment 0 ne,
                h.firsts.past k (omega arith) (omega (arith, length-set groups g next.moment)),
              )
        ];
        to_come =
            λ k a b. omega (
              arith,
              get_or-set_other groups g k next.moment 0 (λ e. omega arith),
              h.firsts.to_come k (omega arith) (omega (arith, length-set groups g next.moment)),
            );
        first = λ k a. elim (cases_eq k g) [
          | inl e ↦
              subst (λ (z : ℕ). IsSoonest new (8 * z) (min (8 * z + 8) (length new)) (turn_of marks places z)) (sym e)
              (same_soonest new new (8 * g) (min (8 * g + 8) (length new)) next (turn_of marks places g)
              (subst (λ (z : ℕ). IsSoonest new (8 * g) (min (8 * g + 8) z) next) (sym each.one_each) is) here
              (omega (arith, there, is.past)) (λ i b c. refl))
          | inr ne ↦
              same_soonest due new (8 * k) (min (8 * k + 8) (length new)) (turn_of groups offsets k)
              (turn_of marks places k)
              (subst (λ (z : ℕ). IsSoonest due (8 * k) (min (8 * k + 8) z) (turn_of groups offsets k))
              (h.each.one_each ∙ sym each.one_each)
              (h.firsts.first k (omega (arith, a, length-set groups g next.moment))))
              (get_or-set_other groups g k next.moment 0 ne)
              (omega (arith, get_or-set_other offsets g k (next.place - 8 * g) 0 ne))
              (λ i b c. same i (apart k i ne b (omega (arith, c))))
        ];
      };
    }
  where
    apart : (k i : ℕ) → k ≢ g → 8 * k ≤ i → i < 8 * k + 8 → (i < 8 * g) ⊎ (8 * g + 8 ≤ i)
    apart k i ne b c = elim (cases_lt k g) [ inl m ↦ inl (omega arith) | inr m ↦ inr (omega (arith, ne)) ]

-- no task of a group releases before its turn
pub no_sooner : (tasks : List SporadicTask) (start x g : ℕ) (before jobs : List Job) (due groups offsets : List ℕ)
    → MomentTo tasks start x g before jobs due groups offsets → (k i : ℕ) → k < length groups → 8 * k ≤ i
    → i < 8 * k + 8 → i < length tasks → get_or groups k 0 ≤ get_or due i 0
no_sooner tasks start x g before jobs due groups offsets h k i l a b c =
    (h.firsts.first k l).least i a (omega (arith, h.each.one_each, b, c))

moment_waits : (tasks : List SporadicTask) (start x g : ℕ) (before jobs : List Job) (due groups offsets : List ℕ)
    → g < length groups → 8 * g ≤ length tasks → MomentTo tasks start x g before jobs due groups offsets
    → x < get_or groups g 0 → MomentTo tasks start x (g + 1) before jobs due groups offsets
moment_waits tasks start x g before jobs due groups offsets l in_tasks h past =
    let k : ℕ = min (8 * (g + 1)) (length tasks) - 8 * g in
    let end : 8 * g + k ≡ min (8 * (g + 1)) (length tasks) = omega arith in
    let begin : min (8 * g) (length tasks) ≡ 8 * g = omega arith in
    record {
      jobs_so_far = h.jobs_so_far ∙ ap (λ (z : ℕ). releases_at tasks start x z before) begin
          ∙ sym (some_wait tasks start x (8 * g) k before (λ j a b. waits tasks (8 * g) x j due h.each a (omega arith)
          (omega (
            arith,
            past,
            no_sooner tasks start x g before jobs due groups offsets h g j l a (omega arith) (omega arith),
          ))))
          ∙ ap (λ (z : ℕ). releases_at tasks start x z before) end;
      each =
          waiting_pass tasks (8 * g) (8 * (g + 1)) x due h.each (omega arith)
          (λ i a b c. omega (
            arith,
            past,
            no_sooner tasks start x g before jobs due groups offsets h g i l a (omega arith) c,
          ));
      firsts = record {
        one_each = h.firsts.one_each;
        past =
            λ k a b. elim (cases_eq k g) [
              | inl e ↦
                  omega (arith, past, ap (λ (z : ℕ). get_or groups z 0) e)
              | inr other ↦ h.firsts.past k (omega arith) b
            ];
        to_come = λ k a b. h.firsts.to_come k (omega arith) b;
        first = h.firsts.first;
      };
    }

moments_wait : (tasks : List SporadicTask) (start x g k : ℕ) (before jobs : List Job) (due groups offsets : List ℕ)
    → g + k ≤ length groups → 8 * length groups ≤ length tasks + 7
    → MomentTo tasks start x g before jobs due groups offsets
    → ((h : ℕ) → g ≤ h → h < g + k → x < get_or groups h 0)
    → MomentTo tasks start x (g + k) before jobs due groups offsets
moments_wait tasks start x g zero before jobs due groups offsets l no_more h past =
    subst (λ (z : ℕ). MomentTo tasks start x z before jobs due groups offsets)
    (let e : g ≡ g + 0 = omega arith in e) h
moments_wait tasks start x g (suc k) before jobs due groups offsets l no_more h past =
    subst (λ (z : ℕ). MomentTo tasks start x z before jobs due groups offsets)
    (let e : (g + k) + 1 ≡ g + suc k = omega arith in e)
    (moment_waits tasks start x (g + k) before jobs due groups offsets (omega arith) (omega arith)
    (moments_wait tasks start x g k before jobs due groups offsets (omega arith) no_more h
    (λ i a b. past i a (omega arith)))
    (past (g + k) (omega arith) (omega arith)))

-- a moment before one of its turns: some groups have passed
pub record MomentTurn (tasks : List SporadicTask) (start x : ℕ) (before jobs : List Job)
    (due groups offsets : List ℕ) (turn : Turn) : Type 0 where
  pub group : ℕ
  pub within : group ≤ length groups
  pub so_far : MomentTo tasks start x group before jobs due groups offsets
  pub no_more : 8 * length groups ≤ length tasks + 7
  pub turn_is : IsSoonest groups 0 (length groups) turn

-- a group that is due has not passed yet
group_to_come : (tasks : List SporadicTask) (start x : ℕ) (before jobs : List Job) (due groups offsets : List ℕ)
    (turn : Turn) → x < 2 ^ 64 - 1 → turn.moment ≡ x
    → (t : MomentTurn tasks start x before jobs due groups offsets turn) → t.group ≤ turn.place
group_to_come tasks start x before jobs due groups offsets turn m e t = elim (cases_lt turn.place t.group) [
  | inl passed ↦
      let s : (turn.place < length groups) × (get_or groups turn.place 0 ≡ turn.moment)
      = t.turn_is.stands (omega (arith, e)) in
      absurd (omega (arith, s.1, e, t.so_far.firsts.past turn.place passed s.0))
  | inr later_place ↦ later_place
]

pub up_to_group : (tasks : List SporadicTask) (start x : ℕ) (before jobs : List Job) (due groups offsets : List ℕ)
    (turn : Turn) → x < 2 ^ 64 - 1 → turn.moment ≡ x → MomentTurn tasks start x before jobs due groups offsets turn
    → MomentTo tasks start x turn.place before jobs due groups offsets
up_to_group tasks start x before jobs due groups offsets turn m e t =
    let s : (turn.place < length groups) × (get_or groups turn.place 0 ≡ turn.moment)
    = t.turn_is.stands (omega (arith, e)) in
    let k : ℕ = turn.place - t.group in
    let end : t.group + k ≡ turn.place
    = omega (arith, group_to_come tasks start x before jobs due groups offsets turn m e t) in
    subst (λ (z : ℕ). MomentTo tasks start x z before jobs due groups offsets) end
    (moments_wait tasks start x t.group k before jobs due groups offsets (omega (arith, s.0, end)) t.no_more t.so_far
    (λ h a b. omega (
      arith,
      e,
      t.turn_is.first h (omega arith) (omega (arith, b, end, s.0)) (omega (arith, b, end)),
    )))

-- the first turn of that group
pub group_turn : (tasks : List SporadicTask) (start x : ℕ) (before jobs : List Job) (due groups offsets : List ℕ)
    (turn first : Turn) → x < 2 ^ 64 - 1 → turn.moment ≡ x
    → MomentTurn tasks start x before jobs due groups offsets turn → first.moment ≡ x
    → first.place ≡ 8 * turn.place + get_or offsets turn.place 0
    → IsSoonest due (8 * turn.place) (min (8 * turn.place + 8) (length tasks)) first
group_turn tasks start x before jobs due groups offsets turn first m e t moment place =
    let s : (turn.place < length groups) × (get_or groups turn.place 0 ≡ turn.moment)
    = t.turn_is.stands (omega (arith, e)) in
    same_soonest due due (8 * turn.place) (min (8 * turn.place + 8) (length tasks))
    (turn_of groups offsets turn.place) first
    (subst (λ (z : ℕ). IsSoonest due (8 * turn.place) (min (8 * turn.place + 8) z) (turn_of groups offsets turn.place))
    t.so_far.each.one_each (t.so_far.firsts.first turn.place s.0))
    (omega (arith, moment, e, s.1)) place (λ i a b. refl)

pub next_group : (tasks : List SporadicTask) (start x : ℕ) (before jobs added : List Job)
    (due new groups offsets : List ℕ) (turn first next : Turn) → x < 2 ^ 64 - 1 → turn.moment ≡ x
    → MomentTurn tasks start x before jobs due groups offsets turn
    → added ≡ releases_at tasks start x (min (8 * turn.place + 8) (length tasks)) before
    → AreDue tasks (8 * turn.place + 8) x new
    → ((i : ℕ) → (i < 8 * turn.place) ⊎ (8 * turn.place + 8 ≤ i) → get_or new i 0 ≡ get_or due i 0)
    → x < first.moment → IsSoonest new (8 * turn.place) (min (8 * turn.place + 8) (length tasks)) first
    → IsSoonest (set groups turn.place first.moment) 0 (length groups) next
    → MomentTurn tasks start x before added new (set groups turn.place first.moment)
    (set offsets turn.place (first.place - 8 * turn.place)) next × (next.moment ≡ x → turn.place < next.place)
next_group tasks start x before jobs added due new groups offsets turn first next m e t add each same after is soonest =
    let s : (turn.place < length groups) × (get_or groups turn.place 0 ≡ turn.moment)
    = t.turn_is.stands (omega (arith, e)) in
    let long : length (set groups turn.place first.moment) ≡ length groups
    = length-set groups turn.place first.moment in
    let t' : MomentTurn tasks start x before added new (set groups turn.place first.moment)
    (set offsets turn.place (first.place - 8 * turn.place)) next = record {
      group = turn.place + 1;
      within = omega (arith, long, s.0);
      so_far =
          moment_group tasks start x turn.place first before jobs added due new groups offsets s.0
          (omega (arith, s.0, t.no_more)) (up_to_group tasks start x before jobs due groups offsets turn m e t) add
          each same after is;
      no_more = omega (arith, long, t.no_more);
      turn_is =
          subst (λ (z : ℕ). IsSoonest (set groups turn.place first.moment) 0 z next) (sym long) soonest;
    } in (
      t',
      λ f. let past : turn.place + 1 ≤ next.place
          = group_to_come tasks start x before added new (set groups turn.place first.moment)
          (set offsets turn.place (first.place - 8 * turn.place)) next m f t' in
          omega (arith, past),
    )

-- the moment is over
pub moment_later : (tasks : List SporadicTask) (start x : ℕ) (before jobs : List Job) (due groups offsets : List ℕ)
    (turn : Turn) → x < 2 ^ 64 - 1 → turn.moment ≢ x → MomentTurn tasks start x before jobs due groups offsets turn
    → x < turn.moment
moment_later tasks start x before jobs due groups offsets turn m ne t = elim (cases_lt turn.moment (2 ^ 64 - 1)) [
  | inl fits ↦
      (let s : (turn.place < length groups) × (get_or groups turn.place 0 ≡ turn.moment) = t.turn_is.stands fits in
      elim (cases_lt turn.place t.group) [
        | inl passed ↦ omega (arith, s.1, t.so_far.firsts.past turn.place passed s.0)
        | inr comes ↦ omega (arith, s.1, t.so_far.firsts.to_come turn.place comes s.0, ne)
      ])
  | inr most ↦ omega arith
]

pub moment_over : (tasks : List SporadicTask) (start x : ℕ) (before jobs : List Job) (due groups offsets : List ℕ)
    (turn : Turn) → x < 2 ^ 64 - 1 → turn.moment ≢ x → MomentTurn tasks start x before jobs due groups offsets turn
    → MomentTo tasks start x (length groups) before jobs due groups offsets
moment_over tasks start x before jobs due groups offsets turn m ne t =
    let k : ℕ = length groups - t.group in
    let end : t.group + k ≡ length groups = omega (arith, t.within) in
    subst (λ (z : ℕ). MomentTo tasks start x z before jobs due groups offsets) end
    (moments_wait tasks start x t.group k before jobs due groups offsets (omega (arith, end)) t.no_more t.so_far
    (λ h a b. omega (
      arith,
      moment_later tasks start x before jobs due groups offsets turn m ne t,
      t.turn_is.least h (omega arith) (omega (arith, b, end)),
    )))

-- the group of a task, and when it releases next
in_group : (tasks : List SporadicTask) (start x : ℕ) (before jobs : List Job) (due groups offsets : List ℕ)
    (turn : Turn) → x < 2 ^ 64 - 1 → turn.moment ≢ x → MomentTurn tasks start x before jobs due groups offsets turn
    → length tasks ≤ 8 * length groups → (i : ℕ) → i < length tasks → turn.moment ≤ get_or due i 0
in_group tasks start x before jobs due groups offsets turn m ne t all i l =
    omega (
      arith,
      t.turn_is.least (i / 8) (omega arith) (omega arith),
      no_sooner tasks start x (length groups) before jobs due groups offsets
          (moment_over tasks start x before jobs due groups offsets turn m ne t) (i / 8) i (omega arith) (omega arith)
          (omega arith) l,
    )

pub none_before_next : (tasks : List SporadicTask) (start x : ℕ) (before jobs : List Job)
    (due groups offsets : List ℕ) (turn : Turn) → x < 2 ^ 64 - 1 → turn.moment ≢ x
    → MomentTurn tasks start x before jobs due groups offsets turn → length tasks ≤ 8 * length groups
    → NoneRelease tasks (x + 1) turn.moment
none_before_next tasks start x before jobs due groups offsets turn m ne t all i y l a b =
    ((moment_over tasks start x before jobs due groups offsets turn m ne t).each.past i (omega arith) l).none y a
    (omega (arith, in_group tasks start x before jobs due groups offsets turn m ne t all i l))

pub due_next : (tasks : List SporadicTask) (start x : ℕ) (before jobs : List Job) (due groups offsets : List ℕ)
    (turn : Turn) → x < 2 ^ 64 - 1 → turn.moment ≢ x → MomentTurn tasks start x before jobs due groups offsets turn
    → length tasks ≤ 8 * length groups → AreDue tasks 0 turn.moment due
due_next tasks start x before jobs due groups offsets turn m ne t all =
    let over : MomentTo tasks start x (length groups) before jobs due groups offsets
    = moment_over tasks start x before jobs due groups offsets turn m ne t in
    record {
      one_each = over.each.one_each;
      past = λ i a. absurd (omega arith);
      to_come =
          λ i a l. later (task_at tasks i) (x + 1) turn.moment (get_or due i 0) (over.each.past i (omega arith) l)
          (omega (arith, moment_later tasks start x before jobs due groups offsets turn m ne t))
          (in_group tasks start x before jobs due groups offsets turn m ne t all i l);
    }

pub firsts_next : (tasks : List SporadicTask) (start x : ℕ) (before jobs : List Job) (due groups offsets : List ℕ)
    (turn : Turn) → MomentTurn tasks start x before jobs due groups offsets turn
    → AreFirsts due groups offsets 0 turn.moment
firsts_next tasks start x before jobs due groups offsets turn t = record {
  one_each = t.so_far.firsts.one_each;
  past = λ k a. absurd (omega arith);
  to_come = λ k a b. t.turn_is.least k (omega arith) b;
  first = t.so_far.firsts.first;
}
