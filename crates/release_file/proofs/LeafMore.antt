-- The jobs of a part, one job later.
use Rattle.std.proofs.Common.{◌≡◌, ◌≢◌, ℕ, ◌+◌, ◌-◌, ◌^◌, min, ◌<◌, ◌≤◌, nat_lt, nat_le, Bool, true, false, not, eqb, List, [], ◌∷◌, ◌++◌, length, get_or, set, Option, Some, None, refl, sym, ◌∙◌, ap, subst, arith, inl, inr, leb-true, ltb-true}
use Rattle.std.specs.List.{list_any}
use Rattle.std.proofs.lemmas.Bool.{cases_eq, and_left, and_right, and_from, and_parts, and_cases, eq-eqb, ne_eqb, both_ways, le-ltb, ltb-false, false_from_ne_true}
use Rattle.std.proofs.lemmas.List.{get_or_append_left, get_or_default, get_or-set_same, get_or-set_other, length-set, length-map}
use Rattle.std.proofs.lemmas.List.Folds.{list_any_at, list_any_none}
use Rattle.std.proofs.Math.Seq.{get_or-append_seam}
use Rattle.slot_model.specs.declared.job.Job.{Job}
use Rattle.slot_model.specs.Task.{SporadicTask, default_job, task_at, job_at, ArrivesAfter}
use Rattle.slot_model.specs.Release.{LegalRelease, fits_task}
use Rattle.slot_model.proofs.Places.{each_pushed}
use Rattle.csv_rows.specs.Rules.{fault_if}
use Rattle.csv_rows.proofs.Keeping.{length_more}
use Rattle.tree_model.specs.View.{NamedTask, PartView}
use Rattle.tree_model.specs.System.{IsPart, own_tasks}
use Rattle.release_file.specs.declared.fault.ReleaseFault.TheVariants.{OutOfRange, TooEarly}
use Rattle.release_file.specs.declared.leaf_rows.LeafRows.{LeafRows}
use Rattle.release_file.specs.ReleaseFile.{comes_too_soon, is_too_early, job_fault, task_names}
use Rattle.release_file.specs.inner.ReleasesTaken.{IsLast, last_of, follows_too_soon, IsLeaf}

job_same : (js more : List Job) (i : ℕ) → i < length js → job_at (js ++ more) i ≡ job_at js i
job_same js more i l = get_or_append_left js more default_job i l

job_last : (js : List Job) (j : Job) → job_at (js ++ j ∷ []) (length js) ≡ j
job_last js j = get_or-append_seam js j [] default_job

-- a number that is told up to the greatest of 64 bits, and within a smaller limit
pub is_told : (n k limit : ℕ) → n ≡ min k (2 ^ 64 - 1) → n ≤ limit → limit < 2 ^ 64 - 1 → n ≡ k
is_told n k limit e l few = omega (arith, e, l, few)

-- a test that passes nowhere
none_any : {A : Type 0} (p : A → Bool) (xs : List A) (d : A) → ((i : ℕ) → i < length xs → p (get_or xs i d) ≡ false)
    → list_any p xs ≡ false
none_any p xs d h = list_any_none p xs (λ k e l. ap p (get_or_default xs k e d l) ∙ h k l)

-- legal jobs come a period after one another, so a job that does not come too soon after the last
-- of its task does not come too soon after any
pub too_early_is : (tasks : List SporadicTask) (jobs : List Job) (job : Job) (o : Option Job) → LegalRelease tasks jobs
    → IsLast jobs job.task o → is_too_early tasks jobs job ≡ follows_too_soon (task_at tasks job.task).period job o
too_early_is tasks jobs job None legal none =
    let P : ℕ = (task_at tasks job.task).period in
    none_any (comes_too_soon P job) jobs default_job (λ i l. and_left (eqb (job_at jobs i).task job.task)
    (nat_lt (job.release + (job_at jobs i).early) ((job_at jobs i).release + P + job.early))
    (ne_eqb (job_at jobs i).task job.task (none i l)))
too_early_is tasks jobs job (Some b) legal last = go (nat_lt (job.release + b.early) (b.release + P + job.early)) refl
  where
    P : ℕ
    P = (task_at tasks job.task).period

    late : nat_lt (job.release + b.early) (b.release + (task_at tasks job.task).period + job.early) ≡ false → (i : ℕ)
        → i < length jobs → (job_at jobs i).task ≡ job.task
        → (job_at jobs i).release + (task_at tasks job.task).period + job.early ≤ job.release + (job_at jobs i).early
    late e i l same =
        let b_late : b.release + (task_at tasks job.task).period + job.early ≤ job.release + b.early
        = ltb-false (job.release + b.early) (b.release + (task_at tasks job.task).period + job.early) e in
        elim (cases_eq i last.place) [
          | inl q ↦
              let is : job_at jobs i ≡ b = ap (job_at jobs) q ∙ last.is in
              omega (arith, b_late, ap (λ (j : Job). j.release) is, ap (λ (j : Job). j.early) is)
          | inr ne ↦
              let before : i < last.place = omega (arith, last.last i l same, ne) in
              let there : (job_at jobs last.place).task ≡ job.task = ap (λ (j : Job). j.task) last.is ∙ last.of_task in
              let apart : ArrivesAfter (job_at jobs i) (task_at tasks (job_at jobs i).task).period
              (job_at jobs last.place)
              = legal.apart i last.place before last.within (same ∙ sym there) in
              omega (
                arith,
                b_late,
                apart,
                ap (λ (t : ℕ). (task_at tasks t).period) same,
                ap (λ (j : Job). j.release) last.is,
                ap (λ (j : Job). j.early) last.is,
              )
        ]

    go : (t : Bool) → nat_lt (job.release + b.early) (b.release + (task_at tasks job.task).period + job.early) ≡ t
        → is_too_early tasks jobs job
        ≡ nat_lt (job.release + b.early) (b.release + (task_at tasks job.task).period + job.early)
    go true e =
        list_any_at (comes_too_soon (task_at tasks job.task).period job) jobs last.place default_job last.within
        (ap (comes_too_soon (task_at tasks job.task).period job) last.is
        ∙ and_from (eqb b.task job.task)
        (nat_lt (job.release + b.early) (b.release + (task_at tasks job.task).period + job.early))
        (eq-eqb b.task job.task last.of_task) e)
        ∙ sym e
    go false e =
        none_any (comes_too_soon (task_at tasks job.task).period job) jobs default_job
        (λ i l. elim (cases_eq (job_at jobs i).task job.task) [
          | inl same ↦
              and_right (eqb (job_at jobs i).task job.task) (nat_lt (job.release + (job_at jobs i).early)
              ((job_at jobs i).release + (task_at tasks job.task).period + job.early))
              (le-ltb (job.release + (job_at jobs i).early)
              ((job_at jobs i).release + (task_at tasks job.task).period + job.early) (late e i l same))
          | inr other ↦
              and_left (eqb (job_at jobs i).task job.task) (nat_lt (job.release + (job_at jobs i).early)
              ((job_at jobs i).release + (task_at tasks job.task).period + job.early))
              (ne_eqb (job_at jobs i).task job.task other)
        ])
        ∙ sym e

-- what holds of each job before and of the new one
each_more : (js : List Job) (j : Job) (P : Job → Type 0) → ((i : ℕ) → i < length js → P (job_at js i)) → P j → (i : ℕ)
    → i < length (js ++ j ∷ []) → P (job_at (js ++ j ∷ []) i)
each_more js j P old new i l =
    each_pushed (λ _. P) default_job js j (length js) refl old new i (omega (arith, l, length_more js j))

pub legal_more : (tasks : List SporadicTask) (jobs : List Job) (job : Job) → LegalRelease tasks jobs
    → fits_task tasks job ≡ true → is_too_early tasks jobs job ≡ false → LegalRelease tasks (jobs ++ job ∷ [])
legal_more tasks jobs job legal fits apart = record {
  named = each_more jobs job (λ j. j.task < length tasks) legal.named named;
  works = each_more jobs job (λ j. 1 ≤ j.work) legal.works works;
  in_work = each_more jobs job (λ j. j.work ≤ (task_at tasks j.task).work) legal.in_work in_work;
  in_jitter = each_more jobs job (λ j. j.early ≤ (task_at tasks j.task).jitter) legal.in_jitter in_jitter;
  apart = both;
}
  where
    three : (nat_lt job.task (length tasks) ≡ true) × (nat_le 1 job.work ≡ true)
        × (nat_le job.work (task_at tasks job.task).work ≡ true)
        × (nat_le job.early (task_at tasks job.task).jitter ≡ true)
    three =
        let a = and_parts _ _ fits in
        let b = and_parts _ _ a.0 in
        let d = and_parts _ _ b.0 in
        (d.0, d.1, b.1, a.1)

    named : job.task < length tasks
    named = ltb-true job.task (length tasks) three.0

    works : 1 ≤ job.work
    works = leb-true 1 job.work three.1

    in_work : job.work ≤ (task_at tasks job.task).work
    in_work = leb-true job.work (task_at tasks job.task).work three.2

    in_jitter : job.early ≤ (task_at tasks job.task).jitter
    in_jitter = leb-true job.early (task_at tasks job.task).jitter three.3

    new : (i : ℕ) → i < length jobs → (job_at jobs i).task ≡ job.task
        → ArrivesAfter (job_at jobs i) (task_at tasks (job_at jobs i).task).period job
    new i l same =
        let soon : comes_too_soon (task_at tasks job.task).period job (job_at jobs i) ≡ false =
        false_from_ne_true (comes_too_soon (task_at tasks job.task).period job (job_at jobs i))
        (λ t. both_ways (is_too_early tasks jobs job) apart
        (list_any_at (comes_too_soon (task_at tasks job.task).period job) jobs i default_job l t)) in
        elim (and_cases (eqb (job_at jobs i).task job.task) (nat_lt (job.release + (job_at jobs i).early)
        ((job_at jobs i).release + (task_at tasks job.task).period + job.early)) soon) [
          | inl other ↦
              absurd (both_ways (eqb (job_at jobs i).task job.task) other (eq-eqb (job_at jobs i).task job.task same))
          | inr late ↦ let p =
              ap (λ (t : ℕ). (task_at tasks t).period) same in omega (
                arith,
                p,
                ltb-false (job.release + (job_at jobs i).early)
                    ((job_at jobs i).release + (task_at tasks job.task).period + job.early) late,
              )
        ]

    both : (i j : ℕ) → i < j → j < length (jobs ++ job ∷ [])
        → (job_at (jobs ++ job ∷ []) i).task ≡ (job_at (jobs ++ job ∷ []) j).task
        → ArrivesAfter (job_at (jobs ++ job ∷ []) i) (task_at tasks (job_at (jobs ++ job ∷ []) i).task).period
        (job_at (jobs ++ job ∷ []) j)
    both i j l m same = elim (cases_eq j (length jobs)) [
      | inl e ↦
          let i_is : job_at (jobs ++ job ∷ []) i ≡ job_at jobs i = job_same jobs (job ∷ []) i (omega (arith, l, e)) in
          let j_is : job_at (jobs ++ job ∷ []) j ≡ job = ap (job_at (jobs ++ job ∷ [])) e ∙ job_last jobs job in
          subst (λ (x : Job). ArrivesAfter x (task_at tasks x.task).period (job_at (jobs ++ job ∷ []) j)) (sym i_is)
          (subst (λ (y : Job). ArrivesAfter (job_at jobs i) (task_at tasks (job_at jobs i).task).period y)
          (sym j_is)
          (new i (omega (arith, l, e)) (sym (ap (λ (x : Job). x.task) i_is) ∙ (same ∙ ap (λ (x : Job). x.task) j_is))))
      | inr ne ↦
          let n : j < length jobs = omega (arith, m, ne, length_more jobs job) in
          let i_is : job_at (jobs ++ job ∷ []) i ≡ job_at jobs i = job_same jobs (job ∷ []) i (omega (arith, l, n)) in
          let j_is : job_at (jobs ++ job ∷ []) j ≡ job_at jobs j = job_same jobs (job ∷ []) j n in
          subst (λ (x : Job). ArrivesAfter x (task_at tasks x.task).period (job_at (jobs ++ job ∷ []) j)) (sym i_is)
          (subst (λ (y : Job). ArrivesAfter (job_at jobs i) (task_at tasks (job_at jobs i).task).period y)
          (sym j_is)
          (legal.apart i j l n (sym (ap (λ (x : Job). x.task) i_is) ∙ (same ∙ ap (λ (x : Job). x.task) j_is))))
    ]

-- the last job of another task stays
last_kept : (jobs : List Job) (job : Job) (t : ℕ) (o : Option Job) → job.task ≢ t → IsLast jobs t o
    → IsLast (jobs ++ job ∷ []) t o
last_kept jobs job t None ne h = each_more jobs job (λ j. j.task ≢ t) h ne
last_kept jobs job t (Some b) ne h = record {
  place = h.place;
  within = omega (arith, h.within, length_more jobs job);
  is = job_same jobs (job ∷ []) h.place h.within ∙ h.is;
  of_task = h.of_task;
  last = λ i l same. elim (cases_eq i (length jobs)) [
    | inl e ↦ absurd (ne (sym (ap (λ (x : Job). x.task) (ap (job_at (jobs ++ job ∷ [])) e ∙ job_last jobs job)) ∙ same))
    | inr other ↦
        let n : i < length jobs = omega (arith, l, other, length_more jobs job) in
        h.last i n (sym (ap (λ (x : Job). x.task) (job_same jobs (job ∷ []) i n)) ∙ same)
  ];
}

last_more : (jobs : List Job) (job : Job) (last : List (Option Job)) (t : ℕ) → t < length last
    → IsLast jobs t (last_of last t) → IsLast (jobs ++ job ∷ []) t (last_of (set last job.task (Some job)) t)
last_more jobs job last t l h = elim (cases_eq t job.task) [
  | inl e ↦
      subst (IsLast (jobs ++ job ∷ []) t) (sym (ap (last_of (set last job.task (Some job))) e
      ∙ get_or-set_same last job.task (Some job) None (omega (arith, l, e))))
      (record {
        place = length jobs;
        within = omega (arith, length_more jobs job);
        is = job_last jobs job;
        of_task = sym e;
        last = λ i m same. omega (arith, m, length_more jobs job);
      })
  | inr ne ↦
      subst (IsLast (jobs ++ job ∷ []) t) (sym (get_or-set_other last job.task t (Some job) None ne))
      (last_kept jobs job t (last_of last t) (λ e. ne (sym e)) h)
]

pub leaf_more : (a b : LeafRows) (job : Job) → IsLeaf a → fits_task (own_tasks a.part.now) job ≡ true
    → is_too_early (own_tasks a.part.now) a.jobs.items job ≡ false
    → b.part ≡ a.part → b.names ≡ a.names → b.jobs.items ≡ a.jobs.items ++ job ∷ []
    → b.last.items ≡ set a.last.items job.task (Some job) → IsLeaf b
leaf_more a b job h fits apart part names jobs last = record {
  part = subst (λ z. IsPart z.now) (sym part) h.part;
  names = names ∙ (h.names ∙ ap (λ z. task_names z.now.tasks) (sym part));
  legal =
      subst (λ z. LegalRelease (own_tasks z.now) b.jobs.items) (sym part)
      (subst (λ (js : List Job). LegalRelease (own_tasks a.part.now) js) (sym jobs)
      (legal_more (own_tasks a.part.now) a.jobs.items job h.legal fits apart));
  room =
      ap (λ (z : List (Option Job)). length z) last
      ∙ (length-set a.last.items job.task (Some job) ∙ (h.room ∙ ap (λ z. length z.now.tasks) (sym part)));
  last = λ t l.
      let m : t < length a.part.now.tasks = omega (arith, l, ap (λ z. length z.now.tasks) part) in
      subst (λ (js : List Job). IsLast js t (last_of b.last.items t)) (sym jobs)
      (subst (λ (z : List (Option Job)). IsLast (a.jobs.items ++ job ∷ []) t (last_of z t)) (sym last)
      (last_more a.jobs.items job a.last.items t (omega (arith, m, h.room)) (h.last t m)));
}

-- the rules on a job that fits its task, told by the last job of the task
pub job_fault_is : (leaf : LeafRows) (job : Job) (period row : ℕ) (o : Option Job) → IsLeaf leaf
    → fits_task (own_tasks leaf.part.now) job ≡ true → period ≡ (task_at (own_tasks leaf.part.now) job.task).period
    → IsLast leaf.jobs.items job.task o
    → (is_too_early (own_tasks leaf.part.now) leaf.jobs.items job ≡ follows_too_soon period job o)
    × (job_fault (own_tasks leaf.part.now) leaf.jobs.items job row
    ≡ fault_if (follows_too_soon period job o) (TooEarly row) None)
job_fault_is leaf job period row o h fits p last =
    let tasks = own_tasks leaf.part.now in
    let soon : is_too_early tasks leaf.jobs.items job ≡ follows_too_soon period job o
    = too_early_is tasks leaf.jobs.items job o h.legal last ∙ ap (λ (q : ℕ). follows_too_soon q job o) (sym p) in (
      soon,
      ap (λ (z : Bool). fault_if (not z) (OutOfRange row)
          (fault_if (is_too_early tasks leaf.jobs.items job) (TooEarly row) None)) fits
          ∙ ap (λ (z : Bool). fault_if z (TooEarly row) None) soon,
    )

-- a job that fits a task of a part names one
pub fits_named : (part : PartView) (job : Job) → fits_task (own_tasks part) job ≡ true → job.task < length part.tasks
fits_named part job fits =
    let a = and_parts _ _ fits in
    let b = and_parts _ _ a.0 in
    let d = and_parts _ _ b.0 in
    let named = ltb-true job.task (length (own_tasks part)) d.0 in
    omega (arith, named, length-map part.tasks (λ (t : NamedTask). t.task))
