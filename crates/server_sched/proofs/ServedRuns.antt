-- The run of a level of servers, one span more, and what each server's job lacks then.
use Rattle.std.proofs.Common.{◌≡◌, ◌≢◌, ◌⊎◌, ℕ, ◌+◌, ◌-◌, ◌<◌, ◌≤◌, min, Bool, true, false, List, ◌++◌, length, set, replicate, Option, Some, None, eqb, refl, sym, ◌∙◌, ap, arith, subst, inl, inr, lt-ltb, eq-eqb, ne_eqb, length-set, get_or, get_or-set_same, get_or-set_other}
use Rattle.std.proofs.lemmas.Bool.Decides.{nat_tests}
use Rattle.std.proofs.lemmas.Bool.{cases_eq, cases_lt, both_ways, true≢false, or_left, cond-true, cond-false}
use Rattle.std.proofs.lemmas.Option.{same_Some}
use Rattle.slot_model.specs.declared.job.Job.{Job}
use Rattle.slot_model.specs.declared.sched.Sched.{Sched}
use Rattle.slot_model.specs.declared.sched.Sched.TheVariants.{Edf, Rm, Dm, Listed}
use Rattle.slot_model.specs.Task.{SporadicTask, task_at, job_at, deadline_of, AreConstrained}
use Rattle.slot_model.specs.Order.{IsRank, ranks_by, ranks_above, fixed_before, before_of}
use Rattle.slot_model.specs.Release.{synchronous}
use Rattle.slot_model.specs.Run.{service, server, Pending, MayHold, Entry}
use Rattle.slot_model.proofs.FirstRuns.{none_some}
use Rattle.slot_model.proofs.Synchronous.{legal_synchronous}
use Rattle.fp_request.specs.Ranks.{order_laws, ranks_is_rank}
use Rattle.guest_sched.proofs.Steady.{Steady, service_span}
use Rattle.release_pattern.specs.Due.{IsNext}
use Rattle.server_sched.specs.declared.serving.Server.{Server}
use Rattle.server_sched.specs.inner.Serving.{server_at, no_server, IsKeyed, goes_first, IsChosen, HasJob, IsActive, AtRest}
use Rattle.server_sched.proofs.Releasing.{more_moments, later_jobs}

-- at rest, the jobs that are released have come
pub have_come : (sched : Sched) (T : List SporadicTask) (n : ℕ) (run : List (Option ℕ)) (x released next : ℕ)
    (servers : List Server) → AtRest sched T n run x released next servers → (j y : ℕ) → y < next → y < n
    → j < length (synchronous T 0 n) → (job_at (synchronous T 0 n) j).release ≤ y → j < released
have_come sched T n run x released next servers h j y l m is_job by = elim (cases_lt j released) [
  | inl a ↦ a
  | inr b ↦ absurd (omega (arith, later_jobs T (min next n) n j (omega (arith, b, h.counted)) is_job))
]

pub in_jobs : (sched : Sched) (T : List SporadicTask) (n : ℕ) (run : List (Option ℕ)) (x released next : ℕ)
    (servers : List Server) → AtRest sched T n run x released next servers → released ≤ length (synchronous T 0 n)
in_jobs sched T n run x released next servers h = omega (arith, h.counted, more_moments T (min next n) n (omega arith))

-- a pending job is that of its server
record IsOwn (T : List SporadicTask) (jobs : List Job) (run : List (Option ℕ)) (x : ℕ) (servers : List Server) (j : ℕ) :
    Type 0 where
  named : (job_at jobs j).task < length T
  has : HasJob T jobs run x servers j
  lacks : 0 < (server_at servers (job_at jobs j).task).left

is_own : (sched : Sched) (T : List SporadicTask) → AreConstrained T
    → (n : ℕ) (run : List (Option ℕ)) (x released next : ℕ) (servers : List Server)
    → AtRest sched T n run x released next servers → x < next → x < n → (j : ℕ)
    → Pending server T (synchronous T 0 n) run j x → IsOwn T (synchronous T 0 n) run x servers j
is_own sched T fits n run x released next servers h l m j p =
    let has : HasJob T (synchronous T 0 n) run x servers j
    = elim (h.come j (have_come sched T n run x released next servers h j x l m p.is_job p.released)) [
      | inl over ↦
          absurd (
          let lasts : x < deadline_of T (job_at (synchronous T 0 n) j) = p.still_open in
          omega (arith, over.0, lasts))
      | inr has ↦
          has
    ] in
    record {
      named = (legal_synchronous T fits 0 n).named j p.is_job;
      has = has;
      lacks = omega (arith, has.lacks, p.unfinished);
    }

-- and a server whose job lacks slots has a pending one
own_pending : (sched : Sched) (T : List SporadicTask) (n : ℕ) (run : List (Option ℕ)) (x released next : ℕ)
    (servers : List Server) → AtRest sched T n run x released next servers → x < next → (i : ℕ) → i < length T
    → 0 < (server_at servers i).left → Pending server T (synchronous T 0 n) run (server_at servers i).place x
own_pending sched T n run x released next servers h l i li some =
    let a = h.active i li some in
    let j : ℕ = (server_at servers i).place in
    let due : (server_at servers i).next ≡ deadline_of T (job_at (synchronous T 0 n) j)
    = ap (λ (z : ℕ). (server_at servers z).next) (sym a.own) ∙ a.job.due in
    record {
      is_job = omega (arith, a.come, in_jobs sched T n run x released next servers h);
      released = h.by_now j a.come;
      unfinished = omega (arith, a.job.lacks, some, ap (λ (z : ℕ). (server_at servers z).left) a.own);
      still_open =
          let lasts : x < deadline_of T (job_at (synchronous T 0 n) j) = omega (arith, due, (h.to_come i li).from) in
          lasts;
    }

-- a fixed rank serves the job of the task above
above_first : (above : ℕ → ℕ → Bool) → IsRank above → (a b : Job) → a.task ≢ b.task → above a.task b.task ≡ true
    → (fixed_before above b a ≡ false) × (fixed_before above a b ≡ true)
above_first above rank a b ne e =
    let up : above b.task a.task ≡ true → above a.task a.task ≡ true = rank.in_turn a.task b.task a.task e in
    let fails : above b.task a.task ≡ false = grind (arith, up, rank.not_itself a.task) in
    (grind (arith, nat_tests), or_left _ _ e)

keyed_above : (key : ℕ → ℕ) (i j : ℕ) → (key i < key j) ⊎ ((key i ≡ key j) × (i ≤ j)) → i ≢ j → ranks_by key i j ≡ true
keyed_above key i j h ne = grind (arith, nat_tests)

-- what the order says of the jobs of two servers of which the first goes first
record Beats (before : Job → Job → Bool) (a b : Job) (p q : ℕ) : Type 0 where
  not_before : before b a ≡ false
  earlier : q < p → before a b ≡ true

edf_beats : (T : List SporadicTask) (a b : Job) (s t : Server) → s.key ≡ deadline_of T a → t.key ≡ deadline_of T b
    → s.tie ≡ s.place → t.tie ≡ t.place → goes_first s t → Beats (before_of Edf T) a b s.place t.place
edf_beats T a b s t e f g h k = grind (arith, nat_tests)

fixed_beats : (above : ℕ → ℕ → Bool) → IsRank above → (a b : Job) (p q : ℕ) → a.task ≢ b.task
    → above a.task b.task ≡ true → Beats (fixed_before above) a b p q
fixed_beats above rank a b p q ne e =
    let both = above_first above rank a b ne e in record { not_before = both.0; earlier = λ l. both.1 }

key_order : (key : ℕ → ℕ) (i j : ℕ) (s t : Server) → s.key ≡ key i → t.key ≡ key j → s.tie ≡ i → t.tie ≡ j
    → goes_first s t → (key i < key j) ⊎ ((key i ≡ key j) × (i ≤ j))
key_order key i j s t e f g h k = grind arith

listed_order : (i j : ℕ) (s t : Server) → s.key ≡ 0 → t.key ≡ 0 → s.tie ≡ i → t.tie ≡ j → i ≢ j → goes_first s t → i < j
listed_order i j s t e f g h ne k = grind arith

beats : (sched : Sched) (T : List SporadicTask) (a b : Job) (s t : Server) → a.task ≢ b.task
    → IsKeyed sched (task_at T a.task) a.task s → IsKeyed sched (task_at T b.task) b.task t → s.next ≡ deadline_of T a
    → t.next ≡ deadline_of T b → goes_first s t → Beats (before_of sched T) a b s.place t.place
beats Edf T a b s t ne k m d e g = edf_beats T a b s t (k.0 ∙ d) (m.0 ∙ e) k.1 m.1 g
beats Rm T a b s t ne k m d e g =
    fixed_beats (ranks_above Rm T) (ranks_is_rank Rm T) a b s.place t.place ne
    (keyed_above (λ i. (task_at T i).period) a.task b.task
    (key_order (λ i. (task_at T i).period) a.task b.task s t k.0 m.0 k.1 m.1 g) ne)
beats Dm T a b s t ne k m d e g =
    fixed_beats (ranks_above Dm T) (ranks_is_rank Dm T) a b s.place t.place ne
    (keyed_above (λ i. (task_at T i).deadline) a.task b.task
    (key_order (λ i. (task_at T i).deadline) a.task b.task s t k.0 m.0 k.1 m.1 g) ne)
beats Listed T a b s t ne k m d e g =
    fixed_beats (ranks_above Listed T) (ranks_is_rank Listed T) a b s.place t.place ne
    (lt-ltb _ _ (listed_order a.task b.task s t k.0 m.0 k.1 m.1 ne g))

-- the chosen server's job against another pending one
chosen_beats : (sched : Sched) (T : List SporadicTask) → AreConstrained T
    → (n : ℕ) (run : List (Option ℕ)) (x released next : ℕ) (servers : List Server)
    → AtRest sched T n run x released next servers → x < next → x < n → (b : ℕ) → IsChosen servers (Some b)
    → (k : ℕ) → Pending server T (synchronous T 0 n) run k x → k ≢ (server_at servers b).place
    → Beats (before_of sched T) (job_at (synchronous T 0 n) (server_at servers b).place)
    (job_at (synchronous T 0 n) k) (server_at servers b).place k
chosen_beats sched T fits n run x released next servers h l m b best k p ne =
    let jobs = synchronous T 0 n in
    let own : IsOwn T jobs run x servers k = is_own sched T fits n run x released next servers h l m k p in
    let a = h.active b (omega (arith, best.0, h.one_each)) best.1 in
    let i : ℕ = (job_at jobs k).task in
    let c = h.active i own.named own.lacks in
    let here : (job_at jobs (server_at servers b).place).task ≡ b = a.own in
    let other : b ≢ i = λ e. ne (sym own.has.there ∙ ap (λ (z : ℕ). (server_at servers z).place) (sym e)) in
    let keyed : IsKeyed sched (task_at T (job_at jobs (server_at servers b).place).task)
    (job_at jobs (server_at servers b).place).task (server_at servers b)
    = subst (λ (z : ℕ). IsKeyed sched (task_at T z) z (server_at servers b)) (sym here) a.keyed in
    subst (Beats (before_of sched T) (job_at jobs (server_at servers b).place) (job_at jobs k)
    (server_at servers b).place) own.has.there
    (beats sched T (job_at jobs (server_at servers b).place) (job_at jobs k) (server_at servers b) (server_at servers i)
    (λ e. other (sym here ∙ e)) keyed c.keyed (ap (λ (z : ℕ). (server_at servers z).next) (sym here) ∙ a.job.due)
    own.has.due (best.2 i (omega (arith, own.named, h.one_each)) own.lacks))

-- the entry of the run there
pub chosen_entry : (sched : Sched) (T : List SporadicTask) → AreConstrained T
    → (n : ℕ) (run : List (Option ℕ)) (x released next : ℕ) (servers : List Server)
    → AtRest sched T n run x released next servers → x < next → x < n → (b : ℕ) → IsChosen servers (Some b)
    → Entry server (before_of sched T) T (synchronous T 0 n) run x true (Some (server_at servers b).place)
chosen_entry sched T fits n run x released next servers h l m b best =
    let jobs = synchronous T 0 n in
    let p : ℕ = (server_at servers b).place in
    let before = before_of sched T in
    let pending : Pending server T jobs run p x
    = own_pending sched T n run x released next servers h l b (omega (arith, best.0, h.one_each)) best.1 in
    let against : (k : ℕ) → Pending server T jobs run k x → before (job_at jobs k) (job_at jobs p) ≡ false
    = λ k q. elim (cases_eq k p) [
      | inl e ↦
          ap (λ (z : ℕ). before (job_at jobs z) (job_at jobs p)) e ∙ (order_laws sched).not_itself T (job_at jobs p)
      | inr ne ↦ (chosen_beats sched T fits n run x released next servers h l m b best k q ne).not_before
    ] in
    record {
      no_slot = λ e. absurd (true≢false e);
      idle = λ e q. absurd (none_some (Some p) p q refl);
      held =
          λ j e. subst (MayHold server before T jobs run x) (same_Some p j e)
          (record { pending = pending; best = λ k q w. both_ways _ (against k q) w });
      first =
          λ j k e a may. let le : k < p
          = omega (arith, a, same_Some p j e) in may.best p pending
          ((chosen_beats sched T fits n run x released next servers h l m b best k may.pending
          (λ q. omega (arith, le, q))).earlier le);
    }

pub idle_entry : (sched : Sched) (T : List SporadicTask) → AreConstrained T
    → (n : ℕ) (run : List (Option ℕ)) (x released next : ℕ) (servers : List Server)
    → AtRest sched T n run x released next servers → x < next → x < n → IsChosen servers None
    → Entry server (before_of sched T) T (synchronous T 0 n) run x true None
idle_entry sched T fits n run x released next servers h l m none = record {
  no_slot = λ e. refl;
  idle =
      λ e q j p. let own =
      is_own sched T fits n run x released next servers h l m j p in omega
      (arith, own.lacks, none (job_at (synchronous T 0 n) j).task (omega (arith, own.named, h.one_each)));
  held = λ j e. absurd (none_some None j refl e);
  first = λ j k e. absurd (none_some None j refl e);
}

-- what lasts up to the next release
pub steady_rest : (sched : Sched) (T : List SporadicTask) → AreConstrained T
    → (n : ℕ) (slots : List Bool) (run : List (Option ℕ)) (x released next : ℕ) (servers : List Server)
    → AtRest sched T n run x released next servers → x < next → x < n → (k : ℕ) → x + k ≤ next → x + k ≤ n
    → ((y : ℕ) → x ≤ y → y < x + k → get_or slots y false ≡ true) → (entry : Option ℕ)
    → ((j : ℕ) → entry ≡ Some j → service run j x + k ≤ (job_at (synchronous T 0 n) j).work)
    → Steady server T (synchronous T 0 n) slots run x k true entry
steady_rest sched T fits n slots run x released next servers h l m k u v given entry enough = record {
  same_slots = given;
  releases =
      λ j a. elim (cases_lt j released) [
        | inl b ↦
            inl (h.by_now j b)
        | inr b ↦
            inr (omega (arith, later_jobs T (min next n) n j (omega (arith, b, h.counted)) a))
      ];
  still_open = λ j y p a.
      let own = is_own sched T fits n run x released next servers h l m j p in
      let lasts : y < deadline_of T (job_at (synchronous T 0 n) j)
      = omega (arith, a, u, own.has.due, (h.to_come (job_at (synchronous T 0 n) j).task own.named).from) in
      lasts;
  enough = enough;
}

-- what the servers' jobs lack after a span of no job, and of the job of a server
none_more : (T : List SporadicTask) (jobs : List Job) (run : List (Option ℕ)) (x k : ℕ) (servers : List Server) (j : ℕ)
    → length run ≡ x → HasJob T jobs run x servers j → HasJob T jobs (run ++ replicate k None) (x + k) servers j
none_more T jobs run x k servers j e h =
    record { there = h.there; due = h.due; lacks = omega (arith, h.lacks, service_span None j k x run e) }

pub rest_idle : (sched : Sched) (T : List SporadicTask) (n : ℕ) (run : List (Option ℕ)) (x released next : ℕ)
    (servers : List Server) → length run ≡ x → AtRest sched T n run x released next servers → (k : ℕ) → x + k ≤ next
    → AtRest sched T n (run ++ replicate k None) (x + k) released next servers
rest_idle sched T n run x released next servers e h k u = record {
  in_time = u;
  one_each = h.one_each;
  counted = h.counted;
  to_come = h.to_come;
  by_now = λ j l. omega (arith, h.by_now j l);
  come =
      λ j l. elim (h.come j l) [
        | inl over ↦
            inl (omega (arith, over.0), over.1)
        | inr has ↦ inr (none_more T (synchronous T 0 n) run x k servers j e has)
      ];
  active =
      λ i l some. let a =
      h.active i l some in record {
        come = a.come;
        own = a.own;
        job = none_more T (synchronous T 0 n) run x k servers (server_at servers i).place e a.job;
        keyed = a.keyed;
      };
}

abbrev pub given_to : List Server → ℕ → ℕ → List Server
given_to servers b k = set servers b (record (server_at servers b) { left = (server_at servers b).left - k })

one_more : (T : List SporadicTask) (jobs : List Job) (run : List (Option ℕ)) (x k : ℕ) (servers : List Server) (b : ℕ)
    → length run ≡ x → b < length servers → k ≤ (server_at servers b).left
    → (job_at jobs (server_at servers b).place).task ≡ b
    → (j : ℕ) → HasJob T jobs run x servers j
    → HasJob T jobs (run ++ replicate k (Some (server_at servers b).place)) (x + k) (given_to servers b k) j
one_more T jobs run x k servers b e l enough own j h =
    let p : ℕ = (server_at servers b).place in
    let i : ℕ = (job_at jobs j).task in
    elim (cases_eq i b) [
      | inl q ↦
          let same : server_at (given_to servers b k) i
          ≡ record (server_at servers b) { left = (server_at servers b).left - k }
          = ap (server_at (given_to servers b k)) q
          ∙ get_or-set_same servers b (record (server_at servers b) { left = (server_at servers b).left - k })
          no_server l in
          let here : p ≡ j = ap (λ (z : ℕ). (server_at servers z).place) (sym q) ∙ h.there in
          record {
            there = ap (λ (s : Server). s.place) same ∙ here;
            due = ap (λ (s : Server). s.next) same ∙ (ap (λ (z : ℕ). (server_at servers z).next) (sym q) ∙ h.due);
            lacks =
                omega (
                  arith,
                  ap (λ (s : Server). s.left) same,
                  h.lacks,
                  ap (λ (z : ℕ). (server_at servers z).left) q,
                  enough,
                  service_span (Some p) j k x run e,
                  cond-true {A = ℕ} (eqb p j) k 0 (eq-eqb p j here),
                );
          }
      | inr ne ↦
          let same : server_at (given_to servers b k) i ≡ server_at servers i
          = get_or-set_other servers b i (record (server_at servers b) { left = (server_at servers b).left - k })
          no_server ne in
          let other : p ≢ j = λ q. ne (ap (λ (z : ℕ). (job_at jobs z).task) (sym q) ∙ own) in
          record {
            there = ap (λ (s : Server). s.place) same ∙ h.there;
            due = ap (λ (s : Server). s.next) same ∙ h.due;
            lacks =
                omega (
                  arith,
                  ap (λ (s : Server). s.left) same,
                  h.lacks,
                  service_span (Some p) j k x run e,
                  cond-false {A = ℕ} (eqb p j) k 0 (ne_eqb p j other),
                );
          }
    ]

rekeyed : (rule : Sched) (task : SporadicTask) (i : ℕ) (s : Server) (v : ℕ) → IsKeyed rule task i s
    → IsKeyed rule task i (record s { left = v })
rekeyed Edf task i s v h = h
rekeyed Rm task i s v h = h
rekeyed Dm task i s v h = h
rekeyed Listed task i s v h = h

pub rest_given : (sched : Sched) (T : List SporadicTask) (n : ℕ) (run : List (Option ℕ)) (x released next : ℕ)
    (servers : List Server) → length run ≡ x → AtRest sched T n run x released next servers → (k b : ℕ) → x + k ≤ next
    → b < length servers → 0 < (server_at servers b).left → k ≤ (server_at servers b).left
    → AtRest sched T n (run ++ replicate k (Some (server_at servers b).place)) (x + k) released next
    (given_to servers b k)
rest_given sched T n run x released next servers e h k b u l some enough =
    let jobs = synchronous T 0 n in
    let p : ℕ = (server_at servers b).place in
    let later = run ++ replicate k (Some p) in
    let less : Server = record (server_at servers b) { left = (server_at servers b).left - k } in
    let chosen = h.active b (omega (arith, l, h.one_each)) some in
    let more : (j : ℕ) → HasJob T jobs run x servers j → HasJob T jobs later (x + k) (given_to servers b k) j
    = one_more T jobs run x k servers b e l enough chosen.own in
    record {
      in_time = u;
      one_each = length-set servers b less ∙ h.one_each;
      counted = h.counted;
      to_come = λ i li. elim (cases_eq i b) [
        | inl q ↦
            subst (λ (z : ℕ). IsNext (task_at T i) next z) (sym (ap
            (λ (z : ℕ). (server_at (given_to servers b k) z).next) q
            ∙ (ap (λ (s : Server). s.next) (get_or-set_same servers b less no_server l)
            ∙ ap (λ (z : ℕ). (server_at servers z).next) (sym q)))) (h.to_come i li)
        | inr ne ↦
            subst (λ (s : Server). IsNext (task_at T i) next s.next)
            (sym (get_or-set_other servers b i less no_server ne)) (h.to_come i li)
      ];
      by_now = λ j m. omega (arith, h.by_now j m);
      come = λ j m. elim (h.come j m) [ inl over ↦ inl (omega (arith, over.0), over.1) | inr has ↦ inr (more j has) ];
      active = λ i li lacks. elim (cases_eq i b) [
        | inl q ↦
            let same : server_at (given_to servers b k) i ≡ less
            = ap (server_at (given_to servers b k)) q ∙ get_or-set_same servers b less no_server l in
            subst (λ (z : ℕ). IsActive sched T jobs later (x + k) released (given_to servers b k) z) (sym q)
            (active_again chosen (ap (server_at (given_to servers b k)) (sym q) ∙ same) (more p chosen.job))
        | inr ne ↦
            let same : server_at (given_to servers b k) i ≡ server_at servers i
            = get_or-set_other servers b i less no_server ne in
            let a = h.active i li (subst (λ (s : Server). 0 < s.left) same lacks) in
            record {
              come = subst (λ (s : Server). s.place < released) (sym same) a.come;
              own = subst (λ (s : Server). (job_at jobs s.place).task ≡ i) (sym same) a.own;
              job =
                  subst (λ (s : Server). HasJob T jobs later (x + k) (given_to servers b k) s.place) (sym same)
                  (more (server_at servers i).place a.job);
              keyed = subst (IsKeyed sched (task_at T i) i) (sym same) a.keyed;
            }
      ];
    }
  where
    active_again : IsActive sched T (synchronous T 0 n) run x released servers b
        → server_at (given_to servers b k) b ≡ record (server_at servers b) { left = (server_at servers b).left - k }
        → HasJob T (synchronous T 0 n) (run ++ replicate k (Some (server_at servers b).place)) (x + k)
        (given_to servers b k) (server_at servers b).place
        → IsActive sched T (synchronous T 0 n) (run ++ replicate k (Some (server_at servers b).place)) (x + k) released
        (given_to servers b k) b
    active_again a same job = record {
      come = subst (λ (s : Server). s.place < released) (sym same) a.come;
      own = subst (λ (s : Server). (job_at (synchronous T 0 n) s.place).task ≡ b) (sym same) a.own;
      job =
          subst (λ (s : Server). HasJob T (synchronous T 0 n) (run ++ replicate k (Some (server_at servers b).place))
          (x + k) (given_to servers b k) s.place) (sym same) job;
      keyed =
          subst (IsKeyed sched (task_at T b) b) (sym same)
          (rekeyed sched (task_at T b) b (server_at servers b) ((server_at servers b).left - k) a.keyed);
    }
