-- A computed leaf has one replay, and a system with its budgets one list of them.
use Rattle.std.proofs.Common.{◌≡◌, ℕ, Bool, false, List, length, get_or, Option, Some, None, refl, sym, ◌∙◌, ap, arith, subst, inl, inr}
use Rattle.std.specs.Prelude.{slice_index}
use Rattle.std.proofs.lemmas.Bool.{cases_order}
use Rattle.std.proofs.lemmas.List.{ext_get_or}
use Rattle.std.proofs.lemmas.Option.{slice_get-get_or}
use Rattle.slot_model.specs.declared.sched.Sched.{Sched}
use Rattle.slot_model.specs.declared.miss.Miss.{Miss}
use Rattle.slot_model.specs.declared.job.Job.{Job}
use Rattle.slot_model.specs.Supply.{worst_slot}
use Rattle.slot_model.specs.Task.{SporadicTask}
use Rattle.slot_model.specs.Order.{before_of}
use Rattle.slot_model.specs.Release.{synchronous}
use Rattle.slot_model.specs.Run.{guest, FirstRun}
use Rattle.slot_model.specs.Miss.{WorstList, IsFirstMiss, miss_of}
use Rattle.slot_model.proofs.Unique.{run_unique}
use Rattle.miss_witness.specs.declared.defeat.Defeat.{Defeat}
use Rattle.miss_witness.specs.Defeat.{IsDefeat}
use Rattle.miss_witness.proofs.OneDefeat.{one_defeat as same_fields}
use Rattle.tree_model.specs.View.{SystemView}
use Rattle.tree_model.specs.System.{part_at, own_tasks, computed_leaves}
use Rattle.tree_model.specs.Tree.{budget_at}
use Rattle.miss_witness.specs.declared.replay.Replay.{Replay}
use Rattle.miss_witness.specs.Replay.{ShowsMiss, IsReplayed, IsReplay, AreReplays}

abbrev defeat_of : ℕ → ℕ → ℕ → Option ℕ → Defeat
defeat_of budget start span task = record { budget = budget; start = start; span = span; task = task }

abbrev replay_of : ℕ → Defeat → Option Miss → Replay
replay_of part witness miss = record { part = part; witness = witness; miss = miss }

abbrev no_replay : Replay
no_replay = replay_of 0 (defeat_of 0 0 0 None) None

-- records of the same fields
same_defeat : (b c s t p q : ℕ) (i k : Option ℕ) → b ≡ c → s ≡ t → p ≡ q → i ≡ k → defeat_of b s p i ≡ defeat_of c t q k
same_defeat b c s t p q i k budget start span task = rw (budget, start, span, task) refl

same_replay : (p q : ℕ) (d e : Defeat) (m n : Option Miss) → p ≡ q → d ≡ e → m ≡ n → replay_of p d m ≡ replay_of q e n
same_replay p q d e m n part witness miss = rw (part, witness, miss) refl

-- one defeat
one_defeat : (sched : Sched) (tasks : List SporadicTask) (period least : ℕ) (a b : Defeat)
    → IsDefeat sched tasks period least a → IsDefeat sched tasks period least b → a ≡ b
one_defeat sched tasks period least a b p q =
    let same = same_fields sched tasks period least a b p q in
    same_defeat a.budget b.budget a.start b.start a.span b.span a.task b.task same.0 same.1 same.2 same.3

-- one list of slots
one_list : (pattern : ℕ → Bool) (start span : ℕ) (xs ys : List Bool) → WorstList pattern start span xs
    → WorstList pattern start span ys → xs ≡ ys
one_list pattern start span xs ys p q =
    let same : length xs ≡ length ys = p.long ∙ sym q.long in
    ext_get_or false xs ys same (λ x l. p.follows x l ∙ sym (q.follows x (omega (arith, same, l))))

-- one first miss
pub one_miss : (tasks : List SporadicTask) (jobs : List Job) (run : List (Option ℕ)) (a b : Miss)
    → IsFirstMiss tasks jobs run (Some a) → IsFirstMiss tasks jobs run (Some b) → a ≡ b
one_miss tasks jobs run a b (j, p, is) (k, q, has) = elim (cases_order j k) [
  | inl same ↦ is ∙ ap (λ (z : ℕ). miss_of tasks jobs run z) same ∙ sym has
  | inr w ↦ elim w [
    | inl l ↦ absurd (q.first j l p.missed (omega (arith, p.least k q.missed, q.least j p.missed)))
    | inr l ↦ absurd (p.first k l q.missed (omega (arith, p.least k q.missed, q.least j p.missed)))
  ]
]

one_shown : (sched : Sched) (tasks : List SporadicTask) (period : ℕ) (defeat : Defeat) (a b : Miss)
    → ShowsMiss sched tasks period defeat a → ShowsMiss sched tasks period defeat b → a ≡ b
one_shown sched tasks period defeat a b p q =
    let jobs : List Job = synchronous tasks defeat.start defeat.span in
    let slots = one_list (worst_slot period defeat.budget) defeat.start defeat.span p.slots q.slots p.worst q.worst in
    let second : FirstRun guest (before_of sched tasks) tasks jobs p.slots q.run
    = subst (λ (xs : List Bool). FirstRun guest (before_of sched tasks) tasks jobs xs q.run) (sym slots)
    q.first_run in
    let runs
    = run_unique guest (before_of sched tasks) tasks jobs p.slots (length p.slots) p.run q.run p.first_run second in
    one_miss tasks jobs p.run a b p.first_miss
    (subst (λ (r : List (Option ℕ)). IsFirstMiss tasks jobs r (Some b)) (sym runs) q.first_miss)

one_replayed : (sched : Sched) (tasks : List SporadicTask) (period : ℕ) (defeat : Defeat) (a b : Option Miss)
    → IsReplayed sched tasks period defeat a → IsReplayed sched tasks period defeat b → a ≡ b
one_replayed sched tasks period defeat None None p q = refl
one_replayed sched tasks period defeat None (Some b) p q = absurd (omega (arith, p, q.0))
one_replayed sched tasks period defeat (Some a) None p q = absurd (omega (arith, q, p.0))
one_replayed sched tasks period defeat (Some a) (Some b) p q = ap Some (one_shown sched tasks period defeat a b p.1 q.1)

one_replay : (sys : SystemView) (budgets : List ℕ) (q : ℕ) (a b : Replay) → IsReplay sys budgets q a
    → IsReplay sys budgets q b → a ≡ b
one_replay sys budgets q a b x y =
    let defeat
    = one_defeat (part_at sys q).sched (own_tasks (part_at sys q)) (part_at sys q).period (budget_at budgets q)
    a.witness b.witness x.defeat y.defeat in
    let miss
    = one_replayed (part_at sys q).sched (own_tasks (part_at sys q)) (part_at sys q).period a.witness a.miss b.miss
    x.replayed
    (subst
    (λ (d : Defeat). IsReplayed (part_at sys q).sched (own_tasks (part_at sys q)) (part_at sys q).period d b.miss)
    (sym defeat) y.replayed) in
    same_replay a.part b.part a.witness b.witness a.miss b.miss (x.of_part ∙ sym y.of_part) defeat miss

pub one_list_of_replays : (sys : SystemView) (budgets : List ℕ) (xs ys : List Replay) → AreReplays sys budgets xs
    → AreReplays sys budgets ys → xs ≡ ys
one_list_of_replays sys budgets xs ys p q =
    let same : length xs ≡ length ys = p.one_each ∙ sym q.one_each in
    ext_get_or no_replay xs ys same (λ k l. one_replay sys budgets (slice_index (computed_leaves sys) k)
    (get_or xs k no_replay) (get_or ys k no_replay)
    (p.each k (get_or xs k no_replay) (slice_get-get_or xs k no_replay l))
    (q.each k (get_or ys k no_replay) (slice_get-get_or ys k no_replay (omega (arith, same, l)))))
