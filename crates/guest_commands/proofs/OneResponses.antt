-- The answer of a task is one, and a system with its budgets has one list of them.
use Rattle.std.proofs.Common.{◌≡◌, ℕ, List, [], ◌∷◌, map, Option, Some, None, refl, sym, ◌∙◌, ap, arith, subst}
use Rattle.std.specs.Prelude.{All}
use Rattle.std.proofs.lemmas.List.Elements.{All-head, All-tail}
use Rattle.slot_model.specs.declared.sched.Sched.{Sched}
use Rattle.slot_model.specs.Task.{SporadicTask}
use Rattle.slot_model.specs.Supply.{GivesBudget}
use Rattle.slot_model.specs.Order.{before_of}
use Rattle.response_times.proofs.OneResponse.{one_greatest}
use Rattle.tree_model.specs.View.{SystemView}
use Rattle.tree_model.specs.System.{own_tasks, part_at}
use Rattle.tree_model.specs.Tree.{budget_at}
use Rattle.rt_report.specs.declared.responses.Response.{Response}
use Rattle.guest_commands.specs.Responses.{AreResponses, IsAnswered, IsReplayOf, IsResponseOf}

row_of : (q i worst limit : ℕ) → Option ℕ → Response
row_of q i worst limit replay = record { part = q; task = i; worst = worst; limit = limit; replay = replay }

same_row : (p q i k w v l m : ℕ) (r s : Option ℕ) → p ≡ q → i ≡ k → w ≡ v → l ≡ m → r ≡ s
    → row_of p i w l r ≡ row_of q k v m s
unfolding row_of
same_row p q i k w v l m r s part task worst limit replay = rw (part, task, worst, limit, replay) refl

one_replayed : (sched : Sched) (tasks : List SporadicTask) (period budget i w v : ℕ) → w ≡ v → (r s : Option ℕ)
    → IsReplayOf sched tasks period budget i w r → IsReplayOf sched tasks period budget i v s → r ≡ s
one_replayed sched tasks period budget i w v e None None a b = refl
one_replayed sched tasks period budget i w v e None (Some u) a b = absurd (omega (arith, e, a, b.0))
one_replayed sched tasks period budget i w v e (Some t) None a b = absurd (omega (arith, e, a.0, b))
one_replayed sched tasks period budget i w v e (Some t) (Some u) a b = ap Some (a.1 ∙ (e ∙ sym b.1))

one_response_of : (sched : Sched) (tasks : List SporadicTask) (period budget i : ℕ) (a b : Response) → a.part ≡ b.part
    → a.task ≡ b.task → IsResponseOf sched tasks period budget i a → IsResponseOf sched tasks period budget i b → a ≡ b
unfolding row_of
one_response_of sched tasks period budget i a b part task p q =
    let worst : a.worst ≡ b.worst
    = one_greatest (GivesBudget period budget) (before_of sched tasks) tasks i a.worst b.worst p.greatest
    q.greatest in
    same_row a.part b.part a.task b.task a.worst b.worst a.limit b.limit a.replay b.replay part task worst
    (p.limit_is ∙ sym q.limit_is)
    (one_replayed sched tasks period budget i a.worst b.worst worst a.replay b.replay p.replayed q.replayed)

one_answer : (sys : SystemView) (budgets : List ℕ) (a b : Response) → a.part ≡ b.part → a.task ≡ b.task
    → IsAnswered sys budgets a → IsAnswered sys budgets b → a ≡ b
one_answer sys budgets a b part task p q =
    let at : ℕ → ℕ → Type 0
    = λ k i. IsResponseOf (part_at sys k).sched (own_tasks (part_at sys k)) (part_at sys k).period
    (budget_at budgets k) i b in
    one_response_of (part_at sys a.part).sched (own_tasks (part_at sys a.part)) (part_at sys a.part).period
    (budget_at budgets a.part) a.task a b part task p
    (subst (λ (k : ℕ). at k a.task) (sym part) (subst (at b.part) (sym task) q))

abbrev places_of : List Response → List (ℕ × ℕ)
places_of rows = map (λ (row : Response). (row.part, row.task)) rows

heads_of : (p q : ℕ × ℕ) (r s : List (ℕ × ℕ)) → p ∷ r ≡ q ∷ s → (p ≡ q) × (r ≡ s)
heads_of p q r s e = (cc, cc)

one_list : (sys : SystemView) (budgets : List ℕ) (a b : List Response) → places_of a ≡ places_of b
    → All (IsAnswered sys budgets) a → All (IsAnswered sys budgets) b → a ≡ b
one_list sys budgets [] [] e p q = refl
one_list sys budgets [] (y ∷ b) e p q = absurd (cc)
one_list sys budgets (x ∷ a) [] e p q = absurd (cc)
one_list sys budgets (x ∷ a) (y ∷ b) e p q =
    let same : ((x.part, x.task) ≡ (y.part, y.task)) × (places_of a ≡ places_of b)
    = heads_of (x.part, x.task) (y.part, y.task) (places_of a) (places_of b) e in
    let first : x ≡ y = one_answer sys budgets x y (ap (λ (z : ℕ × ℕ). z.0) same.0) (ap (λ (z : ℕ × ℕ). z.1) same.0)
    (All-head (IsAnswered sys budgets) x a p) (All-head (IsAnswered sys budgets) y b q) in
    let later : a ≡ b = one_list sys budgets a b same.1 (All-tail (IsAnswered sys budgets) x a p)
    (All-tail (IsAnswered sys budgets) y b q) in
    rw (first, later) refl

pub one_list_of_responses : (sys : SystemView) (budgets : List ℕ) (a b : List Response) → AreResponses sys budgets a
    → AreResponses sys budgets b → a ≡ b
one_list_of_responses sys budgets a b p q = one_list sys budgets a b (p.places_are ∙ sym q.places_are) p.each q.each
