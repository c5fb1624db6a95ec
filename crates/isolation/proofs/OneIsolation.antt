-- Of a VCPU one thing is answered, and of a system one list.
use Rattle.std.proofs.Common.{◌≡◌, ℕ, List, refl, ap, arith, subst, inl, inr}
use Rattle.std.proofs.lemmas.Bool.{cases_order}
use Rattle.tree_model.specs.View.{SystemView}
use Rattle.tree_model.specs.Plans.{IsPlan}
use Rattle.rtds_model.specs.Demand.{later}
use Rattle.isolation.specs.declared.isolation.Isolation.{Isolation}
use Rattle.isolation.specs.declared.isolation.Isolation.TheVariants.{Isolated, ByTies, ByBlock}
use Rattle.isolation.specs.declared.vcpus.PartIsolation.{PartIsolation}
use Rattle.isolation.specs.Demand.{no_tie, IsIsolatedBy, IsLeastBy, AsksTooMuch}
use Rattle.isolation.specs.Answer.{IsIsolation}
use Rattle.isolation.specs.Answers.{own_core, vcpus_of, IsIsolationOf, AreIsolations}
use Rattle.isolation.proofs.Least.{in_file_order}
use Rattle.isolation.proofs.Listed.{one_each}

-- there is one least number of slots, and none where each asks too much
one_least : (tie : ℕ → ℕ → ℕ) (sys : SystemView) (budgets : List ℕ) (c v s t : ℕ) → IsLeastBy tie sys budgets c v s
    → IsLeastBy tie sys budgets c v t → s ≡ t
one_least tie sys budgets c v s t p q = elim (cases_order s t) [
  | inl e ↦ e
  | inr o ↦ elim o [
    | inl l ↦ absurd (omega (arith, p.isolated.enough, q.least s l))
    | inr l ↦ absurd (omega (arith, q.isolated.enough, p.least t l))
  ]
]

never_both : (tie : ℕ → ℕ → ℕ) (sys : SystemView) (budgets : List ℕ) (c v t : ℕ) → AsksTooMuch tie sys budgets c v
    → IsLeastBy tie sys budgets c v t → ⊥
never_both tie sys budgets c v t much p =
    omega (arith, much t p.isolated.in_period, p.isolated.enough)

-- what is isolated however ties are broken is isolated in the order of the file
open_never : (sys : SystemView) (budgets : List ℕ) → IsPlan sys budgets → (c v t : ℕ)
    → AsksTooMuch later sys budgets c v → IsLeastBy no_tie sys budgets c v t → ⊥
open_never sys budgets plan c v t much p =
    let by : IsIsolatedBy later sys budgets c v t = in_file_order sys budgets plan c v t p.isolated in
    omega (arith, much t by.in_period, by.enough)

pub one_isolation : (sys : SystemView) (budgets : List ℕ) → IsPlan sys budgets → (c v : ℕ) (a b : Isolation)
    → IsIsolation sys budgets c v a → IsIsolation sys budgets c v b → a ≡ b
one_isolation sys budgets plan c v (Isolated s) (Isolated t) p q =
    ap Isolated (one_least no_tie sys budgets c v s t p q)
one_isolation sys budgets plan c v (Isolated s) (ByTies t) p q = absurd (never_both no_tie sys budgets c v s q.0 p)
one_isolation sys budgets plan c v (Isolated s) ByBlock p q = absurd (open_never sys budgets plan c v s q p)
one_isolation sys budgets plan c v (ByTies s) (Isolated t) p q = absurd (never_both no_tie sys budgets c v t p.0 q)
one_isolation sys budgets plan c v (ByTies s) (ByTies t) p q = ap ByTies (one_least later sys budgets c v s t p.1 q.1)
one_isolation sys budgets plan c v (ByTies s) ByBlock p q = absurd (never_both later sys budgets c v s q p.1)
one_isolation sys budgets plan c v ByBlock (Isolated t) p q = absurd (open_never sys budgets plan c v t p q)
one_isolation sys budgets plan c v ByBlock (ByTies t) p q = absurd (never_both later sys budgets c v t p q.1)
one_isolation sys budgets plan c v ByBlock ByBlock p q = refl

row_of : ℕ → Isolation → PartIsolation
row_of q kept = record { part = q; isolation = kept }

same_row : (p q : ℕ) (a b : Isolation) → p ≡ q → a ≡ b → row_of p a ≡ row_of q b
unfolding row_of
same_row p q a b part kept = rw (part, kept) refl

one_row : (sys : SystemView) (budgets : List ℕ) → IsPlan sys budgets → (a b : PartIsolation) → a.part ≡ b.part
    → IsIsolationOf sys budgets a → IsIsolationOf sys budgets b → a ≡ b
unfolding row_of
one_row sys budgets plan a b part p q =
    same_row a.part b.part a.isolation b.isolation part
    (one_isolation sys budgets plan (own_core sys b.part) b.part a.isolation b.isolation
    (subst (λ (v : ℕ). IsIsolation sys budgets (own_core sys v) v a.isolation) part p) q)

pub one_list_of_isolations : (sys : SystemView) (budgets : List ℕ) → IsPlan sys budgets → (a b : List PartIsolation)
    → AreIsolations sys budgets a → AreIsolations sys budgets b → a ≡ b
one_list_of_isolations sys budgets plan =
    one_each (λ (row : PartIsolation). row.part) (IsIsolationOf sys budgets) (vcpus_of sys) (one_row sys budgets plan)
