-- A system has one certificate that is made for it.
use Rattle.std.proofs.Common.{◌≡◌, ℕ, zero, suc, ◌+◌, ◌-◌, ◌<◌, ◌≤◌, add-one, Bool, true, false, List, [], length, get_or, Option, Some, None, refl, sym, ◌∙◌, ap, subst, inl, inr, arith}
use Rattle.std.proofs.lemmas.Bool.{cases_lt, cases_order, cond-false, le-ltb}
use Rattle.std.proofs.lemmas.List.{ext_get_or}
use Rattle.std.specs.Prelude.{nat_lt}
use Rattle.slot_model.specs.declared.sched.Sched.{Sched}
use Rattle.slot_model.specs.declared.sched.Sched.TheVariants.{Edf, Rm, Dm, Listed}
use Rattle.slot_model.specs.declared.sched.Short.{Short}
use Rattle.slot_model.specs.declared.sched.Short.TheVariants.{At, Task}
use Rattle.slot_model.specs.Task.{SporadicTask}
use Rattle.slot_model.specs.Order.{ranks_above}
use Rattle.slot_model.specs.Bound.{sbf, dbf}
use Rattle.slot_model.specs.Points.{IsCover, IsBackward}
use Rattle.slot_model.proofs.Budgets.{one_shortfall}
use Rattle.edf_demand.proofs.Horizons.{horizon_unique}
use Rattle.fp_test.specs.Falls.{IsNextFall, AreFalls}
use Rattle.tree_model.specs.declared.place.Place.{Place}
use Rattle.tree_model.specs.declared.place.Place.TheVariants.{Core, Part}
use Rattle.tree_model.specs.CertificateView.{NodeView}
use Rattle.tree_model.specs.View.{SystemView}
use Rattle.tree_model.specs.System.{IsSystem, core_at}
use Rattle.tree_model.specs.Tree.{node_tasks, node_sched, node_cycle, node_bound, given_budget, core_budget, budget_at}
use Rattle.tree_model.proofs.Unique.{one_admission}
use Rattle.cert_verify.specs.Proves.{no_node, node_at, IsBudget, budgets_of}
use Rattle.cert_verify.proofs.Admits.{budget_here, proves_admits}
use Rattle.certificate.specs.Made.{IsBackwardCover, AreLeastHits, ListsPass, ListsShort, ListsLeast, IsMade, IsCertificate}
use Rattle.certificate.proofs.Shows.{certificate_proves}

-- the least number whose bound is enough
least_is_one : (bound : ℕ → ℕ) (need v w : ℕ) → need ≤ bound v → need ≤ bound w → ((u : ℕ) → u < v → bound u < need)
    → ((u : ℕ) → u < w → bound u < need) → v ≡ w
least_is_one bound need v w enough suffices before_v before_w = elim (cases_order v w) [
  | inl same ↦ same
  | inr o ↦
      elim o [
        | inl l ↦
            absurd (omega (arith, enough, before_w v l))
        | inr l ↦ absurd (omega (arith, suffices, before_v w l))
      ]
]

-- the walks backwards agree, counted from their ends
walks_agree : (tasks : List SporadicTask) (bound : ℕ → ℕ) (h : ℕ) (xs ys : List ℕ) → IsCover tasks bound h xs
    → IsBackward tasks bound h xs → IsCover tasks bound h ys → IsBackward tasks bound h ys →
    (j i k : ℕ) → i + j + 1 ≡ length xs → k + j + 1 ≡ length ys → get_or xs i 0 ≡ get_or ys k 0
walks_agree tasks bound h xs ys cover back covers backs zero i k e f =
    let last_x : i ≡ length xs - 1 = omega (arith, e) in
    let last_y : k ≡ length ys - 1 = omega (arith, f) in
    ap (λ z. get_or xs z 0) last_x ∙ (back.ends ∙ (sym backs.ends ∙ ap (λ z. get_or ys z 0) (sym last_y)))
walks_agree tasks bound h xs ys cover back covers backs (suc j) i k e f =
    let later : get_or xs (i + 1) 0 ≡ get_or ys (k + 1) 0
    = walks_agree tasks bound h xs ys cover back covers backs j (i + 1) (k + 1) (omega (arith, e))
    (omega (arith, f)) in
    let need : dbf tasks (get_or xs (i + 1) 0 - 1) ≡ dbf tasks (get_or ys (k + 1) 0 - 1)
    = ap (λ z. dbf tasks (z - 1)) later in
    let l : i + 1 < length xs = omega (arith, e) in
    let m : k + 1 < length ys = omega (arith, f) in
    least_is_one bound (dbf tasks (get_or xs (i + 1) 0 - 1)) (get_or xs i 0) (get_or ys k 0) (cover.steps i l)
    (omega (arith, need, covers.steps k m))
    (λ u s. back.least i u l s) (λ u s. omega (arith, need, backs.least k u m s))

-- the points of a cover are windows of a slot or more
some_slots : (tasks : List SporadicTask) (bound : ℕ → ℕ) (h : ℕ) (ys : List ℕ) → IsCover tasks bound h ys → (k : ℕ)
    → k < length ys → 1 ≤ get_or ys k 0
some_slots tasks bound h ys cover zero l = cover.some_slots
some_slots tasks bound h ys cover (suc k) l =
    subst (λ z. 1 ≤ get_or ys z 0) (add-one k) (omega (arith, cover.rising k (omega (arith, l))))

-- below the first point of one walk nothing is asked for, so the other does not go on there
not_shorter : (tasks : List SporadicTask) (bound : ℕ → ℕ) (h : ℕ) (xs ys : List ℕ) → IsCover tasks bound h xs
    → IsBackward tasks bound h xs → IsCover tasks bound h ys → IsBackward tasks bound h ys → length xs < length ys → ⊥
not_shorter tasks bound h xs ys cover back covers backs less =
    let e : ℕ = length ys - length xs - 1 in
    let there : e + 1 + length xs ≡ length ys = omega (arith, less) in
    let first : get_or xs 0 0 ≡ get_or ys (e + 1) 0
    = walks_agree tasks bound h xs ys cover back covers backs (length xs - 1) 0 (e + 1)
    (omega (arith, cover.some_point)) (omega (arith, there, cover.some_point)) in
    let need : dbf tasks (get_or xs 0 0 - 1) ≡ dbf tasks (get_or ys (e + 1) 0 - 1)
    = ap (λ z. dbf tasks (z - 1)) first in
    let inside : e + 1 < length ys = omega (arith, there, cover.some_point) in
    let positive : 1 ≤ get_or ys e 0 = some_slots tasks bound h ys covers e (omega (arith, inside)) in
    omega (arith, cover.none_before, need, backs.least e 0 inside (omega (arith, positive)))

one_walk : (tasks : List SporadicTask) (bound : ℕ → ℕ) (h : ℕ) (xs ys : List ℕ) → IsCover tasks bound h xs
    → IsBackward tasks bound h xs → IsCover tasks bound h ys → IsBackward tasks bound h ys → xs ≡ ys
one_walk tasks bound h xs ys cover back covers backs = elim (cases_order (length xs) (length ys)) [
  | inl same ↦
      ext_get_or 0 xs ys same (λ k l. walks_agree tasks bound h xs ys cover back covers backs (length xs - 1 - k) k k
      (omega (arith, l)) (omega (arith, l, same)))
  | inr o ↦ elim o [
    | inl less ↦ absurd (not_shorter tasks bound h xs ys cover back covers backs less)
    | inr more ↦ absurd (not_shorter tasks bound h ys xs covers backs cover back more)
  ]
]

one_cover : (tasks : List SporadicTask) (bound : ℕ → ℕ) (cycle : ℕ) (xs ys : List ℕ)
    → IsBackwardCover tasks bound cycle xs → IsBackwardCover tasks bound cycle ys → xs ≡ ys
one_cover tasks bound cycle xs ys p q =
    let same : q.horizon ≡ p.horizon = horizon_unique tasks cycle q.horizon p.horizon q.is_horizon p.is_horizon in
    one_walk tasks bound p.horizon xs ys p.cover p.backward (subst (λ h. IsCover tasks bound h ys) same q.cover)
    (subst (λ h. IsBackward tasks bound h ys) same q.backward)

-- the least hits
one_list_of_hits : (above : ℕ → ℕ → Bool) (tasks : List SporadicTask) (bound : ℕ → ℕ) (xs ys : List ℕ)
    → AreLeastHits above tasks bound xs → AreLeastHits above tasks bound ys → xs ≡ ys
one_list_of_hits above tasks bound xs ys p q = ext_get_or 0 xs ys (p.one_each ∙ sym q.one_each) (λ i l.
    let task : i < length tasks = omega (arith, l, p.one_each) in
    elim (cases_order (get_or xs i 0) (get_or ys i 0)) [
      | inl same ↦ same
      | inr o ↦ elim o [
        | inl less ↦ absurd (q.least i (get_or xs i 0) task less (p.each i task))
        | inr more ↦ absurd (p.least i (get_or ys i 0) task more (q.each i task))
      ]
    ])

-- the falls
one_next : (above : ℕ → ℕ → Bool) (tasks : List SporadicTask) (bound : ℕ → ℕ) (i from a b : ℕ)
    → IsNextFall above tasks bound i from a → IsNextFall above tasks bound i from b → a ≡ b
one_next above tasks bound i from a b p q = elim (cases_order a b) [
  | inl same ↦ same
  | inr o ↦ elim o [
    | inl l ↦ absurd (omega (arith, p.gives (omega (arith, l, q.within)), q.below a l))
    | inr l ↦ absurd (omega (arith, q.gives (omega (arith, l, p.within)), p.below b l))
  ]
]

falls_agree : (above : ℕ → ℕ → Bool) (tasks : List SporadicTask) (bound : ℕ → ℕ) (i : ℕ) (xs ys : List ℕ)
    → AreFalls above tasks bound i xs → AreFalls above tasks bound i ys → (j : ℕ) → j < length xs → j < length ys
    → get_or xs j 0 ≡ get_or ys j 0
falls_agree above tasks bound i xs ys p q zero l m = p.from_one ∙ sym q.from_one
falls_agree above tasks bound i xs ys p q (suc j) l m =
    let before : get_or xs j 0 ≡ get_or ys j 0
    = falls_agree above tasks bound i xs ys p q j (omega (arith, l)) (omega (arith, m)) in
    subst (λ z. get_or xs z 0 ≡ get_or ys z 0) (add-one j)
    (one_next above tasks bound i (get_or xs j 0) (get_or xs (j + 1) 0) (get_or ys (j + 1) 0)
    (p.steps j (omega (arith, l)))
    (subst (λ z. IsNextFall above tasks bound i z (get_or ys (j + 1) 0)) (sym before) (q.steps j (omega (arith, m)))))

no_fewer_falls : (above : ℕ → ℕ → Bool) (tasks : List SporadicTask) (bound : ℕ → ℕ) (i : ℕ) (xs ys : List ℕ)
    → AreFalls above tasks bound i xs → AreFalls above tasks bound i ys → length xs < length ys → ⊥
no_fewer_falls above tasks bound i xs ys p q less =
    let last : ℕ = length xs - 1 in
    let next : last + 1 < length ys = omega (arith, less, p.some_point) in
    let same : get_or xs last 0 ≡ get_or ys last 0
    = falls_agree above tasks bound i xs ys p q last (omega (arith, p.some_point)) (omega (arith, next)) in
    omega (arith, same, p.to_deadline, q.rising last next, (q.steps last next).within)

one_list_of_falls : (above : ℕ → ℕ → Bool) (tasks : List SporadicTask) (bound : ℕ → ℕ) (i : ℕ) (xs ys : List ℕ)
    → AreFalls above tasks bound i xs → AreFalls above tasks bound i ys → xs ≡ ys
one_list_of_falls above tasks bound i xs ys p q = elim (cases_order (length xs) (length ys)) [
  | inl same ↦ ext_get_or 0 xs ys same (λ k l. falls_agree above tasks bound i xs ys p q k l (omega (arith, l, same)))
  | inr o ↦ elim o [
    | inl less ↦ absurd (no_fewer_falls above tasks bound i xs ys p q less)
    | inr more ↦ absurd (no_fewer_falls above tasks bound i ys xs q p more)
  ]
]

-- the lists of a level
fixed_pass : (above : ℕ → ℕ → Bool) (tasks : List SporadicTask) (bound : ℕ → ℕ) (ps qs hs gs : List ℕ)
    → AreLeastHits above tasks bound hs × (ps ≡ []) → AreLeastHits above tasks bound gs × (qs ≡ [])
    → (ps ≡ qs) × (hs ≡ gs)
fixed_pass above tasks bound ps qs hs gs a b = (a.1 ∙ sym b.1, one_list_of_hits above tasks bound hs gs a.0 b.0)

one_pass : (sched : Sched) (tasks : List SporadicTask) (bound : ℕ → ℕ) (cycle : ℕ) (ps qs hs gs : List ℕ)
    → ListsPass sched tasks bound cycle ps hs → ListsPass sched tasks bound cycle qs gs → (ps ≡ qs) × (hs ≡ gs)
one_pass Edf tasks bound cycle ps qs hs gs a b = (one_cover tasks bound cycle ps qs a.0 b.0, a.1 ∙ sym b.1)
one_pass Rm tasks bound cycle ps qs hs gs a b = fixed_pass (ranks_above Rm tasks) tasks bound ps qs hs gs a b
one_pass Dm tasks bound cycle ps qs hs gs a b = fixed_pass (ranks_above Dm tasks) tasks bound ps qs hs gs a b
one_pass Listed tasks bound cycle ps qs hs gs a b = fixed_pass (ranks_above Listed tasks) tasks bound ps qs hs gs a b

number_in : Short → ℕ
number_in (At t) = t
number_in (Task i) = i

fixed_short : (above : ℕ → ℕ → Bool) (tasks : List SporadicTask) (bound : ℕ → ℕ) (w v : Option ℕ) (i k : ℕ)
    (fs gs : List ℕ) → i ≡ k → w ≡ Some i → v ≡ Some k → AreFalls above tasks bound i fs
    → AreFalls above tasks bound k gs → (w ≡ v) × (fs ≡ gs)
fixed_short above tasks bound w v i k fs gs same is are p q = (
  is ∙ (ap Some same ∙ sym are),
  one_list_of_falls above tasks bound i fs gs p (subst (λ z. AreFalls above tasks bound z gs) (sym same) q),
)

one_short : (sched : Sched) (tasks : List SporadicTask) (bound : ℕ → ℕ) (w v : Option ℕ) (fs gs : List ℕ)
    → ListsShort sched tasks bound w fs → ListsShort sched tasks bound v gs → (w ≡ v) × (fs ≡ gs)
unfolding number_in
one_short Edf tasks bound w v fs gs a b =
    let same : a.window ≡ b.window
    = ap number_in (one_shortfall Edf tasks bound (At a.window) (At b.window) a.first b.first) in
    (a.is ∙ (ap Some same ∙ sym b.is), a.no_falls ∙ sym b.no_falls)
one_short Rm tasks bound w v fs gs a b =
    fixed_short (ranks_above Rm tasks) tasks bound w v a.task b.task fs gs
    (ap number_in (one_shortfall Rm tasks bound (Task a.task) (Task b.task) a.first b.first)) a.is b.is a.are_falls
    b.are_falls
one_short Dm tasks bound w v fs gs a b =
    fixed_short (ranks_above Dm tasks) tasks bound w v a.task b.task fs gs
    (ap number_in (one_shortfall Dm tasks bound (Task a.task) (Task b.task) a.first b.first)) a.is b.is a.are_falls
    b.are_falls
one_short Listed tasks bound w v fs gs a b =
    fixed_short (ranks_above Listed tasks) tasks bound w v a.task b.task fs gs
    (ap number_in (one_shortfall Listed tasks bound (Task a.task) (Task b.task) a.first b.first)) a.is b.is a.are_falls
    b.are_falls

one_least : (computed : Bool) (sched : Sched) (tasks : List SporadicTask) (period budget : ℕ) (w v : Option ℕ)
    (fs gs : List ℕ) → ListsLeast computed sched tasks period budget w fs
    → ListsLeast computed sched tasks period budget v gs → (w ≡ v) × (fs ≡ gs)
one_least true sched tasks period budget w v fs gs a b = one_short sched tasks (sbf period (budget - 1)) w v fs gs a b
one_least false sched tasks period budget w v fs gs a b = (a.0 ∙ sym b.0, a.1 ∙ sym b.1)

-- a node of the same place and budget
abbrev node_of : Place → ℕ → ℕ → Bool → List ℕ → List ℕ → Option ℕ → List ℕ → NodeView
node_of place period budget computed points hits witness falls =
    record {
      place = place;
      period = period;
      budget = budget;
      computed = computed;
      points = points;
      hits = hits;
      witness = witness;
      falls = falls;
    }

same_node : (p q : Place) (r s b c : ℕ) (x y : Bool) (ps qs hs gs : List ℕ) (w v : Option ℕ) (fs es : List ℕ) → p ≡ q
    → r ≡ s → b ≡ c → x ≡ y → ps ≡ qs → hs ≡ gs → w ≡ v → fs ≡ es
    → node_of p r b x ps hs w fs ≡ node_of q s c y qs gs v es
same_node p q r s b c x y ps qs hs gs w v fs es place period budget computed points hits witness falls =
    rw (place, period, budget, computed, points, hits, witness, falls) refl

one_flag : (given : Option ℕ) (a b : NodeView) → IsBudget given a → IsBudget given b → a.computed ≡ b.computed
one_flag (Some budget) a b p q = p.0 ∙ sym q.0
one_flag None a b p q = p.0 ∙ sym q.0

one_node : (sys : SystemView) (budgets : List ℕ) (a b : NodeView) → a.place ≡ b.place → a.budget ≡ b.budget
    → IsMade sys budgets a → IsMade sys budgets b → a ≡ b
one_node sys budgets a b place budget p q =
    let period : a.period ≡ b.period = p.has.period ∙ (ap (node_cycle sys) place ∙ sym q.has.period) in
    let flag : a.computed ≡ b.computed
    = one_flag (given_budget sys b.place) a b
    (subst (λ (z : Place). IsBudget (given_budget sys z) a) place p.has.budget) q.has.budget in
    let pass : (a.points ≡ b.points) × (a.hits ≡ b.hits)
    = one_pass (node_sched sys b.place) (node_tasks sys budgets b.place) (node_bound sys budgets b.place)
    (node_cycle sys b.place) a.points b.points a.hits b.hits
    (subst (λ (z : Place). ListsPass (node_sched sys z) (node_tasks sys budgets z) (node_bound sys budgets z)
    (node_cycle sys z) a.points a.hits) place p.pass) q.pass in
    let here : ListsLeast a.computed (node_sched sys b.place) (node_tasks sys budgets b.place) a.period a.budget
    a.witness a.falls
    = subst (λ (z : Place). ListsLeast a.computed (node_sched sys z) (node_tasks sys budgets z) a.period a.budget
    a.witness a.falls) place p.least in
    let over : ListsLeast a.computed (node_sched sys b.place) (node_tasks sys budgets b.place) b.period b.budget
    a.witness a.falls
    =
    subst (λ (z : ℕ). ListsLeast a.computed (node_sched sys b.place) (node_tasks sys budgets b.place) z b.budget
    a.witness a.falls) period (subst (λ (z : ℕ). ListsLeast a.computed (node_sched sys b.place)
    (node_tasks sys budgets b.place) a.period z a.witness a.falls) budget here) in
    let least : (a.witness ≡ b.witness) × (a.falls ≡ b.falls)
    = one_least b.computed (node_sched sys b.place) (node_tasks sys budgets b.place) b.period b.budget a.witness
    b.witness a.falls b.falls
    (subst (λ (z : Bool). ListsLeast z (node_sched sys b.place) (node_tasks sys budgets b.place) b.period b.budget
    a.witness a.falls) flag over) q.least in
    same_node a.place b.place a.period b.period a.budget b.budget a.computed b.computed a.points b.points a.hits b.hits
    a.witness b.witness a.falls b.falls place period budget flag pass.0 pass.1 least.0 least.1

-- a core's budget is the file's
core_budget_of : (sys : SystemView) (nodes : List NodeView) → IsCertificate sys nodes → (k : ℕ) → k < length nodes
    → length sys.parts ≤ k → (node_at nodes k).budget ≡ core_budget (core_at sys (k - length sys.parts)).supply
core_budget_of sys nodes made k l past =
    let place : (node_at nodes k).place ≡ Core (k - length sys.parts)
    = made.are_nodes.in_order k l
    ∙ cond-false {A = Place} (nat_lt k (length sys.parts)) (Part k) (Core (k - length sys.parts))
    (le-ltb k (length sys.parts) past) in
    (subst (λ (z : Place). IsBudget (given_budget sys z) (node_at nodes k)) place (made.each k l).has.budget).1

pub one_certificate : (sys : SystemView) → IsSystem sys → (xs ys : List NodeView) → IsCertificate sys xs
    → IsCertificate sys ys → xs ≡ ys
one_certificate sys is xs ys p q =
    let same : budgets_of sys ys ≡ budgets_of sys xs
    = one_admission sys is (budgets_of sys ys) (budgets_of sys xs)
    (proves_admits sys is ys (certificate_proves sys ys q))
    (proves_admits sys is xs (certificate_proves sys xs p)) in
    let long : length xs ≡ length ys = p.are_nodes.all ∙ sym q.are_nodes.all in
    ext_get_or no_node xs ys long (λ k l.
    let m : k < length ys = omega (arith, l, long) in
    let budget : (node_at xs k).budget ≡ (node_at ys k).budget = elim (cases_lt k (length sys.parts)) [
      | inl part ↦
          sym (budget_here sys xs p.are_nodes k part)
          ∙ (ap (λ (bs : List ℕ). budget_at bs k) (sym same) ∙ budget_here sys ys q.are_nodes k part)
      | inr core ↦
          core_budget_of sys xs p k l (omega (arith, core)) ∙ sym (core_budget_of sys ys q k m (omega (arith, core)))
    ] in
    one_node sys (budgets_of sys xs) (node_at xs k) (node_at ys k)
    (p.are_nodes.in_order k l ∙ sym (q.are_nodes.in_order k m)) budget
    (p.each k l) (subst (λ (bs : List ℕ). IsMade sys bs (node_at ys k)) same (q.each k m)))
