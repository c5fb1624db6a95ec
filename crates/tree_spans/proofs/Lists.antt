-- Lists of slots as windows, and what is said of a tree over both.
use Rattle.std.proofs.Common.{◌≡◌, ℕ, ◌+◌, ◌^◌, ◌<◌, ◌≤◌, Bool, List, [], ◌∷◌, ◌++◌, length, map, get_or, sym, ◌∙◌, ap, arith, subst, inl, inr, mul-le-mul_right, Vec, Global}
use Rattle.std.proofs.lemmas.Bool.{cases_eq}
use Rattle.std.proofs.lemmas.List.{get_or_append_left, get_or_push, length_push, length-map, get_or-map, ext_get_or}
use Rattle.slot_model.specs.declared.job.Job.{Job}
use Rattle.guest_sched.specs.Spans.{Window, AreWindows, slots_of}
use Rattle.tree_model.specs.declared.place.Place.{Place}
use Rattle.tree_model.specs.View.{SystemView}
use Rattle.tree_model.specs.System.{IsSystem}
use Rattle.tree_model.specs.Tree.{server_tasks, server_jobs}
use Rattle.release_pattern.proofs.FewJobs.{synchronous-few}
use Rattle.tree_model.proofs.Parents.{few_servers}
use Rattle.tree_model.specs.Releases.{jobs_at}
use Rattle.tree_spans.specs.TreeSpans.{supplies_of, AreWindowsOf, AreSupplies, AreFewJobs}
use Rattle.tree_spans.specs.Shares.{share_at}

abbrev pub window_lists : List (Vec Window Global) → List (List Window)
window_lists windows = map (λ (s : Vec Window Global). s.items) windows

abbrev pub job_lists : List (Vec Job Global) → List (List Job)
job_lists jobs = map (λ (s : Vec Job Global). s.items) jobs

abbrev pub slot_lists : List (Vec Bool Global) → List (List Bool)
slot_lists slots = map (λ (s : Vec Bool Global). s.items) slots

-- what is read at a task's place is its share
pub share_read : (shares : List (Vec Window Global)) (t : ℕ) (own : Vec Window Global) → t < length shares
    → own ≡ get_or shares t own → share_at (window_lists shares) t ≡ own.items
share_read shares t own l r =
    get_or-map (λ (s : Vec Window Global). s.items) shares t own [] l ∙ ap (λ (s : Vec Window Global). s.items) (sym r)

pub one_list : (n : ℕ) (given : List (List Bool)) (m : ℕ) (lists : List (List Window)) → AreWindowsOf n given m lists
    → (new : List Window) → AreWindows new n → slots_of new n ≡ get_or given m []
    → AreWindowsOf n given (m + 1) (lists ++ new ∷ [])
one_list n given m lists h new are same = record {
  long = omega (arith, length_push lists new, h.long);
  windows = λ c l. elim (cases_eq c m) [
    | inl now ↦ subst (λ (w : List Window). AreWindows w n) (sym (get_or_push lists new [] c (h.long ∙ sym now))) are
    | inr ne ↦
        subst (λ (w : List Window). AreWindows w n)
        (sym (get_or_append_left lists (new ∷ []) [] c (omega (arith, h.long)))) (h.windows c (omega arith))
  ];
  same = λ c l. elim (cases_eq c m) [
    | inl now ↦
        ap (λ (w : List Window). slots_of w n) (get_or_push lists new [] c (h.long ∙ sym now))
        ∙ (same ∙ ap (λ (z : ℕ). get_or given z []) (sym now))
    | inr ne ↦
        ap (λ (w : List Window). slots_of w n) (get_or_append_left lists (new ∷ []) [] c (omega (arith, h.long)))
        ∙ h.same c (omega arith)
  ];
}

pub same_supplies : (n : ℕ) (given : List (List Bool)) (lists : List (List Window))
    → AreWindowsOf n given (length given) lists → supplies_of lists n ≡ given
same_supplies n given lists h =
    let long : length (supplies_of lists n) ≡ length lists = length-map lists (λ (w : List Window). slots_of w n) in
    ext_get_or [] (supplies_of lists n) given (long ∙ h.long) (λ i l. get_or-map (λ (w : List Window). slots_of w n)
    lists i [] [] (omega arith) ∙ h.same i (omega (arith, h.long)))

pub are_supplies : (sys : SystemView) (n : ℕ) (given : List (List Bool)) (lists : List (List Window))
    → length given ≡ length sys.cores → AreWindowsOf n given (length given) lists → AreSupplies sys n lists
are_supplies sys n given lists e h = record { one_each = h.long ∙ e; windows = λ c l. h.windows c (omega arith) }

pub servers_in_reach : (sys : SystemView) (budgets : List ℕ) (n : ℕ) → IsSystem sys → n ≤ 1000000 → (node : Place)
    → length (server_jobs sys budgets node n) < 2 ^ 32
servers_in_reach sys budgets n is l node =
    omega (
      arith,
      synchronous-few (server_tasks sys budgets node) 0 n,
      mul-le-mul_right (length (server_tasks sys budgets node)) l,
      few_servers sys is budgets node,
    )

pub few_in_reach : (sys : SystemView) (budgets : List ℕ) (n : ℕ) (jobs : List (List Job)) → IsSystem sys → n ≤ 1000000
    → ((q : ℕ) → q < length sys.parts → length (jobs_at jobs q) < 2 ^ 32) → AreFewJobs sys budgets n jobs
few_in_reach sys budgets n jobs is l own =
    record { servers = λ node m. servers_in_reach sys budgets n is l node; own = own }

-- the list that the code reads of several
pub list_read : {X : Type 0} (vecs : List (Vec X Global)) (i count : ℕ) (own : Vec X Global) (read : List X)
    → length (map (λ (s : Vec X Global). s.items) vecs) ≡ count → i < count → own ≡ get_or vecs i own → read ≡ own.items
    → read ≡ get_or (map (λ (s : Vec X Global). s.items) vecs) i []
list_read {X} vecs i count own read e l r w =
    w
    ∙ (ap (λ (s : Vec X Global). s.items) r
    ∙ sym (get_or-map (λ (s : Vec X Global). s.items) vecs i own []
    (omega (arith, e, length-map vecs (λ (s : Vec X Global). s.items)))))
