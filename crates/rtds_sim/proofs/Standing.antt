-- The state of a simulation before a slot: each core stands as in its run so far.
use Rattle.std.proofs.Common.{◌≡◌, ◌≢◌, ℕ, suc, ◌<◌, ◌≤◌, List, length, Option, refl, sym, ◌∙◌, arith, subst, inl, inr}
use Rattle.std.proofs.lemmas.Bool.{cases_lt}
use Rattle.tree_model.specs.View.{SystemView}
use Rattle.tree_model.specs.System.{IsSystem}
use Rattle.tree_model.specs.Tree.{run_at}
use Rattle.tree_model.specs.Plans.{IsPlan}
use Rattle.release_file.specs.declared.workload.Wake.{Wake as Row}
use Rattle.release_file.specs.Workload.{row_at, IsWorkload}
use Rattle.release_file.proofs.Rows.{ordered}
use Rattle.rtds_sim.specs.declared.host.Host.{Host}
use Rattle.rtds_sim.specs.inner.Accounts.{new_core, core_at, holder_of, AreOn}
use Rattle.rtds_trace.specs.Printed.{AreBefore}
use Rattle.rtds_sim.specs.inner.Running.{RowsFrom, Stands}
use Rattle.rtds_sim.proofs.Members.{fresh_on}

-- each core of a host stands as in its run
pub record EachStands (sys : SystemView) (budgets : List ℕ) (rows : List Row) (runs : List (List (Option ℕ)))
    (x k : ℕ) (host : Host) : Type 0 where
  pub one_each : length host.cores.items ≡ length sys.cores
  pub cores : (c : ℕ) → c < length sys.cores
      → Stands sys budgets rows c (run_at runs c) x k (core_at host.cores.items c)

pub record Standing (sys : SystemView) (budgets : List ℕ) (rows : List Row) (runs : List (List (Option ℕ)))
    (host : Host) : Type 0 where
  pub before : AreBefore rows host.taken host.time
  pub stand : EachStands sys budgets rows runs host.time host.taken host

-- what is known of the cores at a slot is known at the slot of the host
stand_at : (sys : SystemView) (budgets : List ℕ) (rows : List Row) (runs : List (List (Option ℕ))) (x k : ℕ)
    (host : Host) → host.time ≡ x → host.taken ≡ k → EachStands sys budgets rows runs x k host
    → EachStands sys budgets rows runs host.time host.taken host
stand_at sys budgets rows runs x k host t h s =
    subst (λ (y : ℕ). EachStands sys budgets rows runs y host.taken host) (sym t)
    (subst (λ (j : ℕ). EachStands sys budgets rows runs x j host) (sym h) s)

-- at the start
pub standing_start : (sys : SystemView) → IsSystem sys → (budgets : List ℕ) → IsPlan sys budgets → (rows : List Row)
    (runs : List (List (Option ℕ))) (host : Host) → host.time ≡ 0 → host.taken ≡ 0
    → length host.cores.items ≡ length sys.cores
    → ((c : ℕ) → c < length sys.cores → core_at host.cores.items c ≡ new_core sys budgets c)
    → Standing sys budgets rows runs host
standing_start sys system budgets plan rows runs host t k long cores = record {
  before = record { in_rows = omega arith; past = λ i l. absurd (omega arith); to_come = λ i a b. omega arith };
  stand =
      stand_at sys budgets rows runs 0 0 host t k
      (record {
        one_each = long;
        cores =
            λ c l. subst (Stands sys budgets rows c (run_at runs c) 0 0) (sym (cores c l))
            (record { are = fresh_on sys system budgets plan c rows (run_at runs c); holder_is = refl });
      });
}

-- once the rows at a slot are taken
pub taken_rows : (sys : SystemView) (rows : List Row) → IsWorkload sys rows → (x k j : ℕ) → AreBefore rows k x → k ≤ j
    → j ≤ length rows → ((i : ℕ) → k ≤ i → i < j → (row_at rows i).at ≡ x) → (j < length rows → (row_at rows j).at ≢ x)
    → AreBefore rows j (suc x)
taken_rows sys rows w x k j b l h now no_more = record {
  in_rows = h;
  past = λ i m. elim (cases_lt i k) [ inl q ↦ omega (arith, b.past i q) | inr q ↦ omega (arith, now i q m) ];
  to_come = λ i m q.
      let first : x < (row_at rows j).at = omega (arith, b.to_come j l (omega arith), no_more (omega arith)) in
      omega (arith, ordered sys rows w j i m q);
}

-- in the middle of a visit: the rows at the slot are taken, and the cores are as before
pub record Visit (sys : SystemView) (budgets : List ℕ) (rows : List Row) (runs : List (List (Option ℕ)))
    (host : Host) : Type 0 where
  pub taken : AreBefore rows host.taken (suc host.time)
  pub stand : EachStands sys budgets rows runs host.time host.taken host

pub visit_rows : (sys : SystemView) (budgets : List ℕ) → IsPlan sys budgets → (rows : List Row) → IsWorkload sys rows
    → (runs : List (List (Option ℕ))) (old host : Host) → Standing sys budgets rows runs old
    → host.time ≡ old.time → length host.cores.items ≡ length old.cores.items
    → ((c : ℕ) → c < length old.cores.items
    → holder_of (core_at host.cores.items c) ≡ holder_of (core_at old.cores.items c))
    → host.taken ≤ length rows → old.taken ≤ host.taken
    → ((i : ℕ) → old.taken ≤ i → i < host.taken → (row_at rows i).at ≡ old.time)
    → (host.taken < length rows → (row_at rows host.taken).at ≢ old.time)
    → ((budgets : List ℕ) (runs : List (List (Option ℕ))) (c : ℕ) → IsPlan sys budgets → IsWorkload sys rows
    → c < length sys.cores
    → AreOn sys budgets rows c (run_at runs c) old.time old.taken (core_at old.cores.items c).vcpus
    → AreOn sys budgets rows c (run_at runs c) old.time host.taken (core_at host.cores.items c).vcpus)
    → Visit sys budgets rows runs host
visit_rows sys budgets plan rows w runs old host s t long held in_rows later now no_more vcpus = record {
  taken =
      subst (λ (x : ℕ). AreBefore rows host.taken (suc x)) (sym t)
      (taken_rows sys rows w old.time old.taken host.taken s.before later in_rows now no_more);
  stand =
      stand_at sys budgets rows runs old.time host.taken host t refl
      (record {
        one_each = long ∙ s.stand.one_each;
        cores = λ c l. record {
          are = vcpus budgets runs c plan w l (s.stand.cores c l).are;
          holder_is = held c (omega (arith, l, s.stand.one_each)) ∙ (s.stand.cores c l).holder_is;
        };
      });
}

-- the next slot, once each core has run up to it
pub standing_next : (sys : SystemView) (budgets : List ℕ) (rows : List Row) (runs : List (List (Option ℕ))) (x k to : ℕ)
    → AreBefore rows k (suc x) → x < to → RowsFrom rows k to → (host : Host) → host.time ≡ to → host.taken ≡ k
    → EachStands sys budgets rows runs to k host → Standing sys budgets rows runs host
standing_next sys budgets rows runs x k to taken later rows_later host t h stand = record {
  before =
      record {
        in_rows = omega (arith, taken.in_rows, h);
        past = λ i l. omega (arith, taken.past i (omega (arith, l, h)), later, t);
        to_come = λ i a b. omega (arith, rows_later i (omega (arith, a, h)) b, t);
      };
  stand = stand_at sys budgets rows runs to k host t h stand;
}
