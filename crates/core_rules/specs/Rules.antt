-- The rules of deferrable servers with extra time, as Xen's RTDS, and of constant bandwidth
-- servers, as Linux's SCHED_DEADLINE.
use Rattle.std.specs.Prelude.{ℕ, nat_lt, List, Option}
use Rattle.tree_model.specs.View.{SystemView}
use Rattle.release_file.specs.declared.workload.Wake.{Wake}
use Rattle.rtds_model.specs.Rtds.{is_eligible as rtds_eligible, goes_before as rtds_before, CoreRun}
use Rattle.cbs_servers.specs.Cbs.{Servers, account, is_eligible as cbs_eligible, goes_before as cbs_before, CbsRun, FileRun}
use Rattle.core_rules.specs.Rule.{Rule, RuleRun}

-- RTDS on core c: the level, then the deadline, then the order of the file
abbrev pub rtds_rule : SystemView → List ℕ → List Wake → ℕ → Rule
rtds_rule sys budgets rows c = record {
  eligible = rtds_eligible sys budgets rows c;
  before = rtds_before sys budgets rows;
}

-- constant bandwidth servers: the deadline alone, so that ties are open
abbrev pub cbs_rule : Servers → Rule
cbs_rule s = record {
  eligible = cbs_eligible s;
  before = λ run x u v. nat_lt (account s run u x).due (account s run v x).due;
}

-- and the deadline, then the order of the file
abbrev pub cbs_file_rule : Servers → Rule
cbs_file_rule s = record { eligible = cbs_eligible s; before = cbs_before s }

-- what is a run in one sense is one in the other, and the other way round
abbrev pub SameRuns : (ℕ → List (Option ℕ) → Type 0) → (ℕ → List (Option ℕ) → Type 0) → Type 0
SameRuns IsRun IsOther =
    (n : ℕ) (run : List (Option ℕ)) → (IsRun n run → IsOther n run) × (IsOther n run → IsRun n run)

-- the runs of RTDS on a core are just those by its rule
abbrev pub RtdsByRule : Type 0
RtdsByRule =
    (sys : SystemView) (budgets : List ℕ) (rows : List Wake) (c : ℕ) →
    SameRuns (λ n. CoreRun sys budgets rows n c) (RuleRun (rtds_rule sys budgets rows c))

-- those of constant bandwidth servers just those by theirs, with ties open, and by the order of the
-- file
abbrev pub CbsByRule : Type 0
CbsByRule = (s : Servers) → SameRuns (CbsRun s) (RuleRun (cbs_rule s))

abbrev pub CbsFileByRule : Type 0
CbsFileByRule = (s : Servers) → SameRuns (FileRun s) (RuleRun (cbs_file_rule s))
