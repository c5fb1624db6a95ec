-- What `simulate` answers: one thing, its statuses, and what it means.
use Rattle.std.proofs.Common.{◌≡◌, ℕ, Bool, true, false, List, Option, refl, sym, ◌∙◌, ap, subst}
use Rattle.csv_rows.specs.Reading.{records_of}
use Rattle.slot_model.specs.declared.job.Job.{Job}
use Rattle.tree_model.specs.View.{SystemView}
use Rattle.tree_model.specs.System.{IsSystem}
use Rattle.tree_model.proofs.FirstTrees.{first_tree_unique}
use Rattle.release_file.specs.ReleaseFile.{release_rows}
use Rattle.release_file.proofs.OneReleases.{same_jobs, no_release_fault, one_release_fault}
use Rattle.server_sched.specs.declared.supplies.Pattern.{Pattern}
use Rattle.server_sched.specs.Patterns.{pattern_supplies}
use Rattle.tree_spans.specs.TreeCounts.{CountsView, no_node_misses, AreTreeCounts}
use Rattle.server_sched.proofs.Counted.{kept_exactly}
use Rattle.rt_report.specs.Simulate.{simulate_text}
use Rattle.rt_report.proofs.OneCounts.{one_counts}
use Rattle.command_frame.specs.declared.status.Status.{Status}
use Rattle.command_frame.specs.declared.status.Status.TheVariants.{Yes, No, Wide}
use Rattle.command_frame.specs.Answer.{Contents, IsOne}
use Rattle.command_frame.specs.Budgets.{AssignedOrNone}
use Rattle.command_frame.specs.CommandSpec.{IsVerdict}
use Rattle.trace_commands.specs.Simulate.{the_simulate, releasing, RunsFirst, kept_status, IsSimulated, IsSimulationOf, Simulates, SimulatesJobs, TellsNoMiss, SimulateMeans}
use Rattle.command_frame.specs.Steps.{IsJudged}
use Rattle.command_frame.specs.TwoFiles.{OnTwoFiles}
use Rattle.command_frame.proofs.Attempt.{IsDecided}
use Rattle.command_frame.proofs.Budgets.{no_of_assigned, one_assigned, said_of_assigned, statuses_assigned}
use Rattle.command_frame.proofs.CommandLaws.{CommandLaws}
use Rattle.command_frame.proofs.ReadSecond.{JudgesRead, is_spelled_system, no_of_read, read_laws, said_of_read}

pub releasing_decided : (sys : SystemView) (bytes : List ℕ) → IsDecided (releasing sys bytes)
releasing_decided sys bytes = record {
  one_value = same_jobs sys (records_of bytes);
  never_both = no_release_fault sys (records_of bytes);
  one_refusal = one_release_fault sys (release_rows (records_of bytes));
}

-- the counts of one first run of the tree are those of any other
moved_counts : (pattern : Pattern) (n : ℕ) (sys : SystemView) (jobs : List (List Job)) (budgets : List ℕ) → IsSystem sys
    → (core_runs part_runs other_cores other_parts : List (List (Option ℕ)))
    → RunsFirst sys pattern n jobs budgets core_runs part_runs
    → RunsFirst sys pattern n jobs budgets other_cores other_parts → (counts : CountsView)
    → AreTreeCounts sys budgets n (pattern_supplies sys pattern n) jobs core_runs part_runs counts
    → AreTreeCounts sys budgets n (pattern_supplies sys pattern n) jobs other_cores other_parts counts
moved_counts pattern n sys jobs budgets is core_runs part_runs other_cores other_parts p q counts h =
    let given = pattern_supplies sys pattern n in
    let same = first_tree_unique sys budgets n given jobs is core_runs part_runs other_cores other_parts p q in
    subst (λ (v : List (List (Option ℕ))). AreTreeCounts sys budgets n given jobs other_cores v counts) same.1
    (subst (λ (v : List (List (Option ℕ))). AreTreeCounts sys budgets n given jobs v part_runs counts) same.0 h)

-- one answer
one_simulation : (pattern : Pattern) (n : ℕ) (sys : SystemView) → IsSystem sys
    → (jobs : List (List Job)) (budgets : List ℕ) → IsOne (IsSimulated pattern n sys jobs budgets)
one_simulation pattern n sys is jobs budgets = λ s t x y p q.
    let counted
    = moved_counts pattern n sys jobs budgets is p.core_runs p.part_runs q.core_runs q.part_runs p.first q.first
    p.counts p.counted in
    let same : p.counts ≡ q.counts
    = one_counts sys budgets n (pattern_supplies sys pattern n) jobs q.core_runs q.part_runs p.counts q.counts
    counted q.counted in (
      p.status_is ∙ ap (λ (c : CountsView). kept_status (no_node_misses c)) same ∙ sym q.status_is,
      p.told ∙ ap (simulate_text sys) same ∙ sym q.told,
    )

-- its statuses
kept_is : (P : Status → Type 0) → P Yes → P No → (kept : Bool) → P (kept_status kept)
kept_is P at_yes at_no true = at_yes
kept_is P at_yes at_no false = at_no

simulated_status : (P : Status → Type 0) → P Yes → P No
    → (pattern : Pattern) (n : ℕ) (sys : SystemView) (jobs : List (List Job)) (budgets : List ℕ) (status : Status)
    (text : List ℕ) → IsSimulated pattern n sys jobs budgets status text → P status
simulated_status P at_yes at_no pattern n sys jobs budgets status text h =
    subst P (sym h.status_is) (kept_is P at_yes at_no (no_node_misses h.counts))

simulates_status : (P : Status → Type 0) → P Yes → P No → P Wide
    → (pattern : Pattern) (n : ℕ) (sys : SystemView) (jobs : List (List Job)) (status : Status) (text : List ℕ)
    → SimulatesJobs pattern n sys jobs status text → P status
simulates_status P at_yes at_no at_wide pattern n sys jobs status text h =
    statuses_assigned P at_no at_wide sys (λ budgets. IsSimulated pattern n sys jobs budgets) status text
    (λ budgets. simulated_status P at_yes at_no pattern n sys jobs budgets status text) h

-- what it means
yes_kept : (kept : Bool) → kept_status kept ≡ Yes → kept ≡ true
yes_kept true e = refl
yes_kept false e = absurd (cc)

simulated_tells : (pattern : Pattern) (n : ℕ) (sys : SystemView) → IsSystem sys
    → (jobs : List (List Job)) (budgets : List ℕ) (core_runs part_runs : List (List (Option ℕ)))
    → RunsFirst sys pattern n jobs budgets core_runs part_runs → (status : Status) (text : List ℕ)
    → IsSimulated pattern n sys jobs budgets status text → TellsNoMiss sys n jobs budgets core_runs part_runs status
simulated_tells pattern n sys is jobs budgets core_runs part_runs first status text h =
    let counted
    = moved_counts pattern n sys jobs budgets is h.core_runs h.part_runs core_runs part_runs h.first first h.counts
    h.counted in
    let exactly
    = kept_exactly sys budgets n (pattern_supplies sys pattern n) jobs core_runs part_runs h.counts counted in
    record {
      only = λ told. exactly.0 (yes_kept (no_node_misses h.counts) (sym h.status_is ∙ told));
      always = λ none. h.status_is ∙ ap kept_status (exactly.1 none);
    }

simulate_reads : (pattern : Pattern) (n : ℕ) → JudgesRead releasing (SimulatesJobs pattern n)
simulate_reads pattern n = record {
  decided = releasing_decided;
  bad_file = λ sys bytes fault. refl;
  one =
      λ sys is jobs. one_assigned sys is (λ budgets. IsSimulated pattern n sys jobs budgets)
      (λ budgets. one_simulation pattern n sys is jobs budgets);
  judged = simulates_status IsJudged tt tt tt pattern n;
}

simulate_tells : (pattern : Pattern) (n : ℕ) (contents : Contents) (status : Status) (text : List ℕ)
    → OnTwoFiles contents (Simulates pattern n) status text
    → (sys : SystemView) (jobs : List (List Job)) (budgets : List ℕ) (core_runs part_runs : List (List (Option ℕ)))
    → IsSimulationOf pattern n contents sys jobs budgets core_runs part_runs
    → TellsNoMiss sys n jobs budgets core_runs part_runs status
simulate_tells pattern n contents status text h = λ sys jobs budgets core_runs part_runs of.
    let is : IsSystem sys = is_spelled_system contents sys _ of.spelled in
    simulated_tells pattern n sys is jobs budgets core_runs part_runs of.first status text
    (said_of_assigned sys is (λ b. IsSimulated pattern n sys jobs b) status text budgets of.assigned
    (said_of_read releasing (SimulatesJobs pattern n) (simulate_reads pattern n) contents sys jobs status text
    of.spelled h))

simulate_means : (pattern : Pattern) (n : ℕ) (contents : Contents) (status : Status) (text : List ℕ)
    → OnTwoFiles contents (Simulates pattern n) status text → SimulateMeans pattern n contents status text
simulate_means pattern n contents status text h = record {
  tells = simulate_tells pattern n contents status text h;
  unassigned =
      no_of_read releasing (SimulatesJobs pattern n) (simulate_reads pattern n) AssignedOrNone
      (λ sys is jobs s t. no_of_assigned sys is (λ budgets. IsSimulated pattern n sys jobs budgets) s t) contents
      status text h;
}

pub simulate_laws : (file releases : List ℕ) (pattern : Pattern) (n : ℕ)
    → CommandLaws (the_simulate file releases pattern n)
simulate_laws file releases pattern n =
    read_laws file releases releasing (SimulatesJobs pattern n) (SimulateMeans pattern n) (λ contents. IsVerdict)
    (simulate_reads pattern n) (record {
      means = simulate_means pattern n;
      verdict = λ contents sys spelled. simulates_status IsVerdict tt tt tt pattern n sys;
      no_memory = λ contents. tt;
    })
