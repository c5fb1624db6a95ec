-- What `isolate` answers: one thing, its statuses, and what it means.
use Rattle.std.proofs.Common.{◌≡◌, ℕ, ◌<◌, Bool, true, false, cond, List, length, get_or, refl, sym, ◌∙◌, subst, inl, inr, ltb-true}
use Rattle.std.specs.Prelude.{nat_lt}
use Rattle.std.proofs.lemmas.Bool.{and_parts, both_ways}
use Rattle.tree_model.specs.View.{SystemView}
use Rattle.tree_model.specs.System.{part_at, IsSystem}
use Rattle.tree_model.specs.Plans.{IsPlan}
use Rattle.tree_model.specs.Admission.{Admitted}
use Rattle.tree_model.proofs.InRange.{assigned_is_plan}
use Rattle.trace_file.specs.Rules.{is_core, is_vcpu}
use Rattle.rtds_model.specs.Rtds.{is_rtds}
use Rattle.rtds_sim.specs.Fault.{AllRtds, IsFirstOther}
use Rattle.rtds_model.specs.Giving.{ServersFit}
use Rattle.rtds_trace.proofs.Keeping.{OnCore, vcpu_core}
use Rattle.isolation.specs.declared.isolation.Isolation.{Isolation}
use Rattle.isolation.specs.declared.isolation.Isolation.TheVariants.{Isolated, ByTies, ByBlock}
use Rattle.isolation.specs.declared.vcpus.PartIsolation.{PartIsolation}
use Rattle.isolation.specs.Answer.{IsIsolation, Means, MeansInTrace}
use Rattle.isolation.specs.Answers.{own_core, IsIsolationOf, are_isolated}
use Rattle.isolation.proofs.Exposed.{means, means_in_trace}
use Rattle.isolation.specs.Demand.{IsIsolatedBy}
use Rattle.rtds_model.specs.Demand.{later}
use Rattle.isolation.proofs.Least.{in_file_order}
use Rattle.isolation.proofs.Listed.{each_vcpu}
use Rattle.isolation.proofs.OneIsolation.{one_list_of_isolations}
use Rattle.isolation.specs.declared.budgets.CoreBudgets.{CoreBudgets}
use Rattle.isolation.specs.Budgets.{IsCoreBudgets}
use Rattle.isolation.proofs.Sums.{fits_shortest, one_list_of_budgets}
use Rattle.isolation.proofs.Fits.{isolated_where_short}
use Rattle.isolated_guests.specs.Spared.{IsSparedInTraces}
use Rattle.isolated_guests.proofs.InTrace.{isolated_are_spared_in_traces}
use Rattle.isolated_guests.specs.Answered.{LineKeeps}
use Rattle.isolated_guests.proofs.Answered.{lines_keep, yes_keeps}
use Rattle.idle_hosts.proofs.Hosts.{idle_hosts_exist}
use Rattle.compose_tree.proofs.Sound.{admitted_keeping}
use Rattle.rt_report.specs.Isolation.{isolation_text}
use Rattle.command_frame.specs.declared.status.Status.{Status}
use Rattle.command_frame.specs.declared.status.Status.TheVariants.{Yes, No, Wide, BadFile}
use Rattle.command_frame.specs.Answer.{IsOne}
use Rattle.command_frame.specs.Attempt.{OnAttempt}
use Rattle.command_frame.specs.Budgets.{composing}
use Rattle.trace_commands.specs.Isolate.{the_isolate, isolating, IsolatesAll, IsToldIsolation, Isolates, LineMeans, LineSpares, IsShortWhereIsolated, TellsIsolations, IsolateMeans}
use Rattle.trace_commands.specs.Rtds.{IsVerdictOfRun}
use Rattle.command_frame.specs.Steps.{IsJudged}
use Rattle.command_frame.proofs.Attempt.{IsDecided, one_attempt, statuses_attempt}
use Rattle.command_frame.proofs.Budgets.{composing_decided, refused_status, refused_means}
use Rattle.command_frame.proofs.CommandLaws.{CommandLaws}
use Rattle.command_frame.proofs.OneFile.{ending_laws}
use Rattle.trace_commands.proofs.Laws.Rtds.{one_other, servers_fit}

both : List PartIsolation → List CoreBudgets → List PartIsolation × List CoreBudgets
both rows cores = (rows, cores)

same_lists : (a b : List PartIsolation) (c d : List CoreBudgets) → a ≡ b → c ≡ d → both a c ≡ both b d
same_lists a b c d rows cores = rw (rows, cores) refl

-- there is one list of what parts keep and one of cores, or one first core that is not full under
-- earliest deadline first
isolating_decided : (sys : SystemView) (budgets : List ℕ) → IsPlan sys budgets → IsDecided (isolating sys budgets)
unfolding both
isolating_decided sys budgets plan = record {
  one_value = λ x y p q. same_lists x.0 y.0 x.1 y.1
      (one_list_of_isolations sys budgets plan x.0 y.0 p.isolations q.isolations)
      (one_list_of_budgets sys budgets x.1 y.1 p.sums q.sums);
  never_both = λ lists c all other. both_ways (is_rtds sys c) other.other (all.all c other.is_core);
  one_refusal = one_other sys;
}

abbrev Says : SystemView → List ℕ → Status → List ℕ → Type 0
Says sys budgets = OnAttempt (isolating sys budgets) (IsToldIsolation sys)

-- one answer
one_told : (sys : SystemView) (lists : List PartIsolation × List CoreBudgets) → IsOne (IsToldIsolation sys lists)
one_told sys lists = λ s t x y p q. (p.status_is ∙ sym q.status_is, p.told ∙ sym q.told)

one_isolated : (sys : SystemView) → IsSystem sys → IsOne (Isolates sys)
one_isolated sys is =
    one_attempt (composing sys) (Says sys) (composing_decided sys is)
    (λ budgets admitted. one_attempt (isolating sys budgets) (IsToldIsolation sys)
    (isolating_decided sys budgets (assigned_is_plan sys is budgets admitted.assigned))
    (λ lists gives. one_told sys lists))

-- its statuses
either_status : (P : Status → Type 0) → P Yes → P No → (b : Bool) → P (cond b Yes No)
either_status P at_yes at_no true = at_yes
either_status P at_yes at_no false = at_no

isolates_status : (P : Status → Type 0) → P Yes → P No → P Wide → (sys : SystemView) (status : Status) (text : List ℕ)
    → ((c : ℕ) → IsFirstOther sys c → P BadFile) → Isolates sys status text → P status
isolates_status P at_yes at_no at_wide sys status text at_other h =
    statuses_attempt P (composing sys) (Says sys) status text (refused_status P at_no at_wide sys)
    (λ budgets said. statuses_attempt P (isolating sys budgets) (IsToldIsolation sys) status text at_other
    (λ lists told. subst P (sym told.status_is) (either_status P at_yes at_no (are_isolated lists.0))) said) h

-- what a line means
line_means : (sys : SystemView) (budgets : List ℕ) (c v : ℕ) → ServersFit sys budgets c → (answer : Isolation)
    → Means sys budgets c v answer → MeansInTrace sys budgets c v answer → LineMeans sys budgets c v answer
line_means sys budgets c v fit (Isolated last) run trace = (trace, run.0, run.1)
line_means sys budgets c v fit (ByTies last) run trace = (trace, run)
line_means sys budgets c v fit ByBlock run trace = (fit, run, trace)

part_below : (sys : SystemView) (v : ℕ) → is_vcpu sys v ≡ true → v < length sys.parts
part_below sys v vcpu =
    ltb-true v (length sys.parts) (and_parts (nat_lt v (length sys.parts)) (is_core (part_at sys v).parent) vcpu).0

part_means : (sys : SystemView) → IsSystem sys → (budgets : List ℕ) → Admitted sys budgets
    → AllRtds sys (length sys.cores) → (v : ℕ) → is_vcpu sys v ≡ true → (answer : Isolation)
    → IsIsolation sys budgets (own_core sys v) v answer → LineMeans sys budgets (own_core sys v) v answer
part_means sys is budgets admitted all v vcpu answer h =
    let plan : IsPlan sys budgets = assigned_is_plan sys is budgets admitted.assigned in
    let c : ℕ = own_core sys v in
    let l : v < length sys.parts = part_below sys v vcpu in
    let on : OnCore sys v = vcpu_core sys is v vcpu in
    let fit : ServersFit sys budgets c = servers_fit sys budgets all admitted c on.is_core in
    line_means sys budgets c v fit answer (means sys is budgets plan c v l on.child answer h)
    (means_in_trace sys is budgets plan c v l on.child fit answer h)

-- and of the time that is stolen in traces
line_spares : (sys : SystemView) (budgets : List ℕ) → IsPlan sys budgets → (c v : ℕ) (answer : Isolation)
    → IsIsolation sys budgets c v answer
    → ((t : ℕ) → IsIsolatedBy later sys budgets c v t → IsSparedInTraces sys budgets v)
    → LineSpares sys budgets v answer
line_spares sys budgets plan c v (Isolated last) h spares =
    spares last (in_file_order sys budgets plan c v last h.isolated)
line_spares sys budgets plan c v (ByTies last) h spares = spares last h.1.isolated
line_spares sys budgets plan c v ByBlock h spares = tt

part_spares : (sys : SystemView) → IsSystem sys → (budgets : List ℕ) → IsPlan sys budgets → (v : ℕ)
    → is_vcpu sys v ≡ true → (answer : Isolation) → IsIsolation sys budgets (own_core sys v) v answer
    → LineSpares sys budgets v answer
part_spares sys is budgets plan v vcpu answer h =
    let on : OnCore sys v = vcpu_core sys is v vcpu in
    line_spares sys budgets plan (own_core sys v) v answer h (λ t by. isolated_are_spared_in_traces sys budgets
    (own_core sys v) v t is plan (part_below sys v vcpu) on.child by)

-- what the line of a core means
core_means : (sys : SystemView) (budgets : List ℕ) → IsPlan sys budgets → (row : CoreBudgets)
    → IsCoreBudgets sys budgets row → IsShortWhereIsolated sys budgets row
core_means sys budgets plan row is =
    let short = isolated_where_short sys budgets row.core plan in
    let fits = fits_shortest sys budgets row is in
    (λ few. short.0 (fits.0 few), λ all. fits.1 (short.1 all))

-- and that of a part
row_means : (sys : SystemView) → IsSystem sys → (budgets : List ℕ) → Admitted sys budgets
    → AllRtds sys (length sys.cores) → (row : PartIsolation) → is_vcpu sys row.part ≡ true
    → IsIsolationOf sys budgets row
    → LineMeans sys budgets (own_core sys row.part) row.part row.isolation
    × LineKeeps sys budgets (own_core sys row.part) row.part row.isolation
    × LineSpares sys budgets row.part row.isolation
row_means sys is budgets admitted all row vcpu h = (
  part_means sys is budgets admitted all row.part vcpu row.isolation h,
  lines_keep sys budgets (own_core sys row.part) row.part row.isolation is admitted h,
  part_spares sys is budgets (assigned_is_plan sys is budgets admitted.assigned) row.part vcpu row.isolation h,
)

-- what an answer means
tells : (sys : SystemView) → IsSystem sys → (budgets : List ℕ) → Admitted sys budgets
    → (lists : List PartIsolation × List CoreBudgets) → IsolatesAll sys budgets lists.0 lists.1 → (text : List ℕ)
    → text ≡ isolation_text sys lists.0 lists.1 → (b : Bool) → are_isolated lists.0 ≡ b → TellsIsolations sys text b
tells sys is budgets admitted lists h text told b e = record {
  budgets = budgets;
  admitted = admitted;
  assigned = admitted.assigned;
  each_node = admitted_keeping sys is budgets admitted;
  all_rtds = h.all;
  rows = lists.0;
  isolations = h.isolations;
  means = λ k d l. row_means sys is budgets admitted h.all (get_or lists.0 k d)
      (each_vcpu sys budgets lists.0 h.isolations k d l) (h.isolations.each k d l);
  cores = lists.1;
  sums = h.sums;
  where_short = λ k d l. core_means sys budgets (assigned_is_plan sys is budgets admitted.assigned) (get_or lists.1 k d)
      (h.sums.each k d l);
  all_isolated = e;
  on_yes = λ yes. yes_keeps sys budgets lists.0 is admitted h.isolations (e ∙ yes);
  idle_hosts = λ starts n jobs at few legal. idle_hosts_exist sys budgets starts n jobs is at few legal;
  told = told;
}

told_means : (sys : SystemView) → IsSystem sys → (budgets : List ℕ) → Admitted sys budgets
    → (lists : List PartIsolation × List CoreBudgets) → IsolatesAll sys budgets lists.0 lists.1 → (status : Status)
    (text : List ℕ) → IsToldIsolation sys lists status text → IsolateMeans sys status text
told_means sys is budgets admitted lists h status text told =
    subst (λ (s : Status). IsolateMeans sys s text) (sym told.status_is) (go (are_isolated lists.0) refl)
  where
    go : (b : Bool) → are_isolated lists.0 ≡ b → IsolateMeans sys (cond b Yes No) text
    go true e = tells sys is budgets admitted lists h text told.told true e
    go false e = inr (tells sys is budgets admitted lists h text told.told false e)

isolates_means : (sys : SystemView) → IsSystem sys → (status : Status) (text : List ℕ) → Isolates sys status text
    → IsolateMeans sys status text
isolates_means sys is status text h = elim h [
  | inl a ↦ elim a.said [
    | inl given ↦ told_means sys is a.value a.gives given.value given.gives status text given.said
    | inr other ↦ subst (λ (s : Status). IsolateMeans sys s text) (sym other.status_is) tt
  ]
  | inr a ↦
      refused_means IsolateMeans sys is (λ t over. inl over) (λ t. tt) a.refusal a.refuses status text a.status_is
      a.told
]

pub isolate_laws : (file : List ℕ) → CommandLaws (the_isolate file)
isolate_laws file = ending_laws file Isolates IsolateMeans IsVerdictOfRun
    (record {
      one = one_isolated;
      judged = λ sys status text. isolates_status IsJudged tt tt tt sys status text (λ c other. tt);
      means = isolates_means;
      long = λ sys text. tt;
    })
    (record {
      verdict = λ contents sys spelled status text. isolates_status (IsVerdictOfRun contents) tt tt tt sys status text
          (λ c other. record { sys = sys; spelled = spelled; core = c; other = other });
      no_memory = λ contents. tt;
    })
