use Rattle.std.proofs.Common.{◌≡◌, ℕ, ◌<◌, List, length, sym, subst, inl, ltb-true}
use Rattle.std.specs.Prelude.{All, nat_lt}
use Rattle.std.proofs.lemmas.Bool.{and_parts}
use Rattle.tree_model.specs.View.{SystemView}
use Rattle.tree_model.specs.System.{part_at}
use Rattle.trace_file.specs.Rules.{is_core}
use Rattle.isolation.specs.declared.vcpus.PartIsolation.{PartIsolation}
use Rattle.isolation.specs.Answers.{AreIsolations}
use Rattle.isolation.specs.declared.budgets.CoreBudgets.{CoreBudgets}
use Rattle.isolation.specs.Budgets.{has_part, IsCoreBudgets, AreCoreBudgets}
use Rattle.isolation.proofs.Listed.{each_place, each_vcpu}
use Rattle.rt_report.specs.Isolation.{isolation_text}
use Rattle.trace_commands.specs.Isolate.{isolation_status}
use Rattle.trace_commands.proofs.isolate.IsolateJudgeOne.judge.Goals as goal

-- each line is one of a part of the system
each_part : (sys : SystemView) (budgets : List ℕ) (rows : List PartIsolation) → AreIsolations sys budgets rows
    → All (λ (row : PartIsolation). row.part < length sys.parts) rows
each_part sys budgets rows h k d l =
    ltb-true _ (length sys.parts)
    (and_parts (nat_lt _ (length sys.parts)) (is_core (part_at sys _).parent) (each_vcpu sys budgets rows h k d l)).0

-- and one of a core
each_core : (sys : SystemView) (budgets : List ℕ) (rows : List CoreBudgets) → AreCoreBudgets sys budgets rows
    → All (λ (row : CoreBudgets). row.core < length sys.cores) rows
each_core sys budgets rows h k d l =
    (each_place (λ (row : CoreBudgets). row.core) (IsCoreBudgets sys budgets) (has_part sys) (length sys.cores) rows h k
    d l).0

pub isolation_text-requires-clause-parts : goal.isolation_text-requires-clause-parts
isolation_text-requires-clause-parts c =
    subst (λ (rows : List PartIsolation). All (λ (row : PartIsolation). row.part < length c.args.sys.now.parts) rows)
    (sym c.deref.ensures.value)
    (each_part c.args.sys.now c.in_ok-plan.plan c.in_ok-rows.rows.items c.in_ok-rows.ensures)

pub isolation_text-requires-clause-cores : goal.isolation_text-requires-clause-cores
isolation_text-requires-clause-cores c =
    subst (λ (rows : List CoreBudgets). All (λ (row : CoreBudgets). row.core < length c.args.sys.now.cores) rows)
    (sym c.deref-2.ensures.value)
    (each_core c.args.sys.now c.in_ok-plan.plan c.in_ok-cores.cores.items c.in_ok-cores.ensures)

pub returns-clause-answer : goal.returns-clause-answer
returns-clause-answer c =
    let sys : SystemView = c.args.sys.now in
    let rows : List PartIsolation = c.in_ok-rows.rows.items in
    let cores : List CoreBudgets = c.in_ok-cores.cores.items in
    let told : c.in_ok-text.text.items ≡ isolation_text sys rows cores
    = rw (sym c.deref.ensures.value, sym c.deref-2.ensures.value) c.in_ok-text.ensures in
    let status : c.status_of.result ≡ isolation_status rows
    = rw (sym c.deref-3.ensures.value) c.status_of.ensures in
    inl (record {
      value = c.in_ok-plan.plan;
      gives = c.in_ok-plan.ensures.admitted;
      said = inl (record {
        value = (rows, cores);
        gives = record {
          all = c.in_ok-go_by_rtds.ensures.all;
          isolations = c.in_ok-rows.ensures;
          sums = c.in_ok-cores.ensures;
        };
        said = record { status_is = status; told = told };
      });
    })
