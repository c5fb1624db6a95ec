use Rattle.std.proofs.Common.{◌≡◌, ℕ, suc, sym, ◌∙◌, ap, arith, subst, inl, inr}
use Rattle.std.proofs.lemmas.Bool.{cases_eq}
use Rattle.tree_model.specs.System.{part_at}
use Rattle.tree_model.specs.Tree.{run_at}
use Rattle.release_file.specs.declared.workload.Wake.{Wake}
use Rattle.release_file.specs.Workload.{row_at}
use Rattle.rtds_trace.specs.Printed.{core_of}
use Rattle.rtds_sim.specs.declared.host_core.HostCore.{HostCore}
use Rattle.rtds_sim.specs.inner.Accounts.{core_at, TakesRow, AreOn}
use Rattle.rtds_sim.proofs.TakenRows.{takes_elsewhere}
use Rattle.rtds_sim.proofs.Taking.{on_taken}
use Rattle.rtds_sim.proofs.host.Host.take_rows.Goals as goal

pub loop-self-preserved : goal.loop-self-preserved
loop-self-preserved c =
    let so_far = c.loop-self.invariant in
    let sys = c.args.sys.now in
    let rows = c.args.rows.now in
    let k : ℕ = c.loop-self.self.taken in
    let row : Wake = row_at rows k in
    let old = c.loop-self.self.cores.items in
    let new = c.take.new.self.cores.items in
    let took = c.take.ensures in
    let is_row : c.row_at-in-loop-self.result ≡ row = c.row_at-in-loop-self.ensures in
    let at : row.at ≡ c.args.self.now.time
    = ap (λ (r : Wake). r.at) (sym c.row_at.ensures) ∙ (c.if-row_at-self.true ∙ so_far.time) in
    let home : ℕ = core_of (part_at sys row.vcpu).parent in
    let takes : TakesRow row (core_at old home).vcpus (core_at new home).vcpus
    = subst (λ (r : Wake). TakesRow r (core_at old (core_of (part_at sys r.vcpu).parent)).vcpus
    (core_at new (core_of (part_at sys r.vcpu).parent)).vcpus) is_row took.takes in
    record {
      one_each = took.one_each ∙ so_far.one_each;
      ready = took.ready;
      in_rows = omega (arith, took.taken, c.loop-self-test.true);
      later = omega (arith, took.taken, so_far.later);
      now =
          λ i a b. elim (cases_eq i k) [
            | inl e ↦
                ap (λ (z : ℕ). (row_at rows z).at) e ∙ at
            | inr ne ↦
                so_far.now i a (omega (arith, took.taken))
          ];
      vcpus = λ budgets runs d plan w l a.
          let before : AreOn sys budgets rows d (run_at runs d) c.args.self.now.time k (core_at old d).vcpus
          = so_far.vcpus budgets runs d plan w l a in
          subst (λ (n : ℕ). AreOn sys budgets rows d (run_at runs d) c.args.self.now.time n (core_at new d).vcpus)
          (let e : suc k ≡ c.take.new.self.taken = omega (arith, took.taken) in e)
          (on_taken sys budgets rows w d (run_at runs d) c.args.self.now.time k (core_at old d).vcpus
          (core_at new d).vcpus plan c.loop-self-test.true at
          (elim (cases_eq d home) [
            | inl e ↦
                subst (λ (z : ℕ). TakesRow row (core_at old z).vcpus (core_at new z).vcpus) (sym e) takes
            | inr ne ↦
                subst (λ (z : HostCore). TakesRow row (core_at old d).vcpus z.vcpus)
                (sym (took.others d (λ e. ne (e
                ∙ ap (λ (r : Wake). core_of (part_at sys r.vcpu).parent) is_row))))
                (takes_elsewhere sys budgets d row (core_at old d).vcpus before.of ne)
          ]) before);
      held = λ d l. took.held d (omega (arith, l, so_far.one_each)) ∙ so_far.held d l;
      time = took.time ∙ so_far.time;
    }
