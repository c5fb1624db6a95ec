-- What `isolate` answers, for the deadlines of what halts.
use Rattle.std.proofs.Common.{◌≡◌, ℕ, ◌<◌, true, false, nat_lt, List, length, get_or, refl, sym, ◌∙◌, ap, arith, subst, inl, inr, lt-ltb}
use Rattle.std.proofs.lemmas.Bool.{cases_Bool, both_ways, and_from}
use Rattle.std.proofs.lemmas.List.{length-map, get_or-map}
use Rattle.std.proofs.lemmas.List.Folds.{list_all_at}
use Rattle.slot_model.specs.Slots.{count_below}
use Rattle.slot_model.proofs.Places.{length-places_where, counted_below, stands_at}
use Rattle.tree_model.specs.declared.place.Parent.TheVariants.{Core as on_core}
use Rattle.tree_model.specs.View.{SystemView}
use Rattle.tree_model.specs.System.{part_at}
use Rattle.tree_model.specs.Plans.{IsPlan}
use Rattle.tree_model.proofs.InRange.{assigned_is_plan}
use Rattle.compose_tree.specs.Keeping.{Keeping}
use Rattle.compose_tree.proofs.Sound.{admitted_keeping}
use Rattle.trace_file.specs.Rules.{is_core, is_vcpu}
use Rattle.trace_file.proofs.Moments.{child_parent}
use Rattle.rtds_model.specs.Rtds.{CoreRun}
use Rattle.rtds_trace.specs.Printed.{core_of}
use Rattle.isolation.specs.declared.isolation.Isolation.{Isolation}
use Rattle.isolation.specs.declared.isolation.Isolation.TheVariants.{Isolated, ByTies, ByBlock}
use Rattle.isolation.specs.declared.vcpus.PartIsolation.{PartIsolation}
use Rattle.isolation.specs.Demand.{no_tie, IsIsolatedBy}
use Rattle.isolation.specs.Open.{OpenRun}
use Rattle.isolation.specs.Answer.{IsIsolation}
use Rattle.isolation.specs.Answers.{own_core, is_isolated, are_isolated, AreIsolations}
use Rattle.isolated_guests.specs.Guests.{PartKeeps}
use Rattle.isolated_guests.specs.Answered.{LinesKeep, YesKeeps}
use Rattle.isolated_guests.proofs.Spared.{spared_openly, spared_by_place}
use Rattle.isolated_guests.proofs.Kept.{part_keeps, keeps_by_place, hosts_keep}

pub lines_keep : LinesKeep
lines_keep sys budgets c v (Isolated last) system admitted h =
    let plan : IsPlan sys budgets = assigned_is_plan sys system budgets admitted.assigned in
    let openly : PartKeeps OpenRun sys budgets c v
    = part_keeps OpenRun sys budgets (admitted_keeping sys system budgets admitted) c v
    (spared_openly sys budgets plan c v last h.isolated) in
    (openly, keeps_by_place sys budgets c v openly)
lines_keep sys budgets c v (ByTies last) system admitted h =
    let plan : IsPlan sys budgets = assigned_is_plan sys system budgets admitted.assigned in
    part_keeps CoreRun sys budgets (admitted_keeping sys system budgets admitted) c v
    (spared_by_place sys budgets plan c v last h.1.isolated)
lines_keep sys budgets c v ByBlock system admitted h = tt

-- one that is isolated is so by some number of slots
some_last : (sys : SystemView) (budgets : List ℕ) (c v : ℕ) (answer : Isolation) → is_isolated answer ≡ true
    → IsIsolation sys budgets c v answer → (t : ℕ) × IsIsolatedBy no_tie sys budgets c v t
some_last sys budgets c v (Isolated last) e h = (last, h.isolated)
some_last sys budgets c v (ByTies last) e h = absurd (both_ways false refl e)
some_last sys budgets c v ByBlock e h = absurd (both_ways false refl e)

-- where all are isolated, each that stands on a core is
each_isolated : (sys : SystemView) (budgets : List ℕ) (answers : List PartIsolation)
    → AreIsolations sys budgets answers → are_isolated answers ≡ true → (c q : ℕ) → q < length sys.parts
    → (part_at sys q).parent ≡ on_core c
    → (t : ℕ) × IsIsolatedBy no_tie sys budgets c q t
each_isolated sys budgets answers h all c q l on =
    let vcpu : is_vcpu sys q ≡ true
    = and_from (nat_lt q (length sys.parts)) (is_core (part_at sys q).parent) (lt-ltb q (length sys.parts) l)
    (ap is_core on) in
    let part : PartIsolation → ℕ = λ row. row.part in
    let k : ℕ = count_below (is_vcpu sys) q in
    let d : PartIsolation = record { part = q; isolation = ByBlock } in
    let within : k < length answers
    = omega (
      arith,
      counted_below (is_vcpu sys) q (length sys.parts) l vcpu,
      length-places_where (is_vcpu sys) (length sys.parts),
      length-map answers part,
      ap (λ (ps : List ℕ). length ps) h.places_are,
    ) in
    let row : PartIsolation = get_or answers k d in
    let its : row.part ≡ q
    = sym (get_or-map part answers k d q within)
    ∙ (ap (λ (ps : List ℕ). get_or ps k q) h.places_are
    ∙ stands_at (is_vcpu sys) q (length sys.parts) q l vcpu) in
    let core : own_core sys q ≡ c = ap core_of on in
    let so : is_isolated row.isolation ≡ true
    = elim (cases_Bool (is_isolated row.isolation)) [
      | inl b ↦ b
      | inr b ↦
          absurd (both_ways _ (list_all_at (λ (r : PartIsolation). is_isolated r.isolation) answers k d within b) all)
    ] in
    let answered : IsIsolation sys budgets (own_core sys row.part) row.part row.isolation = h.each k d within in
    some_last sys budgets c q row.isolation so
    (subst (λ (z : ℕ). IsIsolation sys budgets z q row.isolation) core
    (subst (λ (z : ℕ). IsIsolation sys budgets (own_core sys z) z row.isolation) its answered))

pub yes_keeps : YesKeeps
yes_keeps sys budgets answers system admitted h all =
    let plan : IsPlan sys budgets = assigned_is_plan sys system budgets admitted.assigned in
    let keeping : Keeping sys budgets = admitted_keeping sys system budgets admitted in
    hosts_keep sys budgets system (λ c q l child.
    let w : (t : ℕ) × IsIsolatedBy no_tie sys budgets c q t
    = each_isolated sys budgets answers h all c q l (child_parent sys c q child) in
    part_keeps OpenRun sys budgets keeping c q (spared_openly sys budgets plan c q w.0 w.1))
