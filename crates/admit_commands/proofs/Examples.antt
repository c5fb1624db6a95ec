-- What the answers to one system mean, taken apart. A definition that says less breaks one of
-- these.
use Rattle.std.proofs.Common.{◌≡◌, ◌⊎◌, ℕ, ◌<◌, Bool, List, Option, Some, arith, refl, subst, inl, inr}
use Rattle.std.specs.Prelude.{Ok, Err, codes, slice_get, slice_index}
use Rattle.std.specs.Fmt.{digits}
use Rattle.tree_model.specs.View.{SystemView}
use Rattle.tree_model.specs.Tree.{NoLoss, budget_at}
use Rattle.slot_model.specs.declared.sched.Short.{Short}
use Rattle.slot_model.specs.Task.{job_at}
use Rattle.slot_model.specs.Supply.{GivesBudget, worst_slot}
use Rattle.slot_model.specs.Order.{before_of}
use Rattle.slot_model.specs.Release.{LegalRelease, synchronous}
use Rattle.slot_model.specs.Run.{guest, PermittedRun}
use Rattle.slot_model.specs.Miss.{Missed, WorstList}
use Rattle.tree_model.specs.System.{IsSystem, part_at, own_tasks, computed_leaves}
use Rattle.tree_model.specs.declared.place.Place.{Place}
use Rattle.tree_model.specs.Admission.{Admitted, FirstRefusal}
use Rattle.tree_model.specs.declared.plan.Refusal.{Refusal}
use Rattle.tree_model.specs.declared.plan.Refusal.TheVariants.{Overfull, Wide as NodeWide}
use Rattle.tree_model.proofs.Unique.{never_both}
use Rattle.compose_tree.specs.Keeping.{Keeping}
use Rattle.compose_tree.specs.Truth.{IsTight, RefusalHolds}
use Rattle.miss_witness.specs.declared.replay.Replay.{Replay}
use Rattle.miss_witness.specs.Defeat.{Defeats}
use Rattle.miss_witness.specs.Replay.{AreReplays, AllDefeat}
use Rattle.rt_report.specs.Admit.{admit_text}
use Rattle.rt_report.specs.Refusal.{refusal_text}
use Rattle.command_frame.specs.declared.status.Status.{Status}
use Rattle.command_frame.specs.declared.status.Status.TheVariants.{Yes, No, Wide, BadFile}
use Rattle.command_frame.specs.Budgets.{composing, refusal_status}
use Rattle.command_frame.proofs.Attempt.{refused_first, said_of_given}
use Rattle.command_frame.proofs.Budgets.{composing_decided}
use Rattle.admit_commands.specs.Admit.{Admits, IsAdmission, AdmitMeans}
use Rattle.tree_model.specs.CertificateView.{NodeView}
use Rattle.cert_reader.specs.CertificateFile.{certificate_of}
use Rattle.cert_verify.specs.Proves.{budgets_of, Proves}
use Rattle.admit_commands.specs.Certify.{certifying, IsPrinted, Certifies, IsProof, CertifyMeans}
use Rattle.admit_commands.proofs.Laws.Certify.{certifying_decided}
use Rattle.admit_commands.specs.Check.{spelling, ChecksNodes}
use Rattle.cert_reader.specs.declared.fault.CertFault.TheVariants.{NotJson, TooMany}
use Rattle.rt_report.specs.Check.{check_text}
use Rattle.cert_verify.specs.declared.flaw.Flaw.{Flaw}
use Rattle.cert_verify.specs.Flaws.{FirstFlaw}

-- a yes tells budgets that admit the system, that lose no job, in the tree and at each node by
-- itself, and that can't be smaller at a computed leaf
what_a_yes_gives : (sys : SystemView) (text : List ℕ) → AdmitMeans sys Yes text
    → (budgets : List ℕ) × (replays : List Replay) × (text ≡ admit_text sys budgets replays) × Admitted sys budgets
    × NoLoss sys budgets × Keeping sys budgets × IsTight sys budgets × AreReplays sys budgets replays
    × AllDefeat sys replays
what_a_yes_gives sys text kept = (
  kept.budgets,
  kept.replays,
  kept.told,
  kept.admitted,
  kept.no_loss,
  kept.each_node,
  kept.tight,
  kept.replayed,
  kept.defeat,
)

-- the witness of the computed leaf in place k: with each smaller budget than that of the leaf its
-- supply gives that budget, and its release, which is legal, misses over it in every permitted run;
-- where it names a task, the job of that task that is released at the start does
what_a_witness_gives : (sys : SystemView) (text : List ℕ) → (kept : AdmitMeans sys Yes text)
    → (k : ℕ) (replay : Replay) → slice_get kept.replays k ≡ Some replay
    → let q = slice_index (computed_leaves sys) k in
    let leaf = part_at sys q in
    let tasks = own_tasks leaf in
    let release = synchronous tasks replay.witness.start replay.witness.span in
    (slots : List Bool) × WorstList (worst_slot leaf.period replay.witness.budget) replay.witness.start
    replay.witness.span slots
    × ((b : ℕ) → b < budget_at kept.budgets q → GivesBudget leaf.period b slots)
    × LegalRelease tasks release
    × ((run : List (Option ℕ)) → PermittedRun guest (before_of leaf.sched tasks) tasks release slots run
    → (j : ℕ) × Missed tasks release run j)
    × ((i : ℕ) → replay.witness.task ≡ Some i
    → (run : List (Option ℕ)) → PermittedRun guest (before_of leaf.sched tasks) tasks release slots run
    → (j : ℕ) × ((job_at release j).task ≡ i) × ((job_at release j).release ≡ replay.witness.start)
    × Missed tasks release run j)
what_a_witness_gives sys text kept k replay e =
    let of = kept.replayed.each k replay e in
    let does : Defeats (part_at sys (slice_index (computed_leaves sys) k)).sched
    (own_tasks (part_at sys (slice_index (computed_leaves sys) k)))
    (part_at sys (slice_index (computed_leaves sys) k)).period replay.witness
    = subst (λ (q : ℕ). Defeats (part_at sys q).sched (own_tasks (part_at sys q)) (part_at sys q).period replay.witness)
    of.of_part (kept.defeat k replay e) in
    let slots = does.some_supply.0 in
    let supply = does.some_supply.1 in (
      slots,
      supply,
      λ b less. does.gives slots supply b (omega (arith, less, of.defeat.next_smaller)),
      does.legal,
      (does.misses slots supply).misses,
      does.late_task slots supply,
    )

-- a no tells the first refusal, and it holds
what_a_no_gives : (sys : SystemView) (text : List ℕ) → AdmitMeans sys No text
    → (node : Place) × (short : Short) × (text ≡ refusal_text sys (Overfull node short))
    × FirstRefusal sys (Overfull node short) × RefusalHolds sys (Overfull node short)
what_a_no_gives sys text over = (over.node, over.short, over.told, over.first, over.holds)

a_certificate_that_is_told : (sys : SystemView) (text : List ℕ) → CertifyMeans sys Yes text
    → (nodes : List NodeView) × (certificate_of text ≡ Ok nodes) × IsProof sys nodes
a_certificate_that_is_told sys text told = (told.nodes, told.read, told.proof)

what_a_proof_says : (sys : SystemView) (nodes : List NodeView) → IsProof sys nodes
    → Proves sys nodes × Admitted sys (budgets_of sys nodes) × NoLoss sys (budgets_of sys nodes)
    × Keeping sys (budgets_of sys nodes) × IsTight sys (budgets_of sys nodes)
what_a_proof_says sys nodes proof = (proof.proves, proof.admitted, proof.no_loss, proof.each_node, proof.tight)

-- `check`: a fault of the certificate is told of the second file, and a flaw by its own line
faults_of_the_certificate : (bytes : List ℕ) →
    ((spelling bytes).status_of NotJson ≡ BadFile)
    × ((spelling bytes).text_of NotJson ≡ codes "fault=NotJson file=2\n")
    × ((spelling bytes).text_of TooMany ≡ codes "fault=TooMany file=2\n")
unfolding digits
faults_of_the_certificate bytes = (refl, refl, refl)

what_checking_tells : (sys : SystemView) (nodes : List NodeView) (text : List ℕ) →
    (ChecksNodes sys nodes Yes text → Proves sys nodes × (text ≡ codes "verdict=yes\n"))
    × (ChecksNodes sys nodes No text
    → (flaw : Flaw) × FirstFlaw sys nodes flaw × (text ≡ check_text sys (Err flaw)))
what_checking_tells sys nodes text = (λ h. h, λ h. (h.flaw, h.first, h.told))

-- a system that budgets admit is answered yes, and so it is certified
who_is_admitted_is_answered_yes : (sys : SystemView) → IsSystem sys → (budgets : List ℕ) (status : Status)
    (text : List ℕ) → Admitted sys budgets → Admits sys status text ⊎ Certifies sys status text
    → status ≡ Yes
who_is_admitted_is_answered_yes sys is budgets status text admitted said = elim said [
  | inl of_admit ↦
      (said_of_given (composing sys) (IsAdmission sys) status text (composing_decided sys is) budgets admitted
      of_admit).is_yes
  | inr of_certify ↦ elim of_certify [
    | inl made ↦ made.said.is_yes
    | inr refused ↦ absurd (never_both sys is budgets refused.refusal admitted refused.refuses)
  ]
]

-- and one that a node refuses is answered no or wide, by that node, also where a certificate was
-- asked for
refused_alike : (sys : SystemView) → IsSystem sys → (refusal : Refusal) (status : Status) (text : List ℕ)
    → FirstRefusal sys refusal → Admits sys status text ⊎ Certifies sys status text
    → (status ≡ refusal_status refusal) × (text ≡ refusal_text sys refusal)
refused_alike sys is refusal status text first said = elim said [
  | inl of_admit ↦
      refused_first (composing sys) (IsAdmission sys) (composing_decided sys is) refusal first status text of_admit
  | inr of_certify ↦
      refused_first (certifying sys) IsPrinted (certifying_decided sys is) refusal first status text of_certify
]

who_is_refused_is_told_the_node : (sys : SystemView) → IsSystem sys → (node : Place) (short : Short)
    (status : Status) (text : List ℕ) → Admits sys status text ⊎ Certifies sys status text
    → (FirstRefusal sys (Overfull node short) → (status ≡ No) × (text ≡ refusal_text sys (Overfull node short)))
    × (FirstRefusal sys (NodeWide node) → (status ≡ Wide) × (text ≡ refusal_text sys (NodeWide node)))
who_is_refused_is_told_the_node sys is node short status text said = (
  λ first. refused_alike sys is (Overfull node short) status text first said,
  λ first. refused_alike sys is (NodeWide node) status text first said,
)
