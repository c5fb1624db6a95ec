-- What `check` answers: one thing, its statuses, and what it means.
use Rattle.std.proofs.Common.{◌≡◌, ◌⊎◌, ℕ, ◌-◌, ◌<◌, List, length, refl, sym, ◌∙◌, ap, subst, inl, inr, arith}
use Rattle.std.specs.Prelude.{Result, Ok, Err, nat_lt}
use Rattle.std.proofs.lemmas.Bool.{cases_lt, cond-true, cond-false, lt-ltb, le-ltb}
use Rattle.tree_model.specs.declared.place.Place.{Place}
use Rattle.tree_model.specs.declared.place.Place.TheVariants.{Core, Part}
use Rattle.tree_model.specs.CertificateView.{NodeView}
use Rattle.tree_model.specs.View.{SystemView}
use Rattle.tree_model.specs.System.{IsSystem}
use Rattle.tree_model.specs.Tree.{IsNode}
use Rattle.cert_reader.specs.declared.fault.CertFault.{CertFault}
use Rattle.cert_verify.specs.declared.flaw.Flaw.{Flaw}
use Rattle.cert_verify.specs.declared.flaw.Flaw.TheVariants.{Nodes, Budget, Cover, Hit, Least, Wide as TooWide}
use Rattle.cert_reader.specs.CertificateFile.{certificate_of}
use Rattle.cert_verify.specs.Proves.{node_at, AreNodes, Proves}
use Rattle.cert_verify.specs.Flaws.{FirstFlaw}
use Rattle.cert_verify.proofs.Failing.{flaw_not_proves}
use Rattle.cert_verify.proofs.OneFlaw.{one_flaw}
use Rattle.rt_report.specs.Check.{check_text, IsFlawOf}
use Rattle.command_frame.specs.declared.status.Status.{Status}
use Rattle.command_frame.specs.declared.status.Status.TheVariants.{Yes, No, Usage, BadFile, Wide, Absent, TooLong, ReadFault, WriteFault, NoMemory}
use Rattle.command_frame.specs.Answer.{Contents, IsOne}
use Rattle.command_frame.specs.CommandSpec.{IsYesOrNo}
use Rattle.admit_commands.specs.Check.{the_check, spelling, IsFlawed, ChecksNodes, Checks, TellsProof, CheckMeans}
use Rattle.command_frame.specs.Steps.{IsJudged}
use Rattle.command_frame.specs.TwoFiles.{OnTwoFiles}
use Rattle.command_frame.proofs.Attempt.{IsDecided}
use Rattle.command_frame.proofs.CommandLaws.{CommandLaws}
use Rattle.command_frame.proofs.ReadSecond.{JudgesRead, is_spelled_system, read_laws, said_of_read}
use Rattle.admit_commands.proofs.Laws.Certify.{proof_of}

-- bytes spell one certificate or have one first fault
either_not_both : (r : Result (List NodeView) CertFault) (nodes : List NodeView) (fault : CertFault) → r ≡ Ok nodes
    → r ≡ Err fault → ⊥
either_not_both r nodes fault p q = absurd (cc)

same_nodes : (r : Result (List NodeView) CertFault) (x y : List NodeView) → r ≡ Ok x → r ≡ Ok y → x ≡ y
same_nodes r x y p q = cc

same_fault : (r : Result (List NodeView) CertFault) (f g : CertFault) → r ≡ Err f → r ≡ Err g → f ≡ g
same_fault r f g p q = cc

spelling_decided : (bytes : List ℕ) → IsDecided (spelling bytes)
spelling_decided bytes = record {
  one_value = same_nodes (certificate_of bytes);
  never_both = either_not_both (certificate_of bytes);
  one_refusal = same_fault (certificate_of bytes);
}

-- one verdict: the certificate proves the system, or has one first flaw
Verdict : SystemView → List NodeView → Status → List ℕ → Type 0
Verdict sys nodes status text =
    ((status ≡ Yes) × Proves sys nodes × (text ≡ check_text sys (Ok tt))) ⊎ ((status ≡ No) × IsFlawed sys nodes text)

verdict_of : (sys : SystemView) (nodes : List NodeView) (status : Status) (text : List ℕ)
    → ChecksNodes sys nodes status text → Verdict sys nodes status text
unfolding Verdict
verdict_of sys nodes Yes text h = inl (refl, h.0, h.1)
verdict_of sys nodes No text h = inr (refl, h)
verdict_of sys nodes Usage text h = absurd h
verdict_of sys nodes BadFile text h = absurd h
verdict_of sys nodes Wide text h = absurd h
verdict_of sys nodes Absent text h = absurd h
verdict_of sys nodes TooLong text h = absurd h
verdict_of sys nodes ReadFault text h = absurd h
verdict_of sys nodes WriteFault text h = absurd h
verdict_of sys nodes NoMemory text h = absurd h

one_verdict : (sys : SystemView) (nodes : List NodeView) → IsOne (ChecksNodes sys nodes)
unfolding Verdict
one_verdict sys nodes = λ s t x y p q. elim (verdict_of sys nodes s x p) [
  | inl a ↦ elim (verdict_of sys nodes t y q) [
    | inl b ↦ (a.0 ∙ sym b.0, a.2 ∙ sym b.2)
    | inr b ↦ absurd (flaw_not_proves sys nodes b.1.flaw b.1.first a.1)
  ]
  | inr a ↦ elim (verdict_of sys nodes t y q) [
    | inl b ↦ absurd (flaw_not_proves sys nodes a.1.flaw a.1.first b.1)
    | inr b ↦ (
      a.0 ∙ sym b.0,
      a.1.told
          ∙ (ap (λ (f : Flaw). check_text sys (Err f)) (one_flaw sys nodes a.1.flaw b.1.flaw a.1.first b.1.first)
          ∙ sym b.1.told),
    )
  ]
]

-- its statuses
verdict_status : (P : Status → Type 0) → P Yes → P No
    → (sys : SystemView) (nodes : List NodeView) (status : Status) (text : List ℕ) → ChecksNodes sys nodes status text
    → P status
unfolding Verdict
verdict_status P at_yes at_no sys nodes status text h = elim (verdict_of sys nodes status text h) [
  | inl a ↦ subst P (sym a.0) at_yes
  | inr a ↦ subst P (sym a.0) at_no
]

-- what it means
verdict_tells : (sys : SystemView) → IsSystem sys → (nodes : List NodeView) (status : Status) (text : List ℕ)
    → ChecksNodes sys nodes status text → TellsProof sys nodes status
unfolding Verdict
verdict_tells sys is nodes status text h = elim (verdict_of sys nodes status text h) [
  | inl a ↦ record { only = λ yes. proof_of sys is nodes a.1; always = λ proves. a.0 }
  | inr a ↦
      record {
        only = λ yes. absurd (let clash : Yes ≡ No = sym yes ∙ a.0 in cc);
        always = λ proves. absurd (flaw_not_proves sys nodes a.1.flaw a.1.first proves);
      }
]

check_reads : JudgesRead (λ sys. spelling) ChecksNodes
check_reads = record {
  decided = λ sys. spelling_decided;
  bad_file = λ sys bytes fault. refl;
  one = λ sys is. one_verdict sys;
  judged = verdict_status IsJudged tt tt;
}

check_means : (contents : Contents) (status : Status) (text : List ℕ) → OnTwoFiles contents Checks status text
    → CheckMeans contents status
check_means contents status text h = λ sys nodes of.
    verdict_tells sys (is_spelled_system contents sys _ of) nodes status text
    (said_of_read (λ sys. spelling) ChecksNodes check_reads contents sys nodes status text of h)

pub check_laws : (file cert : List ℕ) → CommandLaws (the_check file cert)
check_laws file cert =
    read_laws file cert (λ sys. spelling) ChecksNodes (λ contents status text. CheckMeans contents status)
    (λ contents. IsYesOrNo) check_reads (record {
      means = check_means;
      verdict = λ contents sys spelled. verdict_status IsYesOrNo tt tt sys;
      no_memory = λ contents. tt;
    })

-- a flaw tells a node of the system
place_is_node : (sys : SystemView) (nodes : List NodeView) → AreNodes sys nodes → (k : ℕ) → k < length nodes
    → IsNode sys (node_at nodes k).place
place_is_node sys nodes are k l = elim (cases_lt k (length sys.parts)) [
  | inl part ↦
      subst (IsNode sys) (sym (are.in_order k l
      ∙ cond-true {A = Place} (nat_lt k (length sys.parts)) (Part k) (Core (k - length sys.parts))
      (lt-ltb k (length sys.parts) part))) part
  | inr core ↦
      subst (IsNode sys) (sym (are.in_order k l
      ∙ cond-false {A = Place} (nat_lt k (length sys.parts)) (Part k) (Core (k - length sys.parts))
      (le-ltb k (length sys.parts) (omega (arith, core))))) (omega (arith, core, l, are.all))
]

pub flaw_told : (sys : SystemView) (nodes : List NodeView) (flaw : Flaw) → FirstFlaw sys nodes flaw → IsFlawOf sys flaw
flaw_told sys nodes Nodes h = tt
flaw_told sys nodes (Budget place) h =
    subst (IsNode sys) (sym h.node.bad.0) (place_is_node sys nodes h.are_nodes h.node.k h.node.is_node)
flaw_told sys nodes (Cover place) h =
    subst (IsNode sys) (sym h.node.bad.0) (place_is_node sys nodes h.are_nodes h.node.k h.node.is_node)
flaw_told sys nodes (Hit place i) h =
    subst (IsNode sys) (sym h.node.bad.0) (place_is_node sys nodes h.are_nodes h.node.k h.node.is_node)
flaw_told sys nodes (Least place) h =
    subst (IsNode sys) (sym h.node.bad.0) (place_is_node sys nodes h.are_nodes h.node.k h.node.is_node)
flaw_told sys nodes (TooWide place) h =
    subst (IsNode sys) (sym h.node.bad.0) (place_is_node sys nodes h.are_nodes h.node.k h.node.is_node)
