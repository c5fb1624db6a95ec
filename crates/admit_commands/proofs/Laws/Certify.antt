-- What `certify` answers: one thing, its statuses, and what it means.
use Rattle.std.proofs.Common.{◌≡◌, ℕ, ◌≤◌, List, length, refl, sym, ◌∙◌, subst, inl, inr, arith}
use Rattle.std.specs.Prelude.{Ok}
use Rattle.tree_model.specs.CertificateView.{NodeView}
use Rattle.tree_model.specs.View.{SystemView}
use Rattle.tree_model.specs.System.{IsSystem}
use Rattle.tree_model.specs.Admission.{Admitted}
use Rattle.tree_model.proofs.Unique.{one_refusal, never_both}
use Rattle.compose_tree.proofs.Sound.{admitted_keeping, admitted_no_loss, admitted_tight}
use Rattle.cert_reader.specs.CertificateFile.{certificate_of}
use Rattle.cert_reader.specs.Printed.{certificate_text}
use Rattle.cert_verify.specs.Proves.{budgets_of, Proves}
use Rattle.cert_verify.proofs.Admits.{proves_admits}
use Rattle.certificate.specs.Made.{IsCertificate}
use Rattle.certificate.proofs.Shows.{certificate_proves}
use Rattle.certificate.proofs.OneCertificate.{one_certificate}
use Rattle.command_frame.specs.declared.status.Status.{Status}
use Rattle.command_frame.specs.declared.status.Status.TheVariants.{Yes, No, Wide}
use Rattle.command_frame.specs.Answer.{IsOne}
use Rattle.command_frame.specs.CommandSpec.{IsVerdict}
use Rattle.admit_commands.specs.Certify.{the_certify, certifying, IsPrinted, Certifies, IsProof, CertifyMeans}
use Rattle.command_frame.specs.Steps.{IsJudged}
use Rattle.command_frame.proofs.Attempt.{IsDecided, one_attempt, statuses_attempt}
use Rattle.command_frame.proofs.Budgets.{refused_status, refused_means}
use Rattle.command_frame.proofs.CommandLaws.{CommandLaws}
use Rattle.command_frame.proofs.OneFile.{system_laws}

-- a system has one certificate or one refusal
pub certifying_decided : (sys : SystemView) → IsSystem sys → IsDecided (certifying sys)
certifying_decided sys is = record {
  one_value = one_certificate sys is;
  never_both =
      λ nodes r made first. never_both sys is (budgets_of sys nodes) r
      (proves_admits sys is nodes (certificate_proves sys nodes made)) first;
  one_refusal = one_refusal sys is;
}

one_printed : (nodes : List NodeView) → IsOne (IsPrinted nodes)
one_printed nodes = λ s t x y p q. (p.is_yes ∙ sym q.is_yes, p.told ∙ sym q.told)

-- its statuses
certified_status : (P : Status → Type 0) → P Yes → P No → P Wide → (sys : SystemView) (status : Status) (text : List ℕ)
    → Certifies sys status text → P status
certified_status P at_yes at_no at_wide sys status text h =
    statuses_attempt P (certifying sys) IsPrinted status text (refused_status P at_no at_wide sys)
    (λ nodes said. subst P (sym said.is_yes) at_yes) h

-- what a certificate that proves a system says
pub proof_of : (sys : SystemView) → IsSystem sys → (nodes : List NodeView) → Proves sys nodes → IsProof sys nodes
proof_of sys is nodes proves =
    let admitted : Admitted sys (budgets_of sys nodes) = proves_admits sys is nodes proves in
    record {
      proves = proves;
      admitted = admitted;
      no_loss = admitted_no_loss sys is (budgets_of sys nodes) admitted;
      each_node = admitted_keeping sys is (budgets_of sys nodes) admitted;
      tight = admitted_tight sys is (budgets_of sys nodes) admitted;
    }

-- a certificate is small enough to be read
few_nodes : (sys : SystemView) → IsSystem sys → (nodes : List NodeView) → IsCertificate sys nodes → length nodes ≤ 576
few_nodes sys is nodes made = omega (arith, is.few_cores, is.few_parts, made.are_nodes.all)

-- the text of the certificate of a system is its answer
pub printed : (sys : SystemView) → IsSystem sys → (nodes : List NodeView) (text : List ℕ) → IsCertificate sys nodes
    → text ≡ certificate_text nodes → (length nodes ≤ 576 → certificate_of text ≡ Ok nodes)
    → Certifies sys Yes text
printed sys is nodes text made told spells =
    inl (record {
      value = nodes;
      gives = made;
      said = record { is_yes = refl; told = told; reads_back = spells (few_nodes sys is nodes made) };
    })

-- what it means
certifies_means : (sys : SystemView) → IsSystem sys → (status : Status) (text : List ℕ)
    → Certifies sys status text → CertifyMeans sys status text
certifies_means sys is status text h = elim h [
  | inl a ↦
      subst (λ (s : Status). CertifyMeans sys s text) (sym a.said.is_yes)
      (record {
        nodes = a.value;
        read = a.said.reads_back;
        proof = proof_of sys is a.value (certificate_proves sys a.value a.gives);
      })
  | inr a ↦
      refused_means CertifyMeans sys is (λ t over. over) (λ t. tt) a.refusal a.refuses status text a.status_is
      a.told
]

pub certify_laws : (file : List ℕ) → CommandLaws (the_certify file)
certify_laws file = system_laws file Certifies CertifyMeans (record {
  one = λ sys is. one_attempt (certifying sys) IsPrinted (certifying_decided sys is) (λ nodes made. one_printed nodes);
  judged = certified_status IsJudged tt tt tt;
  verdict = certified_status IsVerdict tt tt tt;
  means = certifies_means;
  long = λ sys text. tt;
})
