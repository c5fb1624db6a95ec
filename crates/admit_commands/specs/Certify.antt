-- `certify FILE`: what it answers, and what its yes and no mean to who keeps the certificate.
use Rattle.std.specs.Prelude.{◌≡◌, ℕ, List, Ok, ⊤}
use Rattle.tree_model.specs.declared.plan.Refusal.{Refusal}
use Rattle.tree_model.specs.CertificateView.{NodeView}
use Rattle.tree_model.specs.View.{SystemView}
use Rattle.tree_model.specs.Tree.{NoLoss}
use Rattle.tree_model.specs.Admission.{Admitted, FirstRefusal}
use Rattle.compose_tree.specs.Keeping.{Keeping}
use Rattle.compose_tree.specs.Truth.{IsTight}
use Rattle.cert_reader.specs.CertificateFile.{certificate_of}
use Rattle.cert_reader.specs.Printed.{certificate_text}
use Rattle.cert_verify.specs.Proves.{budgets_of, Proves}
use Rattle.certificate.specs.Made.{IsCertificate}
use Rattle.rt_report.specs.Refusal.{refusal_text}
use Rattle.command_frame.specs.declared.status.Status.{Status}
use Rattle.command_frame.specs.declared.status.Status.TheVariants.{Yes, No}
use Rattle.command_frame.specs.CommandSpec.{CommandSpec}
use Rattle.command_frame.specs.OverFiles.{over_system}
use Rattle.command_frame.specs.Attempt.{Attempt, OnAttempt}
use Rattle.command_frame.specs.Budgets.{refusal_status, IsTrulyOverfull}

-- a certificate is made, or a first refusal is answered
abbrev pub certifying : SystemView → Attempt (List NodeView) Refusal
certifying sys = record {
  Gives = IsCertificate sys;
  Refuses = FirstRefusal sys;
  status_of = refusal_status;
  text_of = refusal_text sys;
}

-- yes: the text is that of the certificate, and is read back as it
pub record IsPrinted (nodes : List NodeView) (status : Status) (text : List ℕ) : Type 0 where
  pub is_yes : status ≡ Yes
  pub told : text ≡ certificate_text nodes
  pub reads_back : certificate_of text ≡ Ok nodes

-- the answer to a system
abbrev pub Certifies : SystemView → Status → List ℕ → Type 0
Certifies sys = OnAttempt (certifying sys) IsPrinted

-- What a certificate that proves a system says of it: its budgets admit the system, no job is lost
-- on any level in any permitted run, whenever each server begins, nor at any node by itself over
-- any supply of its own kind, and every whole budget below a computed leaf budget must miss.
pub record IsProof (sys : SystemView) (nodes : List NodeView) : Type 0 where
  pub proves : Proves sys nodes
  pub admitted : Admitted sys (budgets_of sys nodes)
  pub no_loss : NoLoss sys (budgets_of sys nodes)
  pub each_node : Keeping sys (budgets_of sys nodes)
  pub tight : IsTight sys (budgets_of sys nodes)

-- yes means: the text is read as a certificate that proves the system
pub record TellsCertificate (sys : SystemView) (text : List ℕ) : Type 0 where
  pub nodes : List NodeView
  pub read : certificate_of text ≡ Ok nodes
  pub proof : IsProof sys nodes

-- what an answer to a system means; its no means what that of `admit` does
abbrev pub CertifyMeans : SystemView → Status → List ℕ → Type 0
CertifyMeans sys Yes text = TellsCertificate sys text
CertifyMeans sys No text = IsTrulyOverfull sys text
CertifyMeans sys _ text = ⊤

-- what there is to say of the command
abbrev pub the_certify : List ℕ → CommandSpec
the_certify = over_system Certifies CertifyMeans
