-- `check FILE CERT`: what it answers, and what its yes means to who was handed the certificate.
use Rattle.std.specs.Prelude.{◌≡◌, ℕ, List, Ok, Err}
use Rattle.tree_model.specs.CertificateView.{NodeView}
use Rattle.tree_model.specs.View.{SystemView}
use Rattle.cert_reader.specs.declared.fault.CertFault.{CertFault}
use Rattle.cert_verify.specs.declared.flaw.Flaw.{Flaw}
use Rattle.cert_reader.specs.CertificateFile.{certificate_of}
use Rattle.cert_verify.specs.Proves.{Proves}
use Rattle.cert_verify.specs.Flaws.{FirstFlaw}
use Rattle.rt_report.specs.declared.fault.FileFault.TheVariants.{Cert}
use Rattle.rt_report.specs.Check.{check_text}
use Rattle.command_frame.specs.declared.status.Status.{Status}
use Rattle.command_frame.specs.declared.status.Status.TheVariants.{Yes, No}
use Rattle.command_frame.specs.CommandSpec.{CommandSpec, IsYesOrNo}
use Rattle.command_frame.specs.Answer.{Contents, Saying}
use Rattle.command_frame.specs.Attempt.{Attempt}
use Rattle.command_frame.specs.OverFiles.{OnRead, over_pair}
use Rattle.command_frame.specs.SecondFile.{reading_as}
use Rattle.command_frame.specs.TwoFiles.{SpellsSystem}
use Rattle.admit_commands.specs.Certify.{IsProof}

-- the bytes of the second file spell a certificate, or have a first fault
abbrev pub spelling : List ℕ → Attempt (List NodeView) CertFault
spelling bytes = reading_as Cert
    (λ nodes. certificate_of bytes ≡ Ok nodes) (λ fault. certificate_of bytes ≡ Err fault)

-- no: the text tells the first flaw
pub record IsFlawed (sys : SystemView) (nodes : List NodeView) (text : List ℕ) : Type 0 where
  pub flaw : Flaw
  pub first : FirstFlaw sys nodes flaw
  pub told : text ≡ check_text sys (Err flaw)

-- yes exactly where the certificate proves the system, and never wide
abbrev pub ChecksNodes : SystemView → List NodeView → Status → List ℕ → Type 0
ChecksNodes sys nodes Yes text = Proves sys nodes × (text ≡ check_text sys (Ok tt))
ChecksNodes sys nodes No text = IsFlawed sys nodes text
ChecksNodes sys nodes _ text = ⊥

-- the answer to a system and the bytes of a certificate
abbrev pub Checks : SystemView → Saying
Checks = OnRead (λ sys. spelling) ChecksNodes

-- Yes means: under the budgets that the certificate tells the system is admitted, no deadline is
-- missed on any level, and no smaller leaf budget serves. Where it proves the system, the answer is
-- yes.
pub record TellsProof (sys : SystemView) (nodes : List NodeView) (status : Status) : Type 0 where
  pub only : status ≡ Yes → IsProof sys nodes
  pub always : Proves sys nodes → status ≡ Yes

-- of the system and the certificate that the files spell
abbrev pub CheckMeans : Contents → Status → Type 0
CheckMeans contents status = (sys : SystemView) (nodes : List NodeView)
    → SpellsSystem contents sys (λ bytes. certificate_of bytes ≡ Ok nodes)
    → TellsProof sys nodes status

-- what there is to say of the command
abbrev pub the_check : (file cert : List ℕ) → CommandSpec
the_check = over_pair (λ sys. spelling) ChecksNodes
    (λ contents status text. CheckMeans contents status) (λ contents. IsYesOrNo)
