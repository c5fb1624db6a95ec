-- The line of the fault of a certificate, which tells no place.
use Rattle.std.specs.Prelude.{ℕ, List, [], ◌∷◌, codes}
use Rattle.std.specs.Fmt.{decimal}
use Rattle.cert_reader.specs.declared.fault.CertFault.{CertFault}
use Rattle.cert_reader.specs.declared.fault.CertFault.TheVariants.{NotJson, WrongShape, BadNumber, TooMany, NoMemory}
use Rattle.rt_report.specs.Words.{joined}

-- `fault=WORD file=K`
abbrev pub word_line : List ℕ → ℕ → List ℕ
word_line word file = joined (
    codes "fault=" ∷ word ∷ codes " file=" ∷ decimal file ∷ codes "\n" ∷ [])

abbrev pub cert_fault_text : CertFault → ℕ → List ℕ
cert_fault_text NotJson file = word_line (codes "NotJson") file
cert_fault_text WrongShape file = word_line (codes "WrongShape") file
cert_fault_text BadNumber file = word_line (codes "BadNumber") file
cert_fault_text TooMany file = word_line (codes "TooMany") file
cert_fault_text NoMemory file = []
