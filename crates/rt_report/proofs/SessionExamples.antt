-- Lines of answers, on which the texts are computed.
use Rattle.std.proofs.Common.{◌≡◌, [], ◌∷◌, codes, refl}
use Rattle.std.specs.Prelude.{map}
use Rattle.std.specs.Fmt.{digits}
use Rattle.admission_session.specs.declared.answer.Answer.TheVariants.{Done, Refused}
use Rattle.admission_session.specs.declared.fault.EditFault.TheVariants.{NameTaken, NoSuchParent, Mixed, NoSuchLeaf, LastChild, BadPart, TooMany}
use Rattle.rt_report.specs.Session.{answer_lines, fault_word}

rows_are_counted : answer_lines 9 (Done ∷ Refused NameTaken ∷ []) ≡ codes "9 yes\n10 refused NameTaken\n"
unfolding digits
rows_are_counted = refl

-- each reason for which a row is refused has its own word
reasons_in_their_words :
    map fault_word
    (NameTaken ∷ NoSuchParent ∷ Mixed ∷ NoSuchLeaf ∷ LastChild ∷ BadPart ∷ TooMany ∷ [])
    ≡ codes "NameTaken" ∷ codes "NoSuchParent" ∷ codes "Mixed" ∷ codes "NoSuchLeaf" ∷ codes "LastChild"
    ∷ codes "BadPart" ∷ codes "TooMany" ∷ []
reasons_in_their_words = refl
