use Rattle.std.proofs.Common.{refl, [], ◌∷◌}
use Rattle.slot_model.proofs.HandedOn.{handed_on}
use Rattle.admission_session.specs.declared.edit.Edit.TheVariants.{Add}
use Rattle.admission_session.specs.declared.fault.EditFault.TheVariants.{NameTaken, NoSuchParent, Mixed, BadPart, TooMany}
use Rattle.admission_session.proofs.MadeSystems.{added_is, first_of_more}
use Rattle.admission_session.proofs.rules.added_part.Goals as goal

pub returns-in_err-parent-clause-fault : goal.returns-in_err-parent-clause-fault
returns-in_err-parent-clause-fault c =
    handed_on c.from_residual.result _ _ c.from_residual.ensures.1 (first_of_more c.args.sys.now
    (Add c.args.leaf c.args.parent.now) (NameTaken ∷ NoSuchParent ∷ Mixed ∷ []) (BadPart ∷ TooMany ∷ [])
    c.in_err-parent.field-0.0 c.in_err-parent.ensures.fault)

pub returns-clause-system : goal.returns-clause-system
returns-clause-system c =
    added_is c.args.sys.now c.new_parent.ensures.system c.args.leaf c.in_ok-parent.parent c.on-part.result
    c.on-part.ensures c.in_ok-parent.ensures.no_fault.0 c.in_ok-parent.ensures.stands
    (c.if-not-is_leaf_part.ensures.0 refl) c.parts.result.now c.parts.ensures.parts c.if-parts-ge-MAX_PARTS.false
