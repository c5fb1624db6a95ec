use Rattle.std.proofs.Common.{◌≡◌, ℕ, true, List, ◌∙◌, subst, sym}
use Rattle.slot_model.specs.Name.{is_name}
use Rattle.bulk_host.proofs.Systems.{guest_name}
use Rattle.bulk_host.proofs.host.make_guest.Goals as goal

pub name_of-requires : goal.name_of-requires
name_of-requires c =
    subst (λ (text : List ℕ). is_name text ≡ true) (sym (c.deref.ensures ∙ c.in_ok-format.ensures.ok))
    (guest_name c.args.place (c.requires))
