-- A system that is edited in place, and the same once the edit is undone.
use Rattle.std.proofs.Common.{◌≡◌, ℕ, ◌<◌, true, length, arith, sym, ◌∙◌, ap, subst}
use Rattle.tree_model.specs.declared.place.Parent.TheVariants.{Core as on_core}
use Rattle.tree_model.specs.View.{PartView, SystemView}
use Rattle.tree_model.specs.System.{IsSystem, part_at, is_leaf_at}
use Rattle.admission_session.specs.Leaves.{on_parent, with_leaf, with_guest, with_changed, fallen_part, without_leaf}
use Rattle.admission_session.specs.inner.Undone.{without_last, with_leaf_back}
use Rattle.admission_session.proofs.KeptByEdits.{removed_length}
use Rattle.admission_session.proofs.Undone.{last_off, changed_back, leaf_back}

-- a leaf was put behind all parts
pub off_system : (was now : SystemView) (leaf : PartView) → IsSystem was → now ≡ with_leaf was leaf
    → IsSystem (without_last now)
off_system was now leaf is e =
    subst (λ (s : SystemView). IsSystem (without_last s)) (sym e) (subst IsSystem (sym (last_off was leaf)) is)

pub off_is : (was now after : SystemView) (leaf : PartView) → now ≡ with_leaf was leaf → after ≡ without_last now
    → after ≡ was
off_is was now after leaf e f = f ∙ (ap without_last e ∙ last_off was leaf)

-- a guest that no core took
pub guest_off_system : (was put now : SystemView) (guest : PartView) → IsSystem was → put ≡ with_guest was guest 0
    → now ≡ put → IsSystem (without_last now)
guest_off_system was put now guest is e same = off_system was now (on_parent guest (on_core 0)) is (same ∙ e)

pub guest_off : (was put now after : SystemView) (guest : PartView) → put ≡ with_guest was guest 0 → now ≡ put
    → after ≡ without_last now → after ≡ was
guest_off was put now after guest e same f = off_is was now after (on_parent guest (on_core 0)) (same ∙ e) f

-- a leaf was changed
pub back_system : (was now : SystemView) (q : ℕ) (leaf old : PartView) → IsSystem was
    → now ≡ with_changed was q leaf → old ≡ part_at was q → IsSystem (with_changed now q old)
back_system was now q leaf old is e o =
    subst (λ (p : PartView). IsSystem (with_changed now q p)) (sym o)
    (subst (λ (s : SystemView). IsSystem (with_changed s q (part_at was q))) (sym e)
    (subst IsSystem (sym (changed_back was q leaf)) is))

pub back_is : (was now after : SystemView) (q : ℕ) (leaf old : PartView) → now ≡ with_changed was q leaf
    → old ≡ part_at was q → after ≡ with_changed now q old → after ≡ was
back_is was now after q leaf old e o f =
    f
    ∙ (ap (with_changed now q) o
    ∙ (ap (λ (s : SystemView). with_changed s q (part_at was q)) e ∙ changed_back was q leaf))

-- a leaf was taken out
pub put_fewer : (was now : SystemView) (q : ℕ) → q < length was.parts → now ≡ without_leaf was q
    → length now.parts < length was.parts
put_fewer was now q h e =
    subst (λ (s : SystemView). length s.parts < length was.parts) (sym e) (omega (arith, h, removed_length was q h))

pub put_system : (was now : SystemView) (q : ℕ) (leaf : PartView) → IsSystem was → q < length was.parts
    → is_leaf_at was q ≡ true → now ≡ without_leaf was q → leaf ≡ fallen_part q (part_at was q)
    → IsSystem (with_leaf_back now q leaf)
put_system was now q leaf is h told e o =
    subst (λ (p : PartView). IsSystem (with_leaf_back now q p)) (sym o)
    (subst (λ (s : SystemView). IsSystem (with_leaf_back s q (fallen_part q (part_at was q)))) (sym e)
    (subst IsSystem (sym (leaf_back was is q h told)) is))

pub put_is : (was now after : SystemView) (q : ℕ) (leaf : PartView) → IsSystem was → q < length was.parts
    → is_leaf_at was q ≡ true → now ≡ without_leaf was q → leaf ≡ fallen_part q (part_at was q)
    → after ≡ with_leaf_back now q leaf → after ≡ was
put_is was now after q leaf is h told e o f =
    f
    ∙ (ap (with_leaf_back now q) o
    ∙ (ap (λ (s : SystemView). with_leaf_back s q (fallen_part q (part_at was q))) e ∙ leaf_back was is q h told))
