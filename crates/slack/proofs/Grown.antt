-- What a task may grow to without a loss.
use Rattle.std.proofs.Common.{◌≡◌, ℕ, ◌<◌, ◌≤◌, true, List, length, arith}
use Rattle.std.specs.Prelude.{slice_index_or}
use Rattle.tree_model.specs.View.{SystemView}
use Rattle.tree_model.specs.System.{IsSystem, part_at, is_leaf_at}
use Rattle.tree_model.specs.Admission.{Admitted}
use Rattle.tree_model.specs.Tree.{NoLoss}
use Rattle.compose_tree.proofs.Sound.{admitted_no_loss}
use Rattle.slack.specs.MostWork.{AreMostWorks, with_work}
use Rattle.slack.proofs.Most.{with_work_is}

-- with each work up to the greatest one, budgets admit the system and no job of it is lost
pub grown_without_loss : (sys : SystemView) → IsSystem sys → (q : ℕ) → q < length sys.parts → is_leaf_at sys q ≡ true
    → (works : List ℕ) → AreMostWorks sys q works → (i work : ℕ) → i < length (part_at sys q).tasks → 1 ≤ work
    → work ≤ slice_index_or works i 0 →
    (budgets : List ℕ) × Admitted (with_work sys q i work) budgets × NoLoss (with_work sys q i work) budgets
grown_without_loss sys is q h leaf works most i work hi some within =
    let one = most.each i hi in
    let admitted = one.admitted work some within in
    let grown : IsSystem (with_work sys q i work)
    = with_work_is sys is q h leaf i work hi some (omega (arith, within, one.in_room)) in
    (admitted.0, admitted.1, admitted_no_loss (with_work sys q i work) grown admitted.0 admitted.1)
