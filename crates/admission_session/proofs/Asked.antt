-- What the servers of the parts so far ask of each core, part by part.
use Rattle.std.proofs.Common.{◌≡◌, ℕ, ◌+◌, ◌*◌, ◌^◌, ◌<◌, ◌≤◌, true, false, ◌==◌, List, length, get_or, set, length-set, get_or-set_same, get_or-set_other, arith, sym, ◌∙◌, ap, subst, inl, inr}
use Rattle.std.proofs.lemmas.Bool.{cases_eq, eqb-true}
use Rattle.std.proofs.lemmas.List.Sums.{sum_by_push}
use Rattle.tree_model.specs.declared.place.Parent.{Parent}
use Rattle.tree_model.specs.declared.place.Parent.TheVariants.{Core as on_core, Part as on_part}
use Rattle.tree_model.specs.declared.place.Place.TheVariants.{Core}
use Rattle.tree_model.specs.View.{SystemView}
use Rattle.tree_model.specs.System.{part_at}
use Rattle.tree_model.specs.Tree.{place_of, same_place, is_child, server_task, child_tasks}
use Rattle.tree_model.proofs.Children.{same_itself}
use Rattle.tree_model.proofs.NodeTasks.{child_tasks-zero, child_tasks_yes, child_tasks_no}
use Rattle.admission_session.specs.inner.Shares.{share, shares}
use Rattle.admission_session.proofs.KeptByEdits.{not_true}

pub record AreAsked (sys : SystemView) (b : List ℕ) (asked : List ℕ) (q : ℕ) : Type 0 where
  pub room : length asked ≡ 64
  pub asked_here : (c : ℕ) → c < 64 → get_or asked c 0 ≡ shares (child_tasks sys b (Core c) q)
  pub few : (c : ℕ) → c < 64 → get_or asked c 0 ≤ q * 2 ^ 32

pub asked_begins : (sys : SystemView) (b : List ℕ) (asked : List ℕ) → length asked ≡ 64
    → ((c : ℕ) → c < 64 → get_or asked c 0 ≡ 0) → AreAsked sys b asked 0
asked_begins sys b asked room none = record {
  room = room;
  asked_here = λ c l. none c l ∙ sym (ap shares (child_tasks-zero sys b (Core c)));
  few = λ c l. omega (arith, none c l);
}

-- a part that stands on another part
pub asked_off : (sys : SystemView) (b asked : List ℕ) (q p : ℕ) → (part_at sys q).parent ≡ on_part p
    → AreAsked sys b asked q → AreAsked sys b asked (q + 1)
asked_off sys b asked q p stands before = record {
  room = before.room;
  asked_here =
      λ c l. before.asked_here c l
      ∙ sym (ap shares (child_tasks_no sys b (Core c) q
      (ap (λ (x : Parent). same_place (place_of x) (Core c)) stands)));
  few = λ c l. omega (arith, before.few c l);
}

-- a part that stands on a core
pub asked_on : (sys : SystemView) (b asked next : List ℕ) (q c own : ℕ) → (part_at sys q).parent ≡ on_core c
    → c < 64 → own ≡ share (server_task sys b q) → own ≤ 2 ^ 32 → next ≡ set asked c (get_or asked c 0 + own)
    → AreAsked sys b asked q → AreAsked sys b next (q + 1)
asked_on sys b asked next q c own stands h is few e before =
    subst (λ (xs : List ℕ). AreAsked sys b xs (q + 1)) (sym e) (record {
      room = length-set asked c (get_or asked c 0 + own) ∙ before.room;
      asked_here = λ d l. elim (cases_eq d c) [
        | inl same ↦ subst (λ (k : ℕ). get_or now k 0 ≡ shares (child_tasks sys b (Core k) (q + 1))) (sym same) own_core
        | inr differ ↦
            get_or-set_other asked c d (get_or asked c 0 + own) 0 differ
            ∙ (before.asked_here d l ∙ sym (ap shares (child_tasks_no sys b (Core d) q (other d differ))))
      ];
      few = λ d l. elim (cases_eq d c) [
        | inl same ↦ omega (arith, ap (λ (k : ℕ). get_or now k 0) same, written, before.few c h, few)
        | inr differ ↦
            omega (arith, get_or-set_other asked c d (get_or asked c 0 + own) 0 differ, before.few d l)
      ];
    })
  where
    now : List ℕ
    now = set asked c (get_or asked c 0 + own)

    written : get_or (set asked c (get_or asked c 0 + own)) c 0 ≡ get_or asked c 0 + own
    written = get_or-set_same asked c (get_or asked c 0 + own) 0 (omega (arith, h, before.room))

    child : is_child sys (Core c) q ≡ true
    child = ap (λ (x : Parent). same_place (place_of x) (Core c)) stands ∙ same_itself (Core c)

    other : (d : ℕ) → (d ≡ c → ⊥) → is_child sys (Core d) q ≡ false
    other d differ =
        ap (λ (x : Parent). same_place (place_of x) (Core d)) stands
        ∙ not_true (c == d) (λ t. differ (sym (eqb-true c d t)))

    own_core : get_or (set asked c (get_or asked c 0 + own)) c 0 ≡ shares (child_tasks sys b (Core c) (q + 1))
    own_core =
        written
        ∙ (ap (λ (n : ℕ). n + own) (before.asked_here c h)
        ∙ (ap (λ (n : ℕ). shares (child_tasks sys b (Core c) q) + n) is
        ∙ (sym (sum_by_push share (child_tasks sys b (Core c) q) (server_task sys b q))
        ∙ sym (ap shares (child_tasks_yes sys b (Core c) q child)))))
