-- An edit that makes a system has no fault, so it is not refused.
use Rattle.std.proofs.Common.{◌≡◌, ◌≢◌, ℕ, ◌<◌, ◌-◌, Bool, true, false, List, Option, Result, length, length-set, arith, refl, sym, ◌∙◌, ap, subst, inl, inr}
use Rattle.std.specs.Prelude.{IfOk}
use Rattle.std.proofs.lemmas.Bool.{cases_lt, false≢true}
use Rattle.std.proofs.lemmas.Result.{IfOk-weaker}
use Rattle.tree_model.specs.declared.place.Parent.{Parent}
use Rattle.tree_model.specs.declared.place.Parent.TheVariants.{Core as on_core, Part as on_part}
use Rattle.tree_model.specs.View.{PartView, SystemView}
use Rattle.tree_model.specs.System.{IsSystem, IsPart, IsChildOf, Stands, is_leaf, part_at}
use Rattle.tree_model.specs.NamedLeaf.{IsLeafNamed}
use Rattle.admission_session.specs.declared.fault.EditFault.{EditFault}
use Rattle.admission_session.specs.declared.answer.Answer.{Answer}
use Rattle.admission_session.specs.declared.answer.Answer.TheVariants.{Refused}
use Rattle.admission_session.specs.declared.edit.Edit.{Edit}
use Rattle.admission_session.specs.declared.edit.Edit.TheVariants.{Add, Remove, Change}
use Rattle.admission_session.specs.LeafView.{LeafView}
use Rattle.admission_session.specs.LeafPart.{leaf_part}
use Rattle.admission_session.specs.Leaves.{on_parent, with_leaf, with_guest, with_changed, fallen, without_leaf}
use Rattle.admission_session.specs.Edits.{IsNamed, IsLeafParent, IsLastChild, IsLeaf, IsNewLeaf, HasNoFault, IsAdded, IsRemoved, IsChanged, IsMade, MakesSystem, faults_of}
use Rattle.admission_session.specs.Answers.{IsAnswered}
use Rattle.admission_session.proofs.KeptByEdits.{Moved, added_at, added_length, changed_here, removed_at, removed_length, moved_before, fallen_before, fallen_behind, not_on_leaf}
use Rattle.admission_session.proofs.EditedSystems.{added_here, changed_parents, behind, Behind}
use Rattle.admission_session.proofs.Named.{named_once}
use Rattle.admission_session.proofs.EditTests.{leaf_anywhere, not_mixed, not_last}
use Rattle.admission_session.proofs.OneAnswer.{no_first}

true_unless : (b : Bool) → (b ≡ false → ⊥) → b ≡ true
true_unless true n = refl
true_unless false n = absurd (n refl)

-- where a system has a leaf behind all parts, the leaf is what it is asked to be
abbrev IsEarlier : SystemView → Parent → Type 0
IsEarlier sys (on_core c) = Unit {0}
IsEarlier sys (on_part q) = q < length sys.parts

named_still : (sys : SystemView) (leaf : PartView) (name : List ℕ) (node : Parent) → IsNamed sys name node
    → IsNamed (with_leaf sys leaf) name node × IsEarlier sys node
named_still sys leaf name (on_core c) h = (h, tt)
named_still sys leaf name (on_part q) h = (
  (
    (let more : q < length (with_leaf sys leaf).parts = omega (arith, h.0, added_length sys leaf) in more),
    sym (ap (λ (p : PartView). p.name) (added_at sys leaf q h.0)) ∙ h.1,
  ),
  h.0,
)

put_here : (sys : SystemView) (leaf : PartView) → length sys.parts < length (with_leaf sys leaf).parts
put_here sys leaf = omega (arith, added_length sys leaf)

put_free : (sys : SystemView) (leaf : PartView) → IsSystem (with_leaf sys leaf)
    → (node : Parent) × IsNamed sys leaf.name node → ⊥
put_free sys leaf is taken =
    let still = named_still sys leaf leaf.name taken.0 taken.1 in
    let same : taken.0 ≡ on_part (length sys.parts)
    = named_once (with_leaf sys leaf) is leaf.name taken.0 (on_part (length sys.parts)) still.0
    (put_here sys leaf, ap (λ (p : PartView). p.name) (added_here sys leaf)) in
    let less : length sys.parts < length sys.parts = subst (IsEarlier sys) same still.1 in omega (arith, less)

put_part : (sys : SystemView) (leaf : PartView) → IsSystem (with_leaf sys leaf) → IsPart leaf
put_part sys leaf is = subst IsPart (added_here sys leaf) (is.parts (length sys.parts) (put_here sys leaf))

put_stands : (sys : SystemView) (leaf : PartView) → IsSystem (with_leaf sys leaf)
    → Stands (with_leaf sys leaf) (length sys.parts) leaf.parent
put_stands sys leaf is =
    subst (λ (p : PartView). Stands (with_leaf sys leaf) (length sys.parts) p.parent) (added_here sys leaf)
    (is.parents (length sys.parts) (put_here sys leaf))

put_filled : (sys : SystemView) (leaf : PartView) → IsSystem (with_leaf sys leaf) → is_leaf leaf.tasks ≡ true
put_filled sys leaf is = true_unless (is_leaf leaf.tasks) never
  where
    never : is_leaf leaf.tasks ≡ false → ⊥
    never inner =
        let child : (r : ℕ) × IsChildOf (with_leaf sys leaf) (length sys.parts) r
        = is.not_empty (length sys.parts) (put_here sys leaf)
        (ap (λ (p : PartView). is_leaf p.tasks) (added_here sys leaf) ∙ inner) in
        let stands : Stands (with_leaf sys leaf) child.0 (on_part (length sys.parts))
        = subst (Stands (with_leaf sys leaf) child.0) child.1.1 (is.parents child.0 child.1.0) in
        omega (arith, stands.0, child.1.0, added_length sys leaf)

put_room : (sys : SystemView) (leaf : PartView) → IsSystem (with_leaf sys leaf) → length sys.parts < 512
put_room sys leaf is = omega (arith, is.few_parts, added_length sys leaf)

-- so a guest with which a core makes a system may be put behind all parts
pub guest_is_new : (sys : SystemView) (guest : PartView) (c : ℕ) → IsSystem (with_guest sys guest c)
    → IsNewLeaf sys guest
guest_is_new sys guest c is =
    let part : IsPart (on_parent guest (on_core c)) = put_part sys (on_parent guest (on_core c)) is in
    record {
      free = put_free sys (on_parent guest (on_core c)) is;
      part = record {
        period = part.period;
        budget = part.budget;
        few_tasks = part.few_tasks;
        tasks = part.tasks;
        task_names = part.task_names;
      };
      filled = put_filled sys (on_parent guest (on_core c)) is;
      room = put_room sys (on_parent guest (on_core c)) is;
    }

-- a parent on which a system has a leaf more is none
inner_parent : (sys : SystemView) (leaf : PartView) (parent : Parent)
    → Stands (with_leaf sys leaf) (length sys.parts) parent → IsLeafParent sys parent → ⊥
inner_parent sys leaf (on_core c) stands h = h
inner_parent sys leaf (on_part q) stands h =
    false≢true (sym stands.1
    ∙ (sym (ap (λ (p : PartView). is_leaf p.tasks) (added_at sys leaf q stands.0)) ∙ h))

added_fine : (sys : SystemView) → IsSystem sys → (leaf : LeafView) (name : Option (List ℕ)) (edited : SystemView)
    → IsAdded sys leaf name edited → IsSystem edited → HasNoFault sys (Add leaf name) (faults_of (Add leaf name))
added_fine sys is leaf name edited made system = (
  put_free sys part now,
  (
    λ none. none made.parent made.named,
    (
      not_mixed sys is (Add leaf name) made.parent made.named
          (inner_parent sys part made.parent (put_stands sys part now)),
      (
        λ bad. bad (record {
          part = leaf_anywhere leaf made.parent (on_core 0) false false (put_part sys part now);
          filled = put_filled sys part now;
        }),
        (λ many. (let few : length sys.parts < 512 = put_room sys part now in omega (arith, many, few)), tt),
      ),
    ),
  ),
)
  where
    part : PartView
    part = leaf_part leaf made.parent false

    now : IsSystem (with_leaf sys (leaf_part leaf made.parent false))
    now = subst IsSystem made.is system

-- a part whose last child is taken out has neither tasks nor children
abbrev IsOnCore : Parent → Type 0
IsOnCore (on_core c) = Unit {0}
IsOnCore (on_part p) = ⊥

abbrev part_of : Parent → ℕ
part_of (on_core c) = 0
part_of (on_part p) = p

falls_from : (q p : ℕ) (parent : Parent) → p < q → fallen q parent ≡ on_part p → parent ≡ on_part p
falls_from q p (on_core c) less e = absurd (subst IsOnCore e tt)
falls_from q p (on_part r) less e = elim (cases_lt q r) [
  | inl l ↦
      let same : r - 1 ≡ p = ap part_of (sym (fallen_behind q r l) ∙ e) in
      absurd (omega (arith, same, less, l))
  | inr l ↦ sym (fallen_before q r l) ∙ e
]

not_moved_to : (q j : ℕ) → Moved q q j → ⊥
not_moved_to q j m = elim (cases_lt j q) [
  | inl l ↦ omega (arith, l, m.before l)
  | inr l ↦ omega (arith, l, m.behind l)
]

not_last_child : (sys : SystemView) → IsSystem sys → (q : ℕ) → q < length sys.parts → IsSystem (without_leaf sys q)
    → IsLastChild sys q → ⊥
not_last_child sys is q h now last = gone child.0 child.1.0 (behind sys q child.0 h child.1.0) child.1.1
  where
    stands : Stands sys q (on_part last.parent)
    stands = subst (Stands sys q) last.stands (is.parents q h)

    inside : last.parent < length (without_leaf sys q).parts
    inside = omega (arith, stands.0, h, removed_length sys q h)

    child : (r : ℕ) × IsChildOf (without_leaf sys q) last.parent r
    child =
        now.not_empty last.parent inside
        (ap (λ (p : PartView). is_leaf p.tasks)
        (removed_at sys q last.parent last.parent h inside (moved_before q last.parent stands.0)) ∙ stands.1)

    gone : (r : ℕ) → r < length (without_leaf sys q).parts → Behind sys q r
        → (part_at (without_leaf sys q) r).parent ≡ on_part last.parent → ⊥
    gone r l b stands_there =
        let stood : (part_at sys b.was).parent ≡ on_part last.parent
        = falls_from q last.parent (part_at sys b.was).parent stands.0
        (sym (ap (λ (p : PartView). p.parent) (removed_at sys q b.was r h l b.moved)) ∙ stands_there) in
        not_moved_to q r (subst (λ (i : ℕ). Moved q i r) (last.only b.was (b.inside, stood)) b.moved)

removed_fine : (sys : SystemView) → IsSystem sys → (name : List ℕ) (edited : SystemView)
    → IsRemoved sys name edited → IsSystem edited → HasNoFault sys (Remove name) (faults_of (Remove name))
removed_fine sys is name edited made system = (
  λ none. none made.place made.leaf,
  (
    not_last sys is (Remove name) made.place made.leaf
        (not_last_child sys is made.place made.leaf.is_part (subst IsSystem made.is system)),
    tt,
  ),
)

-- a leaf that is changed keeps its tasks, since no part stands on it
changed_leaf : (sys : SystemView) → IsSystem sys → (leaf : LeafView) (q : ℕ) → IsLeafNamed sys leaf.name q
    → IsSystem (with_changed sys q (leaf_part leaf (part_at sys q).parent (part_at sys q).extra)) → IsLeaf leaf
changed_leaf sys is leaf q named now = record {
  part =
      leaf_anywhere leaf (part_at sys q).parent (on_core 0) (part_at sys q).extra false
      (subst IsPart (changed_here sys q part named.is_part) (now.parts q inside));
  filled = true_unless (is_leaf leaf.tasks) never;
}
  where
    part : PartView
    part = leaf_part leaf (part_at sys q).parent (part_at sys q).extra

    inside : q < length (with_changed sys q (leaf_part leaf (part_at sys q).parent (part_at sys q).extra)).parts
    inside = omega (arith, named.is_part, length-set sys.parts q part)

    never : is_leaf leaf.tasks ≡ false → ⊥
    never inner =
        let child : (r : ℕ) × IsChildOf (with_changed sys q part) q r
        = now.not_empty q inside
        (ap (λ (p : PartView). is_leaf p.tasks) (changed_here sys q part named.is_part) ∙ inner) in
        not_on_leaf sys is q named.is_leaf child.0 (omega (arith, child.1.0, length-set sys.parts q part))
        (changed_parents sys q part named.is_part refl child.0 ∙ child.1.1)

changed_fine : (sys : SystemView) → IsSystem sys → (leaf : LeafView) (edited : SystemView)
    → IsChanged sys leaf edited → IsSystem edited → HasNoFault sys (Change leaf) (faults_of (Change leaf))
changed_fine sys is leaf edited made system = (
  λ none. none made.place made.named,
  (λ bad. bad (changed_leaf sys is leaf made.place made.named (subst IsSystem made.is system)), tt),
)

-- an edit that makes a system has no fault
pub no_fault : (sys : SystemView) → IsSystem sys → (edit : Edit) (edited : SystemView) → IsMade sys edit edited
    → IsSystem edited → HasNoFault sys edit (faults_of edit)
no_fault sys is (Add leaf name) edited made system = added_fine sys is leaf name edited made system
no_fault sys is (Remove name) edited made system = removed_fine sys is name edited made system
no_fault sys is (Change leaf) edited made system = changed_fine sys is leaf edited made system

-- so it is not refused
not_refused : (sys : SystemView) → IsSystem sys → (edit : Edit) → MakesSystem sys edit → (fault : EditFault)
    → (answer : Answer) (now : SystemView) → IsAnswered sys edit answer now → answer ≢ Refused fault
not_refused sys is edit makes fault answer now told e =
    let refused : IsAnswered sys edit (Refused fault) now
    = subst (λ (a : Answer). IsAnswered sys edit a now) e told in
    no_first sys edit (faults_of edit) fault (no_fault sys is edit makes.0 makes.1 makes.2) refused.1

pub never_refused : {X : Type 0} (sys : SystemView) → IsSystem sys → (edit : Edit) (given : Result Answer X)
    (left : SystemView) → IfOk given (λ a. IsAnswered sys edit a left) → (fault : EditFault) → MakesSystem sys edit
    → IfOk given (λ a. a ≢ Refused fault)
never_refused sys is edit given left h fault makes =
    IfOk-weaker given _ _ (λ a told. not_refused sys is edit makes fault a left told) h
