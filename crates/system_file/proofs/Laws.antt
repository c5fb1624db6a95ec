-- The two laws of the system file: what is read is spelled by the document and is a system, and a
-- document that is written by the rules is read where what it spells is a system.
use Rattle.std.proofs.Common.{◌≡◌, ℕ, ◌+◌, ◌<◌, ◌≤◌, Bool, true, false, not, ◌&&◌, List, [], ◌∷◌, ◌++◌, map, length, take, drop, get_or, Option, Some, None, Result, Ok, Err, IfOk, IfErr, ◌≢◌, refl, sym, ap, subst, ◌∙◌, codes, arith, bytes_eq, length-take-le, length-append, unwrap_or}
use Rattle.std.proofs.lemmas.List.{map-append, get_or-map, get_or-take, get_or_append_left, get_or-append-add, take-append-le, take-append-drop}
use Rattle.std.proofs.lemmas.List.Folds.{list_any_at}
use Rattle.std.proofs.Math.Seq.{take-append-add}
use Rattle.std.specs.Prelude.{position}
use Rattle.std.specs.List.{list_any}
use Rattle.slot_model.specs.Task.{default_task, room_of, SporadicTask, IsConstrained, task_at}
use Rattle.slot_model.specs.declared.task.TheConstants.{LIMIT}
use Rattle.toml.specs.Data.{Data, boolean, table, Members, get}
use Rattle.tree_model.specs.declared.pinned_core.Core.{Core as CoreView}
use Rattle.tree_model.specs.declared.place.Parent.{Parent}
use Rattle.tree_model.specs.declared.place.Parent.TheVariants.{Core as on_core, Part as on_part}
use Rattle.tree_model.specs.View.{NamedTask, PartView, SystemView}
use Rattle.tree_model.specs.System.{IsSystem, IsPart, IsCoreSupply, Stands, AreDistinct, is_leaf, own_tasks}
use Rattle.tree_model.specs.Lists.{first_fault_or}
use Rattle.tree_model.proofs.Lists.{length_map, none_both}
use Rattle.system_file.specs.declared.format.Format.{Format}
use Rattle.system_file.specs.declared.fault.Spot.{Spot}
use Rattle.system_file.specs.declared.fault.Spot.TheVariants.{Top, Core, Part, Task}
use Rattle.system_file.specs.declared.fault.SystemFault.{SystemFault}
use Rattle.system_file.specs.declared.fault.SystemFault.TheVariants.{Empty, OutOfRange, TooMany, NoMemory}
use Rattle.system_file.specs.Document.{format_of, elements_of, array_of, text_of, number_of, is_text, is_named, core_or_part, parent_named, parent_at, cores_of, parts_of, tasks_of, deadline_of, spelled_core, spelled_task, spelled_part, spelled_system}
use Rattle.system_file.specs.Faults.{required, optional, format_faults, text_faults, parent_faults, is_parent_faults, core_array_faults, array_faults, top_faults, top_keys, in_order, core_faults, core_keys, core_key_faults, task_faults, task_keys, task_key_faults, part_faults, part_keys, part_key_faults, empty_faults, has_tasks, is_parent, faults}
use Rattle.system_file.specs.SystemFile.{system_of, system_of_document, document_of}
use Rattle.system_file.specs.Written.{IsNameText, IsParentText, IsArray, There, element, IsWrittenTask, IsWrittenCore, IsWrittenPart, IsWritten, Spells}
use Rattle.std.proofs.lemmas.Slice.Eq.{bytes_eq-Decides}
use Rattle.std.proofs.lemmas.Bool.{le-ltb}
use Rattle.system_file.proofs.Places.{joined, position_append, leaf_tasks}
use Rattle.system_file.proofs.Found.{position_holds, none_in_order}
use Rattle.system_file.proofs.Systems.{core_names, part_names, sys, spelled, part_spelled, faultless_is_system}
use Rattle.system_file.proofs.WrittenKinds.{faultless_is_written}
use Rattle.system_file.proofs.Nodes.{each_of_both, part_place}
use Rattle.system_file.proofs.Rules.{task_names}
use Rattle.system_file.proofs.Fits.{right, keys_fit, name_fits, sched_fits, required_fits, optional_fits, default_fits, below_fits, flag_fits, array_fits, supply_fits, new_of_distinct, not_none}

from_faults : (bytes : List ℕ) (read : SystemView) (members : Members) → document_of bytes ≡ Some members
    → (found : List SystemFault) → faults (table members) ≡ found
    → first_fault_or (spelled_system (table members)) found ≡ Ok read → Spells bytes read
from_faults bytes read members document [] e h =
    let same : spelled_system (table members) ≡ read = cc in
    record {
      members = members;
      document = document;
      written = faultless_is_written (table members) e;
      spelled = sym same;
      system = subst IsSystem same (faultless_is_system (table members) e);
    }
from_faults bytes read members document (x ∷ found) e h = cc

from_document : (bytes : List ℕ) (read : SystemView) (o : Option Members) → document_of bytes ≡ o
    → system_of_document o ≡ Ok read → Spells bytes read
from_document bytes read None e h = cc
from_document bytes read (Some members) e h = from_faults bytes read members e (faults (table members)) refl h

-- what is read is spelled
pub read_is_spelled : (bytes : List ℕ) (read : SystemView) → system_of bytes ≡ Ok read → Spells bytes read
unfolding system_of
read_is_spelled bytes read h = from_document bytes read (document_of bytes) refl h

-- a task in its range
pub task_fits : (format : Format) (q : ℕ) (earlier : List Data) (d : Data) (w : IsWrittenTask format d)
    → list_any (is_named w.name.name) earlier ≡ false
    → IsConstrained (spelled_task d).task × ((spelled_task d).task.period ≤ LIMIT) → task_faults format q earlier d ≡ []
task_fits format q earlier d w new fits =
    let spot = Task q (length earlier) in
    let works = fits.0.works in
    let in_deadline : number_of (get (codes "work") d) + number_of (get (codes "jitter") d) ≤ deadline_of d
    = fits.0.in_deadline in
    let in_period = fits.0.in_period in
    let some_deadline : 1 ≤ deadline_of d = omega arith in
    let some_period : 1 ≤ number_of (get (codes "period") d) = omega arith in
    let below : number_of (get (codes "jitter") d) < deadline_of d = omega (arith, works) in
    let in_room : number_of (get (codes "work") d) ≤ room_of (spelled_task d).task = omega (arith, in_deadline) in
    keys_fit spot (task_keys format) (task_key_faults spot earlier d) d w.keys
    (none_both _ _ (name_fits spot earlier (get (codes "name") d) w.name new)
    (none_both _ _ (required_fits spot LIMIT (get (codes "period") d) w.period some_period fits.1)
    (none_both _ _ (default_fits spot (number_of (get (codes "period") d)) (get (codes "deadline") d) w.deadline
    some_deadline in_period)
    (none_both _ _ (below_fits spot (deadline_of d) (get (codes "jitter") d) w.jitter below)
    (required_fits spot (room_of (spelled_task d).task) (get (codes "work") d) w.work works in_room)))))

core_fits : (earlier : List Data) (d : Data) (w : IsWrittenCore d) → list_any (is_named w.name.name) earlier ≡ false
    → IsCoreSupply (spelled_core d).supply → core_faults earlier d ≡ []
core_fits earlier d w new supply =
    let spot = Core (length earlier) in
    keys_fit spot core_keys (core_key_faults spot earlier d) d w.keys
    (none_both _ _ (name_fits spot earlier (get (codes "name") d) w.name new)
    (none_both _ _ (sched_fits spot (get (codes "sched") d) w.sched)
    (supply_fits spot (get (codes "supply_period") d) (get (codes "supply_budget") d) w.supply supply)))

-- a place in the front is found in the front alone
parent_before : (cores earlier later : List Data) (s : List ℕ) (p : Parent)
    → parent_named cores (earlier ++ later) s ≡ Some p → ((r : ℕ) → p ≡ on_part r → r < length earlier)
    → parent_named cores earlier s ≡ Some p
parent_before cores earlier later s p h below =
    by (position (is_named s) cores) (position (is_named s) earlier) (position (is_named s) later)
    (ap (core_or_part (position (is_named s) cores)) (sym (position_append (is_named s) earlier later)) ∙ h)
  where
    by : (a b o : Option ℕ) → core_or_part a (joined b (length earlier) o) ≡ Some p → core_or_part a b ≡ Some p
    by (Some c) b o e = e
    by None (Some r) o e = e
    by None None None e = cc
    by None None (Some j) e =
        absurd (let is : p ≡ on_part (length earlier + j) = cc in let lt = below (length earlier + j) is in omega arith)

parent_fits : (spot : Spot) (cores all earlier later : List Data) → all ≡ earlier ++ later → (o : Option Data)
    (t : IsParentText cores all o)
    → ((r : ℕ) → t.parent ≡ on_part r → (r < length earlier) × (has_tasks (get_or earlier r (boolean false)) ≡ false))
    → required spot (text_faults spot (parent_faults spot cores earlier)) o ≡ []
parent_fits spot cores all earlier later same o t stands =
    ap (required spot (text_faults spot (parent_faults spot cores earlier))) t.is
    ∙ ap (is_parent_faults spot earlier)
    (parent_before cores earlier later t.text t.parent
    (ap (λ ps. parent_named cores ps t.text) (sym same) ∙ t.named) (λ r e. (stands r e).0))
    ∙ by t.parent refl
  where
    by : (p : Parent) → t.parent ≡ p → is_parent_faults spot earlier (Some p) ≡ []
    by (on_core c) e = refl
    by (on_part r) e = right _ _ (stands r e).1

-- the tasks of a part in their ranges and of different names
tasks_fit : (format : Format) (cores all : List Data) (q : ℕ) (d : Data) → IsPart (spelled_part cores all d)
    → ((i : ℕ) → i < length (tasks_of d) → IsWrittenTask format (element (tasks_of d) i))
    → in_order (task_faults format q) [] (tasks_of d) ≡ []
tasks_fit format cores all q d part written =
    none_in_order (task_faults format q) [] (tasks_of d) (boolean false) (λ i h.
    let within : i < length (map spelled_task (tasks_of d)) = rw (length_map spelled_task (tasks_of d)) h in
    let same : task_at (own_tasks (spelled_part cores all d)) i
    ≡ (spelled_task (get_or (tasks_of d) i (boolean false))).task
    =
    get_or-map (λ (t : NamedTask). t.task) (map spelled_task (tasks_of d)) i (spelled_task (boolean false)) default_task
    within
    ∙ ap (λ (t : NamedTask). t.task)
    (get_or-map spelled_task (tasks_of d) i (boolean false) (spelled_task (boolean false)) h) in
    let fits : SporadicTask → Type 0 = λ t. IsConstrained t × (t.period ≤ LIMIT) in
    task_fits format q (take i (tasks_of d)) (get_or (tasks_of d) i (boolean false)) (written i h)
    (new_of_distinct (tasks_of d) (subst AreDistinct (task_names (tasks_of d)) part.task_names)
    (λ k w. (written k w).name) i h)
    (subst fits same (part.tasks i within)))

part_fits : (format : Format) (cores all earlier later : List Data) → all ≡ earlier ++ later → (d : Data)
    (w : IsWrittenPart format cores all d) → list_any (is_named w.name.name) (cores ++ earlier) ≡ false
    → ((r : ℕ) → w.parent.parent ≡ on_part r
    → (r < length earlier) × (has_tasks (get_or earlier r (boolean false)) ≡ false))
    → IsPart (spelled_part cores all d) → part_faults format cores earlier d ≡ []
part_fits format cores all earlier later same d w new stands part =
    let spot = Part (length earlier) in
    let few : length (array_of (get (codes "task") d)) ≤ 256
    = rw (length_map spelled_task (tasks_of d)) at part.few_tasks in
    keys_fit spot part_keys
    (part_key_faults spot cores earlier d ++ in_order (task_faults format (length earlier)) [] (tasks_of d)) d
    w.keys
    (none_both (part_key_faults spot cores earlier d) _
    (none_both _ _ (name_fits spot (cores ++ earlier) (get (codes "name") d) w.name new)
    (none_both _ _ (parent_fits spot cores all earlier later same (get (codes "parent") d) w.parent stands)
    (none_both _ _ (sched_fits spot (get (codes "sched") d) w.sched)
    (none_both _ _ (required_fits spot LIMIT (get (codes "period") d) w.period part.period.0 part.period.1)
    (none_both _ _
    (optional_fits spot (number_of (get (codes "period") d)) (get (codes "budget") d) w.budget part.budget)
    (none_both _ _ (flag_fits spot (get (codes "extra") d) w.extra)
    (array_fits spot 256 (get (codes "task") d) w.task few)))))))
    (tasks_fit format cores all (length earlier) d part w.tasks))

module _ (format : Format) (cores parts : List Data) (wc : (c : ℕ) → c < length cores → IsWrittenCore (element cores c))
    (wp : (q : ℕ) → q < length parts → IsWrittenPart format cores parts (element parts q))
    (system : IsSystem (sys cores parts)) where
  all_named : (i : ℕ) → i < length (cores ++ parts)
      → IsNameText (get (codes "name") (get_or (cores ++ parts) i (boolean false)))
  all_named =
      each_of_both (λ i d. IsNameText (get (codes "name") d)) cores parts (λ c h. (wc c h).name) (λ q h. (wp q h).name)

  distinct : AreDistinct (map (λ d. text_of (get (codes "name") d)) (cores ++ parts))
  distinct = subst AreDistinct
      (ap (λ ns. ns ++ map (λ (p : PartView). p.name) (spelled cores parts)) (core_names cores)
      ∙ ap (λ ns. map (λ (d : Data). text_of (get (codes "name") d)) cores ++ ns) (part_names cores parts parts)
      ∙ sym (map-append (λ (d : Data). text_of (get (codes "name") d)) cores parts))
      system.names

  -- the name at a place is new among those before it
  new_at : (i : ℕ) (d : Data) (named : IsNameText (get (codes "name") d)) → i < length (cores ++ parts)
      → get_or (cores ++ parts) i (boolean false) ≡ d → list_any (is_named named.name) (take i (cores ++ parts)) ≡ false
  new_at i d named h is =
      let same : (all_named i h).name ≡ named.name
      = ap text_of (sym (all_named i h).is ∙ ap (λ x. get (codes "name") x) is ∙ named.is) in
      ap (λ s. list_any (is_named s) (take i (cores ++ parts))) (sym same)
      ∙ new_of_distinct (cores ++ parts) distinct all_named i h

  no_core_fault : in_order core_faults [] cores ≡ []
  no_core_fault = none_in_order core_faults [] cores (boolean false) (λ c h.
      let whole : c < length (cores ++ parts) = rw (length-append {A = Data}) (omega arith) in
      let supply : CoreView → Type 0 = λ x. IsCoreSupply x.supply in
      core_fits (take c cores) (get_or cores c (boolean false)) (wc c h)
      (ap (list_any (is_named (wc c h).name.name)) (sym (take-append-le c cores parts (omega arith)))
      ∙ new_at c (get_or cores c (boolean false)) (wc c h).name whole
      (get_or_append_left cores parts (boolean false) c h))
      (subst supply (get_or-map spelled_core cores c (boolean false) _ h)
      (system.supplies c (rw (length_map spelled_core cores) h))))

  parent_is : (q : ℕ) (h : q < length parts)
      → parent_at cores parts (get_or parts q (boolean false)) ≡ (wp q h).parent.parent
  parent_is q h =
      ap (λ o. unwrap_or (parent_named cores parts (text_of o)) (on_core 0)) (wp q h).parent.is
      ∙ ap (λ o. unwrap_or o (on_core 0)) (wp q h).parent.named

  stands : (q : ℕ) (h : q < length parts) (r : ℕ) → (wp q h).parent.parent ≡ on_part r
      → (r < length (take q parts)) × (has_tasks (get_or (take q parts) r (boolean false)) ≡ false)
  stands q h r e =
      let at : Stands (sys cores parts) q (on_part r) =
      subst (λ (p : Parent). Stands (sys cores parts) q p)
      (ap (λ (p : PartView). p.parent) (part_spelled cores parts q h) ∙ parent_is q h ∙ e)
      (system.parents q (rw (length_map (spelled_part cores parts) parts) h)) in
      let lt = at.0 in
      let few : r < length parts = omega arith in (
        rw (length-take-le q parts (omega arith)) lt,
        ap has_tasks (get_or-take q parts r (boolean false) lt)
            ∙ sym (leaf_tasks (tasks_of (get_or parts r (boolean false))))
            ∙ ap (λ (p : PartView). is_leaf p.tasks) (sym (part_spelled cores parts r few)) ∙ at.1,
      )

  no_part_fault : in_order (part_faults format cores) [] parts ≡ []
  no_part_fault = none_in_order (part_faults format cores) [] parts (boolean false) (λ q h.
      let d = get_or parts q (boolean false) in
      let whole : length cores + q < length (cores ++ parts) = rw (length-append {A = Data}) (omega arith) in
      part_fits format cores parts (take q parts) (drop q parts) (sym (take-append-drop q parts)) d (wp q h)
      (ap (list_any (is_named (wp q h).name.name)) (sym (take-append-add cores parts q))
      ∙ new_at (length cores + q) d (wp q h).name whole (get_or-append-add cores parts q (boolean false)))
      (stands q h)
      (subst IsPart (part_spelled cores parts q h)
      (system.parts q (rw (length_map (spelled_part cores parts) parts) h))))

  linked : (q r : ℕ) → q < length parts → r < length parts
      → parent_at cores parts (get_or parts r (boolean false)) ≡ on_part q
      → is_parent parts (get_or parts q (boolean false)) ≡ true
  linked q r hq hr is =
      let text = (wp r hr).parent.text in
      let place : position (is_named text) parts ≡ Some q
      = part_place _ _ q ((wp r hr).parent.named ∙ ap Some (sym (parent_is r hr) ∙ is)) in
      let name = (wp q hq).name in
      let alike : bytes_eq text name.name ≡ true
      = sym (ap (is_text text) name.is) ∙ position_holds (is_named text) parts q (boolean false) place in
      list_any_at (λ child. is_text (text_of (get (codes "name") (get_or parts q (boolean false))))
      (get (codes "parent") child)) parts r (boolean false) hr
      (ap (is_text (text_of (get (codes "name") (get_or parts q (boolean false))))) (wp r hr).parent.is
      ∙ ap (λ o. bytes_eq (text_of o) text) name.is
      ∙ (bytes_eq-Decides name.name text).1 (sym ((bytes_eq-Decides text name.name).0 alike)))

  no_empty : in_order (empty_faults parts) [] parts ≡ []
  no_empty =
      none_in_order (empty_faults parts) [] parts (boolean false)
      (λ q h. right _ (Empty (Part (length (take q parts)))) (by q h (has_tasks (get_or parts q (boolean false))) refl))
    where
      by : (q : ℕ) → q < length parts → (b : Bool) → has_tasks (get_or parts q (boolean false)) ≡ b
          → (not b && not (is_parent parts (get_or parts q (boolean false)))) ≡ false
      by q h true e = refl
      by q h false e =
          let leaf : is_leaf _ ≡ false
          = ap (λ (p : PartView). is_leaf p.tasks) (part_spelled cores parts q h)
          ∙ leaf_tasks (tasks_of (get_or parts q (boolean false))) ∙ e in
          let child = system.not_empty q (rw (length_map (spelled_part cores parts) parts) h) leaf in
          let few : child.0 < length parts = rw (length_map (spelled_part cores parts) parts) at child.1.0 in
          ap not (linked q child.0 h few
          (ap (λ (p : PartView). p.parent) (sym (part_spelled cores parts child.0 few)) ∙ child.1.1))

-- 1 to 64 cores
pub cores_fit : (o : Option Data) → There IsArray o → 1 ≤ length (array_of o) → length (array_of o) ≤ 64
    → required Top core_array_faults o ≡ []
cores_fit None w some few = absurd w
cores_fit (Some d) w some few =
    ap core_array_faults w.1
    ∙ none_both _ _ (right _ (Empty Top) (not_none (length (elements_of w.0)) (rw w.1 at some)))
    (right _ (TooMany Top) (le-ltb 64 (length (elements_of w.0)) (rw w.1 at few)))

-- a document that is written by the rules and spells a system has no fault
pub written_is_faultless : (top : Data) → IsWritten top → IsSystem (spelled_system top) → faults top ≡ []
written_is_faultless top w system =
    let in_top : top_faults top ≡ [] =
    keys_fit Top top_keys (required Top format_faults (get (codes "format") top)
    ++ (required Top core_array_faults (get (codes "core") top)
    ++ optional (array_faults Top 512) (get (codes "part") top))) top w.keys
    (none_both _ _ (ap (required Top format_faults) w.format.is ∙ right _ (OutOfRange Top) w.format.listed)
    (none_both _ _ (cores_fit (get (codes "core") top) w.core
    (rw (length_map spelled_core (cores_of top)) at system.some_core)
    (rw (length_map spelled_core (cores_of top)) at system.few_cores))
    (array_fits Top 512 (get (codes "part") top) w.part
    (rw (length_map (spelled_part (cores_of top) (parts_of top)) (parts_of top)) at system.few_parts)))) in
    none_both (top_faults top) _ in_top
    (none_both _ _ (no_core_fault (format_of top) (cores_of top) (parts_of top) w.cores w.parts system)
    (none_both _ _ (no_part_fault (format_of top) (cores_of top) (parts_of top) w.cores w.parts system)
    (no_empty (format_of top) (cores_of top) (parts_of top) w.cores w.parts system)))

-- what is spelled is read
pub spelled_is_read : (bytes : List ℕ) (read : SystemView) → Spells bytes read → system_of bytes ≡ Ok read
unfolding system_of
spelled_is_read bytes read s =
    ap system_of_document s.document
    ∙ ap (first_fault_or (spelled_system (table s.members)))
    (written_is_faultless (table s.members) s.written (subst IsSystem s.spelled s.system))
    ∙ ap Ok (sym s.spelled)

-- so an answer is a system that the file spells, or the file spells none
pub answer_spelled : (r : Result SystemView SystemFault) (bytes : List ℕ) → IfOk r (λ sys. system_of bytes ≡ Ok sys)
    → IfOk r (λ sys. Spells bytes sys)
answer_spelled (Ok read) bytes h = read_is_spelled bytes read h
answer_spelled (Err fault) bytes h = tt

pub answer_refused : (r : Result SystemView SystemFault) (bytes : List ℕ)
    → IfErr r (λ fault. fault ≢ NoMemory → system_of bytes ≡ Err fault)
    → IfErr r (λ fault. fault ≢ NoMemory → (sys : SystemView) → Spells bytes sys → ⊥)
answer_refused (Ok read) bytes h = tt
answer_refused (Err fault) bytes h =
    λ memory read s. let both : Ok read ≡ Err fault = sym (spelled_is_read bytes read s) ∙ h memory in cc
