-- One line of a known key after the other.
use Rattle.std.proofs.Common.{◌≡◌, ℕ, Bool, true, false, List, [], ◌∷◌, ◌++◌, ◌≤◌, codes, Option, Some, None, option_map, unwrap_or, cond, map, Bor, refl, sym, ap, subst, ◌∙◌}
use Rattle.std.proofs.lemmas.Map.Text.{is_eq-slice_cmp}
use Rattle.std.proofs.lemmas.Slice.Eq.{bytes_eq-Decides}
use Rattle.std.specs.List.{AllByRecursion, list_any}
use Rattle.std.specs.Prelude.{bytes_eq}
use Rattle.slot_model.specs.Name.{is_name}
use Rattle.slot_model.specs.Task.{SporadicTask, IsConstrained}
use Rattle.slot_model.specs.declared.task.TheConstants.{LIMIT}
use Rattle.toml.specs.Data.{Data, Members, no_members, get_member, same_key, table}
use Rattle.toml_items.specs.Plain.{insert_member}
use Rattle.toml_items.proofs.Members.{get_member-insert, get_member-insert_other}
use Rattle.system_file.specs.declared.format.Format.{Format}
use Rattle.system_file.specs.declared.format.Format.TheVariants.{One, Two}
use Rattle.system_file.specs.declared.told.Told.{Told}
use Rattle.system_file.specs.Document.{number_of, given_number, spelled_task}
use Rattle.system_file.specs.declared.fault.Spot.{Spot}
use Rattle.system_file.specs.Faults.{name_faults, task_faults, task_keys}
use Rattle.system_file.specs.Written.{IsWhole, IsWrittenTask, There, MayBe}
use Rattle.system_file.specs.inner.Plain.{ReadsElement}
use Rattle.system_file.specs.inner.Told.{of_number, of_text, told_at, Stands, Tells, TellsFirst, TellsLines, TellsMore, TellsTask}
use Rattle.system_file.proofs.Faultless.{name_fits as name_faultless}
use Rattle.system_file.proofs.Laws.{task_fits}
use Rattle.system_file.proofs.Named.{taken_is, more_names}
use Rattle.system_file.proofs.ListedKeys.{put_listed}

-- nothing is told
pub none_told : (format : Format) (told : Told) → told.name ≡ None → told.period ≡ None → told.deadline ≡ None
    → told.jitter ≡ None → told.work ≡ None → Tells format told no_members
none_told format told a b c d e = record {
  held =
      let of = λ (o : Option ℕ) (none : o ≡ None). ap (option_map of_number) (sym none) in
      (ap (option_map of_text) (sym a), (of _ b, (of _ c, (of _ d, (of _ e, tt)))));
  only = refl;
}

-- a key that is listed in both formats is listed in each
pub in_both : (format : Format) (key : List ℕ) → list_any (bytes_eq key) (task_keys One) ≡ true
    → list_any (bytes_eq key) (task_keys Two) ≡ true → list_any (bytes_eq key) (task_keys format) ≡ true
in_both One key a b = a
in_both Two key a b = b

-- what stands at a key where a value is put at one
put_at : (j k : List ℕ) (d : Data) (ms : Members)
    → get_member j (insert_member k d ms) ≡ cond (same_key j k) (Some d) (get_member j ms)
put_at j k d ms = by (same_key j k) refl
  where
    by : (same : Bool) → same_key j k ≡ same
        → get_member j (insert_member k d ms) ≡ cond same (Some d) (get_member j ms)
    by true h =
        subst (λ (key : List ℕ). get_member key (insert_member k d ms) ≡ Some d)
        (sym ((bytes_eq-Decides j k).0 (sym (is_eq-slice_cmp j k) ∙ h))) (get_member-insert k d ms)
    by false h = get_member-insert_other j k d ms h

-- what is told with a value at this key
abbrev pub with_value : List ℕ → Data → List ℕ × Option Data → List ℕ × Option Data
with_value key value told = (told.0, cond (same_key told.0 key) (Some value) told.1)

still_stands : (key : List ℕ) (d : Data) (ms : Members) (told : List (List ℕ × Option Data))
    → AllByRecursion (Stands ms) told
    → AllByRecursion (Stands (insert_member key d ms)) (map (with_value key d) told)
still_stands key d ms [] held = tt
still_stands key d ms (pair ∷ more) held =
    (put_at pair.0 key d ms ∙ ap (cond (same_key pair.0 key) (Some d)) held.0, still_stands key d ms more held.1)

-- The line of a key, of which nothing was told, tells one thing more.
pub tells_more : {A : Type 0} {data_of : A → Data} {key : List ℕ} {before after : Option A} {text rest : List ℕ}
    (format : Format) (told : Told) (tell : Option A → Told) → list_any (bytes_eq key) (task_keys format) ≡ true
    → ((ms : Members) → AllByRecursion (Stands ms) (told_at told) → get_member key ms ≡ option_map data_of before)
    → ((value : A) → told_at (tell (Some value)) ≡ map (with_value key (data_of value)) (told_at told))
    → TellsFirst data_of key before after text rest → TellsMore format told (tell after) text rest
tells_more {data_of = data_of} {key} format told tell listed stands told_more first =
    let d = data_of first.value in
    record {
      key = key;
      value = d;
      line = first.line;
      adds = λ ms tells. (
        stands ms tells.held ∙ ap (option_map data_of) first.untold,
        rw first.told (record {
          held =
              subst (λ (now : List (List ℕ × Option Data)). AllByRecursion (Stands (insert_member key d ms)) now)
              (sym (told_more first.value)) (still_stands key d ms (told_at told) tells.held);
          only = put_listed (task_keys format) key d ms listed tells.only;
        }),
      );
    }

-- the task of what is told
told_whole : (o : Option Data) (n : ℕ) → o ≡ Some (of_number n) → There IsWhole o × (number_of o ≡ n)
told_whole o n is = rw is ((n, refl), refl)

may_whole : (o : Option Data) (told : Option ℕ) → o ≡ option_map of_number told
    → MayBe IsWhole o × ((m : ℕ) → unwrap_or (given_number o) m ≡ unwrap_or told m) × (number_of o ≡ unwrap_or told 0)
may_whole o None is = rw is (tt, (λ m. refl), refl)
may_whole o (Some n) is = rw is ((n, refl), (λ m. refl), refl)

pub task_is_told : {format : Format} {path : List (List ℕ)} {text rest : List ℕ} {told : Told} (name : Bor (List ℕ))
    (task : SporadicTask) → TellsLines format path text told rest → told.name ≡ Some name
    → told.period ≡ Some task.period → told.work ≡ Some task.work
    → task.deadline ≡ unwrap_or told.deadline task.period → task.jitter ≡ unwrap_or told.jitter 0
    → TellsTask format path text name.now task rest
task_is_told {told = told} name task lines named period_is work_is deadline_is jitter_is =
    let tells = lines.tells in
    let ms = lines.members in
    let period = told_whole (get_member (codes "period") ms) task.period
    (tells.held.1.0 ∙ ap (option_map of_number) period_is) in
    let work = told_whole (get_member (codes "work") ms) task.work
    (tells.held.1.1.1.1.0 ∙ ap (option_map of_number) work_is) in
    let deadline = may_whole (get_member (codes "deadline") ms) told.deadline tells.held.1.1.0 in
    let jitter = may_whole (get_member (codes "jitter") ms) told.jitter tells.held.1.1.1.0 in
    record {
      members = ms;
      reads = lines.reads;
      only = tells.only;
      named = tells.held.0 ∙ ap (option_map of_text) named;
      period = period.0;
      deadline = deadline.0;
      jitter = jitter.0;
      work = work.0;
      numbers =
          rw (period.1, work.1, deadline.1 task.period, jitter.2, ← deadline_is, ← jitter_is) refl;
    }

-- The task that is told under a name that is new.
pub told_element : {format : Format} {path : List (List ℕ)} {text rest : List ℕ} {name : List ℕ}
    {task : SporadicTask} (part place : ℕ) (spot : Spot) (names : List (List ℕ))
    (told : TellsTask format path text name task rest)
    → name_faults spot (list_any (bytes_eq name) names) name ≡ [] → IsConstrained task → task.period ≤ LIMIT
    → ReadsElement (task_faults format part) spelled_task path text place names (record { name = name; task = task })
    (names ++ name ∷ []) rest
told_element {format} {name = name} {task} part place spot names told fits constrained few =
    let d = table told.members in
    let (valid, new) = name_faultless spot (list_any (bytes_eq name) names) (is_name name) fits in
    let written : IsWrittenTask format d = record {
      keys = record { members = told.members; is = refl; only = told.only };
      name = record { name = name; is = told.named; valid = valid };
      period = told.period;
      deadline = told.deadline;
      jitter = told.jitter;
      work = told.work;
    } in
    record {
      members = told.members;
      reads = told.reads;
      ok = λ earlier many have. (
        task_fits format part earlier d written (taken_is earlier names name have ∙ new) (
          subst IsConstrained (sym told.numbers) constrained,
          subst (λ (t : SporadicTask). t.period ≤ LIMIT) (sym told.numbers) few,
        ),
        rw (told.named, told.numbers) refl,
        more_names earlier names d name have told.named,
      );
    }
