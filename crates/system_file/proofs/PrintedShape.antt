-- The printed document has no float and no date-time, and is no deeper than a reader goes.
use Rattle.std.proofs.Common.{◌≡◌, ℕ, suc, ◌≤◌, ◌==◌, Bool, true, false, ◌&&◌, List, [], ◌∷◌, map, Option, Some, None, Ordering, Less, Equal, Greater, refl, arith, codes}
use Rattle.std.specs.Prelude.{if◌then◌else◌}
use Rattle.std.specs.Ordering.{nat_cmp, match_ordering}
use Rattle.std.specs.Cmp.Lexicographic.{slice_cmp}
use Rattle.std.proofs.lemmas.Bool.{and_parts, false≢true}
use Rattle.toml.specs.Data.{Data, string, integer, float, boolean, datetime, array, table, Items, no_items, item, Members, no_members, member, depth, items_depth, members_depth, has_valid_dates, items_have_valid_dates, members_have_valid_dates}
use Rattle.toml.specs.View.{items_of}
use Rattle.toml_items.specs.Plain.{insert_member}
use Rattle.tree_model.specs.declared.pinned_core.Core.{Core as CoreView}
use Rattle.tree_model.specs.View.{NamedTask, PartView, SystemView}
use Rattle.system_file.specs.declared.format.Format.{Format}
use Rattle.system_file.specs.SystemFile.{needed_format}
use Rattle.system_file.specs.Written.{MayBe}
use Rattle.system_file.proofs.PrintedTask.{fixed_members, due_members}
use Rattle.system_file.proofs.PrintedPart.{with_budget, with_extra}
use Rattle.system_file.specs.Printed.{with_some, number, other_number, some_number, true_flag, some_array, printed_core, printed_task, server_members, printed_part, printed, format_number}

-- no float and no date-time stands inside
abbrev mutual
  pub is_exact : Data → Bool
  is_exact (float x) = false
  is_exact (datetime dt) = false
  is_exact (array ds) = items_exact ds
  is_exact (table ms) = members_exact ms
  is_exact _ = true

  pub items_exact : Items → Bool
  items_exact no_items = true
  items_exact (item d ds) = is_exact d && items_exact ds

  pub members_exact : Members → Bool
  members_exact no_members = true
  members_exact (member k d ms) = is_exact d && members_exact ms

mutual
  data_dated : (d : Data) → is_exact d ≡ true → has_valid_dates d ≡ true
  data_dated (string s) e = refl
  data_dated (integer z) e = refl
  data_dated (float x) e = refl
  data_dated (boolean b) e = refl
  data_dated (datetime dt) e = absurd (false≢true e)
  data_dated (array ds) e = items_dated ds e
  data_dated (table ms) e = members_dated ms e

  items_dated : (ds : Items) → items_exact ds ≡ true → items_have_valid_dates ds ≡ true
  items_dated no_items e = refl
  items_dated (item d ds) e =
      let (here, later) = and_parts (is_exact d) (items_exact ds) e in rw (data_dated d here, items_dated ds later)

  members_dated : (ms : Members) → members_exact ms ≡ true → members_have_valid_dates ms ≡ true
  members_dated no_members e = refl
  members_dated (member k d ms) e =
      let (here, later) = and_parts (is_exact d) (members_exact ms) e in rw (data_dated d here, members_dated ms later)

-- exact, and at most so deep
abbrev pub Fits : ℕ → Data → Type 0
Fits n d = (is_exact d ≡ true) × (depth d ≤ n)

abbrev pub MembersFit : ℕ → Members → Type 0
MembersFit n ms = (members_exact ms ≡ true) × (members_depth ms ≤ n)

put_step : (n : ℕ) (k : List ℕ) (d : Data) (l : List ℕ) (e : Data) (ms : Members) → Fits n d
    → MembersFit n (member l e ms) → MembersFit n (insert_member k d ms) → (o : Ordering)
    → MembersFit n (match_ordering o (member k d (member l e ms)) (member l d ms) (member l e (insert_member k d ms)))
put_step n k d l e ms a b more Less = (rw (a.0, b.0), omega (arith, a.1, b.1))
put_step n k d l e ms a b more Equal =
    (rw (a.0, (and_parts (is_exact e) (members_exact ms) b.0).1), omega (arith, a.1, b.1))
put_step n k d l e ms a b more Greater =
    (rw ((and_parts (is_exact e) (members_exact ms) b.0).0, more.0), omega (arith, b.1, more.1))

put_fits : (n : ℕ) (k : List ℕ) (d : Data) (ms : Members) → Fits n d → MembersFit n ms
    → MembersFit n (insert_member k d ms)
put_fits n k d no_members a b = (rw a.0, omega (arith, a.1))
put_fits n k d (member l e ms) a b =
    put_step n k d l e ms a b
    (put_fits n k d ms a ((and_parts (is_exact e) (members_exact ms) b.0).1, omega (arith, b.1)))
    (slice_cmp nat_cmp k l)

some_fits : (n : ℕ) (k : List ℕ) (o : Option Data) (ms : Members) → MayBe (Fits n) o → MembersFit n ms
    → MembersFit n (with_some k o ms)
some_fits n k None ms a b = b
some_fits n k (Some d) ms a b = put_fits n k d ms a b

items_fit : {X : Type 0} (n : ℕ) (print : X → Data) → ((x : X) → Fits n (print x)) → (xs : List X)
    → (items_exact (items_of (map print xs)) ≡ true) × (items_depth (items_of (map print xs)) ≤ n)
items_fit n print each [] = (refl, omega arith)
items_fit n print each (x ∷ xs) =
    let more = items_fit n print each xs in
    (rw ((each x).0, more.0), omega (arith, (each x).1, more.1))

array_fits : {X : Type 0} (n : ℕ) (print : X → Data) → ((x : X) → Fits n (print x)) → (xs : List X)
    → MayBe (Fits (suc n)) (some_array (map print xs))
array_fits n print each [] = tt
array_fits n print each (x ∷ xs) =
    let all = items_fit n print each (x ∷ xs) in (all.0, omega (arith, all.1))

other_fits : (n usual m : ℕ) → MayBe (Fits n) (other_number usual m)
other_fits n usual m = by (m == usual)
  where
    by : (b : Bool) → MayBe (Fits n) (if b then None else Some (number m))
    by true = tt
    by false = (refl, omega arith)

number_fits : (n : ℕ) (m : Option ℕ) → MayBe (Fits n) (some_number m)
number_fits n None = tt
number_fits n (Some m) = (refl, omega arith)

flag_fits : (n : ℕ) (flag : Bool) → MayBe (Fits n) (true_flag flag)
flag_fits n true = (refl, omega arith)
flag_fits n false = tt

task_fits : (t : NamedTask) → Fits 1 (printed_task t)
task_fits t =
    let all = some_fits 0 (codes "jitter") (other_number 0 t.task.jitter) (due_members t)
    (other_fits 0 0 t.task.jitter)
    (some_fits 0 (codes "deadline") (other_number t.task.period t.task.deadline) (fixed_members t)
    (other_fits 0 t.task.period t.task.deadline) (refl, omega arith)) in
    (all.0, omega (arith, all.1))

core_fits : (core : CoreView) → Fits 1 (printed_core core)
core_fits core = by core.supply
  where
    by : (supply : Option (ℕ × ℕ)) → Fits 1 (printed_core (record core { supply = supply }))
    by None = (refl, omega arith)
    by (Some supply) = (refl, omega arith)

part_fits : (sys : SystemView) (part : PartView) → Fits 3 (printed_part sys part)
part_fits sys part =
    let all = some_fits 2 (codes "task") (some_array (map printed_task part.tasks)) (with_extra sys part)
    (array_fits 1 printed_task task_fits part.tasks)
    (some_fits 2 (codes "extra") (true_flag part.extra) (with_budget sys part) (flag_fits 2 part.extra)
    (some_fits 2 (codes "budget") (some_number part.budget) (server_members sys part) (number_fits 2 part.budget)
    (refl, omega arith))) in
    (all.0, omega (arith, all.1))

-- what is always written of the top table
abbrev pub base_members : Format → List Data → Members
base_members format cores =
    insert_member (codes "core") (array (items_of cores))
    (insert_member (codes "format") (number (format_number format)) no_members)

pub printed_fits : (sys : SystemView) → MembersFit 4 (printed sys)
printed_fits sys =
    let cores = items_fit 1 printed_core core_fits sys.cores in
    some_fits 4 (codes "part") (some_array (map (printed_part sys) sys.parts))
    (base_members (needed_format sys) (map printed_core sys.cores))
    (array_fits 3 (printed_part sys) (part_fits sys) sys.parts)
    (put_fits 4 (codes "core") (array (items_of (map printed_core sys.cores)))
    (insert_member (codes "format") (number (format_number (needed_format sys))) no_members)
    (cores.0, omega (arith, cores.1)) (refl, omega arith))

pub printed_depth : (sys : SystemView) → members_depth (printed sys) ≤ 80
printed_depth sys = omega (arith, (printed_fits sys).1)

pub printed_dated : (sys : SystemView) → members_have_valid_dates (printed sys) ≡ true
printed_dated sys = members_dated (printed sys) (printed_fits sys).0
