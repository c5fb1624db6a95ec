-- The generated host is a system: its names differ, and its parts are in range.
use Rattle.std.proofs.Common.{◌≡◌, ℕ, zero, suc, ◌+◌, ◌-◌, ◌<◌, ◌≤◌, Bool, true, false, ◌&&◌, ◌||◌, leb, eqb, List, [], ◌∷◌, ◌++◌, length, map, get_or, codes, decimal, arith, refl, sym, ◌∙◌, ap, subst, inl, inr, lit<, lit≤, le-leb}
use Rattle.std.specs.List.{list_all}
use Rattle.std.proofs.lemmas.Bool.{cases_lt, and_from}
use Rattle.std.proofs.lemmas.Fmt.{decimal_injective, decimal_is_IsNumeral, length-decimal-le}
use Rattle.std.specs.Str.Parse.{AllDigits}
use Rattle.std.proofs.lemmas.Str.Parse.{digit_at}
use Rattle.std.proofs.lemmas.List.{length-map, get_or-map, length-append, get_or_append_left, get_or-append_right}
use Rattle.std.proofs.lemmas.List.FromFn.{length-map-range_with_len, get_or-map-range_with_len}
use Rattle.slot_model.specs.Name.{is_letter, is_name_byte, is_name}
use Rattle.slot_model.specs.Task.{task_at}
use Rattle.slot_model.specs.declared.task.TheConstants.{LIMIT}
use Rattle.tree_model.specs.declared.pinned_core.Core.{Core as CoreView}
use Rattle.tree_model.specs.View.{NamedTask, PartView}
use Rattle.tree_model.specs.System.{core_at, part_at, core_names, part_names, no_core, no_part, is_leaf, is_leaf_at, AreDistinct, node_names, Stands, IsCoreSupply, IsPart, IsSystem}
use Rattle.bulk_host.specs.Host.{guest_period, guest_tasks, guest_at, host_core, cores_for, bulk_host}
use Rattle.bulk_host.proofs.LeafBudgets.{tasks_of, constrained_of}

-- a digit goes on a name
third : (l d e f : Bool) → d ≡ true → (l || d || e || f) ≡ true
third true d e f h = refl
third false true e f h = refl
third false false e f h = cc

digit_goes_on : (d : ℕ) → 48 ≤ d → d ≤ 57 → is_name_byte d ≡ true
digit_goes_on d l m =
    third (is_letter d) (leb 48 d && leb d 57) (eqb d 95) (eqb d 45)
    (and_from (leb 48 d) (leb d 57) (le-leb 48 d l) (le-leb d 57 m))

digits_go_on : (ds : List ℕ) → AllDigits 10 ds → list_all is_name_byte ds ≡ true
digits_go_on [] h = refl
digits_go_on (d ∷ ds) h =
    let at = digit_at (d ∷ ds) 0 h (let some : 0 < length (d ∷ ds) = omega arith in some) in
    and_from (is_name_byte d) (list_all is_name_byte ds) (digit_goes_on d (omega (arith, at)) (omega (arith, at)))
    (digits_go_on ds h.1)

-- the texts of cores and guests are names
lettered : (b : ℕ) (ds : List ℕ) → is_letter b ≡ true → is_name_byte b ≡ true → list_all is_name_byte ds ≡ true
    → length ds ≤ 3 → is_name (b ∷ ds) ≡ true
lettered b ds first goes rest few =
    and_from (leb 1 (length (b ∷ ds)) && leb (length (b ∷ ds)) 32 && is_letter b)
    (is_name_byte b && list_all is_name_byte ds)
    (and_from (leb 1 (length (b ∷ ds)) && leb (length (b ∷ ds)) 32) (is_letter b)
    (and_from (leb 1 (length (b ∷ ds))) (leb (length (b ∷ ds)) 32) (le-leb 1 (length (b ∷ ds)) (omega arith))
    (le-leb (length (b ∷ ds)) 32 (omega arith))) first)
    (and_from (is_name_byte b) (list_all is_name_byte ds) goes rest)

number_goes_on : (n : ℕ) → n < 256 → list_all is_name_byte (decimal n) ≡ true
number_goes_on n l = digits_go_on (decimal n) (decimal_is_IsNumeral n (omega arith)).0.1

pub core_name : (c : ℕ) → c < 256 → is_name (99 ∷ decimal c) ≡ true
core_name c l =
    lettered 99 (decimal c) refl refl (number_goes_on c l) (length-decimal-le 3 c (lit< tt) (omega arith) (omega arith))

pub guest_name : (i : ℕ) → i < 256 → is_name (103 ∷ decimal i) ≡ true
guest_name i l =
    lettered 103 (decimal i) refl refl (number_goes_on i l)
    (length-decimal-le 3 i (lit< tt) (omega arith) (omega arith))

-- the core and the guest at a place
pub core_here : (n c : ℕ) → c < cores_for n → core_at (bulk_host n) c ≡ host_core c
core_here n c l = get_or-map-range_with_len host_core 0 (cores_for n) c c no_core l (omega arith)

pub guest_here : (n q : ℕ) → q < n → part_at (bulk_host n) q ≡ guest_at q
guest_here n q l = get_or-map-range_with_len guest_at 0 n q q no_part l (omega arith)

pub cores-many : (n : ℕ) → length (bulk_host n).cores ≡ cores_for n
cores-many n = length-map-range_with_len host_core 0 (cores_for n)

pub guests-many : (n : ℕ) → length (bulk_host n).parts ≡ n
guests-many n = length-map-range_with_len guest_at 0 n

name_of_core : (n i : ℕ) (d : List ℕ) → i < cores_for n → get_or (node_names (bulk_host n)) i d ≡ codes "c" ++ decimal i
name_of_core n i d l =
    let cs : List (List ℕ) = core_names (bulk_host n).cores in
    let ps : List (List ℕ) = part_names (bulk_host n).parts in
    get_or_append_left cs ps d i
    (omega (arith, length-map (bulk_host n).cores (λ (c : CoreView). c.name), cores-many n))
    ∙ (get_or-map (λ (c : CoreView). c.name) (bulk_host n).cores i no_core d (omega (arith, cores-many n))
    ∙ ap (λ (c : CoreView). c.name) (core_here n i l))

name_of_guest : (n i : ℕ) (d : List ℕ) → cores_for n ≤ i → i < cores_for n + n
    → get_or (node_names (bulk_host n)) i d ≡ codes "g" ++ decimal (i - cores_for n)
name_of_guest n i d l m =
    let cs : List (List ℕ) = core_names (bulk_host n).cores in
    let ps : List (List ℕ) = part_names (bulk_host n).parts in
    let long : length cs ≡ cores_for n = length-map (bulk_host n).cores (λ (c : CoreView). c.name) ∙ cores-many n in
    get_or-append_right cs ps (length cs) i d refl (omega (arith, long))
    ∙ (get_or-map (λ (p : PartView). p.name) (bulk_host n).parts (i - length cs) no_part d
    (omega (arith, long, guests-many n))
    ∙ (ap (λ (p : PartView). p.name) (guest_here n (i - length cs) (omega (arith, long)))
    ∙ ap (λ (z : ℕ). codes "g" ++ decimal z) (omega (arith, long))))

tail_same : (a : ℕ) (xs ys : List ℕ) → a ∷ xs ≡ a ∷ ys → xs ≡ ys
tail_same a xs ys e = cc

first_same : (a b : ℕ) (xs ys : List ℕ) → a ∷ xs ≡ b ∷ ys → a ≡ b
first_same a b xs ys e = cc

heads_differ : (xs ys : List ℕ) → 99 ∷ xs ≡ 103 ∷ ys → ⊥
heads_differ xs ys e = omega (arith, first_same 99 103 xs ys e)

distinct : (n : ℕ) → n ≤ 256 → AreDistinct (node_names (bulk_host n))
distinct n few i j d l h e =
    let cs : List (List ℕ) = core_names (bulk_host n).cores in
    let ps : List (List ℕ) = part_names (bulk_host n).parts in
    let long : j < cores_for n + n
    = omega (
      arith,
      h,
      length-append cs ps,
      length-map (bulk_host n).cores (λ (c : CoreView). c.name),
      cores-many n,
      length-map (bulk_host n).parts (λ (p : PartView). p.name),
      guests-many n,
    ) in
    elim (cases_lt j (cores_for n)) [
      | inl core ↦
          (
          let same
          = decimal_injective i j (omega arith) (omega arith) (tail_same 99 (decimal i) (decimal j)
          (sym (name_of_core n i d (omega arith)) ∙ (e ∙ name_of_core n j d core))) in
          omega arith)
      | inr guest ↦ elim (cases_lt i (cores_for n)) [
        | inl core ↦
            heads_differ (decimal i) (decimal (j - cores_for n))
            (sym (name_of_core n i d core) ∙ (e ∙ name_of_guest n j d guest long))
        | inr other ↦
            (
            let same
            = decimal_injective (i - cores_for n) (j - cores_for n) (omega arith) (omega arith)
            (tail_same 103 (decimal (i - cores_for n)) (decimal (j - cores_for n))
            (sym (name_of_guest n i d other (omega arith)) ∙ (e ∙ name_of_guest n j d guest long))) in
            omega arith)
      ]
    ]

-- two tasks of different names
names_differ : (period : ℕ) → AreDistinct (map (λ (t : NamedTask). t.name) (guest_tasks period))
names_differ period zero zero d l h e = omega arith
names_differ period zero (suc zero) d l h e = omega (arith, first_same 97 98 [] [] e)
names_differ period (suc i) (suc zero) d l h e = omega arith
names_differ period i (suc (suc j)) d l h e = omega arith
names_differ period (suc i) zero d l h e = omega arith

short_period : (period i : ℕ) → period ≤ 4000 → i < 2 → (task_at (tasks_of period) i).period ≤ LIMIT
short_period period zero m l = omega arith
short_period period (suc zero) m l = omega arith
short_period period (suc (suc i)) m l = absurd (omega arith)

guest_is_part : (i : ℕ) → IsPart (guest_at i)
guest_is_part i =
    let low : 1000 ≤ guest_period i = omega arith in
    let high : guest_period i ≤ 4000 = omega arith in
    record {
      period = (omega arith, omega arith);
      budget = tt;
      few_tasks = lit≤ tt;
      tasks = λ k l. (constrained_of (guest_period i) (omega arith) k l, short_period (guest_period i) k high l);
      task_names = names_differ (guest_period i);
    }

pub host_is_system : (n : ℕ) → 1 ≤ n → n ≤ 256 → IsSystem (bulk_host n)
host_is_system n some few = record {
  some_core = omega (arith, cores-many n);
  few_cores = omega (arith, cores-many n);
  few_parts = omega (arith, guests-many n);
  names = distinct n few;
  supplies =
      λ c l. subst (λ (core : CoreView). IsCoreSupply core.supply) (sym (core_here n c (omega (arith, cores-many n))))
      tt;
  parts = λ q l. subst IsPart (sym (guest_here n q (omega (arith, guests-many n)))) (guest_is_part q);
  parents =
      λ q l. subst (λ (part : PartView). Stands (bulk_host n) q part.parent)
      (sym (guest_here n q (omega (arith, guests-many n)))) (omega (arith, cores-many n, guests-many n));
  not_empty = λ q l e. absurd (leaf q (omega (arith, guests-many n)) e);
}
  where
    leaf : (q : ℕ) → q < n → is_leaf_at (bulk_host n) q ≡ false → ⊥
    leaf q l e =
        let is : is_leaf_at (bulk_host n) q ≡ true = ap (λ (p : PartView). is_leaf p.tasks) (guest_here n q l) in cc
