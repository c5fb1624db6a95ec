-- One row of a release file more.
use Rattle.std.proofs.Common.{◌≡◌, ℕ, ◌+◌, ◌-◌, ◌<◌, ◌≤◌, nat_lt, Bool, true, false, not, cond, eqb, List, [], ◌∷◌, ◌++◌, length, get_or, set, map, Option, Some, None, refl, sym, ◌∙◌, ap, subst, arith, inl, inr, option_map, replicate}
use Rattle.std.specs.Prelude.{position, unwrap_or, bytes_eq}
use Rattle.std.specs.List.{filter, count_by}
use Rattle.std.proofs.lemmas.Bool.{cases_eq, eq-eqb, ne_eqb, le-ltb, false≢true}
use Rattle.std.proofs.lemmas.List.{get_or_append_left, get_or_default, get_or-map, get_or-set_same, get_or-set_other, length-set, length-map, map-append, append-nil, get_or-replicate, length-replicate}
use Rattle.std.proofs.lemmas.List.Elements.{filter-append}
use Rattle.std.proofs.lemmas.List.Sums.{length-filter, sum_by-cons}
use Rattle.std.proofs.lemmas.Option.{same_Some, none-some}
use Rattle.std.proofs.Math.Seq.{get_or-append_seam}
use Rattle.slot_model.specs.declared.job.Job.{Job}
use Rattle.slot_model.specs.declared.task.TheConstants.{LIMIT}
use Rattle.slot_model.specs.Task.{SporadicTask, default_job, early_job}
use Rattle.slot_model.specs.Release.{LegalRelease}
use Rattle.csv_rows.specs.Reading.{records_of}
use Rattle.csv_rows.proofs.Consuming.{few_records}
use Rattle.csv_rows.specs.Decimal.{number}
use Rattle.csv_rows.specs.Rules.{row_of, fault_if, RowsKeep, IsFirstFault}
use Rattle.csv_rows.proofs.Keeping.{length_more}
use Rattle.tree_model.specs.View.{NamedTask, PartView, SystemView}
use Rattle.tree_model.specs.System.{IsPart, is_leaf, own_tasks, own_tasks_at, part_at, part_names}
use Rattle.tree_model.specs.Releases.{AreReleases, jobs_at}
use Rattle.trace_file.specs.File.{part_place}
use Rattle.release_file.specs.declared.fault.ReleaseFault.{ReleaseFault}
use Rattle.release_file.specs.declared.fault.ReleaseFault.TheVariants.{BadRow, OutOfRange, BadOrder}
use Rattle.release_file.specs.declared.leaf_rows.LeafRows.{LeafRows}
use Rattle.release_file.specs.declared.release_rows.ReleaseRows.{ReleaseRows}
use Rattle.release_file.specs.declared.release_spelling.ReleaseFields.{ReleaseFields}
use Rattle.release_file.specs.declared.release_spelling.Version.{Version}
use Rattle.release_file.specs.ReleaseFile.{all_fields, is_release_row, task_place, Release, release_of, releases_of, jobs_of, release_at, last_slot, part_fault, release_fault, release_rules, header_version, release_rows, SpellsReleases, IsReleasesFault}
use Rattle.release_file.specs.inner.ReleasesTaken.{IsLast, last_of, fields_in, job_in, IsLeaf, IsLeafOf, HasTakenReleases}

-- a part without jobs
pub no_leaf : (leaf : LeafRows) → IsPart leaf.part.now
    → leaf.names ≡ map (λ (t : NamedTask). t.name) leaf.part.now.tasks → leaf.jobs.items ≡ []
    → leaf.last.items ≡ replicate (length leaf.part.now.tasks) None → IsLeaf leaf
no_leaf leaf part names jobs last = record {
  part = part;
  names = names;
  legal =
      subst (LegalRelease (own_tasks leaf.part.now)) (sym jobs) (record {
        named = λ j l. absurd (omega arith);
        works = λ j l. absurd (omega arith);
        in_work = λ j l. absurd (omega arith);
        in_jitter = λ j l. absurd (omega arith);
        apart = λ i j l m. absurd (omega arith);
      });
  room = ap (λ (z : List (Option Job)). length z) last ∙ none_long (length leaf.part.now.tasks);
  last =
      λ t l. subst (IsLast leaf.jobs.items t) (sym (ap (λ (z : List (Option Job)). last_of z t) last
      ∙ get_or-replicate {A = Option Job} (length leaf.part.now.tasks) t None None l))
      (λ i m. absurd (omega (arith, m, ap (λ (js : List Job). length js) jobs)));
}
  where
    none_long : (n : ℕ) → length (replicate {A = Option Job} n None) ≡ n
    none_long n = length-replicate {A = Option Job} n None

-- the parts so far, and one part more
pub leaves_more : (sys : SystemView) (rows : List Release) (xs ys : List LeafRows) (x : LeafRows) (n : ℕ)
    → length xs ≡ n → ((q : ℕ) (d : LeafRows) → q < n → IsLeafOf sys rows q (get_or xs q d)) → IsLeafOf sys rows n x
    → ys ≡ xs ++ x ∷ [] → (q : ℕ) (d : LeafRows) → q < n + 1 → IsLeafOf sys rows q (get_or ys q d)
leaves_more sys rows xs ys x n long old new is q d l =
    subst (λ (z : List LeafRows). IsLeafOf sys rows q (get_or z q d)) (sym is) (elim (cases_eq q n) [
      | inl e ↦
          subst (λ (z : ℕ). IsLeafOf sys rows z (get_or (xs ++ x ∷ []) z d)) (sym e)
          (subst (λ (z : ℕ). IsLeafOf sys rows n (get_or (xs ++ x ∷ []) z d)) long
          (subst (IsLeafOf sys rows n) (sym (get_or-append_seam xs x [] d)) new))
      | inr ne ↦
          subst (IsLeafOf sys rows q) (sym (get_or_append_left xs (x ∷ []) d q (omega (arith, l, ne, long))))
          (old q d (omega (arith, l, ne)))
    ])

-- the jobs of a part, and the slot of the last row, one row later
jobs_more : (q : ℕ) (rows : List Release) (r : Release)
    → jobs_of q (rows ++ r ∷ []) ≡ jobs_of q rows ++ jobs_of q (r ∷ [])
jobs_more q rows r =
    ap (map (λ (x : Release). x.job)) (filter-append (λ (x : Release). eqb x.part q) rows (r ∷ []))
    ∙ map-append (λ (x : Release). x.job) (filter (λ (x : Release). eqb x.part q) rows)
    (filter (λ (x : Release). eqb x.part q) (r ∷ []))

one_job : (q : ℕ) (r : Release) → jobs_of q (r ∷ []) ≡ cond (eqb r.part q) (r.job ∷ []) []
one_job q r = go (eqb r.part q)
  where
    go : (b : Bool) → map (λ (x : Release). x.job) (cond b (r ∷ []) []) ≡ cond b (r.job ∷ []) []
    go true = refl
    go false = refl

slot_more : (rows : List Release) (r : Release) → last_slot (rows ++ r ∷ []) ≡ r.job.release
slot_more rows r =
    let here : length (rows ++ r ∷ []) - 1 ≡ length rows = omega (arith, length_more rows r) in
    ap (λ (i : ℕ). (release_at (rows ++ r ∷ []) i).job.release) here
    ∙ ap (λ (x : Release). x.job.release) (get_or-append_seam rows r [] (record { part = 0; job = default_job }))

releases_more : (sys : SystemView) (version : Version) (rows : List (List (List ℕ))) (row : List (List ℕ))
    → releases_of sys version (rows ++ row ∷ [])
    ≡ releases_of sys version rows ++ release_of sys (all_fields version row) ∷ []
releases_more sys version rows row =
    map-append (λ (x : List (List ℕ)). release_of sys (all_fields version x)) rows (row ∷ [])

-- what a row spells: a job of the part that is found
spelt_is : (sys : SystemView) (f : ReleaseFields) (part at : ℕ)
    → Some part ≡ position (bytes_eq f.part.now) (part_names sys.parts) → at ≡ number f.at.now
    → release_of sys (fields_in f) ≡ record { part = part; job = job_in (part_at sys part) f at }
spelt_is sys f part at found slot =
    let place : part_place sys f.part.now ≡ part = ap (λ (o : Option ℕ). unwrap_or o (length sys.parts)) (sym found) in
    ap (λ (q : ℕ). record {
      part = q;
      job =
          early_job (task_place (part_at sys q).tasks f.task.now) (number f.at.now) (number f.work.now)
          (number f.early.now);
    }) place
    ∙ ap (λ (m : ℕ). record {
      part = part;
      job =
          early_job (task_place (part_at sys part).tasks f.task.now) m (number f.work.now)
          (number f.early.now);
    }) (sym slot)

-- a rule that is kept is passed by
passed : {F : Type 0} (broken : Bool) (fault : F) (later : Option F) → broken ≡ false
    → fault_if broken fault later ≡ later
passed broken fault later e = ap (λ (z : Bool). fault_if z fault later) e

-- a row that names a part, at a slot that is in order
pub record IsInOrder (s a : ReleaseRows) (rows : List (List (List ℕ))) (row : List (List ℕ)) (f : ReleaseFields)
    (at part n : ℕ) (leaf : LeafRows) : Type 0 where
  pub taken : HasTakenReleases s a rows
  pub number_is : n ≡ row_of (length rows)
  pub fields : all_fields a.version row ≡ fields_in f
  pub plain : is_release_row (fields_in f) ≡ true
  pub at_is : at ≡ number f.at.now
  pub in_limit : at ≤ LIMIT
  pub in_order : a.slot ≤ at
  pub found : Some part ≡ position (bytes_eq f.part.now) a.parts
  pub inside : part < length a.leaves.items
  pub leaf_is : leaf ≡ get_or a.leaves.items part leaf

module _ (s a : ReleaseRows) (rows : List (List (List ℕ))) (row : List (List ℕ)) (f : ReleaseFields) (at part n : ℕ)
    (leaf : LeafRows) (is : IsInOrder s a rows row f at part n leaf) where
  abbrev R : List Release
  R = releases_of s.sys.now s.version rows

  abbrev r : Release
  r = record { part = part; job = job_in leaf.part.now f at }

  here : IsLeafOf a.sys.now (releases_of s.sys.now s.version rows) part leaf
  here =
      subst (IsLeafOf a.sys.now (releases_of s.sys.now s.version rows) part) (sym is.leaf_is)
      (is.taken.leaves part leaf (omega (arith, is.inside, is.taken.one_each)))

  same_fields : all_fields s.version row ≡ fields_in f
  same_fields = ap (λ (v : Version). all_fields v row) (sym is.taken.version) ∙ is.fields

  told : release_of s.sys.now (all_fields s.version row) ≡ record { part = part; job = job_in leaf.part.now f at }
  told =
      ap (release_of s.sys.now) same_fields ∙ (ap (λ z. release_of z.now (fields_in f)) (sym is.taken.sys)
      ∙ (spelt_is a.sys.now f part at (is.found ∙ ap (position (bytes_eq f.part.now)) is.taken.parts) is.at_is
      ∙ ap (λ (p : PartView). record { part = part; job = job_in p f at }) (sym here.part_is)))

  -- the rules of the row are those of its part
  pub rules_of_part : release_rules s.sys.now s.version rows row
      ≡ part_fault leaf.part.now leaf.jobs.items (job_in leaf.part.now f at) n
  rules_of_part =
      ap (λ (z : List (List ℕ)). fault_if (not (is_release_row z)) (BadRow (row_of (length rows)))
      (release_fault s.sys.now R (release_of s.sys.now (all_fields s.version row)))) same_fields
      ∙ (passed (not (is_release_row (fields_in f))) (BadRow (row_of (length rows))) _ (ap not is.plain)
      ∙ (ap (λ (x : Release). release_fault s.sys.now (releases_of s.sys.now s.version rows) x) told
      ∙ (passed (nat_lt LIMIT at) (OutOfRange (row_of (length R))) _ (le-ltb LIMIT at is.in_limit)
      ∙ (passed (nat_lt at (last_slot R)) (BadOrder (row_of (length R))) _
      (le-ltb at (last_slot R) (omega (arith, is.in_order, is.taken.slot)))
      ∙ (ap (λ z. part_fault (part_at z.now part) (jobs_of part R) (job_in leaf.part.now f at) (row_of (length R)))
      (sym is.taken.sys)
      ∙ (ap (λ (p : PartView). part_fault p (jobs_of part R) (job_in leaf.part.now f at) (row_of (length R)))
      (sym here.part_is)
      ∙ (ap (λ (js : List Job). part_fault leaf.part.now js (job_in leaf.part.now f at) (row_of (length R)))
      (sym here.jobs_are)
      ∙ ap (part_fault leaf.part.now leaf.jobs.items (job_in leaf.part.now f at))
      (ap row_of (length-map rows (λ (x : List (List ℕ)). release_of s.sys.now (all_fields s.version x)))
      ∙ sym is.number_is))))))))

  -- what taking it gives
  pub took_release : (b : ReleaseRows) (next : LeafRows)
      → next.part ≡ leaf.part → IsLeaf next → next.jobs.items ≡ leaf.jobs.items ++ job_in leaf.part.now f at ∷ []
      → part_fault leaf.part.now leaf.jobs.items (job_in leaf.part.now f at) n ≡ None
      → b.sys ≡ a.sys → b.version ≡ a.version → b.parts ≡ a.parts → b.slot ≡ at
      → b.leaves.items ≡ set a.leaves.items part next
      → (release_rules s.sys.now s.version rows row ≡ None) × HasTakenReleases s b (rows ++ row ∷ [])
  took_release b next part_same next_leaf jobs keeps sys version parts slot leaves = (
    rules_of_part ∙ keeps,
    record {
      system = rw (sys) is.taken.system;
      sys = sys ∙ is.taken.sys;
      version = version ∙ is.taken.version;
      parts = parts ∙ (is.taken.parts ∙ ap (λ z. part_names z.now.parts) (sym sys));
      slot = slot ∙ sym (ap last_slot more ∙ slot_more R r);
      one_each =
          ap (λ (z : List LeafRows). length z) leaves
          ∙ (length-set a.leaves.items part next ∙ (is.taken.one_each ∙ ap (λ z. length z.now.parts) (sym sys)));
      leaves =
          λ q d l. subst (λ (z : List Release). IsLeafOf b.sys.now z q (get_or b.leaves.items q d)) (sym more)
          (subst (λ (z : List LeafRows). IsLeafOf b.sys.now (R ++ r ∷ []) q (get_or z q d)) (sym leaves)
          (subst (λ z. IsLeafOf z.now (R ++ r ∷ []) q (get_or (set a.leaves.items part next) q d)) (sym sys)
          (each q d (omega (arith, l, ap (λ z. length z.now.parts) sys)))));
    },
  )
    where
      more : releases_of s.sys.now s.version (rows ++ row ∷ [])
          ≡ releases_of s.sys.now s.version rows ++ record { part = part; job = job_in leaf.part.now f at } ∷ []
      more =
          releases_more s.sys.now s.version rows row
          ∙ ap (λ (x : Release). releases_of s.sys.now s.version rows ++ x ∷ []) told

      each : (q : ℕ) (d : LeafRows) → q < length a.sys.now.parts
          → IsLeafOf a.sys.now
          (releases_of s.sys.now s.version rows ++ record { part = part; job = job_in leaf.part.now f at } ∷ []) q
          (get_or (set a.leaves.items part next) q d)
      each q d l = elim (cases_eq q part) [
        | inl e ↦
            subst (IsLeafOf a.sys.now (R ++ r ∷ []) q) (sym (ap (λ (z : ℕ). get_or (set a.leaves.items part next) z d) e
            ∙ get_or-set_same a.leaves.items part next d is.inside)) (record {
              leaf_is = next_leaf;
              part_is = ap (λ z. z.now) part_same ∙ (here.part_is ∙ ap (part_at a.sys.now) (sym e));
              jobs_are =
                  jobs
                  ∙ (ap (λ (z : List Job). z ++ job_in leaf.part.now f at ∷ [])
                  (here.jobs_are ∙ ap (λ (z : ℕ). jobs_of z R) (sym e))
                  ∙ sym (jobs_more q R r
                  ∙ ap (λ (z : List Job). jobs_of q R ++ z) (one_job q r
                  ∙ ap (λ (z : Bool). cond z (job_in leaf.part.now f at ∷ []) []) (eq-eqb part q (sym e)))));
            })
        | inr ne ↦
            let old = is.taken.leaves q d l in
            subst (IsLeafOf a.sys.now (R ++ r ∷ []) q)
            (sym (get_or-set_other a.leaves.items part q next d ne)) (record {
              leaf_is = old.leaf_is;
              part_is = old.part_is;
              jobs_are =
                  old.jobs_are
                  ∙ (sym (append-nil (jobs_of q R))
                  ∙ sym (jobs_more q R r
                  ∙ ap (λ (z : List Job). jobs_of q R ++ z) (one_job q r
                  ∙ ap (λ (z : Bool). cond z (job_in leaf.part.now f at ∷ []) [])
                  (ne_eqb part q (λ e. ne (sym e))))));
            })
      ]

-- the rows behind a header
behind_header : (records : List (List (List ℕ))) (header : List (List ℕ)) (rows : List (List (List ℕ)))
    (version : Version) → records ≡ header ∷ rows → header_version header ≡ Some version
    → release_rows records ≡ Some (version, rows)
behind_header records header rows version is told =
    ap release_rows is ∙ ap (option_map (λ (v : Version). (v, rows))) told

-- the jobs of the part at a place
jobs_there : (leaves : List LeafRows) (jobs : List (List Job)) (q : ℕ)
    → jobs ≡ map (λ (l : LeafRows). l.jobs.items) leaves → q < length leaves
    → (leaf : LeafRows) × (jobs_at jobs q ≡ leaf.jobs.items) × (leaf ≡ get_or leaves q leaf)
jobs_there [] jobs q is l = absurd (omega (arith, l))
jobs_there (x ∷ xs) jobs q is l =
    let leaf : LeafRows = get_or (x ∷ xs) q x in (
      leaf,
      ap (λ (z : List (List Job)). jobs_at z q) is ∙ get_or-map (λ (y : LeafRows). y.jobs.items) (x ∷ xs) q x [] l,
      get_or_default (x ∷ xs) q x leaf l,
    )

-- what is made of all rows, or of the first that breaks a rule
pub record HasReadReleases (sys : SystemView) (records : List (List (List ℕ))) (s t : ReleaseRows) (version : Version) :
    Type 0 where
  pub read : List (List (List ℕ))
  pub rows_are : release_rows records ≡ Some (version, read)
  pub keep : RowsKeep (release_rules sys version) read (length read)
  pub one_each : length t.leaves.items ≡ length sys.parts
  pub leaves : (q : ℕ) (d : LeafRows) → q < length sys.parts
      → IsLeafOf sys (releases_of sys version read) q (get_or t.leaves.items q d)

pub has_read : (sys : SystemView) (records : List (List (List ℕ))) (s t : ReleaseRows) (header : List (List ℕ))
    (version : Version) → s.sys.now ≡ sys → s.version ≡ version → header_version header ≡ Some version
    → (read : List (List (List ℕ))) × (records ≡ header ∷ read)
    × RowsKeep (release_rules s.sys.now s.version) read (length read) × HasTakenReleases s t read
    → HasReadReleases sys records s t version
has_read sys records s t header version same_sys same_version told all =
    let (read, is, keep, taken) = all in
    let now : t.sys.now ≡ sys = ap (λ z. z.now) taken.sys ∙ same_sys in
    record {
      read = read;
      rows_are = behind_header records header read version is told;
      keep = rw (same_sys, same_version) at keep;
      one_each = taken.one_each ∙ ap (λ (z : SystemView). length z.parts) now;
      leaves =
          λ q d l. subst (λ (z : SystemView). IsLeafOf z (releases_of sys version read) q (get_or t.leaves.items q d))
          now (subst (λ (z : SystemView). IsLeafOf t.sys.now (releases_of z version read) q (get_or t.leaves.items q d))
          same_sys (subst
          (λ (z : Version). IsLeafOf t.sys.now (releases_of s.sys.now z read) q (get_or t.leaves.items q d))
          same_version (taken.leaves q d (omega (arith, l, ap (λ (z : SystemView). length z.parts) now)))));
    }

pub first_of_file : (sys : SystemView) (records : List (List (List ℕ))) (s : ReleaseRows) (header : List (List ℕ))
    (version : Version) (fault : ReleaseFault) → s.sys.now ≡ sys → s.version ≡ version
    → header_version header ≡ Some version
    → (read : List (List (List ℕ))) × (records ≡ header ∷ read)
    × IsFirstFault (release_rules s.sys.now s.version) read fault → IsReleasesFault sys (release_rows records) fault
first_of_file sys records s header version fault same_sys same_version told breaks =
    let (read, is, first) = breaks in
    subst (λ o. IsReleasesFault sys o fault) (sym (behind_header records header read version is told))
    (subst (λ (z : SystemView). IsFirstFault (release_rules z version) read fault) same_sys
    (subst (λ (z : Version). IsFirstFault (release_rules s.sys.now z) read fault) same_version first))

pub spelt_all : (sys : SystemView) (records : List (List (List ℕ))) (s t : ReleaseRows) (version : Version)
    (jobs : List (List Job)) → HasReadReleases sys records s t version
    → jobs ≡ map (λ (l : LeafRows). l.jobs.items) t.leaves.items → SpellsReleases sys records jobs
spelt_all sys records s t version jobs h is = record {
  version = version;
  rows = h.read;
  header = h.rows_are;
  keep = h.keep;
  one_each =
      ap (λ (z : List (List Job)). length z) is
      ∙ (length-map t.leaves.items (λ (l : LeafRows). l.jobs.items) ∙ h.one_each);
  jobs_are =
      λ q l. let (leaf, at, there) =
      jobs_there t.leaves.items jobs q is (omega (arith, l, h.one_each)) in at
      ∙ (subst (IsLeafOf sys (releases_of sys version h.read) q) (sym there) (h.leaves q leaf l)).jobs_are;
}

-- no job is legal of no tasks
none_legal : (tasks : List SporadicTask) (jobs : List Job) → length tasks ≡ 0 → LegalRelease tasks jobs → jobs ≡ []
none_legal tasks [] none legal = refl
none_legal tasks (j ∷ jobs) none legal = absurd (let n = legal.named 0 (omega arith) in omega (arith, n, none))

no_tasks : (tasks : List NamedTask) → is_leaf tasks ≡ false → length tasks ≡ 0
no_tasks [] e = refl
no_tasks (t ∷ tasks) e = absurd (false≢true (sym e))

pub legal_all : (sys : SystemView) (records : List (List (List ℕ))) (s t : ReleaseRows) (version : Version)
    (jobs : List (List Job)) → HasReadReleases sys records s t version
    → jobs ≡ map (λ (l : LeafRows). l.jobs.items) t.leaves.items → AreReleases sys jobs
legal_all sys records s t version jobs h is = record {
  one_each =
      ap (λ (z : List (List Job)). length z) is
      ∙ (length-map t.leaves.items (λ (l : LeafRows). l.jobs.items) ∙ h.one_each);
  legal = λ q l leaf. there q l;
  none =
      λ q l inner. none_legal (own_tasks_at sys q) (jobs_at jobs q)
      (length-map (part_at sys q).tasks (λ (t : NamedTask). t.task) ∙ no_tasks (part_at sys q).tasks inner) (there q l);
}
  where
    there : (q : ℕ) → q < length sys.parts → LegalRelease (own_tasks_at sys q) (jobs_at jobs q)
    there q l =
        let (leaf, at, is_there) = jobs_there t.leaves.items jobs q is (omega (arith, l, h.one_each)) in
        let of = subst (IsLeafOf sys (releases_of sys version h.read) q) (sym is_there) (h.leaves q leaf l) in
        subst (LegalRelease (own_tasks_at sys q)) (sym at)
        (subst (λ (p : PartView). LegalRelease (own_tasks p) leaf.jobs.items) of.part_is of.leaf_is.legal)

-- a part has no more jobs than there are rows, and they are fewer than the records
few_jobs : (q : ℕ) (rows : List Release) → length (jobs_of q rows) ≤ length rows
few_jobs q rows =
    let here : Release → Bool = λ r. eqb r.part q in
    omega (arith, length-map (filter here rows) (λ (r : Release). r.job), length-filter here rows, count_le here rows)
  where
    one : (b : Bool) → cond b 1 0 ≤ 1
    one true = omega arith
    one false = omega arith

    count_le : (p : Release → Bool) (rs : List Release) → count_by p rs ≤ length rs
    count_le p [] = omega arith
    count_le p (r ∷ rs) = omega (arith, sum_by-cons (λ (x : Release). cond (p x) 1 0) r rs, one (p r), count_le p rs)

rows_told : (rows read : List (List (List ℕ))) (version : Version) (o : Option Version)
    → option_map {U = Version × List (List (List ℕ))} (λ (v : Version). (v, rows)) o ≡ Some (version, read)
    → read ≡ rows
rows_told rows read version None e = absurd (none-some (version, read) e)
rows_told rows read version (Some v) e =
    ap (λ (p : Version × List (List (List ℕ))). p.1) (sym (same_Some (v, rows) (version, read) e))

few_rows : (records read : List (List (List ℕ))) (version : Version) → release_rows records ≡ Some (version, read)
    → length read + 1 ≤ length records
few_rows [] read version e = absurd (none-some (version, read) e)
few_rows (header ∷ rows) read version e =
    omega (arith, ap (λ (z : List (List (List ℕ))). length z) (rows_told rows read version (header_version header) e))

pub few_all : (sys : SystemView) (text : List ℕ) (jobs : List (List Job)) → SpellsReleases sys (records_of text) jobs
    → (q : ℕ) → q < length sys.parts → length (jobs_at jobs q) ≤ length text
few_all sys text jobs h q l =
    let rows = releases_of sys h.version h.rows in
    omega (
      arith,
      few_records text,
      few_rows (records_of text) h.rows h.version h.header,
      few_jobs q rows,
      length-map h.rows (λ (row : List (List ℕ)). release_of sys (all_fields h.version row)),
      ap (λ (js : List Job). length js) (h.jobs_are q l),
    )
