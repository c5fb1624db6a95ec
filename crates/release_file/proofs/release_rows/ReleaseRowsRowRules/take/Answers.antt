use Rattle.std.proofs.Common.{◌≡◌, ℕ, List, length, refl, arith, ap, ◌∙◌, inl, inr}
use Rattle.std.proofs.lemmas.List.{length-map}
use Rattle.tree_model.specs.View.{PartView}
use Rattle.csv_rows.specs.Row.{fields_of}
use Rattle.csv_rows.specs.Rules.{row_of}
use Rattle.slot_model.specs.declared.task.TheConstants.{LIMIT}
use Rattle.release_file.specs.declared.release_rows.ReleaseRows.{ReleaseRows}
use Rattle.release_file.specs.inner.ReleasesTaken.{HasTakenReleases}
use Rattle.release_file.proofs.LeafMore.{is_told}
use Rattle.release_file.proofs.ReleasesTaking.{IsInOrder, rules_of_part, took_release}
use Rattle.release_file.proofs.release_rows.ReleaseRowsRowRules.take.Goals as goal
use Rattle.release_file.proofs.release_rows.ReleaseRowsRowRules.take.Goals.{After-keep}

-- the row names the part of its leaf, at a slot that is in order
in_order : (c : After-keep) (start : ReleaseRows) (rows : List (List (List ℕ)))
    → HasTakenReleases start c.args.self.now rows → c.args.number ≡ row_of (length rows)
    → IsInOrder start c.args.self.now rows (fields_of c.args.row.now) c.in-Some.fields
    c.in-Some-release_numbers.numbers.at c.in-Some-find.part c.args.number c.index_mut.result.now
in_order c start rows has number =
    let a = c.args.self.now in
    let at : ℕ = c.in-Some-release_numbers.numbers.at in
    let (plain, numbers) = c.in-Some-release_numbers.ensures in
    record {
      taken = has;
      number_is = number;
      fields = c.in-Some.ensures;
      plain = plain;
      at_is = is_told at _ LIMIT numbers.at (omega (arith, c.if-numbers-gt-LIMIT.false)) (omega arith);
      in_limit = omega (arith, c.if-numbers-gt-LIMIT.false);
      in_order = omega (arith, c.if-numbers-self.false);
      found = c.in-Some-find.ensures.place;
      inside =
          omega (
            arith,
            c.in-Some-find.ensures.within,
            ap (λ (z : List (List ℕ)). length z) has.parts,
            length-map a.sys.now.parts (λ (p : PartView). p.name),
            has.one_each,
          );
      leaf_is = c.index_mut.ensures.value;
    }

pub returns-clause-taken : goal.returns-clause-taken
returns-clause-taken c start rows has number =
    took_release _ _ _ _ _ _ _ _ _ (in_order (goal.at.returns-clause-taken c).After-keep start rows has number)
    _ c.keep.new.self c.in_default-keep.ensures.part c.in_default-keep.ensures.leaf c.in_default-keep.ensures.jobs
    c.in_default-keep.ensures.kept refl refl refl refl refl

pub returns-in-Err-clause-fault : goal.returns-in-Err-clause-fault
returns-in-Err-clause-fault c start rows has number =
    elim c.in-Err.ensures.fault [
      | inl memory ↦ inl memory
      | inr breaks ↦
          inr (rules_of_part _ _ _ _ _ _ _ _ _
          (in_order (goal.at.returns-in-Err-clause-fault c).After-keep start rows has number) ∙ breaks)
    ]
