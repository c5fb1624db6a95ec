use Rattle.std.proofs.Common.{rules, ◌≡◌, [], ◌∷◌, ◌++◌, List, arith, sym, ◌∙◌, ap, inr, append_assoc}
use Rattle.std.proofs.lemmas.List.{length-append}
use Rattle.std.specs.Vec.Iter.{into_iter_items}
use Rattle.admission_session.specs.declared.edit.Edit.{Edit}
use Rattle.script_file.proofs.GuestsAdded.{first_other, one_more}
use Rattle.script_file.proofs.guests.guests_of.Goals as goal

pub returns-in_default-clause-fault : goal.returns-in_default-clause-fault
returns-in_default-clause-fault c =
    inr (first_other c.args.edits.items c.loop-edit.yielded c.loop-edit.guests.items c.in-Some.edit
    (into_iter_items c.next.new.self) c.loop-edit.row c.loop-edit.invariant.so_far c.loop-edit.invariant.row
    (c.loop-edit.invariant.edits ∙ ap (λ (z : List Edit). c.loop-edit.yielded ++ z) c.in-Some.ensures.steps.0)
    c.in_default.ensures)

pub loop-edit-preserved : goal.loop-edit-preserved
loop-edit-preserved c =
    let pushed : c.push.new.self.items ≡ c.loop-edit.guests.items ++ c.in-Some-guest_of.guest ∷ [] = search rules in
    record {
      so_far =
          rw (pushed) (one_more c.loop-edit.yielded c.loop-edit.guests.items c.in-Some.edit c.in-Some-guest_of.guest
          c.loop-edit.invariant.so_far c.in-Some-guest_of.ensures);
      row =
          let one = length-append c.loop-edit.yielded (c.in-Some.edit ∷ []) in
          omega (arith, c.loop-edit.invariant.row, one);
      edits =
          c.loop-edit.invariant.edits
          ∙ (ap (λ (z : List Edit). c.loop-edit.yielded ++ z) c.in-Some.ensures.steps.0
          ∙ sym (append_assoc c.loop-edit.yielded (c.in-Some.edit ∷ []) (into_iter_items c.next.new.self)));
    }
