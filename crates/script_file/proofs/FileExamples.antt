-- Whole scripts by hand: what they spell, and their faults. A wrong definition breaks one of these.
use Rattle.std.proofs.Common.{◌≡◌, ℕ, List, Some, None, true, false, [], ◌∷◌, codes, take, refl, arith}
use Rattle.slot_model.specs.declared.sched.Sched.TheVariants.{Edf}
use Rattle.tree_model.specs.declared.place.Parent.TheVariants.{Core}
use Rattle.tree_model.proofs.FewPlaces.{only, both, each_of_three}
use Rattle.csv_rows.specs.Rules.{row_at}
use Rattle.admission_session.specs.declared.op.Op.TheVariants.{Add as Adds, Remove as Removes}
use Rattle.admission_session.specs.declared.edit.Edit.TheVariants.{Add, Remove}
use Rattle.admission_session.specs.LeafView.{LeafView}
use Rattle.script_file.specs.declared.fault.ScriptFault.TheVariants.{BadHeader, BadRow}
use Rattle.script_file.specs.declared.guests.GuestFault.TheVariants.{Script, Other}
use Rattle.script_file.specs.Script.{script_rows, script_rules, SpellsScript, SpellsRows, IsScriptFault}
use Rattle.script_file.specs.Guests.{is_guest, edit_at, SpellsGuests, IsGuestFault}

abbrev header : List (List ℕ)
header =
    codes "op" ∷ codes "part" ∷ codes "parent" ∷ codes "sched" ∷ codes "period" ∷ codes "budget" ∷ codes "tasks" ∷ []

abbrev adds_a : List (List ℕ)
adds_a = codes "add" ∷ codes "a" ∷ [] ∷ codes "edf" ∷ codes "10" ∷ [] ∷ [] ∷ []

abbrev adds_b : List (List ℕ)
adds_b = codes "add" ∷ codes "b" ∷ [] ∷ codes "edf" ∷ codes "20" ∷ codes "5" ∷ [] ∷ []

abbrev adds_b_on_c : List (List ℕ)
adds_b_on_c = codes "add" ∷ codes "b" ∷ codes "c" ∷ codes "edf" ∷ codes "20" ∷ codes "5" ∷ [] ∷ []

abbrev removes_a : List (List ℕ)
removes_a = codes "remove" ∷ codes "a" ∷ [] ∷ [] ∷ [] ∷ [] ∷ [] ∷ []

abbrev too_short : List (List ℕ)
too_short = codes "remove" ∷ codes "a" ∷ []

abbrev a : LeafView
a = record { name = codes "a"; sched = Edf; period = 10; budget = None; tasks = [] }

abbrev b : LeafView
b = record { name = codes "b"; sched = Edf; period = 20; budget = Some 5; tasks = [] }

-- each row behind the header is an edit, in order
abbrev two_rows : List (List (List ℕ))
two_rows = adds_b_on_c ∷ removes_a ∷ []

two_edits_of_two_rows : SpellsScript (header ∷ two_rows) (Add b (Some (codes "c")) ∷ Remove (codes "a") ∷ [])
two_edits_of_two_rows = record {
  rows = two_rows;
  header = refl;
  keep = both (λ i. script_rules (take i two_rows) (row_at two_rows i) ≡ None) refl refl;
  edits_are = refl;
}

no_edits_of_a_header_alone : SpellsScript (header ∷ []) []
no_edits_of_a_header_alone =
    record { rows = []; header = refl; keep = λ i l. absurd (omega (arith, l)); edits_are = refl }

-- and as rows, where a removal has no more than its name
two_rows_of_two_edits : SpellsRows (header ∷ two_rows) (record {
  op = Adds;
  name = codes "b";
  parent = Some (codes "c");
  sched = Edf;
  period = 20;
  budget = Some 5;
  tasks = [];
} ∷ record {
  op = Removes;
  name = codes "a";
  parent = None;
  sched = Edf;
  period = 1;
  budget = None;
  tasks = [];
} ∷ [])
two_rows_of_two_edits =
    record {
      edits = Add b (Some (codes "c")) ∷ Remove (codes "a") ∷ [];
      spelled = two_edits_of_two_rows;
      rows_are = refl;
    }

-- the third row of a file is the first that is bad, whatever stands behind it
the_third_row_is_bad : IsScriptFault (script_rows (header ∷ removes_a ∷ too_short ∷ header ∷ [])) (BadRow 3)
the_third_row_is_bad = record {
  row = 1;
  is_row = omega arith;
  before = only
      (λ i. script_rules (take i (removes_a ∷ too_short ∷ header ∷ []))
      (row_at (removes_a ∷ too_short ∷ header ∷ []) i) ≡ None)
      refl;
  breaks = refl;
}

-- guests: one leaf on no parent of each row, in order
two_guests : SpellsGuests (header ∷ adds_a ∷ adds_b ∷ []) (record {
  name = codes "a";
  parent = Core 0;
  sched = Edf;
  period = 10;
  budget = None;
  extra = false;
  tasks = [];
} ∷ record {
  name = codes "b";
  parent = Core 0;
  sched = Edf;
  period = 20;
  budget = Some 5;
  extra = false;
  tasks = [];
} ∷ [])
two_guests = record {
  leaves = a ∷ b ∷ [];
  spelled = record {
    rows = adds_a ∷ adds_b ∷ [];
    header = refl;
    keep = both (λ i. script_rules (take i (adds_a ∷ adds_b ∷ [])) (row_at (adds_a ∷ adds_b ∷ []) i) ≡ None) refl refl;
    edits_are = refl;
  };
  guests_are = refl;
}

-- a guest on a parent in the third row is told before a removal behind it, and after a bad row
abbrev three_rows : List (List (List ℕ))
three_rows = adds_a ∷ adds_b_on_c ∷ removes_a ∷ []

the_third_row_is_no_guest : IsGuestFault (header ∷ three_rows) (Other 3)
the_third_row_is_no_guest = record {
  edits = Add a None ∷ Add b (Some (codes "c")) ∷ Remove (codes "a") ∷ [];
  spelled = record {
    rows = three_rows;
    header = refl;
    keep = each_of_three (λ i. script_rules (take i three_rows) (row_at three_rows i) ≡ None) refl refl refl;
    edits_are = refl;
  };
  first = record {
    place = 1;
    row_is = refl;
    is_edit = omega arith;
    before = only
        (λ i. is_guest (edit_at (Add a None ∷ Add b (Some (codes "c")) ∷ Remove (codes "a") ∷ []) i) ≡ true) refl;
    other = refl;
  };
}

a_bad_row_is_told_first : IsGuestFault (header ∷ removes_a ∷ too_short ∷ header ∷ []) (Script (BadRow 3))
a_bad_row_is_told_first = the_third_row_is_bad

no_header_is_told_first : IsGuestFault (removes_a ∷ too_short ∷ []) (Script BadHeader)
no_header_is_told_first = refl
