-- Records spell one list of edits at most, and where they spell one they have no fault.
use Rattle.std.proofs.Common.{◌≡◌, ℕ, List, Option, Some, None, sym, ◌∙◌, ap, subst}
use Rattle.std.proofs.lemmas.Option.{same_Some}
use Rattle.csv_rows.proofs.OneFault.{one_fault, no_fault_kept}
use Rattle.admission_session.specs.declared.edit.Edit.{Edit}
use Rattle.script_file.specs.declared.fault.ScriptFault.{ScriptFault}
use Rattle.script_file.specs.Script.{edits_of, script_rules, script_rows, SpellsScript, IsScriptFault}

pub one_script : (records : List (List (List ℕ))) (xs ys : List Edit) → SpellsScript records xs
    → SpellsScript records ys → xs ≡ ys
one_script records xs ys s t =
    s.edits_are ∙ (ap edits_of (same_Some s.rows t.rows (sym s.header ∙ t.header)) ∙ sym t.edits_are)

pub no_script_fault : (records : List (List (List ℕ))) (xs : List Edit) (fault : ScriptFault)
    → SpellsScript records xs → IsScriptFault (script_rows records) fault → ⊥
no_script_fault records xs fault s h =
    no_fault_kept script_rules s.rows fault s.keep
    (subst (λ (z : Option (List (List (List ℕ)))). IsScriptFault z fault) s.header h)

pub one_script_fault : (file : Option (List (List (List ℕ)))) (a b : ScriptFault) → IsScriptFault file a
    → IsScriptFault file b → a ≡ b
one_script_fault None a b x y = x ∙ sym y
one_script_fault (Some rows) a b x y = one_fault script_rules rows a b x y
