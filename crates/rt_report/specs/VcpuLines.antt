-- The lines of VCPUs, each with what is counted of it.
use Rattle.std.specs.Prelude.{ℕ, suc, List, [], ◌∷◌, ◌++◌, codes, Option, Some, None, if◌then◌else◌}
use Rattle.std.specs.Fmt.{decimal}
use Rattle.tree_model.specs.View.{SystemView}
use Rattle.tree_model.specs.System.{part_at}
use Rattle.trace_file.specs.Rules.{is_vcpu}

-- a time, and `-` where there is none
abbrev pub time_words : Option ℕ → List ℕ
time_words None = codes "-"
time_words (Some time) = decimal time

-- what is told of a name and counts; a part that stands on no core has no line
abbrev pub vcpu_line : {Counts : Type 0} → (List ℕ → Counts → List ℕ) → SystemView → ℕ → Counts
    → List ℕ
vcpu_line words sys v counts =
    if is_vcpu sys v then words (part_at sys v).name counts else []

-- the lines of the parts from v on
abbrev pub vcpu_lines : {Counts : Type 0} → (List ℕ → Counts → List ℕ) → SystemView → ℕ
    → List Counts → List ℕ
vcpu_lines words sys v [] = []
vcpu_lines words sys v (counts ∷ later) =
    vcpu_line words sys v counts ++ vcpu_lines words sys (suc v) later
