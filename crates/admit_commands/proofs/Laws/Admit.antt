-- What `admit` answers: one thing, its statuses, and what it means.
use Rattle.std.proofs.Common.{◌≡◌, ℕ, List, sym, ◌∙◌, ap, subst, inl, inr}
use Rattle.tree_model.specs.View.{SystemView}
use Rattle.tree_model.specs.System.{IsSystem}
use Rattle.compose_tree.proofs.Sound.{admitted_keeping, admitted_no_loss, admitted_tight}
use Rattle.miss_witness.specs.declared.replay.Replay.{Replay}
use Rattle.rt_report.specs.Admit.{admit_text}
use Rattle.miss_witness.proofs.Defeated.{replays_defeat}
use Rattle.miss_witness.proofs.OneReplay.{one_list_of_replays}
use Rattle.command_frame.specs.declared.status.Status.{Status}
use Rattle.command_frame.specs.declared.status.Status.TheVariants.{Yes, No, Wide}
use Rattle.command_frame.specs.Answer.{IsOne}
use Rattle.command_frame.specs.Budgets.{composing}
use Rattle.command_frame.specs.CommandSpec.{IsVerdict}
use Rattle.admit_commands.specs.Admit.{the_admit, IsAdmission, Admits, AdmitMeans}
use Rattle.command_frame.specs.Steps.{IsJudged}
use Rattle.command_frame.proofs.Attempt.{one_attempt, statuses_attempt}
use Rattle.command_frame.proofs.Budgets.{composing_decided, refused_means, refused_status}
use Rattle.command_frame.proofs.CommandLaws.{CommandLaws}
use Rattle.command_frame.proofs.OneFile.{system_laws}

-- one text tells budgets
one_admission : (sys : SystemView) (budgets : List ℕ) → IsOne (IsAdmission sys budgets)
one_admission sys budgets = λ s t x y a b.
    let replays : a.replays ≡ b.replays = one_list_of_replays sys budgets a.replays b.replays a.replayed b.replayed in
    (a.is_yes ∙ sym b.is_yes, a.told ∙ ap (λ (rs : List Replay). admit_text sys budgets rs) replays ∙ sym b.told)

-- its statuses
admits_status : (P : Status → Type 0) → P Yes → P No → P Wide → (sys : SystemView) (status : Status) (text : List ℕ)
    → Admits sys status text → P status
admits_status P at_yes at_no at_wide sys status text h =
    statuses_attempt P (composing sys) (IsAdmission sys) status text (refused_status P at_no at_wide sys)
    (λ budgets admission. subst P (sym admission.is_yes) at_yes) h

-- and what it means
admits_means : (sys : SystemView) → IsSystem sys → (status : Status) (text : List ℕ) → Admits sys status text
    → AdmitMeans sys status text
admits_means sys is status text h = elim h [
  | inl a ↦ subst (λ (s : Status). AdmitMeans sys s text) (sym a.said.is_yes)
      (record {
        budgets = a.value;
        replays = a.said.replays;
        told = a.said.told;
        admitted = a.gives;
        no_loss = admitted_no_loss sys is a.value a.gives;
        each_node = admitted_keeping sys is a.value a.gives;
        tight = admitted_tight sys is a.value a.gives;
        replayed = a.said.replayed;
        defeat = replays_defeat sys is a.value a.gives a.said.replays a.said.replayed;
      })
  | inr a ↦
      refused_means AdmitMeans sys is (λ t over. over) (λ t. tt) a.refusal a.refuses status text a.status_is a.told
]

pub admit_laws : (file : List ℕ) → CommandLaws (the_admit file)
admit_laws file = system_laws file Admits AdmitMeans (record {
  one =
      λ sys is. one_attempt (composing sys) (IsAdmission sys) (composing_decided sys is)
      (λ budgets admitted. one_admission sys budgets);
  judged = admits_status IsJudged tt tt tt;
  verdict = admits_status IsVerdict tt tt tt;
  means = admits_means;
  long = λ sys text. tt;
})
