-- What `responses` answers: one thing, its statuses, and what it means.
use Rattle.std.proofs.Common.{◌≡◌, ℕ, List, sym, ◌∙◌, ap, subst, inl, inr}
use Rattle.tree_model.specs.View.{SystemView}
use Rattle.tree_model.specs.System.{IsSystem}
use Rattle.tree_model.specs.Tree.{NoLoss}
use Rattle.compose_tree.proofs.Sound.{admitted_keeping, admitted_no_loss}
use Rattle.rt_report.specs.declared.responses.Response.{Response}
use Rattle.rt_report.specs.Responses.{responses_text}
use Rattle.command_frame.specs.declared.status.Status.{Status}
use Rattle.command_frame.specs.declared.status.Status.TheVariants.{Yes, No, Wide}
use Rattle.command_frame.specs.Answer.{IsOne}
use Rattle.command_frame.specs.Budgets.{composing}
use Rattle.command_frame.specs.CommandSpec.{IsVerdict}
use Rattle.guest_commands.specs.Responses.{the_responses, IsTold, Responds, RespondMeans}
use Rattle.command_frame.specs.Steps.{IsJudged}
use Rattle.command_frame.proofs.Attempt.{one_attempt, statuses_attempt}
use Rattle.command_frame.proofs.Budgets.{composing_decided, refused_status, refused_means}
use Rattle.command_frame.proofs.CommandLaws.{CommandLaws}
use Rattle.command_frame.proofs.OneFile.{system_laws}
use Rattle.guest_commands.proofs.OneResponses.{one_list_of_responses}
use Rattle.guest_commands.proofs.TreeResponses.{all_respond_in_tree}

-- one text tells the responses under budgets
one_told : (sys : SystemView) (budgets : List ℕ) → IsOne (IsTold sys budgets)
one_told sys budgets = λ s t x y a b.
    let rows : a.rows ≡ b.rows = one_list_of_responses sys budgets a.rows b.rows a.responses b.responses in
    (a.is_yes ∙ sym b.is_yes, a.told ∙ ap (λ (rs : List Response). responses_text sys rs) rows ∙ sym b.told)

-- its statuses
responds_status : (P : Status → Type 0) → P Yes → P No → P Wide → (sys : SystemView) (status : Status) (text : List ℕ)
    → Responds sys status text → P status
responds_status P at_yes at_no at_wide sys status text h =
    statuses_attempt P (composing sys) (IsTold sys) status text (refused_status P at_no at_wide sys)
    (λ budgets told. subst P (sym told.is_yes) at_yes) h

responds_means : (sys : SystemView) → IsSystem sys → (status : Status) (text : List ℕ) → Responds sys status text
    → RespondMeans sys status text
responds_means sys is status text h = elim h [
  | inl a ↦
      let no_loss : NoLoss sys a.value = admitted_no_loss sys is a.value a.gives in
      subst (λ (s : Status). RespondMeans sys s text) (sym a.said.is_yes)
      (record {
        budgets = a.value;
        admitted = a.gives;
        no_loss = no_loss;
        rows = a.said.rows;
        responses = a.said.responses;
        in_tree =
            all_respond_in_tree sys is a.value (admitted_keeping sys is a.value a.gives) a.said.rows
            a.said.responses.each;
        told = a.said.told;
      })
  | inr a ↦
      refused_means RespondMeans sys is (λ t over. over) (λ t. tt) a.refusal a.refuses status text a.status_is a.told
]

pub responses_laws : (file : List ℕ) → CommandLaws (the_responses file)
responses_laws file = system_laws file Responds RespondMeans (record {
  one =
      λ sys is. one_attempt (composing sys) (IsTold sys) (composing_decided sys is)
      (λ budgets admitted. one_told sys budgets);
  judged = responds_status IsJudged tt tt tt;
  verdict = responds_status IsVerdict tt tt tt;
  means = responds_means;
  long = λ sys text. tt;
})
