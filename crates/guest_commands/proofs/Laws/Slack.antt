-- What `slack` answers: one thing, its statuses, and what it means.
use Rattle.std.proofs.Common.{◌≡◌, ℕ, List, sym, ◌∙◌, ap, subst, inl, inr}
use Rattle.tree_model.specs.View.{SystemView}
use Rattle.tree_model.specs.System.{IsSystem, part_at}
use Rattle.compose_tree.proofs.Sound.{admitted_no_loss}
use Rattle.slack.proofs.OneMost.{one_list_of_works}
use Rattle.slack.proofs.Grown.{grown_without_loss}
use Rattle.rt_report.specs.Slack.{slack_text}
use Rattle.command_frame.specs.declared.status.Status.{Status}
use Rattle.command_frame.specs.declared.status.Status.TheVariants.{Yes, No, Wide}
use Rattle.command_frame.specs.Answer.{IsOne}
use Rattle.command_frame.specs.Budgets.{composing}
use Rattle.guest_commands.specs.Slack.{TellsWorks, SlackensLeaf, Slackens, SlackMeans, LacksLeaf, the_slack}
use Rattle.command_frame.specs.NamedLeaf.{IsVerdictUnless}
use Rattle.command_frame.specs.Steps.{IsJudged}
use Rattle.command_frame.proofs.Attempt.{one_attempt, statuses_attempt}
use Rattle.command_frame.proofs.Budgets.{composing_decided, refused_status, refused_means}
use Rattle.command_frame.proofs.CommandLaws.{CommandLaws}
use Rattle.command_frame.proofs.NamedLeaf.{one_on_leaf}
use Rattle.command_frame.proofs.OneFile.{ending_laws}

-- a leaf has one list of greatest works
one_told : (sys : SystemView) (q : ℕ) → IsOne (TellsWorks sys q)
one_told sys q = λ s t x y a b.
    let works : a.works ≡ b.works = one_list_of_works sys q a.works b.works a.most b.most in
    (a.is_yes ∙ sym b.is_yes, a.told ∙ ap (slack_text (part_at sys q)) works ∙ sym b.told)

one_for_leaf : (sys : SystemView) → IsSystem sys → (q : ℕ) → IsOne (SlackensLeaf sys q)
one_for_leaf sys is q =
    one_attempt (composing sys) (λ budgets. TellsWorks sys q) (composing_decided sys is)
    (λ budgets admitted. one_told sys q)

-- its statuses
leaf_status : (P : Status → Type 0) → P Yes → P No → P Wide → (sys : SystemView) (q : ℕ) (status : Status)
    (text : List ℕ) → SlackensLeaf sys q status text → P status
leaf_status P at_yes at_no at_wide sys q status text h =
    statuses_attempt P (composing sys) (λ budgets. TellsWorks sys q) status text
    (refused_status P at_no at_wide sys) (λ budgets told. subst P (sym told.is_yes) at_yes) h

slack_judged : (part : List ℕ) (sys : SystemView) (status : Status) (text : List ℕ)
    → Slackens part sys status text → IsJudged status
slack_judged part sys status text h = elim h [
  | inl found ↦ leaf_status IsJudged tt tt tt sys found.value status text found.said
  | inr none ↦ subst IsJudged (sym none.status_is) tt
]

-- what it means
slack_means : (part : List ℕ) (sys : SystemView) → IsSystem sys → (status : Status) (text : List ℕ)
    → Slackens part sys status text → SlackMeans part sys status text
slack_means part sys is status text h = elim h [
  | inl found ↦ elim found.said [
    | inl a ↦ subst (λ (s : Status). SlackMeans part sys s text) (sym a.said.is_yes)
        (record {
          leaf = found.value;
          found = found.gives;
          budgets = a.value;
          admitted = a.gives;
          no_loss = admitted_no_loss sys is a.value a.gives;
          works = a.said.works;
          most = a.said.most;
          safe =
              grown_without_loss sys is found.value found.gives.is_part found.gives.is_leaf a.said.works a.said.most;
          told = a.said.told;
        })
    | inr a ↦
        refused_means (SlackMeans part) sys is (λ t over. over) (λ t. tt) a.refusal a.refuses status text a.status_is
        a.told
  ]
  | inr none ↦ subst (λ (s : Status). SlackMeans part sys s text) (sym none.status_is) tt
]

pub slack_laws : (file part : List ℕ) → CommandLaws (the_slack file part)
slack_laws file part =
    ending_laws file (Slackens part) (SlackMeans part) (IsVerdictUnless (LacksLeaf part))
    (record {
      one = λ sys is. one_on_leaf sys is part (SlackensLeaf sys) (λ q found. one_for_leaf sys is q);
      judged = slack_judged part;
      means = slack_means part;
      long = λ sys text. tt;
    })
    (record {
      verdict = λ contents sys spelled status text h. elim h [
        | inl found ↦
            leaf_status (IsVerdictUnless (LacksLeaf part) contents) tt tt tt sys found.value status text found.said
        | inr none ↦
            subst (IsVerdictUnless (LacksLeaf part) contents) (sym none.status_is)
            (record { sys = sys; spelled = spelled; such = none.refuses })
      ];
      no_memory = λ contents. tt;
    })
