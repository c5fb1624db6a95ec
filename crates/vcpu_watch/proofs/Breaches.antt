-- How a time that a VCPU got breaks its limits.
use Rattle.std.proofs.Common.{◌≡◌, ℕ, Bool, true, false, cond, ◌&&◌, Option, Some, None, sym, ◌∙◌, ap, subst, inl, inr}
use Rattle.std.proofs.lemmas.Bool.{cases_Bool, and_parts, and_from, and_right}
use Rattle.std.proofs.lemmas.Option.{same_Some, none-some}
use Rattle.vcpu_watch.specs.declared.watch.Breach.{Breach}
use Rattle.vcpu_watch.specs.declared.watch.Breach.TheVariants.{Short, Over}
use Rattle.vcpu_watch.specs.declared.watch.Limits.{Limits}
use Rattle.vcpu_watch.specs.Watch.{breach_of, is_below, is_above}

abbrev pub Says : Limits → Bool → ℕ → Breach → Type 0
Says r judged got Short = (judged ≡ true) × (is_below r.least got ≡ true)
Says r judged got Over = is_above r.most got ≡ true

-- by the two tests
abbrev breach_by : Bool → Bool → Option Breach
breach_by short over = cond {A = Option Breach} short (Some Short) (cond over (Some Over) None)

pub short_breach : (r : Limits) (judged : Bool) (got : ℕ) → judged ≡ true → is_below r.least got ≡ true
    → breach_of r judged got ≡ Some Short
short_breach r judged got e l =
    ap (λ (z : Bool). breach_by z (is_above r.most got)) (and_from judged (is_below r.least got) e l)

pub over_breach : (r : Limits) (judged : Bool) (got : ℕ) → is_below r.least got ≡ false → is_above r.most got ≡ true
    → breach_of r judged got ≡ Some Over
over_breach r judged got e l =
    ap (λ (z : Bool). breach_by z (is_above r.most got)) (and_right judged (is_below r.least got) e)
    ∙ ap (λ (z : Bool). breach_by false z) l

pub breach_says : (r : Limits) (judged : Bool) (got : ℕ) (b : Breach) → breach_of r judged got ≡ Some b
    → Says r judged got b
breach_says r judged got b e = elim (cases_Bool (judged && is_below r.least got)) [
  | inl short ↦
      let is : Short ≡ b
      = same_Some Short b (sym (ap (λ (z : Bool). breach_by z (is_above r.most got)) short) ∙ e) in
      subst (Says r judged got) is (and_parts judged (is_below r.least got) short)
  | inr enough ↦
      let rest : breach_by false (is_above r.most got) ≡ Some b
      = sym (ap (λ (z : Bool). breach_by z (is_above r.most got)) enough) ∙ e in
      elim (cases_Bool (is_above r.most got)) [
        | inl over ↦
            let is : Over ≡ b = same_Some Over b (sym (ap (λ (z : Bool). breach_by false z) over) ∙ rest) in
            subst (Says r judged got) is over
        | inr within ↦ absurd (none-some b (sym (ap (λ (z : Bool). breach_by false z) within) ∙ rest))
      ]
]
