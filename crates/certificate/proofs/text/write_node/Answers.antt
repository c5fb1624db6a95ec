use Rattle.std.proofs.Common.{◌≡◌, ℕ, List, ◌++◌, ◌∙◌, Result, Ok, Err, ap, subst, codes, decimal}
use Rattle.std.specs.Prelude.{OnOk, IsErr}
use Rattle.tree_model.specs.CertificateView.{NodeView}
use Rattle.cert_reader.specs.Text.{listed, quoted_number, flag_text, place_text, witness_text, node_text}
use Rattle.certificate.proofs.Listing.{then}
use Rattle.certificate.proofs.text.write_node.Goals as goal

-- what is said of an Ok where there is none
on_err : {T E : Type 0} → (r : Result T E) (Said : Type 0) → IsErr r → OnOk r Said
on_err (Ok x) Said h = cc
on_err (Err y) Said h = tt

pub returns-in_err-write_witness-clause-text : goal.returns-in_err-write_witness-clause-text
returns-in_err-write_witness-clause-text c =
    let step = c.from_residual-in_err-write_witness in
    on_err step.result _ step.ensures.0

pub returns-in_err-write_witness-clause-in_range : goal.returns-in_err-write_witness-clause-in_range
returns-in_err-write_witness-clause-in_range c =
    let step = c.from_residual-in_err-write_witness in
    on_err step.result _ step.ensures.0

pub returns-in_err-push-clause-text : goal.returns-in_err-push-clause-text
returns-in_err-push-clause-text c =
    let step = c.from_residual-in_err-push in
    on_err step.result _ step.ensures.0

pub returns-in_err-push-clause-in_range : goal.returns-in_err-push-clause-in_range
returns-in_err-push-clause-in_range c =
    let step = c.from_residual-in_err-push in
    on_err step.result _ step.ensures.0

pub returns-clause-text : goal.returns-clause-text
returns-clause-text c =
    let t0 : List ℕ = c.args.text.now.items in
    let t1 : List ℕ = c.extend_from_slice.new.self.items in
    let t2 : List ℕ = c.write_number.new.text.items in
    let t3 : List ℕ = c.extend_from_slice-2.new.self.items in
    let t4 : List ℕ = c.extend_from_slice-3.new.self.items in
    let t5 : List ℕ = c.extend_from_slice-4.new.self.items in
    let t6 : List ℕ = c.write_list.new.text.items in
    let t7 : List ℕ = c.extend_from_slice-5.new.self.items in
    let t8 : List ℕ = c.write_list-2.new.text.items in
    let t9 : List ℕ = c.extend_from_slice-6.new.self.items in
    let t10 : List ℕ = c.write_place.new.text.items in
    let t11 : List ℕ = c.extend_from_slice-7.new.self.items in
    let t12 : List ℕ = c.write_list-3.new.text.items in
    let t13 : List ℕ = c.extend_from_slice-8.new.self.items in
    let t14 : List ℕ = c.write_witness.new.text.items in
    let t15 : List ℕ = c.push.new.self.items in
    let p1 : List ℕ = codes "{\"budget\":" in
    let p2 : List ℕ = decimal c.node.inside.budget in
    let p3 : List ℕ = codes ",\"computed\":" in
    let p4 : List ℕ = flag_text c.node.inside.computed in
    let p5 : List ℕ = codes ",\"falls\":[" in
    let p6 : List ℕ = listed decimal c.node.inside.falls.items in
    let p7 : List ℕ = codes "],\"hits\":[" in
    let p8 : List ℕ = listed decimal c.node.inside.hits.items in
    let p9 : List ℕ = codes "],\"kind\":\"" in
    let p10 : List ℕ = place_text c.node.inside.place c.node.inside.period in
    let p11 : List ℕ = codes ",\"points\":[" in
    let p12 : List ℕ = listed quoted_number c.node.inside.points.items in
    let p13 : List ℕ = codes "],\"witness\":" in
    let p14 : List ℕ = witness_text c.node.inside.witness in
    let p15 : List ℕ = codes "}" in
    let s1 : t1 ≡ t0 ++ p1 = c.in_ok-extend_from_slice.ensures.items in
    let s2 : t2 ≡ t1 ++ p2 = c.in_ok-write_number.ensures in
    let s3 : t3 ≡ t2 ++ p3 = c.in_ok-extend_from_slice-2.ensures.items in
    let s4 : t4 ≡ t3 ++ p4 = c.in_ok-extend_from_slice-3.ensures.items ∙ ap (λ (s : List ℕ). t3 ++ s) c.flag.ensures in
    let s5 : t5 ≡ t4 ++ p5 = c.in_ok-extend_from_slice-4.ensures.items in
    let s6 : t6 ≡ t5 ++ p6
    = c.in_ok-write_list.ensures.text ∙ ap (λ (xs : List ℕ). t5 ++ listed decimal xs) c.deref.ensures.value in
    let s7 : t7 ≡ t6 ++ p7 = c.in_ok-extend_from_slice-5.ensures.items in
    let s8 : t8 ≡ t7 ++ p8
    = c.in_ok-write_list-2.ensures.text ∙ ap (λ (xs : List ℕ). t7 ++ listed decimal xs) c.deref-2.ensures.value in
    let s9 : t9 ≡ t8 ++ p9 = c.in_ok-extend_from_slice-6.ensures.items in
    let s10 : t10 ≡ t9 ++ p10 = c.in_ok-write_place.ensures.text in
    let s11 : t11 ≡ t10 ++ p11 = c.in_ok-extend_from_slice-7.ensures.items in
    let s12 : t12 ≡ t11 ++ p12
    = c.in_ok-write_list-3.ensures.text
    ∙ ap (λ (xs : List ℕ). t11 ++ listed quoted_number xs) c.deref-3.ensures.value in
    let s13 : t13 ≡ t12 ++ p13 = c.in_ok-extend_from_slice-8.ensures.items in
    let s14 : t14 ≡ t13 ++ p14 = c.in_ok-write_witness.ensures.text in
    let s15 : t15 ≡ t14 ++ p15 = c.in_ok-push.ensures.items in
    let q14 : List ℕ = p14 ++ p15 in
    let r14 : t15 ≡ t13 ++ q14 = then t13 t14 t15 p14 p15 s14 s15 in
    let q13 : List ℕ = p13 ++ q14 in
    let r13 : t15 ≡ t12 ++ q13 = then t12 t13 t15 p13 q14 s13 r14 in
    let q12 : List ℕ = p12 ++ q13 in
    let r12 : t15 ≡ t11 ++ q12 = then t11 t12 t15 p12 q13 s12 r13 in
    let q11 : List ℕ = p11 ++ q12 in
    let r11 : t15 ≡ t10 ++ q11 = then t10 t11 t15 p11 q12 s11 r12 in
    let q10 : List ℕ = p10 ++ q11 in
    let r10 : t15 ≡ t9 ++ q10 = then t9 t10 t15 p10 q11 s10 r11 in
    let q9 : List ℕ = p9 ++ q10 in
    let r9 : t15 ≡ t8 ++ q9 = then t8 t9 t15 p9 q10 s9 r10 in
    let q8 : List ℕ = p8 ++ q9 in
    let r8 : t15 ≡ t7 ++ q8 = then t7 t8 t15 p8 q9 s8 r9 in
    let q7 : List ℕ = p7 ++ q8 in
    let r7 : t15 ≡ t6 ++ q7 = then t6 t7 t15 p7 q8 s7 r8 in
    let q6 : List ℕ = p6 ++ q7 in
    let r6 : t15 ≡ t5 ++ q6 = then t5 t6 t15 p6 q7 s6 r7 in
    let q5 : List ℕ = p5 ++ q6 in
    let r5 : t15 ≡ t4 ++ q5 = then t4 t5 t15 p5 q6 s5 r6 in
    let q4 : List ℕ = p4 ++ q5 in
    let r4 : t15 ≡ t3 ++ q4 = then t3 t4 t15 p4 q5 s4 r5 in
    let q3 : List ℕ = p3 ++ q4 in
    let r3 : t15 ≡ t2 ++ q3 = then t2 t3 t15 p3 q4 s3 r4 in
    let q2 : List ℕ = p2 ++ q3 in
    let r2 : t15 ≡ t1 ++ q2 = then t1 t2 t15 p2 q3 s2 r3 in
    let q1 : List ℕ = p1 ++ q2 in
    let r1 : t15 ≡ t0 ++ q1 = then t0 t1 t15 p1 q2 s1 r2 in
    subst (λ (node : NodeView). t15 ≡ t0 ++ node_text node) c.node.view_is r1
