use Rattle.std.proofs.Common.{◌≡◌, ℕ, List, ◌++◌, codes, ◌∙◌, ap, sym, subst}
use Rattle.tree_model.specs.CertificateView.{NodeView, CertificateView}
use Rattle.cert_verify.specs.Proves.{no_node}
use Rattle.cert_reader.specs.CertificateFile.{certificate_of}
use Rattle.cert_reader.specs.Printed.{certificate_text, AreInRange}
use Rattle.cert_reader.proofs.TextBack.{text_spells}
use Rattle.cert_reader.specs.Text.{listed, node_text}
use Rattle.certificate.proofs.Listing.{then}
use Rattle.cert_reader.proofs.Pieces.{certificate_same}
use Rattle.certificate.proofs.text.print_certificate.Goals as goal

pub returns-clause-text : goal.returns-clause-text
returns-clause-text c =
    let nodes : List NodeView = c.c.inside.nodes.items in
    let in_range : AreInRange nodes
    = subst AreInRange c.deref.ensures.value (λ k l. c.in_ok-write_list.ensures.in_range k no_node l) in
    let t0 : List ℕ = c.in_ok-text.text.items in
    let t1 : List ℕ = c.write_list.new.text.items in
    let t2 : List ℕ = c.extend_from_slice.new.self.items in
    let first : t0 ≡ codes "{\"format\":1,\"nodes\":[" = c.in_ok-text.ensures.items in
    let middle : t1 ≡ t0 ++ listed node_text nodes
    = c.in_ok-write_list.ensures.text
    ∙ ap (λ (ns : List NodeView). t0 ++ listed node_text ns) c.deref.ensures.value in
    let both : t2 ≡ t0 ++ (listed node_text nodes ++ codes "]}\n")
    = then t0 t1 t2 (listed node_text nodes) (codes "]}\n") middle c.in_ok-extend_from_slice.ensures.items in
    let whole : t2 ≡ codes "{\"format\":1,\"nodes\":[" ++ (listed node_text nodes ++ codes "]}\n")
    = both ∙ ap (λ (s : List ℕ). s ++ (listed node_text nodes ++ codes "]}\n")) first in
    subst (λ (now : List NodeView). t2 ≡ certificate_text now) (ap (λ (v : CertificateView). v.nodes) c.c.view_is)
    (whole ∙ sym (certificate_same nodes in_range))

pub returns-clause-spells : goal.returns-clause-spells
returns-clause-spells c = λ few.
    let in_range : AreInRange c.args.c.now.nodes
    = subst AreInRange (c.deref.ensures.value ∙ ap (λ (v : CertificateView). v.nodes) c.c.view_is)
    (λ k l. c.in_ok-write_list.ensures.in_range k no_node l) in
    ap certificate_of (returns-clause-text c) ∙ text_spells c.args.c.now.nodes in_range few
