-- Lists with a row of each place that passes a test, in order: of which parts and cores it is
-- answered.
use Rattle.std.proofs.Common.{◌≡◌, ℕ, suc, ◌+◌, ◌<◌, Bool, true, false, List, [], ◌∷◌, ◌++◌, map, length, get_or, sym, refl, ◌∙◌, ap, arith, subst}
use Rattle.std.specs.Prelude.{All}
use Rattle.std.proofs.lemmas.List.{length-map, get_or-map, map-append}
use Rattle.std.proofs.lemmas.List.Elements.{All-head, All-tail, All-push}
use Rattle.slot_model.specs.Slots.{push_if, places_where}
use Rattle.tree_model.specs.View.{SystemView}
use Rattle.trace_file.specs.Rules.{is_vcpu}
use Rattle.rtds_queues.proofs.Membership.{IsPlace, is_place}
use Rattle.isolation.specs.declared.vcpus.PartIsolation.{PartIsolation}
use Rattle.isolation.specs.Answers.{IsIsolationOf, OneEach, AreIsolations}

-- the places of the parts on cores among the first n
abbrev pub vcpus_among : SystemView → ℕ → List ℕ
vcpus_among sys n = places_where (is_vcpu sys) n

module _ {Row : Type 0} (place : Row → ℕ) (Is : Row → Type 0) where
  -- each row is one of such a place
  pub each_place : (passes : ℕ → Bool) (n : ℕ) (rows : List Row) → OneEach place Is (places_where passes n) rows
      → All (λ (row : Row). (place row < n) × (passes (place row) ≡ true)) rows
  each_place passes n rows h k d l =
      let at : get_or (places_where passes n) k (place d) ≡ place (get_or rows k d)
      = ap (λ (ps : List ℕ). get_or ps k (place d)) (sym h.places_are) ∙ get_or-map place rows k d (place d) l in
      let is : IsPlace passes n k (get_or (places_where passes n) k (place d))
      = is_place passes n k (place d)
      (omega (arith, l, length-map rows place, ap (λ (ps : List ℕ). length ps) h.places_are)) in
      subst (λ (v : ℕ). (v < n) × (passes v ≡ true)) at (is.within, is.passes_it)

  -- a row more where its place passes, and none where it does not
  module _ (passes : ℕ → Bool) (n : ℕ) (rows : List Row) (h : OneEach place Is (places_where passes n) rows) where
    next : (b : Bool) → passes n ≡ b → push_if (places_where passes n) b n ≡ places_where passes (n + 1)
    next b e =
        let more : suc n ≡ n + 1 = omega arith in
        ap (λ (z : Bool). push_if (places_where passes n) z n) (sym e) ∙ ap (places_where passes) more

    pub one_more_row : (row : Row) → passes n ≡ true → place row ≡ n → Is row
        → OneEach place Is (places_where passes (n + 1)) (rows ++ row ∷ [])
    one_more_row row e at is = record {
      places_are = map-append place rows (row ∷ []) ∙ (ap (λ (ps : List ℕ). ps ++ place row ∷ []) h.places_are
          ∙ (ap (λ (q : ℕ). places_where passes n ++ q ∷ []) at ∙ next true e));
      each = All-push Is rows row h.each is;
    }

    pub no_more_row : passes n ≡ false → OneEach place Is (places_where passes (n + 1)) rows
    no_more_row e = record { places_are = h.places_are ∙ next false e; each = h.each }

  -- where of a place one row is, of places one list is
  module _ (one : (a b : Row) → place a ≡ place b → Is a → Is b → a ≡ b) where
    heads_of : (p q : ℕ) (r s : List ℕ) → p ∷ r ≡ q ∷ s → (p ≡ q) × (r ≡ s)
    heads_of p q r s e = (cc, cc)

    one_list : (a b : List Row) → map place a ≡ map place b → All Is a → All Is b → a ≡ b
    one_list [] [] e p q = refl
    one_list [] (y ∷ b) e p q = absurd (cc)
    one_list (x ∷ a) [] e p q = absurd (cc)
    one_list (x ∷ a) (y ∷ b) e p q =
        let same : (place x ≡ place y) × (map place a ≡ map place b)
        = heads_of (place x) (place y) (map place a) (map place b) e in
        let first : x ≡ y = one x y same.0 (All-head Is x a p) (All-head Is y b q) in
        let rest : a ≡ b = one_list a b same.1 (All-tail Is x a p) (All-tail Is y b q) in
        rw (first, rest) refl

pub one_each : {Row : Type 0} (place : Row → ℕ) (Is : Row → Type 0) (places : List ℕ)
    → ((a b : Row) → place a ≡ place b → Is a → Is b → a ≡ b) → (a b : List Row) → OneEach place Is places a
    → OneEach place Is places b → a ≡ b
one_each place Is places one a b p q = one_list place Is one a b (p.places_are ∙ sym q.places_are) p.each q.each

-- each part of which it is answered stands on a core
pub each_vcpu : (sys : SystemView) (budgets : List ℕ) (rows : List PartIsolation) → AreIsolations sys budgets rows
    → All (λ (row : PartIsolation). is_vcpu sys row.part ≡ true) rows
each_vcpu sys budgets rows h k d l =
    (each_place (λ (row : PartIsolation). row.part) (IsIsolationOf sys budgets) (is_vcpu sys) (length sys.parts) rows h
    k d l).1
