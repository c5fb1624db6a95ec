use Rattle.std.proofs.Common.{◌≡◌, ◌∙◌, ◌<◌, ◌≤◌, ℕ, false, List, length, map, take, get_or, eqb, sym, ap, arith}
use Rattle.std.proofs.lemmas.Bool.{eqb-true}
use Rattle.std.proofs.lemmas.List.{get_or-take, length-take}
use Rattle.std.proofs.lemmas.Simd.{none_from_empty_mask}
use lib.Lanes.{mask_l}
use Rattle.csv_rows.proofs.plain_text.begins_plain.Goals as goal

-- a byte that has no mark does not stand among the first ones
unmarked : (text : List ℕ) (byte m : ℕ) → 64 ≤ length text → m ≡ mask_l (map (λ b. eqb b byte) (take 64 text))
    → m ≡ 0 → (k : ℕ) → k < 64 → eqb (get_or (take 64 text) k 0) byte ≡ false
unmarked text byte m room marks none k less =
    ap (λ b. eqb b byte) (get_or-take 64 text k 0 less)
    ∙ none_from_empty_mask (λ b. eqb b byte) text 0 64 0 room (sym marks ∙ none) k (omega arith) less

pub returns-then-quotes-eq0 : goal.returns-then-quotes-eq0
returns-then-quotes-eq0 c none i less =
    let text = c.args.text.now in
    let near : i < 64 = omega (arith, less, length-take 64 text) in (
      unmarked text 34 _ c.requires c.places_of-quotes.ensures c.if-quotes-eq0.true i near,
      unmarked text 13 _ c.requires c.places_of-returns.ensures (eqb-true c.places_of-returns.result 0 none) i near,
    )
