-- What `?` hands on of a fault, and what is known of a result that is handed on as it is.
use Rattle.std.proofs.Common.{◌≡◌, Result, Ok, Err, Option, None, MatchOption, sym, ap, subst}
use Rattle.std.specs.Prelude.{IfOk, IfErr, IsErrAnd, OnOk}

module _ {T E : Type 0} where
  -- the result itself
  pub err_is : (r : Result T E) (fault : E) → IsErrAnd r (λ y. y ≡ fault) → r ≡ Err fault
  err_is (Ok x) fault h = absurd h
  err_is (Err y) fault h = ap Err h

  pub handed_on : (r : Result T E) (fault : E) (Said : E → Type 0) → IsErrAnd r (λ y. y ≡ fault) → Said fault
      → IfErr r Said
  handed_on (Ok x) fault Said h said = absurd h
  handed_on (Err y) fault Said h said = subst Said (sym h) said

  -- two clauses on one result
  pub ok_with : (r : Result T E) (A : T → Type 0) (B : Type 0) (Said : T → Type 0) → IfOk r A → OnOk r B
      → ((x : T) → A x → B → Said x) → IfOk r Said
  ok_with (Ok x) A B Said a b said = said x a b
  ok_with (Err y) A B Said a b said = tt

-- what `?` hands on of a None
pub none_handed_on : {T : Type 0} (r : Option T) (A : Type 0) (Said : T → Type 0) → r ≡ None → A
    → MatchOption r A Said
none_handed_on r A Said none a = subst (λ o. MatchOption o A Said) (sym none) a
