-- Lists: their ends, and filters.
use Rattle.std.proofs.Common.{◌≡◌, true, List, [], ◌∷◌, filter, refl, ap}

module _ {A : Type 0} where
  pub cons_head : {x y : A} {l k : List A} → x ∷ l ≡ y ∷ k → x ≡ y
  cons_head e = cc

  pub cons_tail : {x y : A} {l k : List A} → x ∷ l ≡ y ∷ k → l ≡ k
  cons_tail e = cc

  pub kept_all : (l : List A) → filter (λ x. true) l ≡ l
  kept_all [] = refl
  kept_all (x ∷ l) = ap (λ r. x ∷ r) (kept_all l)
