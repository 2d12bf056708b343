-- The set of the numbers of a list.
use Rattle.std.proofs.Common.{◌≡◌, ℕ, List, [], ◌∷◌, ◌++◌, ap, ◌∙◌}
use Rattle.std.proofs.lemmas.Nat.{or_comm}
use Rattle.lines.specs.Sets.{union, only}
use Rattle.lines.proofs.Algebra.{union_assoc}
use Rattle.service.specs.Bursts.{set_of}

pub set_push : (ns : List ℕ) (n : ℕ) → set_of (ns ++ n ∷ []) ≡ union (set_of ns) (only n)
unfolding union only
set_push [] n = or_comm (only n) 0
set_push (m ∷ ns) n = ap (union (only m)) (set_push ns n) ∙ union_assoc (only m) (set_of ns) (only n)
