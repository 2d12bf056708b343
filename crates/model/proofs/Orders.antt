-- The pair and the vectored controller as they are made tell a sound view.
use Rattle.std.proofs.Common.{◌≡◌, ℕ, true, false, arith}
use Rattle.std.proofs.lemmas.Bool.Decides.{nat_tests}
use Rattle.lines.proofs.Laws.{has_small}
use Rattle.levels.specs.Kinds.{pair_above}
use Rattle.controller.specs.View.{WeakOrder, Sound}
use Rattle.controller.proofs.Keeps.{fresh_sound}
use Rattle.pair8259.specs.Pair.{pair_lines, pair_level, pair_order}
use Rattle.vectored.specs.Vectors.{class_order}
use Rattle.model.specs.Examples.{pair, vectored}

above_back : (m s m' s' : ℕ) → pair_above m s m' s' ≡ true → pair_above m' s' m s ≡ false
above_back m s m' s' h = grind (arith, nat_tests)

above_on : (m s m' s' m'' s'' : ℕ) → pair_above m s m' s' ≡ true → pair_above m' s' m'' s'' ≡ true → pair_above m s m'' s'' ≡ true
above_on m s m' s' m'' s'' h k = grind (arith, nat_tests)

above_not : (m s m' s' m'' s'' : ℕ) → pair_above m s m' s' ≡ false → pair_above m' s' m'' s'' ≡ false → pair_above m s m'' s'' ≡ false
above_not m s m' s' m'' s'' h k = grind (arith, nat_tests)

pair_weak : WeakOrder pair_order
pair_weak =
    record {
      asymmetric = λ a b. above_back (pair_level a).master (pair_level a).slave (pair_level b).master (pair_level b).slave;
      transitive = λ a b c. above_on (pair_level a).master (pair_level a).slave (pair_level b).master (pair_level b).slave (pair_level c).master (pair_level c).slave;
      not_above = λ a b c. above_not (pair_level a).master (pair_level a).slave (pair_level b).master (pair_level b).slave (pair_level c).master (pair_level c).slave;
    }

class_weak : WeakOrder class_order
class_weak =
    record {
      asymmetric = λ a b h. grind (arith, nat_tests);
      transitive = λ a b c h k. grind (arith, nat_tests);
      not_above = λ a b c h k. grind (arith, nat_tests);
    }

pub pair_sound : Sound pair
pair_sound = fresh_sound pair_lines pair_order pair_weak (λ n h. has_small 64 pair_lines n (omega arith) h) (λ e. omega arith)

pub vectored_sound : Sound vectored
vectored_sound = fresh_sound 0xffff_ffff_ffff_ffff class_order class_weak (λ n h. has_small 64 0xffff_ffff_ffff_ffff n (omega arith) h) (λ e. omega arith)
