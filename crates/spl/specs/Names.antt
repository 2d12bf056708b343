-- The root's codes and the levels that they stand for.
use Rattle.std.specs.Prelude.{◌≡◌, ℕ, zero, suc, ◌≤◌, Some, Option, refl}
use Rattle.std.proofs.Common.{ap, ◌∙◌, arith}
use Rattle.std.specs.declared.option.Option.TheVariants as option
use Rattle.levels.specs.declared.BsdLevel.{BsdLevel}
use Rattle.levels.specs.declared.BsdLevel.TheVariants.{None, SoftClock, SoftNet, Bio, Net, Tty, Clock, High}
use Rattle.levels.specs.Kinds.{code, Coded}
use Rattle.spl.specs.Codes.{Decodes}
use Rattle.spl.specs.Root.{root_code, root_named}

code_small : (l : BsdLevel) → code l ≤ 7
code_small None = omega arith
code_small SoftClock = omega arith
code_small SoftNet = omega arith
code_small Bio = omega arith
code_small Net = omega arith
code_small Tty = omega arith
code_small Clock = omega arith
code_small High = omega arith

unsome : (a b : ℕ) → ◌≡◌ {A = Option ℕ} (Some a) (Some b) → a ≡ b
unsome a b e = cc

pub root_decodes : (c : ℕ) → Decodes root_code c (root_named c)
root_decodes zero = refl
root_decodes (suc zero) = refl
root_decodes (suc (suc zero)) = refl
root_decodes (suc (suc (suc zero))) = refl
root_decodes (suc (suc (suc (suc zero)))) = refl
root_decodes (suc (suc (suc (suc (suc zero))))) = refl
root_decodes (suc (suc (suc (suc (suc (suc zero)))))) = refl
root_decodes (suc (suc (suc (suc (suc (suc (suc zero))))))) = refl
root_decodes (suc (suc (suc (suc (suc (suc (suc (suc n)))))))) = λ l e. let h = code_small l in let i = unsome _ _ e in omega arith

names_back : (l : BsdLevel) → Some l ≡ root_named (code l)
names_back None = refl
names_back SoftClock = refl
names_back SoftNet = refl
names_back Bio = refl
names_back Net = refl
names_back Tty = refl
names_back Clock = refl
names_back High = refl

names_none : (c : ℕ) → 8 ≤ c → option.None ≡ root_named c
names_none zero h = absurd (omega arith)
names_none (suc zero) h = absurd (omega arith)
names_none (suc (suc zero)) h = absurd (omega arith)
names_none (suc (suc (suc zero))) h = absurd (omega arith)
names_none (suc (suc (suc (suc zero)))) h = absurd (omega arith)
names_none (suc (suc (suc (suc (suc zero))))) h = absurd (omega arith)
names_none (suc (suc (suc (suc (suc (suc zero)))))) h = absurd (omega arith)
names_none (suc (suc (suc (suc (suc (suc (suc zero))))))) h = absurd (omega arith)
names_none (suc (suc (suc (suc (suc (suc (suc (suc n)))))))) h = refl

pub named_by : (c : ℕ) (r : Option BsdLevel) → Coded c r → r ≡ root_named c
named_by c (Some l) e = names_back l ∙ ap root_named e
named_by c option.None h = names_none c h
